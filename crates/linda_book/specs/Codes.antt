-- Codes of a book, for a model's value that holds one.
use Rattle.std.specs.Prelude.{◌≡◌, ℕ, ◌⊎◌, Bool, true, false, refl}
use Rattle.std.specs.Coded.{Coded, code_by, coded×, coded⊎, coded_ℕ, coded_bool}
use Rattle.std.specs.FinMap as map
use Rattle.std.specs.Ordering.{nat_cmp}
use Rattle.std.proofs.Common.{inl, inr}
use Rattle.linda_tuple.specs.Tuple.{Tuple}
use Rattle.linda_tuple.specs.Codes.{tuple_code}
use Rattle.linda_book.specs.declared.kept_reply.KeptReply.{KeptReply}
use Rattle.linda_book.specs.declared.kept_reply.KeptReply.TheVariants as kept
use Rattle.linda_book.specs.Entries.{Entry}

-- a kept reply in parts: a reply of no values, Gone (false) or Left (true), or one of these
abbrev pub KeptParts : Type 0
KeptParts = Bool ⊎ (ℕ ⊎ (ℕ × Tuple))

abbrev pub kept_parts : KeptReply → KeptParts
kept_parts (kept.Stored id) = inr (inl id)
kept_parts (kept.Taken id tuple) = inr (inr (id, tuple))
kept_parts kept.Gone = inl false
kept_parts kept.Left = inl true

abbrev pub kept_of_parts : KeptParts → KeptReply
kept_of_parts (inr (inl id)) = kept.Stored id
kept_of_parts (inr (inr taken)) = kept.Taken taken.0 taken.1
kept_of_parts (inl false) = kept.Gone
kept_of_parts (inl true) = kept.Left

abbrev pub kept_again : (k : KeptReply) → kept_of_parts (kept_parts k) ≡ k
kept_again (kept.Stored id) = refl
kept_again (kept.Taken id tuple) = refl
kept_again kept.Gone = refl
kept_again kept.Left = refl

-- the code of a kept reply
abbrev pub kept_code : Coded KeptReply
kept_code =
    code_by KeptParts (coded⊎ coded_bool (coded⊎ coded_ℕ (coded× coded_ℕ tuple_code)))
    kept_parts kept_of_parts kept_again

-- the code of a book
abbrev pub book_code : Coded (map.FinMap nat_cmp Entry)
book_code = map.code coded_ℕ (coded× coded_ℕ kept_code)
