-- Code of deeds, for a model's value that holds one.
use Rattle.std.specs.Prelude.{◌≡◌, ℕ, ◌⊎◌, refl}
use Rattle.std.specs.Coded.{Coded, code_by, coded×, coded⊎, coded_ℕ}
use Rattle.std.proofs.Common.{inl, inr}
use Rattle.linda_tuple.specs.Tuple.{Tuple}
use Rattle.linda_tuple.specs.Codes.{tuple_code}
use Rattle.linda_store_state.specs.declared.deed.Deed.{Deed}
use Rattle.linda_store_state.specs.declared.deed.Deed.TheVariants as deeds

-- a deed in parts
abbrev pub DeedParts : Type 0
DeedParts = (ℕ × (ℕ × Tuple)) ⊎ ((ℕ × (ℕ × ℕ)) ⊎ ((ℕ × (ℕ × ℕ)) ⊎ (ℕ × ℕ)))

abbrev pub deed_parts : Deed → DeedParts
deed_parts (deeds.Out c n tuple) = inl (c, (n, tuple))
deed_parts (deeds.Take c n id) = inr (inl (c, (n, id)))
deed_parts (deeds.Pass c n id) = inr (inr (inl (c, (n, id))))
deed_parts (deeds.Leave c n) = inr (inr (inr (c, n)))

abbrev pub deed_of_parts : DeedParts → Deed
deed_of_parts (inl p) = deeds.Out p.0 p.1.0 p.1.1
deed_of_parts (inr (inl p)) = deeds.Take p.0 p.1.0 p.1.1
deed_of_parts (inr (inr (inl p))) = deeds.Pass p.0 p.1.0 p.1.1
deed_of_parts (inr (inr (inr p))) = deeds.Leave p.0 p.1

abbrev pub deed_again : (d : Deed) → deed_of_parts (deed_parts d) ≡ d
deed_again (deeds.Out c n tuple) = refl
deed_again (deeds.Take c n id) = refl
deed_again (deeds.Pass c n id) = refl
deed_again (deeds.Leave c n) = refl

abbrev pub numbers_code : Coded (ℕ × (ℕ × ℕ))
numbers_code = coded× coded_ℕ (coded× coded_ℕ coded_ℕ)

-- the code of a deed
abbrev pub deed_code : Coded Deed
deed_code =
    code_by DeedParts
    (coded⊎ (coded× coded_ℕ (coded× coded_ℕ tuple_code))
    (coded⊎ numbers_code (coded⊎ numbers_code (coded× coded_ℕ coded_ℕ))))
    deed_parts deed_of_parts deed_again
