-- Bytes that are written one after the other.
use Rattle.std.proofs.Common.{◌≡◌, ◌∙◌, ℕ, List, [], ◌∷◌, ◌++◌, Option, Some, None, sym, ap, subst, append_assoc, append-nil}
use Rattle.std.specs.Prelude.{codes}
use Rattle.std.specs.Io.KnownBytes.{Appends}
use Rattle.linda_inspect.specs.Json.{json_rows}

pub pushed_on : (old now new one two : List ℕ) → now ≡ old ++ one → new ≡ now ++ two → new ≡ old ++ (one ++ two)
pushed_on old now new one two first second = second ∙ ap (λ b. b ++ two) first ∙ append_assoc old one two

pub none_sent : (start : Option (List ℕ)) → Appends start start []
none_sent None = tt
none_sent (Some bytes) = sym (append-nil bytes)

pub sent_twice : (start now new : Option (List ℕ)) (one two : List ℕ) → Appends start now one → Appends now new two → Appends start new (one ++ two)
sent_twice None now new one two first second = tt
sent_twice (Some bytes) None new one two first second = absurd first
sent_twice (Some bytes) (Some more) None one two first second = absurd second
sent_twice (Some bytes) (Some more) (Some all) one two first second =
    second ∙ ap (λ b. b ++ two) first ∙ append_assoc bytes one two

pub sent_as : (start now : Option (List ℕ)) (one two : List ℕ) → one ≡ two → Appends start now one → Appends start now two
sent_as start now one two same sent = subst (Appends start now) same sent

-- What was written so far, with what is still to come, is all.
pub record IsSoFar (start now : Option (List ℕ)) (rest all : List ℕ) : Type 0 where
  pub so_far : List ℕ
  pub sent : Appends start now so_far
  pub parts : so_far ++ rest ≡ all

pub none_yet : (start : Option (List ℕ)) (rest all : List ℕ) → rest ≡ all → IsSoFar start start rest all
none_yet start rest all same = record { so_far = []; sent = none_sent start; parts = same }

pub one_more : (start now new : Option (List ℕ)) (rest piece later all : List ℕ) → IsSoFar start now rest all
    → rest ≡ piece ++ later → Appends now new piece → IsSoFar start new later all
one_more start now new rest piece later all h same sent = record {
  so_far = h.so_far ++ piece;
  sent = sent_twice start now new h.so_far piece h.sent sent;
  parts = append_assoc h.so_far piece later ∙ ap (λ b. h.so_far ++ b) (sym same) ∙ h.parts;
}

pub all_sent : (start now : Option (List ℕ)) (rest all : List ℕ) → IsSoFar start now rest all → rest ≡ [] → Appends start now all
all_sent start now rest all h none =
    sent_as start now h.so_far all (sym (append-nil h.so_far) ∙ ap (λ b. h.so_far ++ b) (sym none) ∙ h.parts) h.sent

-- One row more was written.
pub one_row : {A : Type 0} (row : A → List ℕ) (start now new : Option (List ℕ)) (mark : List ℕ) (xs : List A) (x : A) (later : List A) (all written : List ℕ)
    → IsSoFar start now (json_rows row mark xs) all → xs ≡ x ∷ later → written ≡ mark ++ row x
    → Appends now new written → IsSoFar start new (json_rows row (codes ",\n") later) all
one_row row start now new mark xs x later all written h first same sent =
    one_more start now new (json_rows row mark xs) (mark ++ row x) (json_rows row (codes ",\n") later) all h
    (ap (json_rows row mark) first) (sent_as now new written (mark ++ row x) same sent)
