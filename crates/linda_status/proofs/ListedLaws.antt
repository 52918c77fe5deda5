-- Bytes that are written one after another.
use Rattle.std.proofs.Common.{◌≡◌, ℕ, List, ◌++◌, ap, ◌∙◌, append_assoc, Result, Ok, Err, OnOk}

pub then_pushed : {T E : Type 0} (r : Result T E) (old now new one two : List ℕ) → now ≡ old ++ one
    → OnOk r (new ≡ now ++ two) → OnOk r (new ≡ old ++ (one ++ two))
then_pushed (Ok x) old now new one two first second = second ∙ ap (λ b. b ++ two) first ∙ append_assoc old one two
then_pushed (Err e) old now new one two first second = tt
