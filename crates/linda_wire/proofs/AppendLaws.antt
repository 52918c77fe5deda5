-- Bytes that are appended one after another.
use Rattle.std.proofs.Common.{◌≡◌, ℕ, List, ◌++◌, Result, Ok, Err, OnOk, is_ok, if◌then◌else◌, ap, ◌∙◌, append_assoc}

-- The second bytes were appended after the first ones, if at all: so both were appended, as one.
pub both_behind : {T E : Type 0} (r : Result T E) (old first second mid new : List ℕ) → mid ≡ old ++ first
    → OnOk r (new ≡ mid ++ second) → OnOk r (new ≡ old ++ (first ++ second))
both_behind (Ok v) old first second mid new m n = n ∙ ap (λ (l : List ℕ). l ++ second) m ∙ append_assoc old first second
both_behind (Err e) old first second mid new m n = tt

-- What `Vec` says of appending bytes that are these.
pub appended : {T E : Type 0} (r : Result T E) (mid bytes these new : List ℕ) → bytes ≡ these
    → new ≡ (if is_ok r then mid ++ bytes else mid) → OnOk r (new ≡ mid ++ these)
appended (Ok v) mid bytes these new same n = n ∙ ap (λ (b : List ℕ). mid ++ b) same
appended (Err e) mid bytes these new same n = tt
