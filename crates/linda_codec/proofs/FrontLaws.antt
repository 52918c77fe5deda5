-- Writing after bytes, which stay in front.
use Rattle.std.proofs.Common.{◌≡◌, List, ℕ, ◌++◌, length, take, drop, sym, ap, ◌∙◌, append_assoc, refl}
use Rattle.std.proofs.lemmas.List.{take_at, take-append-drop}

-- What keeps the bytes so far in front keeps the older ones in front.
pub older_front : (old more now new : List ℕ) → now ≡ old ++ more → take (length now) new ≡ now → take (length old) new ≡ old
older_front old more now new e kept =
    let rest = drop (length now) new in
    let parts : new ≡ old ++ (more ++ rest) = sym (take-append-drop (length now) new)
    ∙ ap (λ (w : List ℕ). w ++ rest) (kept ∙ e) ∙ append_assoc old more rest in
    ap (take (length old)) parts ∙ take_at old (more ++ rest) (length old) refl
