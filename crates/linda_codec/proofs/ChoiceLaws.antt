-- A choice by the first of bytes, of which there is one.
use Rattle.std.proofs.Common.{◌≡◌, ◌≤◌, ◌-◌, ℕ, List, [], ◌∷◌, length, get_or, take, drop, refl, arith}
use Rattle.std.proofs.lemmas.List.{take_rest}
use Rattle.linda_codec.specs.Steps.{Reader}
use Rattle.linda_codec.specs.Formats.{body_at, choice_at}

-- If there is a kind byte, the choice is by it, and its body comes after it.
pub by_the_first : {A : Type 0} (rows : List (ℕ × Reader A)) (other : Reader A) (bytes : List ℕ) → 1 ≤ length bytes
    → choice_at rows other bytes ≡ body_at rows other (get_or bytes 0 0) (take (length bytes - 1) (drop 1 bytes))
by_the_first rows other [] some = absurd (omega (arith, some))
by_the_first rows other (kind ∷ body) some = rw (take_rest (kind ∷ body) 1) refl
