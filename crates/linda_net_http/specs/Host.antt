-- The names of this machine.
use Rattle.std.specs.Prelude.{◌≡◌, ℕ, ◌≤◌, ◌⊎◌, List, [], ◌∷◌, length, take, drop, map, codes, All}
use Rattle.std.specs.Prelude.{⊤}
use Rattle.std.specs.Prelude.{IsTrue}
use Rattle.std.specs.Char.{to_ascii_lowercase, is_ascii_digit}

-- Both are the same but for capital letters.
abbrev pub IsSame : List ℕ → List ℕ → Type 0
IsSame one other = map to_ascii_lowercase one ≡ map to_ascii_lowercase other

-- This is nothing, or digits after a colon.
abbrev pub IsPort : List ℕ → Type 0
IsPort [] = ⊤
IsPort (first ∷ digits) = (first ≡ 58) × All (λ b. IsTrue (is_ascii_digit b)) digits

-- A host has this name, with a port or without one.
abbrev pub IsNamed : List ℕ → List ℕ → Type 0
IsNamed name host =
    (length name ≤ length host) × IsSame (take (length name) host) name
    × IsPort (drop (length name) host)

-- A host is this machine.
abbrev pub IsOwn : List ℕ → Type 0
IsOwn host =
    IsNamed (codes "127.0.0.1") host
    ⊎ (IsNamed (codes "localhost") host ⊎ IsNamed (codes "[::1]") host)
