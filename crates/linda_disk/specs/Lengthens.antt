-- Bytes that are written after the end of a file, or the file as it was.
use Rattle.std.specs.Prelude.{◌≡◌, ◌↔◌, ℕ, List, ◌++◌, length, take, Bool, true, false, Result}
use Rattle.std.specs.Prelude.{IfOk, IfErr}
use Rattle.linda_disk.specs.declared.disk.Disk.{Ghosts}
use Rattle.linda_disk.specs.declared.fault.DiskFault.{DiskFault}
use Rattle.linda_disk.specs.declared.fault.DiskFault.TheVariants.{Device}
use Rattle.linda_disk.specs.View.{IsDurable}
use Rattle.linda_disk.specs.Disk.{TellsFailures}
use Rattle.linda_disk.specs.Run.{LeavesOnly}

-- The file begins with these bytes.
abbrev pub Begins : List ℕ → List ℕ → Type 0
Begins front file = take (length front) file ≡ front

-- The file has these bytes more, or it is as it was.
abbrev pub HasMore : List ℕ → List ℕ → Bool → List ℕ → Type 0
HasMore old bytes true new = new ≡ old ++ bytes
HasMore old bytes false new = new ≡ old

module _ {D : Type 0} (g : Ghosts D) where
  -- These bytes were written after the end of a file, or, at false, the device did not take them
  -- and the file is as it was (`lengthen`).
  pub record Lengthens (bytes : List ℕ) (old : D) (result : Result Bool DiskFault) (new : D)
      : Type 0 where
    -- At each moment the file begins with all that it had.
    pub any_moment : g.honest old
        → LeavesOnly (g.view old) (g.view new) (Begins (g.view old).seen)
    pub seen : g.honest old → IfOk result (λ b. HasMore (g.view old).seen bytes b (g.view new).seen)
    pub durable : g.honest old → IfOk result (λ b. IsDurable (g.view new))
    pub honest : g.honest old ↔ g.honest new
    pub cause : IfErr result
        (λ fault. TellsFailures Device fault (g.failures old) (g.failures new))
