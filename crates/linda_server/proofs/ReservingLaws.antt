-- A disk with a closed first gate that has more bytes or fewer, and the bank in use beside it.
use Rattle.std.proofs.Common.{◌≡◌, ℕ, zero, suc, ◌≤◌, ◌↔◌, inl, inr, List, [], ◌∷◌, ◌++◌, length, take, false, append-nil}
use Rattle.std.proofs.Common.{Result, Ok, Err, sym, ap, subst, ◌∙◌, arith}
use Rattle.std.specs.Prelude.{OnOk}
use Rattle.linda_store_state.specs.State.{State}
use Rattle.linda_disk.specs.declared.disk.Disk.{Ghosts}
use Rattle.linda_disk.specs.declared.fault.DiskFault.{DiskFault}
use Rattle.linda_disk.specs.Lengthens.{Begins}
use Rattle.linda_journal.specs.declared.bank.Bank.{Bank}
use Rattle.linda_disk.specs.View.{IsDurable}
use Rattle.linda_journal.specs.declared.kinds.TheConstants.{OPEN}
use Rattle.linda_journal.specs.Renewal.{IsNoBank, IsSameOrNone, IsClosed}
use Rattle.linda_journal.proofs.RenewalLaws.{no_open}
use Rattle.linda_server.specs.declared.disks.Disks.{Disks}
use Rattle.linda_server.specs.declared.disks.Disks.TheVariants.{InUse}
use Rattle.linda_server.specs.declared.disks.Pair.{Pair}
use Rattle.linda_server.specs.declared.durable.Durable.{Durable}
use Rattle.linda_server.specs.Lives.{Life, Serving, StaysOn, called, rewrites}
use Rattle.linda_snap.specs.Stands.{IsLesser}
use Rattle.linda_server.specs.Server.{IsKeptFor}

heads_same : (a b : ℕ) (x y : List ℕ) → a ∷ x ≡ b ∷ y → a ≡ b
heads_same a b x y e = cc

-- What begins with a closed gate is no bank.
pub begins_closed : (front image : List ℕ) → IsClosed front → Begins front image → IsNoBank image
begins_closed [] image closed begins = absurd (omega (arith, closed.0))
begins_closed (b ∷ rest) [] closed begins = λ candidate. absurd (omega (arith, ap length begins))
begins_closed (b ∷ rest) (c ∷ more) closed begins =
    no_open c more (λ is. closed.1 rest (ap (λ g. g ∷ rest) (sym (heads_same c b (take (length rest) more) rest begins) ∙ is)))

-- It is closed with more after it, and with less.
pub closed_more : (file more : List ℕ) → IsClosed file → IsClosed (file ++ more)
closed_more [] more closed = absurd (omega (arith, closed.0))
closed_more (b ∷ rest) more closed = (omega arith, λ other is. closed.1 rest (ap (λ g. g ∷ rest) (heads_same b OPEN (rest ++ more) other is)))

pub closed_take : (to : ℕ) (file : List ℕ) → 1 ≤ to → IsClosed file → IsClosed (take to file)
closed_take zero file some closed = absurd (omega (arith, some))
closed_take (suc n) [] some closed = absurd (omega (arith, closed.0))
closed_take (suc n) (b ∷ rest) some closed = (omega arith, λ other is. closed.1 rest (ap (λ g. g ∷ rest) (heads_same b OPEN (take n rest) other is)))

module _ {D : Type 0} {g : Ghosts D} where
  -- Beside another disk that is the same or no bank, a bank in use represents what it did.
  pub kept_beside : {T : Type 0} (r : Result T DiskFault) (disks : Disks (Bank D g) D) (pair : Pair (Bank D g) D) → disks ≡ InUse pair
      → (st : State) (new : D) → (g.honest pair.other ↔ g.honest new)
      → (g.honest pair.other → OnOk r (IsSameOrNone (g.view pair.other).seen (g.view new).seen))
      → (g.honest pair.other → OnOk r (IsDurable (g.view new)))
      → IsKeptFor disks st → OnOk r (IsKeptFor (InUse record { bank = pair.bank; other = new; is_right = pair.is_right }) st)
  kept_beside (Err fault) disks pair is st new honest now durable kept = tt
  kept_beside (Ok x) disks pair is st new honest now durable kept =
      let was = subst (λ d. IsKeptFor d st) is kept in
      record {
        stored = was.stored;
        durable = λ h. durable (honest.1 h);
        lesser = λ used h.
            elim (now (honest.1 h)) [
              | inl same ↦ subst (IsLesser pair.bank.generation) (sym same) (was.lesser used (honest.1 h))
              | inr none ↦ inl none
            ];
      }

  -- Every life goes on by a call that changes nothing of the state, and after which the server is up.
  pub stays_up : (old new : Durable D g) → old.down ≡ false → new.down ≡ false → new.store ≡ old.store → StaysOn old new
  stays_up old new was is same ds all life =
      subst (λ es. Life es all (Serving new)) (append-nil ds)
      (subst (λ sends. Life (ds ++ []) sends (Serving new)) (append-nil all) (called ds [] all [] old new life was is (rewrites same)))
