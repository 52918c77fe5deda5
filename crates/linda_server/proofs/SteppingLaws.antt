-- What crashes leave while the next bank is written in steps beside the bank in use, and what is
-- known of it then.
use Rattle.std.proofs.Common.{◌≡◌, ℕ, ◌+◌, ◌<◌, ◌≤◌, inr, List, length, sym, subst, arith}
use Rattle.std.proofs.Math.Logic.{∥∥₁_map, ∥∥₁_elim}
use Rattle.std.proofs.lemmas.Grind.{not_there}
use Rattle.std.specs.Coded.{Coded-set, coded_ℕ}
use Rattle.linda_tuple.specs.declared.form.Form.{Form}
use Rattle.linda_store_state.specs.State.{State}
use Rattle.linda_disk.specs.View.{View, IsTimed}
use Rattle.linda_disk.specs.Run.{LeavesOnly}
use Rattle.linda_disk.specs.declared.disk.Disk.{Ghosts}
use Rattle.linda_disk.proofs.RunLaws.{weaker}
use Rattle.linda_journal.specs.declared.bank.Bank.{Bank}
use Rattle.linda_journal.specs.declared.filling.Filling.{Filling}
use Rattle.linda_journal.specs.Renewal.{IsNoBank, IsSameOrNone, IsFilled, fills}
use Rattle.linda_journal.proofs.FillingLaws.{step_within}
use Rattle.linda_snap.specs.Stands.{Stands, IsUp, StandsBeside}
use Rattle.linda_snap.specs.declared.bank_writer.BankWriter.{BankWriter}
use Rattle.linda_snap.specs.BankWriter.{Follows, Completes}
use Rattle.linda_snap.specs.Switch.{takes_over}
use Rattle.linda_snap.proofs.BankRecordLaws.{counts}
use Rattle.linda_server.specs.declared.disks.Disks.{Disks}
use Rattle.linda_server.specs.declared.disks.Disks.TheVariants.{InUse, Shut, Away}
use Rattle.linda_server.specs.declared.disks.Pair.{Pair}
use Rattle.linda_server.specs.Disks.{sides}
use Rattle.linda_server.specs.declared.next.NextBank.{NextBank}
use Rattle.linda_server.specs.Next.{IsBegunOn, IsFilledOn, IsWithin}
use Rattle.linda_server.specs.Pairs.{PairsSince}
use Rattle.linda_server.specs.Server.{both_of, generation_in_use, limit_in_use, BothHonest, IsUpFor}
use Rattle.linda_server.proofs.CallLaws.{at_most}
use Rattle.linda_server.proofs.SwitchLaws.{changed, emptied_beside}

-- Beside the bank in use, a disk without a bank leaves the state represented.
pub filled_beside : (form : Form) (generation end : ℕ) (used other new : View) (st : State)
    → IsUp form generation end used other st → LeavesOnly other new IsNoBank → LeavesOnly other new (StandsBeside used.seen st)
filled_beside form generation end used other new st up run =
    emptied_beside form generation end used other new st up (weaker other new IsNoBank (IsSameOrNone other.seen) run (λ image none. inr none))

module _ {D : Type 0} {g : Ghosts D} where
  -- What is filled is filled, if it is gone on with.
  pub resumed : (front : List ℕ) (at : ℕ) (f : Filling D g) (other : D) → f.disk ≡ other → f.at ≡ at
      → (g.honest other → IsFilled front at (g.view other)) → g.honest other → IsFilled front f.at (g.view f.disk)
  resumed front at f other disk place filled honest =
      subst (λ d. IsFilled front f.at (g.view d)) (sym disk) (subst (λ n. IsFilled front n (g.view other)) (sym place) (filled honest))

  -- So a bank that is taken over is beside the bank in use, from the disk of that pair.
  pub ended_by : (pair : Pair (Bank D g) D) (st : State) (front : List ℕ) (at : ℕ) (f : Filling D g)
      → f.disk ≡ pair.other → f.at ≡ at → (s : BankWriter) (bytes : List ℕ) (new : D)
      → (g.honest f.disk → takes_over (g.honest pair.bank.disk) pair.bank.form pair.bank.generation pair.bank.end
      (g.view pair.bank.disk) s f.at bytes (g.view f.disk) (g.view new))
      → (g.honest pair.other → IsFilled front at (g.view pair.other)) → Completes s front bytes st
      → g.honest pair.bank.disk → g.honest pair.other → IsUp pair.bank.form pair.bank.generation pair.bank.end (g.view pair.bank.disk) (g.view pair.other) st
      → LeavesOnly (g.view pair.other) (g.view new) (StandsBeside (g.view pair.bank.disk).seen st)
  ended_by pair st front at f same place s bytes new run filled whole used other up =
      subst (λ d. LeavesOnly (g.view d) (g.view new) (StandsBeside (g.view pair.bank.disk).seen st)) same
      (run (subst g.honest (sym same) other) front st used
      (subst (λ d. IsUp pair.bank.form pair.bank.generation pair.bank.end (g.view pair.bank.disk) (g.view d) st) (sym same) up)
      (resumed front at f pair.other same place filled other) whole)

  -- ---- what is known of the next bank

  pub record Parts (next : NextBank) (disks : Disks (Bank D g) D) (st : State) : Type 0 where
    pub front : List ℕ
    pub follows : Follows next.writer front st
    pub place : next.at ≡ 1 + length front
    pub filled : IsFilledOn front next.at disks
    pub generation : next.writer.generation ≡ generation_in_use disks + 1
    pub limit : next.writer.limit ≡ limit_in_use disks

  pub parts_of : (next : NextBank) (disks : Disks (Bank D g) D) (st : State) → IsBegunOn next disks st → Parts next disks st
  parts_of next (InUse pair) st begun =
      record { front = begun.0.front; follows = begun.0.follows; place = begun.0.place; filled = begun.0.filled; generation = begun.1; limit = begun.2 }
  parts_of next (Shut left right) st begun = absurd begun
  parts_of next Away st begun = absurd begun

  pub begun_of : (next : NextBank) (disks : Disks (Bank D g) D) (st : State) (front : List ℕ) → Follows next.writer front st → next.at ≡ 1 + length front
      → IsFilledOn front next.at disks → next.writer.generation ≡ generation_in_use disks + 1 → next.writer.limit ≡ limit_in_use disks → IsBegunOn next disks st
  begun_of next (InUse pair) st front follows place filled generation limit =
      (record { front = front; follows = follows; place = place; filled = filled }, generation, limit)
  begun_of next (Shut left right) st front follows place filled generation limit = absurd filled
  begun_of next Away st front follows place filled generation limit = absurd filled

  -- If it is known only that there is one:
  pub low_of : (next : NextBank) (disks : Disks (Bank D g) D) (st : State) → ∥ IsBegunOn next disks st ∥₁ → 1 ≤ next.at
  low_of next disks st begun = at_most 1 next.at (∥∥₁_map begun (λ b. omega (arith, (parts_of next disks st b).place)))

  pub within_of : (next : NextBank) (disks : Disks (Bank D g) D) (st : State) → ∥ IsBegunOn next disks st ∥₁ → IsWithin next.at disks
  within_of next (InUse pair) st begun = λ honest. at_most next.at (length (g.view pair.other).seen)
      (∥∥₁_map begun (λ b. step_within b.0.front next.at (g.view pair.other) (b.0.filled honest)))
  within_of next (Shut left right) st begun = not_there begun (λ k. k)
  within_of next Away st begun = not_there begun (λ k. k)

  pub generation_of : (next : NextBank) (disks : Disks (Bank D g) D) (st : State) → ∥ IsBegunOn next disks st ∥₁
      → next.writer.generation ≡ generation_in_use disks + 1
  generation_of next disks st begun = ∥∥₁_elim begun (Coded-set coded_ℕ _ _) (λ b. (parts_of next disks st b).generation)

  -- With its last bytes it keeps within the limit, and has more bytes than records.
  pub fits_of : (next : NextBank) (s : BankWriter) (bytes : List ℕ) (disks : Disks (Bank D g) D) (st : State) → s.limit ≡ next.writer.limit
      → ((front : List ℕ) → Follows next.writer front st → Completes s front bytes st)
      → ∥ IsBegunOn next disks st ∥₁ → next.at + length bytes ≤ limit_in_use disks
  fits_of next s bytes disks st limit ends begun =
      at_most (next.at + length bytes) (limit_in_use disks)
      (∥∥₁_map begun (λ b. let p = parts_of next disks st b in omega (arith, p.place, p.limit, limit, (ends p.front p.follows).within)))

  pub counts_of : (next : NextBank) (s : BankWriter) (bytes : List ℕ) (disks : Disks (Bank D g) D) (st : State)
      → ((front : List ℕ) → Follows next.writer front st → Completes s front bytes st) → ∥ IsBegunOn next disks st ∥₁ → s.records < next.at + length bytes
  counts_of next s bytes disks st ends begun =
      omega (
        arith,
        at_most (s.records + 1) (next.at + length bytes)
            (∥∥₁_map begun (λ b. let p = parts_of next disks st b in omega (arith, p.place, counts s p.front bytes st (ends p.front p.follows)))),
      )

module _ {D : Type 0} {g : Ghosts D} (timed : (d : D) → g.honest d → IsTimed (g.view d)) where
  -- More is written after what is filled of the disk that is not in use.
  pub written_by : (disks : Disks (Bank D g) D) (pair : Pair (Bank D g) D) → disks ≡ InUse pair
      → (st : State) (front : List ℕ) (at : ℕ) (f : Filling D g) → f.disk ≡ pair.other → f.at ≡ at → (new : D)
      → (g.honest f.disk → fills f.at (g.view f.disk) (g.view new)) → IsFilledOn front at disks → BothHonest disks → IsUpFor disks st
      → PairsSince (both_of disks) (sides pair.is_right (g.view pair.bank.disk) (g.view new)) (λ left right. Stands left right st)
  written_by disks pair is st front at f same place new run filled =
      changed timed disks pair is st (g.view new)
      (λ used other was_up.
      filled_beside pair.bank.form pair.bank.generation pair.bank.end (g.view pair.bank.disk) (g.view pair.other) (g.view new) st was_up
      (subst (λ d. LeavesOnly (g.view d) (g.view new) IsNoBank) same
      (run (subst g.honest (sym same) other) front (resumed front at f pair.other same place (subst (IsFilledOn front at) is filled) other))))

  pub steps_begun : (next later : NextBank) (disks new : Disks (Bank D g) D) (st now : State) → now ≡ st
      → ∥ IsBegunOn next disks st ∥₁ → (IsBegunOn next disks now → IsBegunOn later new now) → ∥ IsBegunOn later new st ∥₁
  steps_begun next later disks new st now same begun goes =
      subst (λ s. ∥ IsBegunOn later new s ∥₁) same (∥∥₁_map (subst (λ s. ∥ IsBegunOn next disks s ∥₁) (sym same) begun) goes)
