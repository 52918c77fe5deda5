-- The bank in use with more after its end, for a state that stays as it is.
use Rattle.std.proofs.Common.{◌≡◌, ℕ, inl, inr, List, [], refl, sym, subst, append-nil}
use Rattle.std.proofs.Math.Logic.{∥∥₁_elim}
use Rattle.std.proofs.lemmas.Grind.{not_there}
use Rattle.std.specs.Coded.{Coded-set, coded_list, coded_ℕ}
use Rattle.linda_tuple.specs.declared.form.Form.{Form}
use Rattle.linda_store_state.specs.declared.deed.Deed.{Deed}
use Rattle.linda_store_state.specs.State.{State}
use Rattle.linda_store_state.specs.Proper.{AreDone}
use Rattle.linda_disk.specs.View.{View, IsTimed}
use Rattle.linda_disk.specs.Run.{LeavesOnly}
use Rattle.linda_disk.proofs.RunLaws.{weaker}
use Rattle.linda_disk.specs.declared.disk.Disk.{Ghosts}
use Rattle.linda_journal.specs.Bank.{IsBank, IsSettled, IsSettledWithAll, IsOldOrAll}
use Rattle.linda_journal.specs.declared.bank.Bank.{Bank}
use Rattle.linda_snap.specs.Stands.{Stands}
use Rattle.linda_server.specs.declared.disks.Disks.{Disks}
use Rattle.linda_server.specs.declared.disks.Disks.TheVariants.{InUse, Shut, Away}
use Rattle.linda_server.specs.declared.disks.Pair.{Pair}
use Rattle.linda_server.specs.Preallocation.{IsUsedDurable}
use Rattle.linda_server.specs.Calls.{LeadTo, IsOldOrNew}
use Rattle.linda_server.specs.Disks.{sides, IsKept}
use Rattle.linda_server.specs.Pairs.{PairsSince}
use Rattle.linda_server.specs.Server.{both_of, BothHonest, IsUpFor, IsKeptFor}
use Rattle.linda_server.proofs.PairLaws.{put_on, kept_on}

-- No deed leads from a state to itself.
stays : (st : State) → LeadTo st [] st
stays st opening before ranges done = subst (λ ds. AreDone opening ds st) (sym (append-nil before)) done

-- A bank that is settled is so with no record more.
with_none : (form : Form) (generation : ℕ) (body : List ℕ) (records : List (List Deed)) (end : ℕ) (v : View)
    → IsSettled form generation body records end v → IsSettledWithAll form generation body records [] end v
with_none form generation body records end v settled = record {
  more = [];
  are = record { all = refl; count = refl };
  settled = subst (λ rs. IsSettled form generation body rs end v) (sym (append-nil records)) settled;
}

module _ {D : Type 0} {g : Ghosts D} (timed : (d : D) → g.honest d → IsTimed (g.view d)) where
  pub used_durable : (disks : Disks (Bank D g) D) (st : State) → ∥ IsKeptFor disks st ∥₁ → IsUsedDurable disks
  used_durable (InUse pair) st kept = λ h image left. ∥∥₁_elim kept (Coded-set (coded_list coded_ℕ) _ _) (λ k. (k.stored h).settled.durable image left)
  used_durable (Shut left right) st kept = not_there kept (λ k. k)
  used_durable Away st kept = not_there kept (λ k. k)

  module _ (disks : Disks (Bank D g) D) (pair : Pair (Bank D g) D) (is : disks ≡ InUse pair) (st : State) where
    -- The state is there at each moment,
    pub since : (new : View)
        → ((body : List ℕ) (records : List (List Deed)) → g.honest pair.bank.disk
        → IsSettled pair.bank.form pair.bank.generation body records pair.bank.end (g.view pair.bank.disk)
        → LeavesOnly (g.view pair.bank.disk) new (λ file. IsBank pair.bank.form file pair.bank.generation body records))
        → BothHonest disks → IsUpFor disks st → PairsSince (both_of disks) (sides pair.is_right new (g.view pair.other)) (λ left right. Stands left right st)
    since new any_moment are up =
        let either = put_on timed disks pair new [] is
        (λ body records h settled. weaker (g.view pair.bank.disk) new (λ file. IsBank pair.bank.form file pair.bank.generation body records)
        (IsOldOrAll pair.bank.form pair.bank.generation body records []) (any_moment body records h settled) (λ file bank. inl bank))
        st st are up (stays st) in
        record { left_later = either.left_later; right_later = either.right_later; each = λ left right l r. one left right (either.each left right l r) }
      where
        one : (left right : List ℕ) → IsOldOrNew st st left right → Stands left right st
        one left right (inl was) = was
        one left right (inr now) = now

    -- and known of the disks at the end.
    pub kept : (new : Bank D g) → new.form ≡ pair.bank.form → new.generation ≡ pair.bank.generation
        → new.end ≡ pair.bank.end → (g.honest new.disk → g.honest pair.bank.disk)
        → ((body : List ℕ) (records : List (List Deed)) → g.honest pair.bank.disk
        → IsSettled pair.bank.form pair.bank.generation body records pair.bank.end (g.view pair.bank.disk)
        → IsSettled pair.bank.form pair.bank.generation body records pair.bank.end (g.view new.disk))
        → IsKeptFor disks st → IsKept (g.honest new.disk) (g.honest pair.other) new.form new.generation new.end (g.view new.disk) (g.view pair.other) st
    kept new form generation end was done known =
        kept_on timed disks pair (g.honest new.disk) new.form new.generation new.end (g.view new.disk) [] is form generation was
        (λ body records h settled.
        let here = done body records h settled in
        subst (λ f. IsSettledWithAll f new.generation body records [] new.end (g.view new.disk)) (sym form)
        (subst (λ n. IsSettledWithAll pair.bank.form n body records [] new.end (g.view new.disk)) (sym generation)
        (subst (λ e. IsSettledWithAll pair.bank.form pair.bank.generation body records [] e (g.view new.disk)) (sym end)
        (with_none pair.bank.form pair.bank.generation body records pair.bank.end (g.view new.disk) here))))
        st st known (stays st)
