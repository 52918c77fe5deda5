-- Histories of one thing.
use Rattle.std.proofs.Common.{◌≡◌, [], ◌∷◌, ◌++◌, option_to_list, refl, sym, append-nil}
use Rattle.linda_store_state.specs.State.{State}
use Rattle.linda_store_step.specs.Soft.{Soft}
use Rattle.linda_store_step.specs.Answer.{Answer}
use Rattle.linda_store_step.specs.History.{Coming, Comes, History, Happens, nothing_yet, first_then}

-- a history that ends with one thing more
abbrev pub then_last : History → Answer → State → History
then_last all last new = record { deeds = all.deeds ++ option_to_list last.deed; sends = all.sends ++ last.sends; soft = last.soft; state = new }

pub one_only : (st new : State) (soft : Soft) (x : Coming) (last : Answer) → Comes st soft x last new
    → Happens st soft (x ∷ []) (then_last (nothing_yet st soft) last new)
one_only st new soft x last comes = (last, (new, (nothing_yet new last.soft, (comes, (refl, joined)))))
  where
    joined : then_last (nothing_yet st soft) last new ≡ first_then last (nothing_yet new last.soft)
    joined = λ i. record { deeds = sym (append-nil (option_to_list last.deed)) i; sends = sym (append-nil last.sends) i; soft = last.soft; state = new }
