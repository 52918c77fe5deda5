-- One account after another comes back.
use Rattle.std.proofs.Common.{refl, ◌∙◌}
use Rattle.linda_shared_held.specs.Parked.{none_back, more_back}
use Rattle.linda_shared_held.proofs.held.finish.put_all_back.Goals as goal

pub loop-account-init : goal.loop-account-init
loop-account-init g c = (refl, none_back)

pub loop-account-preserved : goal.loop-account-preserved
loop-account-preserved g c =
    let l = c.loop-account in (
      c.put_back_for_good.ensures.total ∙ l.invariant.0,
      more_back l.yielded l.accounts c.in-Some.account c.put_back_for_good.new.accounts l.invariant.1 c.put_back_for_good.ensures.back,
    )
