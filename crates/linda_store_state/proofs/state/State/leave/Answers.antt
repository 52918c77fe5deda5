-- The changes of the maps are those of a Leave.
use Rattle.std.proofs.Common.{refl}
use Rattle.linda_store_state.proofs.DoneLaws.{on_ok, leave_at}
use Rattle.linda_store_state.proofs.state.State.leave.Goals as goal

pub returns-clause-after : goal.returns-clause-after
returns-clause-after g c =
    on_ok _ _ c.keep.result (λ kept. leave_at _ c.args.self.now _ c.args.client c.args.n c.self.view_is c.requires refl kept refl) c.keep.ensures.ok
