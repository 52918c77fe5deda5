-- The changes of the maps are those of a Pass, no matter what its id is.
use Rattle.std.proofs.Common.{refl}
use Rattle.linda_store_state.proofs.DoneLaws.{on_ok, pass_at}
use Rattle.linda_store_state.proofs.state.State.pass.Goals as goal

pub returns-clause-after : goal.returns-clause-after
returns-clause-after g c =
    on_ok _ _ c.keep.result (λ kept id. pass_at _ c.args.self.now _ c.args.client c.args.n id c.self.view_is c.requires refl kept refl) c.keep.ensures.ok
