-- The changes of the maps are those of an Out that is allowed.
use Rattle.std.proofs.Common.{refl}
use Rattle.linda_store_state.proofs.DoneLaws.{put_at}
use Rattle.linda_store_state.proofs.state.State.put.Goals as goal

pub returns-clause-after : goal.returns-clause-after
returns-clause-after g c =
    put_at _ c.args.self.now _ c.args.client c.args.n c.args.tuple c.self.view_is c.requires.state
    c.in_ok-keep_tuple.ensures.bag c.in_ok-keep_tuple.ensures.book refl
