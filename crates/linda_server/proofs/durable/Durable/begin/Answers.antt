-- The disks represent the same state: nothing was done yet.
use Rattle.std.proofs.Common.{sym, subst, ◌∙◌}
use Rattle.linda_store_state.specs.State.{IsState}
use Rattle.linda_server.specs.Pairs.{PairsNow}
use Rattle.linda_server.specs.Calls.{IsWithOrWithout}
use Rattle.linda_server.specs.Server.{both_of}
use Rattle.linda_server.proofs.CallLaws.{stands_with}
use Rattle.linda_server.proofs.durable.Durable.begin.Goals as goal

pub invariant_of-self-clause-fallen : goal.invariant_of-self-clause-fallen
invariant_of-self-clause-fallen g c _ are =
    let s = c.args.self.now in
    let same = c.of.ensures ∙ c.state.ensures.state in
    subst (λ st. PairsNow (both_of s.disks) (IsWithOrWithout st s.lost.items)) (sym same)
    (stands_with g.met.D.Disk.timed s.disks s.store.state s.lost.items (s.none_lost c.requires)
    (subst IsState c.state.ensures.state c.state.ensures.ranges) are (s.kept c.requires))
