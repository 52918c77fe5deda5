use Rattle.std.proofs.Common.{◌∙◌}
use Rattle.std.specs.FinMap as map
use Rattle.std.proofs.lemmas.Result.{IfOk-weaker}
use Rattle.linda_hold.proofs.HoldLaws.{own_ids}
use Rattle.linda_hold.proofs.holds.Holds.of_client.Goals as goal

pub returns : goal.returns
returns c =
    let has = c.in_ok-ids.ensures (map.get c.self.inside.by_id) c.self.invariant in
    IfOk-weaker c.to_sorted_vec.result _ _
    (λ v same. same ∙ own_ids c.self.inside.by_id c.args.self.now c.self.view_is c.args.client _ c.to_sorted_vec.ensures.ordered has)
    c.to_sorted_vec.ensures.keys
