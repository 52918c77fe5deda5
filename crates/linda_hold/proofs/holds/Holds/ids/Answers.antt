use Rattle.std.proofs.Common.{is_some, sym, ap, ◌∙◌}
use Rattle.std.proofs.lemmas.Result.{IfOk-weaker}
use Rattle.linda_hold.proofs.ViewLaws.{viewed}
use Rattle.linda_hold.proofs.holds.Holds.ids.Goals as goal

pub returns : goal.returns
returns c =
    IfOk-weaker c.all_ids.result _ _
    (λ ids has. λ id. has id ∙ sym (ap is_some (viewed c.self.inside.by_id c.args.self.now c.self.view_is id)))
    c.all_ids.ensures
