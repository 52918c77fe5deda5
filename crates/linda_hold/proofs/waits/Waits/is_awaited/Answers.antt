use Rattle.std.proofs.Common.{ap, ◌∙◌}
use Rattle.linda_tuple.specs.Matching.{is_match}
use Rattle.linda_hold.specs.Waits.{is_awaited}
use Rattle.linda_hold.proofs.ListLaws.{any_within}
use Rattle.linda_hold.specs.Arrivals.{may_meet}
use Rattle.linda_hold.proofs.WaitLaws.{met_where_matched}
use Rattle.linda_hold.proofs.waits.Waits.is_awaited.Goals as goal

pub returns : goal.returns
returns c =
    let row = c.args.tuple.now in
    c.is_answering_one.ensures
    ∙ ap (is_awaited row) c.candidates.ensures.met
    ∙ any_within (λ w. is_match w.1.template row) (may_meet row) (met_where_matched row) c.args.self.now
