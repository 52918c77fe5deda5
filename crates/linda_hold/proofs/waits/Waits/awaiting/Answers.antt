use Rattle.std.proofs.Common.{map, ap, ◌∙◌}
use Rattle.std.specs.Option.{option_map}
use Rattle.std.proofs.lemmas.Bool.{and_parts}
use Rattle.std.proofs.lemmas.Result.{IfOk-weaker}
use Rattle.linda_hold.specs.Waits.{is_reader, is_taker, longest, readers}
use Rattle.linda_hold.proofs.ListLaws.{filter_within, find_within}
use Rattle.linda_hold.specs.Arrivals.{may_meet}
use Rattle.linda_hold.proofs.WaitLaws.{met_where_matched}
use Rattle.linda_hold.proofs.waits.Waits.awaiting.Goals as goal

pub returns-clause-readers : goal.returns-clause-readers
returns-clause-readers c =
    let row = c.args.tuple.now in
    IfOk-weaker c.awaiting_among.result _ _
    (λ a reads. reads
    ∙ ap (λ waits. map (λ w. w.0) (readers row waits)) c.candidates.ensures.met
    ∙ ap (map (λ w. w.0)) (filter_within (is_reader row) (may_meet row) (λ w is. met_where_matched row w (and_parts _ _ is).1) c.args.self.now))
    c.awaiting_among.ensures.readers

pub returns-clause-longest : goal.returns-clause-longest
returns-clause-longest c =
    let row = c.args.tuple.now in
    IfOk-weaker c.awaiting_among.result _ _
    (λ a first. first
    ∙ ap (λ waits. option_map (λ w. w.0) (longest row waits)) c.candidates.ensures.met
    ∙ ap (option_map (λ w. w.0)) (find_within (is_taker row) (may_meet row) (λ w is. met_where_matched row w (and_parts _ _ is).1) c.args.self.now))
    c.awaiting_among.ensures.longest
