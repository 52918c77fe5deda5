use Rattle.std.proofs.Common.{ap, ◌∙◌}
use Rattle.std.specs.Option.{option_map}
use Rattle.std.proofs.lemmas.Bool.{and_parts}
use Rattle.linda_hold.specs.Waits.{is_taker, longest}
use Rattle.linda_hold.proofs.ListLaws.{find_within}
use Rattle.linda_hold.specs.Arrivals.{may_meet}
use Rattle.linda_hold.proofs.WaitLaws.{met_where_matched}
use Rattle.linda_hold.proofs.waits.Waits.longest.Goals as goal

pub returns : goal.returns
returns c =
    let row = c.args.tuple.now in
    c.first_input.ensures
    ∙ ap (λ waits. option_map (λ w. w.0) (longest row waits)) c.candidates.ensures.met
    ∙ ap (option_map (λ w. w.0)) (find_within (is_taker row) (may_meet row) (λ w is. met_where_matched row w (and_parts _ _ is).1) c.args.self.now)
