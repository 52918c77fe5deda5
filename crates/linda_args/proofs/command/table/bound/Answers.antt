use Rattle.std.proofs.Common.{rules, ◌∷◌, []}
use Rattle.clap.specs.Words.{AddsConflicts, AddsRequiredUnless}
use Rattle.linda_args.proofs.TableLaws.{against, beside, own_goes, rule_goes, unless}
use Rattle.linda_args.proofs.command.table.bound.Goals as goal

pub returns-in-Unless-clause-rule : goal.returns-in-Unless-clause-rule
returns-in-Unless-clause-rule c =
    let its =
    rule_goes c.args.arg c.required_unless_present.result (λ r. AddsRequiredUnless c.args.arg r (c.in-Unless.other ∷ []))
    (λ new adds. unless c.args.arg new c.in-Unless.other adds) c.required_unless_present.ensures in
    search (rules, its)

pub returns-in-Unless-clause-own : goal.returns-in-Unless-clause-own
returns-in-Unless-clause-own c =
    own_goes c.args.arg c.required_unless_present.result (λ r. AddsRequiredUnless c.args.arg r (c.in-Unless.other ∷ []))
    (λ new adds. unless c.args.arg new c.in-Unless.other adds) c.required_unless_present.ensures

pub returns-in-With-clause-rule : goal.returns-in-With-clause-rule
returns-in-With-clause-rule c =
    let its = rule_goes c.args.arg c.requires_arg.result _ (λ new adds. beside c.args.arg new _ adds) c.requires_arg.ensures in
    search (rules, its)

pub returns-in-With-clause-own : goal.returns-in-With-clause-own
returns-in-With-clause-own c =
    own_goes c.args.arg c.requires_arg.result _ (λ new adds. beside c.args.arg new _ adds) c.requires_arg.ensures

pub returns-in-Without-clause-rule : goal.returns-in-Without-clause-rule
returns-in-Without-clause-rule c =
    let its =
    rule_goes c.args.arg c.conflicts_with.result (λ r. AddsConflicts c.args.arg r (c.in-Without.other ∷ []))
    (λ new adds. against c.args.arg new c.in-Without.other adds) c.conflicts_with.ensures in
    search (rules, its)

pub returns-in-Without-clause-own : goal.returns-in-Without-clause-own
returns-in-Without-clause-own c =
    own_goes c.args.arg c.conflicts_with.result (λ r. AddsConflicts c.args.arg r (c.in-Without.other ∷ []))
    (λ new adds. against c.args.arg new c.in-Without.other adds) c.conflicts_with.ensures
