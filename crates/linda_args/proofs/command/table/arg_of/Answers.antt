use Rattle.std.proofs.Common.{rules, ◌≡◌, ◌∙◌, Some, ap, false}
use Rattle.std.proofs.lemmas.Result.{IfOk-weaker}
use Rattle.clap.specs.Words.{new_rule, rule_of}
use Rattle.linda_args.specs.Entries.{bound, formed}
use Rattle.linda_args.proofs.command.table.arg_of.Goals as goal

pub returns-clause-rule : goal.returns-clause-rule
returns-clause-rule c =
    let entry = c.args.entry.now in
    let base : rule_of c.value_parser-arg.result ≡ record (new_rule c.args.entry.now.name.now) { parser = Some c.args.entry.now.parser } = search rules in
    IfOk-weaker c.bound.result _ _ (λ r is. is ∙ ap (bound entry.bond) (c.formed.ensures.rule ∙ ap (formed entry.form entry.name.now) base))
    c.bound.ensures.rule

pub returns-clause-own : goal.returns-clause-own
returns-clause-own c =
    let base : c.value_parser-arg.result.global ≡ false = search rules in
    IfOk-weaker c.bound.result _ _ (λ r is. is ∙ c.formed.ensures.own ∙ base) c.bound.ensures.own
