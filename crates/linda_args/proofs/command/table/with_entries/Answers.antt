use Rattle.std.proofs.Common.{◌∙◌, ap, fold, subst, sym, take}
use Rattle.std.proofs.Math.Seq.{take-suc}
use Rattle.std.proofs.lemmas.List.{take_all}
use Rattle.clap.specs.Words.{with_rule}
use Rattle.linda_args.specs.Entries.{rules_in}
use Rattle.linda_args.specs.Rules.{IsCommand}
use Rattle.linda_args.proofs.TableLaws.{one_more, with_entry}
use Rattle.linda_args.proofs.command.table.with_entries.Goals as goal

pub loop-entry-preserved : goal.loop-entry-preserved
loop-entry-preserved c = λ app h.
    let entries = c.args.entries.now in
    let i = c.loop-entry.entry-index in
    subst (λ front. IsCommand (fold with_rule app (rules_in front)) c.in_ok-grown.grown)
    (sym (ap (λ k. take k entries) (one_more i) ∙ take-suc entries i _ c.loop-entry-test.true))
    (with_entry app (take i entries) _ c.loop-entry.grown c.in_ok-grown.grown c.in_ok-arg_of.field-0 (c.loop-entry.invariant app h)
    c.in_ok-arg_of.ensures.rule c.in_ok-arg_of.ensures.own c.in_ok-grown.ensures)

pub returns : goal.returns
returns c = λ app h.
    subst (λ front. IsCommand (fold with_rule app (rules_in front)) c.loop-entry.grown)
    (take_all c.loop-entry.entry-index c.args.entries.now c.loop-entry-test.false)
    (c.loop-entry.invariant app h)
