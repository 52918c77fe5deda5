-- What is reported is the deed of each step that has these numbers and sends.
use Rattle.std.proofs.Common.{sym, ◌∙◌}
use Rattle.std.proofs.lemmas.Bool.{cond-true}
use Rattle.linda_store_step.proofs.ReportLaws.{as_reported}
use Rattle.linda_store_step.proofs.deeds.reported_deed.Goals as goal

pub returns-then-comes_next-clause-done : goal.returns-then-comes_next-clause-done
returns-then-comes_next-clause-done c =
    as_reported c.args.client c.args.message c.args.last c.args.sends.now c.deed_behind.result
    (c.deed_behind.ensures ∙ sym (cond-true _ _ _ (sym c.comes_next.ensures ∙ c.if-comes_next.true)))
