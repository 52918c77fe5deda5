use Rattle.std.proofs.Common.{false, sym, ◌∙◌, eq-eqb, ne_eqb, arith}
use Rattle.std.proofs.lemmas.Bool.{cond-true, cond-false}
use Rattle.linda_store_step.proofs.SizeLaws.{last_at_end}
use Rattle.linda_store_step.proofs.size.«+last_behind».Goals as goal

pub returns-then-other-client : goal.returns-then-other-client
returns-then-other-client g c =
    sym (last_at_end c.args.lasts.now (0, (0, false)) c.args.client c.args.last (omega (arith, c.in-len1-up.len_at_least))
    ∙ cond-true _ _ _ (eq-eqb _ _ c.if-other-client.true))

pub returns-else-other-client : goal.returns-else-other-client
returns-else-other-client g c =
    c.last_behind.ensures
    ∙ sym (last_at_end c.args.lasts.now (0, (0, false)) c.args.client c.args.last (omega (arith, c.in-len1-up.len_at_least))
    ∙ cond-false _ _ _ (ne_eqb _ _ c.if-other-client.false))
