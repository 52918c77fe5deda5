-- The reply to a numbered message that makes no deed is a step.
use Rattle.std.proofs.Common.{sym, ◌∙◌}
use Rattle.linda_store_step.proofs.FreeLaws.{if_ok_two}
use Rattle.linda_store_step.proofs.StepLaws.{numbered_step}
use Rattle.linda_store_step.proofs.step.answer_message.Goals as goal

pub returns-in-Some-clause-ok : goal.returns-in-Some-clause-ok
returns-in-Some-clause-ok g c =
    if_ok_two c.only_reply.result c.only_reply.ensures.deed c.only_reply.ensures.sends
    (λ s deed sends. numbered_step c.args.state.now c.args.soft.now c.args.client c.args.message.now
    c.in-Some.reply s.deed s.sends.items c.requires.orderly.state_is
    (sym c.in_ok-reply.ensures ∙ c.in-Some.is) deed sends)
