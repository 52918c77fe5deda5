-- Each message is a step, and leaves the starts right.
use Rattle.std.proofs.Common.{[], ◌∷◌, sym, ap, subst, ◌∙◌}
use Rattle.linda_hold.specs.Request.{request_of}
use Rattle.linda_store_step.specs.Answer.{reply_to_numbered, held_tuple, IsStep}
use Rattle.linda_store_step.proofs.NumberLaws.{allowed_out}
use Rattle.linda_store_step.proofs.FreeLaws.{put_right, accepted_right, left_right, on_ok_both, if_ok_both, if_ok_two}
use Rattle.linda_store_step.proofs.StepLaws.{greeted_step, put_step, accepted_step, left_step, if_ok_on, on_ok_if}
use Rattle.linda_store_step.proofs.step.act.Goals as goal

pub put-requires-clause-allowed : goal.put-requires-clause-allowed
put-requires-clause-allowed g c =
    allowed_out c.args.state.now c.args.client c.in-Out.n c.requires.orderly.state_is c.in-Out.tuple
    (sym (ap (reply_to_numbered c.args.state.now c.args.client) c.in-Out.is) ∙ c.requires.none)

pub returns-in-Hello-clause-ok : goal.returns-in-Hello-clause-ok
returns-in-Hello-clause-ok g c =
    if_ok_two c.only_reply.result c.only_reply.ensures.deed c.only_reply.ensures.sends
    (λ s deed sends. greeted_step c.args.state.now c.args.soft.now c.args.client c.args.message.now
    c.in-Hello.version _ c.in-Hello.fresh s.deed s.sends.items c.requires.orderly.state_is c.in-Hello.is
    deed (sends ∙ ap (λ r. (c.args.client, r) ∷ []) c.greeting.ensures))

pub returns-in-Out-clause-ok : goal.returns-in-Out-clause-ok
returns-in-Out-clause-ok g c =
    if_ok_on c.put.result c.put.ensures.answer c.put.ensures.after
    (λ s answer after. put_step c.args.state.now c.args.soft.now c.args.client c.args.message.now
    c.in-Out.n c.in-Out.tuple _ c.put.new.state c.in-Out.is c.requires.none answer after)

pub returns-in-Out-clause-right : goal.returns-in-Out-clause-right
returns-in-Out-clause-right g c =
    on_ok_if c.put.result c.put.ensures.answer c.put.ensures.after
    (λ s answer after. put_right c.args.state.now c.put.new.state c.args.client c.in-Out.n c.in-Out.tuple
    c.args.soft.now c.put.new.soft c.args.hints.now after (ap (λ a. a.soft) answer) c.requires.right)

pub returns-in-Accept-clause-ok : goal.returns-in-Accept-clause-ok
returns-in-Accept-clause-ok g c =
    if_ok_two c.accept.result c.accept.ensures.answer c.accept.ensures.after
    (λ s answer after. accepted_step c.args.state.now c.args.soft.now c.args.client c.args.message.now c.in-Accept.n
    c.in-Accept.ticket c.in-Accept.id _ c.accept.new.state c.in-Accept.is c.requires.none answer after)

pub returns-in-Accept-clause-right : goal.returns-in-Accept-clause-right
returns-in-Accept-clause-right g c =
    if_ok_both c.accept.result c.accept.ensures.answer c.accept.ensures.after
    (λ s answer after. accepted_right c.args.state.now c.accept.new.state c.args.client c.in-Accept.n c.in-Accept.id
    (held_tuple c.args.state.now (request_of c.args.client c.in-Accept.ticket) c.in-Accept.id c.args.soft.now)
    s.deed s.sends.items c.args.soft.now c.accept.new.soft c.args.hints.now answer after c.requires.right)

pub returns-in-Leave-clause-ok : goal.returns-in-Leave-clause-ok
returns-in-Leave-clause-ok g c =
    if_ok_on c.leave.result c.leave.ensures.answer c.leave.ensures.after
    (λ s answer after. left_step c.args.state.now c.args.soft.now c.args.client c.args.message.now
    c.in-Leave.n _ c.leave.new.state c.in-Leave.is c.requires.none answer after)

pub returns-in-Leave-clause-right : goal.returns-in-Leave-clause-right
returns-in-Leave-clause-right g c =
    on_ok_both c.leave.result c.leave.ensures.after (c.leave.ensures.right c.args.state.now.next c.requires.right)
    (λ after right. left_right c.args.state.now c.leave.new.state c.args.client c.in-Leave.n
    c.leave.new.soft c.leave.new.hints c.requires.orderly.state_is after right)

pub returns-in-Ask-clause-ok : goal.returns-in-Ask-clause-ok
returns-in-Ask-clause-ok g c =
    if_ok_two c.ask.result c.ask.ensures.ok c.ask.ensures.ok
    (λ s ok same. subst (λ m. IsStep c.args.state.now c.args.soft.now c.args.client m
    (record { deed = s.deed; sends = s.sends.items; soft = c.ask.new.soft }) c.args.state.now) (sym c.in-Ask.is) ok)

pub returns-in-Cancel-clause-ok : goal.returns-in-Cancel-clause-ok
returns-in-Cancel-clause-ok g c =
    if_ok_two c.cancel.result c.cancel.ensures.ok c.cancel.ensures.ok
    (λ s ok same. subst (λ m. IsStep c.args.state.now c.args.soft.now c.args.client m
    (record { deed = s.deed; sends = s.sends.items; soft = c.cancel.new.soft }) c.args.state.now) (sym c.in-Cancel.is) ok)
