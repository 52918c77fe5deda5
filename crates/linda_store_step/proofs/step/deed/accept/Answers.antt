-- The offer is taken if the tuple is held for the request, and else it is passed.
use Rattle.std.proofs.Common.{true, [], ◌∷◌, ◌++◌, sym, ap, ◌∙◌}
use Rattle.std.specs.FinMap.{get}
use Rattle.linda_wire.specs.declared.reply.Reply.TheVariants.{Taken}
use Rattle.linda_hold.specs.Request.{request_of}
use Rattle.linda_store_step.specs.Soft.{Soft}
use Rattle.linda_store_step.specs.Answer.{held_tuple, take_or_pass}
use Rattle.linda_store_step.proofs.FreeLaws.{if_ok_two}
use Rattle.linda_store_step.proofs.StepLaws.{taken_answer, passed_answer}
use Rattle.linda_store_step.proofs.step.deed.accept.Goals as goal

pub returns-in-Some-clause-answer : goal.returns-in-Some-clause-answer
returns-in-Some-clause-answer g c =
    let inside : Soft = record { holds = c.soft.inside.holds; waits = c.soft.inside.waits } in
    taken_answer c.args.state.now inside c.args.client c.args.n c.args.ticket c.args.id c.get.result c.is_for.result c.in-Some.tuple _ _
    c.get.ensures.value c.is_for.ensures c.if-not-is_for.false (sym c.in_ok-tuple.ensures.tuple ∙ c.in-Some.is) c.remove.ensures
    (c.push_reserved.ensures.items ∙ ap (λ l. l ++ (c.args.client, Taken c.args.n c.args.id c.in-Some.tuple) ∷ [])
    (c.in_ok-reserve.ensures.items ∙ c.requires.room))
    ∙ ap (λ s. take_or_pass c.args.client c.args.n c.args.id (held_tuple c.args.state.now (request_of c.args.client c.args.ticket) c.args.id s) s)
    c.soft.view_is

pub returns-in-None-clause-answer : goal.returns-in-None-clause-answer
returns-in-None-clause-answer g c =
    if_ok_two c.pass-in-None.result c.pass-in-None.ensures.deed c.pass-in-None.ensures.sends
    (λ s deed sends. passed_answer c.args.state.now c.args.soft.now c.args.client c.args.n c.args.ticket
    c.args.id c.get.result c.is_for.result true s.deed s.sends.items
    (c.get.ensures.value ∙ ap (λ s. get s.holds c.args.id) c.soft.view_is) c.is_for.ensures c.if-not-is_for.false
    (sym c.in_ok-tuple.ensures.tuple ∙ c.in-None.is) deed sends)
