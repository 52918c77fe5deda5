use Rattle.std.proofs.Common.{IfOk, nat_le, ◌∷◌, [], sym, ap, subst, ◌∙◌}
use Rattle.std.proofs.lemmas.Result.{IfOk-weaker}
use Rattle.linda_wire.specs.declared.limits.TheConstants.{MAX_ASKS}
use Rattle.linda_store_step.specs.Soft.{Soft, open_asks}
use Rattle.linda_store_step.specs.Asking.{AnswersAsk, only_sent}
use Rattle.linda_store_step.proofs.AskingLaws.{offered_again, waits_on, turned_away}
use Rattle.linda_store_step.proofs.soft.Soft.ask.Goals as goal

pub returns-in-Some-clause-sends : goal.returns-in-Some-clause-sends
returns-in-Some-clause-sends g c =
    let soft : Soft = record { holds = c.self.inside.holds; waits = c.self.inside.waits } in
    subst
    (λ s. IfOk c.with_tuple.result
    (λ sends. AnswersAsk (g.B.Bag.contents c.args.bag.now) c.args.request c.args.remove c.args.template.now s (only_sent sends.items s)))
    c.self.view_is
    (IfOk-weaker c.with_tuple.result _ _ (λ sends. offered_again _ _ _ _ soft sends.items c.in-Some.id c.in-Some.ensures.value) c.with_tuple.ensures)

pub returns-then-contains-clause-sends : goal.returns-then-contains-clause-sends
returns-then-contains-clause-sends g c =
    let soft : Soft = record { holds = c.self.inside.holds; waits = c.self.inside.waits } in
    subst
    (λ s. AnswersAsk (g.B.Bag.contents c.args.bag.now) c.args.request c.args.remove c.args.template.now s (only_sent c.args.room.items s))
    c.self.view_is
    (waits_on _ _ _ _ soft c.args.room.items c.in_default.ensures.value (sym c.contains.ensures ∙ c.if-contains.true) c.requires.room)

pub returns-then-asks_too_much-clause-sends : goal.returns-then-asks_too_much-clause-sends
returns-then-asks_too_much-clause-sends g c =
    let soft : Soft = record { holds = c.self.inside.holds; waits = c.self.inside.waits } in
    subst
    (λ s. IfOk c.one_send.result
    (λ sends. AnswersAsk (g.B.Bag.contents c.args.bag.now) c.args.request c.args.remove c.args.template.now s (only_sent sends.items s)))
    c.self.view_is
    (IfOk-weaker c.one_send.result _ _
    (λ sends sent. turned_away _ _ _ _ soft sends.items c.in_default.ensures.value (sym c.contains.ensures ∙ c.if-contains.false)
    (ap (λ s. nat_le MAX_ASKS (open_asks c.args.request.client s)) c.self.view_is ∙ sym c.if-asks_too_much.ensures)
    (sent ∙ ap (λ reply. (c.args.request.client, reply) ∷ []) c.reply.ensures))
    c.one_send.ensures)
