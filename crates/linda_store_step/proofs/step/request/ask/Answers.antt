-- What is sent for an Ask is a step, and the bag is that of the state.
use Rattle.std.proofs.Common.{[], ◌∷◌, sym, ap, ◌∙◌}
use Rattle.std.specs.FinMap.{get}
use Rattle.linda_book.specs.Entries.{left_in, number_in}
use Rattle.linda_wire.specs.Refusal.{refused}
use Rattle.linda_wire.specs.declared.refusal.Refusal.TheVariants.{Left}
use Rattle.linda_store_step.proofs.FreeLaws.{if_ok_two}
use Rattle.linda_store_step.proofs.StepLaws.{refused_step, asked_step}
use Rattle.linda_store_step.proofs.step.request.ask.Goals as goal

pub returns-then-left-clause-ok : goal.returns-then-left-clause-ok
returns-then-left-clause-ok g c =
    let left = sym (c.standing-last.ensures.left ∙ ap (λ s. left_in (get s.book c.args.client)) c.state.view_is) ∙ c.if-left.true in
    let last = c.standing-last.ensures.last ∙ ap (λ s. number_in (get s.book c.args.client)) c.state.view_is in
    if_ok_two c.only_reply.result c.only_reply.ensures.deed c.only_reply.ensures.sends
    (λ s deed sends. refused_step c.args.state.now c.args.soft.now c.args.client c.args.ticket
    c.args.remove c.args.template.now s.deed s.sends.items c.requires.state left deed
    (sends ∙ ap (λ r. (c.args.client, r) ∷ []) (c.reply.ensures ∙ ap (λ l. refused (Left l)) last)))

pub returns-clause-ok : goal.returns-clause-ok
returns-clause-ok g c =
    asked_step c.args.state.now c.args.soft.now c.args.client _ c.args.ticket c.args.remove
    c.args.template.now _ _ _ c.ask.new.self c.requires.state (ap (λ s. s.bag) c.state.view_is)
    (sym (c.standing-last.ensures.left ∙ ap (λ s. left_in (get s.book c.args.client)) c.state.view_is) ∙ c.if-left.false)
    c.only_sends.ensures.deed c.only_sends.ensures.sends c.in_ok-ask.ensures.sends
