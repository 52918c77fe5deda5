use Rattle.std.proofs.Common.{length, refl, sym, ap, ◌∙◌, ltb-true}
use Rattle.std.proofs.lemmas.Option.{slice_get_read}
use Rattle.linda_world.specs.Refusal.{is_message_to}
use Rattle.linda_world.proofs.message.is_message.Goals as goal

pub returns-in-Some : goal.returns-in-Some
returns-in-Some c =
    c.is_message_to.ensures
    ∙ ap (λ o. is_message_to o c.args.server)
    (sym (slice_get_read c.args.packets.now _ c.args.k c.in-Some.packet.now refl
    (ltb-true c.args.k (length c.args.packets.now) (sym c.in-Some.ensures.lookup.0)) c.in-Some.ensures.lookup.1))
