use Rattle.std.proofs.Common.{◌≡◌, ℕ, ◌<◌, ◌≤◌, nat_lt, false, cond, Some, None, length, slice_get, refl, sym, ap, ◌∙◌, arith}
use Rattle.std.proofs.lemmas.Option.{slice_get_read}
use Rattle.std.proofs.lemmas.Bool.Decides.{nat_tests}
use Rattle.linda_world_laws.specs.World.{World}
use Rattle.linda_world.specs.declared.fault.WorldFault.TheVariants as faults
use Rattle.linda_world.specs.Refusal.{refusal_by, refusal_of_packet}
use Rattle.linda_world.proofs.SceneLaws.{heard, answered}
use Rattle.linda_world.proofs.scene.Scene.deliver.Goals as goal

-- a place past the end is not within
beyond : (s n : ℕ) → n ≤ s → nat_lt s n ≡ false
beyond s n high = grind (arith, nat_tests)

pub returns-in-Message : goal.returns-in-Message
returns-in-Message g c =
    let within : c.args.k < length c.self.inside.packets.items = omega (arith, c.if-k-len.false, c.len.ensures) in
    let there : slice_get c.args.self.now.packets c.args.k ≡ Some c.index-packet.result.now =
    ap (λ (x : World). slice_get x.packets c.args.k) (sym c.self.view_is)
    ∙ slice_get_read c.self.inside.packets.items (length c.self.inside.packets.items) c.args.k
    c.index-packet.result.now refl within c.index-packet.ensures in
    heard c.args.self.now c.hear.new.self c.args.k c.index-packet.result.now c.hear.result there c.in-Message.message
    c.in_ok-message-in-Message.message c.in-Message.is c.in_ok-message-in-Message.ensures c.hear.ensures

pub returns-in-Reply : goal.returns-in-Reply
returns-in-Reply g c =
    let within : c.args.k < length c.self.inside.packets.items = omega (arith, c.if-k-len.false, c.len.ensures) in
    let there : slice_get c.args.self.now.packets c.args.k ≡ Some c.index-packet.result.now =
    ap (λ (x : World). slice_get x.packets c.args.k) (sym c.self.view_is)
    ∙ slice_get_read c.self.inside.packets.items (length c.self.inside.packets.items) c.args.k
    c.index-packet.result.now refl within c.index-packet.ensures in
    answered c.args.self.now c.receive.new.self c.args.k c.index-packet.result.now c.receive.result there
    c.in-Reply.reply c.in_ok-reply-in-Reply.reply c.in-Reply.is c.in_ok-reply-in-Reply.ensures c.receive.ensures

pub returns-then-server-len : goal.returns-then-server-len
returns-then-server-len g c =
    let within : c.args.k < length c.self.inside.packets.items = omega (arith, c.if-k-len.false, c.len.ensures) in
    let there : slice_get c.args.self.now.packets c.args.k ≡ Some c.index-packet.result.now =
    ap (λ (x : World). slice_get x.packets c.args.k) (sym c.self.view_is)
    ∙ slice_get_read c.self.inside.packets.items (length c.self.inside.packets.items) c.args.k
    c.index-packet.result.now refl within c.index-packet.ensures in
    let servers = ap (λ (x : World). length x.servers) c.self.view_is in
    let high = c.if-server-len.true in
    let count = c.len-in-Message.ensures in
    let far : nat_lt c.index-packet.result.now.server (length c.args.self.now.servers) ≡ false =
    beyond c.index-packet.result.now.server (length c.args.self.now.servers) (omega (arith, servers, high, count)) in (
      ap (refusal_of_packet c.args.self.now) there ∙ ap (refusal_by c.args.self.now c.index-packet.result.now) c.in-Message.is
          ∙ ap (λ b. cond b None (Some faults.NoServer)) far,
      refl,
    )
