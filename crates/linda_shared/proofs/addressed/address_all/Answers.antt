-- One message more has its address.
use Rattle.std.proofs.Common.{◌≡◌, arith}
use Rattle.std.specs.Arc.{arc_value}
use Rattle.linda_wire.specs.declared.message.Message.{Message}
use Rattle.linda_shared_queue.specs.declared.reply_slot.ReplySlot.{ReplySlot}
use Rattle.linda_shared.proofs.AddressedLaws.{message_added, place_added, all_added}
use Rattle.linda_shared.proofs.addressed.address_all.Goals as goal

pub loop-place-preserved : goal.loop-place-preserved
loop-place-preserved g c =
    let l = c.loop-place in
    let x = c.in_ok-addressed.field-0 in
    let new = c.push_reserved.new.self.items in
    let pushed = c.push_reserved.ensures in
    let len = pushed.len in
    let capacity = pushed.capacity in
    let many = l.invariant.3 in
    let room = l.invariant.4 in
    let its = c.in_ok-addressed.ensures in
    let client = (arc_value c.args.mailbox.now).client in (
      message_added (λ (m : Message × ReplySlot g.row.L.Denot). m.0) c.args.messages.now l.place
          c.index-messages-place.result l.all.items new x c.loop-place-test.true
          c.index-messages-place.is its.message pushed.items l.invariant.0,
      place_added (λ (m : Message × ReplySlot g.row.L.Denot). m.1.place) l.place l.all.items new x its.to.1 pushed.items l.invariant.1,
      all_added (λ (m : Message × ReplySlot g.row.L.Denot). m.1.client ≡ client) l.all.items new x its.to.0 pushed.items l.invariant.2,
      omega (arith, len, many),
      omega (arith, capacity, room),
    )
