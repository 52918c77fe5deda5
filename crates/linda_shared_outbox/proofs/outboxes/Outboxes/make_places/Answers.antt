-- There is room for those so far.
use Rattle.std.proofs.Common.{ℕ, ◌+◌, ◌≤◌, All, length, take, sym, ◌∙◌, subst, arith, vec_len, vec_capacity}
use Rattle.linda_wire.specs.declared.reply.Reply.{Reply}
use Rattle.linda_shared_outbox.specs.Boxes.{box_of, TakesMore}
use Rattle.std.proofs.Math.Seq.{take-length}
use Rattle.std.proofs.lemmas.List.Elements.{All-more, All-weaker}
use Rattle.linda_shared_outbox.proofs.outboxes.Outboxes.make_places.Goals as goal

pub loop-send-preserved : goal.loop-send-preserved
loop-send-preserved c =
    let xs = c.args.sends.now in
    let old = c.loop-send.self in
    let new = c.make_place.new.self in
    let Fits : ℕ × Reply → Type 0 = λ (s : ℕ × Reply). TakesMore (length xs) (box_of new.keys new.boxes s.0) in
    let inv = c.loop-send.invariant in (
      λ q. c.make_place.ensures.same q ∙ inv.0 q,
      subst (λ w. vec_len w + length xs ≤ vec_capacity w) (sym c.make_place.ensures.waiting) inv.1,
      All-more Fits xs c.loop-send.send-index c.send-item.result c.loop-send-test.true
          (All-weaker (λ (s : ℕ × Reply). TakesMore (length xs) (box_of old.keys old.boxes s.0)) Fits
          (λ s room. c.make_place.ensures.kept s.0 (length xs) room) (take c.loop-send.send-index xs) inv.2)
          (subst Fits c.send-item.is c.in_ok-make_place.ensures.room),
    )

pub returns-clause-room : goal.returns-clause-room
returns-clause-room c =
    let xs = c.args.sends.now in
    let s = c.loop-send.self in
    let Fits : ℕ × Reply → Type 0 = λ (q : ℕ × Reply). TakesMore (length xs) (box_of s.keys s.boxes q.0) in (
      c.loop-send.invariant.1,
      subst (All Fits) (take-length xs)
          (subst (λ i. All Fits (take i xs)) (omega (arith, c.loop-send-test.false, c.loop-send.auto.send-index-end)) c.loop-send.invariant.2),
    )
