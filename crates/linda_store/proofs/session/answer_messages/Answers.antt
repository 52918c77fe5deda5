use Rattle.std.proofs.Common.{◌≡◌, ◌<◌, ℕ, List, ◌++◌, length, length-append, ap, arith}
use Rattle.linda_wire.specs.declared.message.Message.{Message}
use Rattle.linda_wire.specs.Frames.{length_field, spell_message, message_frame, FitsMessage}
use Rattle.linda_wire.proofs.LengthLaws.{length_field-length}
use Rattle.linda_store.proofs.TalkLaws.{told_on, told_down, told_lost, lost_answered}
use Rattle.linda_store.proofs.session.answer_messages.Goals as goal

-- After a frame there are fewer bytes.
fewer : (old rest : List ℕ) (m : Message) → (old ≡ message_frame m ++ rest) × FitsMessage m → length rest < length old
fewer old rest m found =
    let payload = spell_message m in
    let counted = ap length found.0 in
    let field = length_field-length (length payload) in
    omega (arith, counted, field, length-append (message_frame m) rest, length-append (length_field (length payload)) payload)

pub returns-in_err-turn-in-Some : goal.returns-in_err-turn-in-Some
returns-in_err-turn-in-Some g c =
    let found = rw c.in-Some.is at c.in-Ok.ensures.found in
    lost_answered _ _ _ _ _ _ _ _ c.from_residual.ensures.0
    (told_lost _ _ _ _ _ _ _ _ _ _ c.loop-found.invariant found c.in_err-turn-in-Some.ensures)

pub returns-then-not-branch : goal.returns-then-not-branch
returns-then-not-branch g c =
    let found = rw c.in-Some.is at c.in-Ok.ensures.found in
    told_down _ _ _ _ _ _ _ _ _ _ _ _ c.if-not-branch.true c.loop-found.invariant found c.in_ok-turn-in-Some.ensures

pub loop-found-preserved-else-not-branch : goal.loop-found-preserved-else-not-branch
loop-found-preserved-else-not-branch g c =
    let found = rw c.in-Some.is at c.in-Ok.ensures.found in
    told_on _ _ _ _ _ _ _ _ _ _ _ _ c.if-not-branch.false c.loop-found.invariant found c.in_ok-turn-in-Some.ensures

pub loop-found-preserved : goal.loop-found-preserved
loop-found-preserved g c =
    let found = rw c.in-Some.is at c.in-Ok.ensures.found in
    told_on _ _ _ _ _ _ _ _ _ _ _ _ c.if-not-branch.false c.loop-found.invariant found c.in_ok-turn-in-Some.ensures

pub loop-found-preserved-else-not-branch-2 : goal.loop-found-preserved-else-not-branch-2
loop-found-preserved-else-not-branch-2 g c =
    let found = rw c.in-Some.is at c.in-Ok.ensures.found in
    told_on _ _ _ _ _ _ _ _ _ _ _ _ c.if-not-branch.false c.loop-found.invariant found c.in_ok-turn-in-Some.ensures

pub loop-found-smaller : goal.loop-found-smaller
loop-found-smaller g c = fewer c.loop-found.feed c.next.new.self c.in-Some.message (rw c.in-Some.is at c.in-Ok.ensures.found)

pub loop-found-smaller-else-not-branch : goal.loop-found-smaller-else-not-branch
loop-found-smaller-else-not-branch g c = fewer c.loop-found.feed c.next.new.self c.in-Some.message (rw c.in-Some.is at c.in-Ok.ensures.found)

pub loop-found-smaller-else-not-branch-2 : goal.loop-found-smaller-else-not-branch-2
loop-found-smaller-else-not-branch-2 g c = fewer c.loop-found.feed c.next.new.self c.in-Some.message (rw c.in-Some.is at c.in-Ok.ensures.found)
