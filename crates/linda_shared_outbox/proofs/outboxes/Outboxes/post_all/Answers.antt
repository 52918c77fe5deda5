-- One reply more is posted, and there is room for the others.
use Rattle.std.proofs.Common.{◌≡◌, ℕ, ◌+◌, ◌≤◌, ◌++◌, ◌∷◌, [], List, All, length, sym, ap, ◌∙◌, subst, arith, append_assoc, vec_len, vec_capacity}
use Rattle.linda_wire.specs.declared.reply.Reply.{Reply}
use Rattle.linda_shared_outbox.specs.Boxes.{box_of, TakesMore}
use Rattle.linda_shared_outbox.specs.Waiting.{waits_for}
use Rattle.std.proofs.lemmas.List.Elements.{All-rest}
use Rattle.linda_shared_outbox.proofs.WaitLaws.{with_none, posted_more, room_left}
use Rattle.linda_shared_outbox.proofs.outboxes.Outboxes.post_all.Goals as goal

pub loop-send-init : goal.loop-send-init
loop-send-init c =
    let s = c.args.self.now in
    let e : c.into_iter-send-iterator.result.rest.items ≡ c.args.sends.items = c.into_iter-send-iterator.ensures.into_iter_gives.0 in (
      λ q. sym (with_none (waits_for s q)),
      e,
      subst (λ (l : List (ℕ × Reply)). vec_len s.waiting + length l ≤ vec_capacity s.waiting) (sym e) c.requires.0,
      subst (λ (l : List (ℕ × Reply)). All (λ (q : ℕ × Reply). TakesMore (length l) (box_of s.keys s.boxes q.0)) l) (sym e) c.requires.1,
    )

pub loop-send-preserved : goal.loop-send-preserved
loop-send-preserved c =
    let inv = c.loop-send.invariant in
    let first = c.args.self.now in
    let old = c.loop-send.self in
    let new = c.post.new.self in
    let send = c.in-Some.send in
    let rest = c.loop-send.send-iterator.rest.items in
    let later = c.next.new.self.rest.items in
    let n = length later in
    let step : rest ≡ send ∷ later = c.in-Some.ensures.steps.0 in
    let steps : length rest ≡ length (send ∷ later) = ap length step in
    let long : length rest ≡ n + 1 = omega (arith, steps) in
    let Fits : ℕ × Reply → Type 0 = λ (s : ℕ × Reply). TakesMore (n + 1) (box_of old.keys old.boxes s.0) in
    let all : All Fits rest = subst (λ k. All (λ (s : ℕ × Reply). TakesMore k (box_of old.keys old.boxes s.0)) rest) long inv.3 in
    let room : vec_len old.waiting + (n + 1) ≤ vec_capacity old.waiting = subst (λ k. vec_len old.waiting + k ≤ vec_capacity old.waiting) long inv.2 in
    let its : Fits send = subst (All Fits) step all 0 send (omega arith) in (
      posted_more (λ q. box_of first.keys first.boxes q) (λ q. box_of old.keys old.boxes q)
          (λ q. box_of new.keys new.boxes q) c.loop-send.yielded send inv.0 c.post.ensures.at c.post.ensures.others,
      append_assoc c.loop-send.yielded (send ∷ []) later ∙ ap (λ l. c.loop-send.yielded ++ l) (sym step) ∙ inv.1,
      (c.post.ensures.room n (room, its)).0,
      room_left (λ q. box_of old.keys old.boxes q) (λ q. box_of new.keys new.boxes q) send n
          (λ fits. (c.post.ensures.room n (room, fits)).1) c.post.ensures.others later (All-rest Fits send later rest step all),
    )
