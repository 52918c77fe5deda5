-- What a close sends is posted; or the server is given up.
use Rattle.std.proofs.Common.{◌∙◌, ap, ℕ, List, subst, sym, refl, true≢false}
use Rattle.linda_shared_outbox.specs.Waiting.{waits_for, HasPlaces}
use Rattle.linda_shared_outbox.specs.Replies.{with_more, replies_to}
use Rattle.linda_wire.specs.declared.reply.Reply.{Reply}
use Rattle.linda_shared_held.specs.Posted.{HasClosed}
use Rattle.linda_shared_held.proofs.CoveredLaws.{close_keeps}
use Rattle.linda_shared_held.proofs.FaultLaws.{fallen_still, still_both}
use Rattle.linda_shared_held.proofs.KeptLaws.{same_covered}
use Rattle.linda_shared_held.proofs.held.leave.close_and_post.Goals as goal

pub returns-in_default : goal.returns-in_default
returns-in_default g c =
    let mid = c.close_client.new.server in
    let new = c.give_up.new.self in
    let closes = c.in_ok-sends.ensures in
    let up = closes.falls.up in
    let same = c.give_up.ensures.same in
    record {
      done = tt;
      state = tt;
      falls = record { up = tt; down = c.give_up.ensures.down; first = λ down. absurd (true≢false (sym down ∙ up.0)); fault = refl };
      disks = (same.1 ∙ closes.disks.0, same.2 ∙ closes.disks.1);
      err = c.make_places.ensures.same;
      still = still_both c.args.server.now mid new closes.still
          (fallen_still mid new c.give_up.ensures.down (λ down. absurd (true≢false (sym down ∙ up.1))) (λ up. (c.give_up.ensures.up up).0));
      covered = same_covered c.args.boxes.now c.make_places.new.self c.make_places.ensures.same;
    }

pub post_all-requires : goal.post_all-requires
post_all-requires g c =
    let P : List (ℕ × Reply) → Type 0 = λ l. HasPlaces c.make_places.new.self l in
    subst P c.deref.ensures.value c.in-Ok.ensures.room

pub returns : goal.returns
returns g c =
    let old = c.args.server.now.store in
    let sends = c.in_ok-sends.sends.items in
    let closes = c.in_ok-sends.ensures in
    let posts : HasClosed old.state.bag c.args.client old.soft (λ q. waits_for c.args.boxes.now q)
    (λ q. waits_for c.post_all.new.self q) c.close_client.new.server.store.soft =
    record {
      sends = sends;
      closed = closes.done;
      posted_is = λ q. c.post_all.ensures q
          ∙ ap (with_more (replies_to q sends)) (c.make_places.ensures.same q);
    } in
    record {
      done = posts;
      state = closes.state;
      falls = record { up = closes.falls.up; down = tt; first = λ down. absurd (true≢false (sym down ∙ closes.falls.up.0)); fault = tt };
      disks = closes.disks;
      err = tt;
      still = closes.still;
      covered = close_keeps c.args.boxes.now c.post_all.new.self posts;
    }
