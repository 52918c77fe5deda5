use Rattle.std.proofs.Common.{◌≡◌, ℕ, ◌∷◌, [], ap, refl, ◌∙◌}
use Rattle.linda_wire.specs.Refusal.{refused}
use Rattle.linda_shared_outbox.specs.Waiting.{waits_for}
use Rattle.linda_shared_outbox.specs.Replies.{replies_to, with_more}
use Rattle.linda_shared_held.proofs.AloneLaws.{refusal_covered}
use Rattle.linda_shared_held.proofs.FaultLaws.{fallen_still}
use Rattle.linda_shared_held.proofs.KeptLaws.{same_covered}
use Rattle.linda_shared_held.proofs.held.alone.turn_away.Goals as goal

pub returns-in-Ok : goal.returns-in-Ok
returns-in-Ok g c =
    let posted : (q : ℕ) → waits_for c.post_one.new.boxes q ≡ with_more (replies_to q ((c.args.client, refused c.args.refusal) ∷ []))
    (waits_for c.args.boxes.now q) = λ q. c.in-Ok.ensures.posted q
    ∙ ap (λ r. with_more (replies_to q ((c.args.client, r) ∷ [])) (waits_for c.args.boxes.now q)) c.reply.ensures in
    record {
      posted = posted;
      same = refl;
      err = tt;
      down = tt;
      fault = tt;
      still = (refl, λ up. up);
      covered = refusal_covered c.args.client c.args.refusal c.args.boxes.now c.post_one.new.boxes posted;
    }

pub returns-in-Err : goal.returns-in-Err
returns-in-Err g c =
    record {
      posted = tt;
      same = tt;
      err = c.in-Err.ensures.err;
      down = c.give_up.ensures.down;
      fault = refl;
      still = fallen_still c.args.server.now c.give_up.new.self c.give_up.ensures.down
          (λ down. ap (λ s. s.before.value) (c.give_up.ensures.was_down down)) (λ up. (c.give_up.ensures.up up).0);
      covered = same_covered c.args.boxes.now c.post_one.new.boxes c.in-Err.ensures.err;
    }
