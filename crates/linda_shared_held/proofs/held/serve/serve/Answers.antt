-- What was served is reported, kept and posted; or nothing is reported.
use Rattle.std.proofs.Common.{◌≡◌, ◌++◌, ℕ, List, length, refl, ap, ◌∙◌, subst, arith}
use Rattle.linda_wire.specs.declared.reply.Reply.{Reply}
use Rattle.linda_shared_outbox.specs.Waiting.{HasPlaces}
use Rattle.linda_shared_outbox.specs.Replies.{with_more, replies_to}
use Rattle.linda_shared_accounts.specs.Telling.{receipts_in}
use Rattle.linda_shared_held.proofs.KeptLaws.{serves_given_up, serves_told}
use Rattle.linda_shared_held.proofs.held.serve.serve.Goals as goal

pub returns-in_default : goal.returns-in_default
returns-in_default g c =
    let up = c.in_ok-served.ensures.up in
    serves_given_up c.args.messages.now c.in_ok-served.served c.take_all.new.server (record {
      up = up.0;
      serves = c.in_ok-served.ensures.done;
      down = c.give_up.ensures.down;
      before = (c.give_up.ensures.up up.1).0;
      receipts = c.make_room.ensures.items;
      boxes = λ q. refl;
    })

pub returns-in_default-make_places : goal.returns-in_default-make_places
returns-in_default-make_places g c =
    let up = c.in_ok-served.ensures.up in
    serves_given_up c.args.messages.now c.in_ok-served.served c.take_all.new.server (record {
      up = up.0;
      serves = c.in_ok-served.ensures.done;
      down = c.give_up-in_default-make_places.ensures.down;
      before = (c.give_up-in_default-make_places.ensures.up up.1).0;
      receipts = c.make_room.ensures.items;
      boxes = c.make_places.ensures.same;
    })

pub returns-in_default-keep_all : goal.returns-in_default-keep_all
returns-in_default-keep_all g c =
    let up = c.in_ok-served.ensures.up in
    serves_given_up c.args.messages.now c.in_ok-served.served c.take_all.new.server (record {
      up = up.0;
      serves = c.in_ok-served.ensures.done;
      down = c.give_up-in_default-keep_all.ensures.down;
      before = (c.give_up-in_default-keep_all.ensures.up up.1).0;
      receipts = c.in_default-keep_all.ensures.err ∙ c.make_room.ensures.items;
      boxes = c.make_places.ensures.same;
    })

pub keep_all-requires : goal.keep_all-requires
keep_all-requires g c =
    let counts = c.in_ok-served.served.counts.ok.0 in
    let as_many = c.in-Ok.ensures.each in
    let each = c.in_ok-served.ensures.each in
    let seen : length c.deref-2.result.now ≡ length c.in-Ok.told.items = ap length c.deref-2.ensures.value in
    let room = c.in_ok-make_room.ensures.room in
    omega (arith, counts, as_many, each, seen, room)

pub post_all-requires : goal.post_all-requires
post_all-requires g c =
    let P : List (ℕ × Reply) → Type 0 = λ l. HasPlaces c.make_places.new.self l in
    subst P c.deref.ensures.value c.in-Ok-make_places.ensures.room

pub returns : goal.returns
returns g c =
    let sends = c.in-Ok.sends.items in
    serves_told c.in_ok-served.served c.in-Ok.told sends (record {
      up = c.in_ok-served.ensures.up;
      serves = c.in_ok-served.ensures.done;
      tells = c.in-Ok.ensures.told;
      receipts = c.in-Ok-keep_all.ensures.kept
          ∙ (ap (λ l. c.make_room.new.receipts.items ++ receipts_in l) c.deref-2.ensures.value
          ∙ ap (λ l. l ++ receipts_in c.in-Ok.told.items) c.make_room.ensures.items);
      sends_are = ap (λ v. v.items) c.in-Ok.ensures.sends;
      posted_is = λ q. c.post_all.ensures q ∙ ap (with_more (replies_to q sends)) (c.make_places.ensures.same q);
    }) c.is_down.ensures.orderly.state_is c.in-Ok.ensures.each c.in_ok-served.ensures
