-- The client is listed, and there is room for one less.
use Rattle.std.proofs.Common.{◌≡◌, ◌+◌, ◌++◌, ◌∷◌, [], sym, ap, ◌∙◌, subst, nat_cmp, arith}
use Rattle.std.specs.BTreeMap as tree
use Rattle.slab.specs.Slab as slab
use Rattle.linda_shared_outbox.specs.Boxes.{under, shown, is_heard, stands_in, TakesMore, posted}
use Rattle.linda_shared_outbox.proofs.BoxLaws.{heard_after, heard_posted, owned_at, stands_before}
use Rattle.linda_shared_outbox.proofs.outboxes.Outboxes.post.Goals as goal

pub invariant_of-self-clause-heard : goal.invariant_of-self-clause-heard
invariant_of-self-clause-heard c =
    let s = c.args.self.now in
    let client = c.args.client in
    let key = c.in-Some.key in
    let ws = s.waiting.items in
    let xs = c.push_reserved.new.self.items in
    let list : xs ≡ ws ++ client ∷ [] = c.push_reserved.ensures.items in
    heard_after (λ q. tree.get nat_cmp s.keys q) (λ k. slab.get s.boxes k) (λ k. slab.get c.put.new.boxes k) client key (sym c.in-Some.ensures)
    c.put.ensures.others ws xs s.apart s.heard
    (λ was. ap (is_heard xs client) c.put.ensures.at ∙ ap (λ l. is_heard l client (posted c.args.reply (shown (slab.get s.boxes key)))) list
    ∙ heard_posted client ws c.args.reply (shown (slab.get s.boxes key)))
    (λ q differs is. ap (stands_in q) list ∙ stands_before q client ws is)

pub returns-then-put-clause-room : goal.returns-then-put-clause-room
returns-then-put-clause-room c = λ n room.
    let s = c.args.self.now in (
      omega (arith, room.0, c.push_reserved.ensures.len, c.push_reserved.ensures.capacity),
      subst (λ o. TakesMore n (under c.put.new.boxes o)) c.in-Some.ensures
          (c.put.ensures.room n (subst (λ o. TakesMore (n + 1) (under s.boxes o)) (sym c.in-Some.ensures) room.1)),
    )

pub returns-else-put-clause-room : goal.returns-else-put-clause-room
returns-else-put-clause-room c = λ n room.
    let s = c.args.self.now in (
      omega (arith, room.0),
      subst (λ o. TakesMore n (under c.put.new.boxes o)) c.in-Some.ensures
          (c.put.ensures.room n (subst (λ o. TakesMore (n + 1) (under s.boxes o)) (sym c.in-Some.ensures) room.1)),
    )

pub invariant_of-self-clause-owned : goal.invariant_of-self-clause-owned
invariant_of-self-clause-owned c =
    let s = c.args.self.now in
    owned_at (λ q. tree.get nat_cmp s.keys q) (λ k. slab.get s.boxes k)
    (λ k. slab.get c.put.new.boxes k) c.args.client c.in-Some.key (sym c.in-Some.ensures) c.put.ensures.others s.owned
