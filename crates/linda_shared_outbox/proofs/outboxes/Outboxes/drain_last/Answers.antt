-- The client that was listed last is in the list no more, and nothing waits for it.
use Rattle.std.proofs.Common.{◌≡◌, ◌++◌, ◌∷◌, [], sym, ap, ◌∙◌, nat_cmp}
use Rattle.std.specs.BTreeMap as tree
use Rattle.slab.specs.Slab as slab
use Rattle.linda_shared_outbox.specs.Boxes.{shown, is_heard, stands_in, taken_out, unlisted}
use Rattle.linda_shared_outbox.proofs.BoxLaws.{heard_after, heard_unlisted, heard_without, owned_at, stands_still}
use Rattle.linda_shared_outbox.proofs.outboxes.Outboxes.drain_last.Goals as goal

pub invariant_of-self-in-Some-clause-heard : goal.invariant_of-self-in-Some-clause-heard
invariant_of-self-in-Some-clause-heard c =
    let s = c.args.self.now in
    let client = c.in_ok-client.client in
    let key = c.in-Some.key in
    let xs = c.pop.new.self.items in
    let list : s.waiting.items ≡ xs ++ client ∷ [] = c.in_ok-client.ensures.items in
    let at : shown (slab.get c.unlist.new.boxes key) ≡ unlisted (taken_out (shown (slab.get s.boxes key))) =
    c.unlist.ensures.at ∙ ap unlisted c.take_out-replies.ensures.at in
    heard_after (λ q. tree.get nat_cmp s.keys q) (λ k. slab.get s.boxes k) (λ k. slab.get c.unlist.new.boxes k) client key (sym c.in-Some.ensures)
    (λ k differs. c.unlist.ensures.others k differs ∙ c.take_out-replies.ensures.others k differs)
    s.waiting.items xs s.apart s.heard
    (λ was. ap (is_heard xs client) at ∙ heard_unlisted client xs (shown (slab.get s.boxes key)))
    (λ q differs is. stands_still q client differs xs (ap (stands_in q) (sym list) ∙ is))

pub invariant_of-self-in-None-clause-heard : goal.invariant_of-self-in-None-clause-heard
invariant_of-self-in-None-clause-heard c =
    let s = c.args.self.now in
    let client = c.in_ok-client.client in
    let xs = c.pop.new.self.items in
    let list : s.waiting.items ≡ xs ++ client ∷ [] = c.in_ok-client.ensures.items in
    heard_without (λ q. tree.get nat_cmp s.keys q) (λ k. slab.get s.boxes k) client s.waiting.items xs (sym c.in-None.ensures) s.heard
    (λ q differs is. stands_still q client differs xs (ap (stands_in q) (sym list) ∙ is))

pub invariant_of-self-in-Some-clause-owned : goal.invariant_of-self-in-Some-clause-owned
invariant_of-self-in-Some-clause-owned c =
    let s = c.args.self.now in
    owned_at (λ q. tree.get nat_cmp s.keys q) (λ k. slab.get s.boxes k)
    (λ k. slab.get c.unlist.new.boxes k) c.in_ok-client.client c.in-Some.key (sym c.in-Some.ensures)
    (λ k differs. c.unlist.ensures.others k differs ∙ c.take_out-replies.ensures.others k differs) s.owned
