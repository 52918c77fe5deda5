-- The new key is that of an empty box which was free.
use Rattle.std.proofs.Common.{◌≡◌, ◌≢◌, ℕ, Option, None, sym, ap, ◌∙◌, nat_cmp, rules}
use Rattle.std.specs.BTreeMap as tree
use Rattle.slab.specs.Slab as slab
use Rattle.linda_shared_outbox.specs.Boxes.{shown, is_heard, is_none_left}
use Rattle.linda_shared_outbox.specs.declared.outbox.Outbox.{Outbox}
use Rattle.linda_shared_outbox.proofs.BoxLaws.{apart_with, heard_with, owned_with, has_no_key, is_other, get_same}
use Rattle.linda_shared_outbox.proofs.BoxLaws.{still_taken, still_owned, still_apart, still_heard_of}
use Rattle.linda_shared_outbox.proofs.outboxes.Outboxes.open.Goals as goal

pub invariant_of-self-2 : goal.invariant_of-self-2
invariant_of-self-2 c =
    let s = c.args.self.now in
    let client = c.args.client in
    let key = c.vacant_key-key.result in
    let boxes = c.insert_reserved.new.self in
    let updates = c.in_ok-insert.ensures.updates in
    let kept : c.reserve.new.self ≡ record s.boxes { capacity = c.reserve.new.self.capacity } = c.reserve.ensures.rest_kept in
    let same : c.insert_reserved.result ≡ key = c.insert_reserved.ensures.key ∙ sym c.vacant_key-key.ensures.value in
    let find : ℕ → Option ℕ = λ q. tree.get nat_cmp s.keys q in
    let now : ℕ → Option ℕ = λ q. tree.get nat_cmp c.insert.new.self q in
    let old : ℕ → Option Outbox = λ k. slab.get s.boxes k in
    let new : ℕ → Option Outbox = λ k. slab.get boxes k in
    let moved : (q : ℕ) → q ≢ client → now q ≡ find q = λ q differs. updates.2 q (is_other client q differs) in
    let free : old key ≡ None = ap (λ b. slab.get b key) (sym kept) ∙ c.vacant_key-key.ensures.vacant in
    let others : (k : ℕ) → k ≢ key → new k ≡ old k =
    λ k differs. c.insert_reserved.ensures.updates.others k (λ e. differs (e ∙ same)) ∙ ap (λ b. slab.get b k) kept in
    record {
      taken = search rules;
      owned = owned_with find now old new client key (has_no_key find old client s.taken (sym c.has.ensures ∙ c.if-has.false)) updates.1 moved others s.owned;
      apart = apart_with find now old new client key updates.1 moved free others s.taken s.apart;
      heard = heard_with find now old new client key updates.1 moved free others s.waiting.items
          (ap (λ o. is_heard s.waiting.items client (shown o)) (ap (slab.get boxes) (sym same) ∙ c.insert_reserved.ensures.updates.changed)
          ∙ ap is_none_left c.new.ensures.items)
          s.taken s.heard;
    }

pub invariant_of-self-in-Break-branch-2 : goal.invariant_of-self-in-Break-branch-2
invariant_of-self-in-Break-branch-2 c =
    let s = c.args.self.now in
    let keys = c.insert.new.self in
    let boxes = c.reserve.new.self in
    let kept : boxes ≡ record s.boxes { capacity = boxes.capacity } = c.reserve.ensures.rest_kept in
    let find : ℕ → Option ℕ = λ q. tree.get nat_cmp s.keys q in
    let now : ℕ → Option ℕ = λ q. tree.get nat_cmp keys q in
    let old : ℕ → Option Outbox = λ k. slab.get s.boxes k in
    let new : ℕ → Option Outbox = λ k. slab.get boxes k in
    let same : (q : ℕ) → now q ≡ find q = λ q. get_same s.keys keys c.in_err-insert.ensures.err q in
    let still : (k : ℕ) → new k ≡ old k = λ k. ap (λ b. slab.get b k) kept in
    record {
      taken = still_taken find now old new same still s.taken;
      owned = still_owned find now old new same still s.owned;
      apart = still_apart find now old new same still s.apart;
      heard = still_heard_of find now old new same still s.waiting.items s.heard;
    }
