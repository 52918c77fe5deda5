-- The client has no key, and the others have theirs.
use Rattle.std.proofs.Common.{◌≡◌, ◌≢◌, ℕ, Option, Some, refl, sym, nat_cmp, rules}
use Rattle.std.specs.BTreeMap as tree
use Rattle.slab.specs.Slab as slab
use Rattle.linda_shared_outbox.specs.declared.outbox.Outbox.{Outbox}
use Rattle.linda_shared_outbox.proofs.BoxLaws.{apart_without, heard_gone, owned_without, is_other, get_same}
use Rattle.linda_shared_outbox.proofs.BoxLaws.{still_taken, still_owned, still_apart, still_heard_of}
use Rattle.linda_shared_outbox.proofs.outboxes.Outboxes.shut.Goals as goal

pub invariant_of-self : goal.invariant_of-self
invariant_of-self c =
    let s = c.args.self.now in
    let client = c.args.client in
    let key = c.in-Some.key in
    let find : ℕ → Option ℕ = λ q. tree.get nat_cmp s.keys q in
    let now : ℕ → Option ℕ = λ q. tree.get nat_cmp c.remove.new.self q in
    let old : ℕ → Option Outbox = λ k. slab.get s.boxes k in
    let new : ℕ → Option Outbox = λ k. slab.get c.try_remove.new.self k in
    let found : find client ≡ Some key = sym c.in-Some.ensures.value in
    let gone = c.remove.ensures.updates.1 in
    let same : (q : ℕ) → q ≢ client → now q ≡ find q = λ q differs. c.remove.ensures.updates.2 q (is_other client q differs) in
    let freed = c.try_remove.ensures.updates in
    record {
      taken = search rules;
      owned = owned_without find now old new client key found freed.changed same freed.others s.owned;
      apart = apart_without find now client gone same s.apart;
      heard = heard_gone find now client gone same old new key found freed.others s.waiting.items s.apart s.heard;
    }

pub invariant_of-self-in_default : goal.invariant_of-self-in_default
invariant_of-self-in_default c =
    let s = c.args.self.now in
    let keys = c.remove.new.self in
    let find : ℕ → Option ℕ = λ q. tree.get nat_cmp s.keys q in
    let now : ℕ → Option ℕ = λ q. tree.get nat_cmp keys q in
    let at : ℕ → Option Outbox = λ k. slab.get s.boxes k in
    let same : (q : ℕ) → now q ≡ find q = λ q. get_same s.keys keys c.in_default.ensures.unchanged q in
    record {
      taken = still_taken find now at at same (λ k. refl) s.taken;
      owned = still_owned find now at at same (λ k. refl) s.owned;
      apart = still_apart find now at at same (λ k. refl) s.apart;
      heard = still_heard_of find now at at same (λ k. refl) s.waiting.items s.heard;
    }
