-- A server whose disks came back as they were, and its copy of the clients, is the same server.
use Rattle.std.proofs.Common.{◌≡◌, true, false, [], Option, refl, subst, ap}
use Rattle.std.proofs.Props.{props}
use Rattle.linda_disk.specs.declared.disk.Disk.{Ghosts}
use Rattle.linda_journal.specs.declared.bank.Bank.{Bank}
use Rattle.linda_server.specs.declared.disks.Disks.{Disks}
use Rattle.linda_server.specs.declared.durable.Durable.{Durable}
use Rattle.linda_server.specs.Pairs.{PairsNow}
use Rattle.linda_server.specs.Disks.{is_there}
use Rattle.linda_server.specs.Next.{IsNextFor}
use Rattle.linda_snap.specs.declared.book_copy.BookCopy.{BookCopy}
use Rattle.linda_snap.specs.BookCopy.{IsCopyFor}
use Rattle.linda_server.specs.Calls.{IsLimit, IsWithOrWithout}
use Rattle.linda_server.specs.Server.{both_of, is_usable, limit_in_use, BothHonest, IsKeptFor}

module _ (D : Type 0) (g : Ghosts D) (s : Durable D g) where
  -- What the type keeps, of these disks and this copy.
  pub record Keeps (disks : Disks (Bank D g) D) (copy : Option BookCopy) : Type 0 where
    pub there : is_there disks ≡ true
    pub bounded : IsLimit s.limit
    pub live : s.down ≡ false → s.store.is_spent ≡ false
    pub ready : s.down ≡ false → is_usable disks ≡ true
    pub limited : s.down ≡ false → limit_in_use disks ≡ s.limit
    pub none_lost : s.down ≡ false → s.lost.items ≡ []
    pub kept : s.down ≡ false → ∥ IsKeptFor disks s.store.state ∥₁
    pub begun : s.down ≡ false → ∥ IsNextFor s.next disks s.store.state ∥₁
    pub copied : s.down ≡ false → ∥ IsCopyFor copy s.store.state.book ∥₁
    pub fallen : s.down ≡ true → BothHonest disks → PairsNow (both_of disks) (IsWithOrWithout s.before.value s.lost.items)

  abbrev pub with_disks : (disks : Disks (Bank D g) D) (copy : Option BookCopy) → Keeps disks copy → Durable D g
  with_disks disks copy k = record {
    store = s.store;
    disks = disks;
    limit = s.limit;
    down = s.down;
    before = s.before;
    lost = s.lost;
    next = s.next;
    copy = copy;
    there = k.there;
    bounded = k.bounded;
    live = k.live;
    ready = k.ready;
    limited = k.limited;
    none_lost = k.none_lost;
    kept = k.kept;
    begun = k.begun;
    copied = k.copied;
    fallen = k.fallen;
  }

  -- It is kept in one way.
  one_way : (disks : Disks (Bank D g) D) (copy : Option BookCopy) → IsProp (Keeps disks copy)
  one_way disks copy k l = λ i. record {
    there = one k.there l.there i;
    bounded = one_limit k.bounded l.bounded i;
    live = one_live k.live l.live i;
    ready = one_ready k.ready l.ready i;
    limited = one_limited k.limited l.limited i;
    none_lost = one_lost k.none_lost l.none_lost i;
    kept = one_kept k.kept l.kept i;
    begun = one_begun k.begun l.begun i;
    copied = one_copied k.copied l.copied i;
    fallen = one_fallen k.fallen l.fallen i;
  }
    where
      one : IsProp (is_there disks ≡ true)
      one = hlevel props

      one_limit : IsProp (IsLimit s.limit)
      one_limit = hlevel props

      one_live : IsProp (s.down ≡ false → s.store.is_spent ≡ false)
      one_live = hlevel props

      one_ready : IsProp (s.down ≡ false → is_usable disks ≡ true)
      one_ready = hlevel props

      one_limited : IsProp (s.down ≡ false → limit_in_use disks ≡ s.limit)
      one_limited = hlevel props

      one_lost : IsProp (s.down ≡ false → s.lost.items ≡ [])
      one_lost = hlevel props

      one_kept : IsProp (s.down ≡ false → ∥ IsKeptFor disks s.store.state ∥₁)
      one_kept = hlevel props

      one_begun : IsProp (s.down ≡ false → ∥ IsNextFor s.next disks s.store.state ∥₁)
      one_begun = hlevel props

      one_copied : IsProp (s.down ≡ false → ∥ IsCopyFor copy s.store.state.book ∥₁)
      one_copied = hlevel props

      one_fallen : IsProp (s.down ≡ true → BothHonest disks → PairsNow (both_of disks) (IsWithOrWithout s.before.value s.lost.items))
      one_fallen = hlevel props

  abbrev kept_here : Keeps s.disks s.copy
  kept_here = record {
    there = s.there;
    bounded = s.bounded;
    live = s.live;
    ready = s.ready;
    limited =
        s.limited;
    none_lost = s.none_lost;
    kept = s.kept;
    begun = s.begun;
    copied = s.copied;
    fallen = s.fallen;
  }

  -- With the same disks and the same copy it is the same server.
  pub same_with : (disks : Disks (Bank D g) D) (copy : Option BookCopy) → s.disks ≡ disks → s.copy ≡ copy → (k : Keeps disks copy) → with_disks disks copy k ≡ s
  same_with disks copy here there =
      subst (λ q. (k : Keeps disks q) → with_disks disks q k ≡ s) there
      (subst (λ d. (k : Keeps d s.copy) → with_disks d s.copy k ≡ s) here (λ k. ap (with_disks s.disks s.copy) (one_way s.disks s.copy k kept_here)))

  pub same_server : (disks : Disks (Bank D g) D) → s.disks ≡ disks → (k : Keeps disks s.copy) → with_disks disks s.copy k ≡ s
  same_server disks same = same_with disks s.copy same refl
