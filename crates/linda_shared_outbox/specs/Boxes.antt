-- Outboxes in a slab, each under a key of its own, and what is seen of one.
use Rattle.std.specs.Prelude.{◌≡◌, ℕ, ◌+◌, ◌≤◌, ◌==◌, Bool, true, false, List, [], ◌∷◌, ◌++◌}
use Rattle.std.specs.Prelude.{Option, Some, None, is_some, vec_len, vec_capacity, if◌then◌else◌}
use Rattle.std.specs.Ordering.{nat_cmp}
use Rattle.std.specs.BTreeMap as tree
use Rattle.slab.specs.Slab as slab
use Rattle.linda_wire.specs.declared.reply.Reply.{Reply}
use Rattle.linda_shared_outbox.specs.declared.outbox.Outbox.{Outbox}

-- The outbox of a client, if it has one.
abbrev pub under : slab.Slab Outbox → Option ℕ → Option Outbox
under boxes None = None
under boxes (Some key) = slab.get boxes key

abbrev pub box_of : tree.BTreeMap ℕ ℕ → slab.Slab Outbox → ℕ → Option Outbox
box_of keys boxes c = under boxes (tree.get nat_cmp keys c)

-- The replies in an outbox, if there is one.
abbrev pub replies_in : Option Outbox → Option (List Reply)
replies_in None = None
replies_in (Some o) = Some o.replies.items

-- The replies in an outbox, if there is one, and whether its client is in the list of those that
-- wait.
abbrev pub shown : Option Outbox → Option (List Reply × Bool)
shown None = None
shown (Some o) = Some (o.replies.items, o.is_listed)

-- One reply more, and the client is listed.
abbrev pub posted : Reply → Option (List Reply × Bool) → Option (List Reply × Bool)
posted r None = None
posted r (Some o) = Some (o.0 ++ r ∷ [], true)

-- No reply is left, and the client is listed as it was.
abbrev pub taken_out : Option (List Reply × Bool) → Option (List Reply × Bool)
taken_out None = None
taken_out (Some o) = Some ([], o.1)

-- The same replies, and the client is not listed.
abbrev pub unlisted : Option (List Reply × Bool) → Option (List Reply × Bool)
unlisted None = None
unlisted (Some o) = Some (o.0, false)

-- There is an outbox whose client is not listed.
abbrev pub is_unlisted : Option (List Reply × Bool) → Bool
is_unlisted None = false
is_unlisted (Some (rs, true)) = false
is_unlisted (Some (rs, false)) = true

-- There is room for so many more, if there is an outbox.
abbrev pub TakesMore : ℕ → Option Outbox → Type 0
TakesMore n None = Unit {0}
TakesMore n (Some o) = vec_len o.replies + n ≤ vec_capacity o.replies

-- The client is in the list.
abbrev pub stands_in : ℕ → List ℕ → Bool
stands_in c [] = false
stands_in c (w ∷ ws) = if w == c then true else stands_in c ws

abbrev pub is_none_left : List Reply → Bool
is_none_left [] = true
is_none_left (r ∷ rs) = false

-- A client whose outbox says that it is listed is in the list; for any other nothing waits.
abbrev pub is_heard : List ℕ → ℕ → Option (List Reply × Bool) → Bool
is_heard waiting c None = true
is_heard waiting c (Some (rs, true)) = stands_in c waiting
is_heard waiting c (Some (rs, false)) = is_none_left rs

-- Each key is taken.
abbrev pub AllTaken : tree.BTreeMap ℕ ℕ → slab.Slab Outbox → Type 0
AllTaken keys boxes =
    (c key : ℕ) → tree.get nat_cmp keys c ≡ Some key → is_some (slab.get boxes key) ≡ true

-- Each box is the outbox of a client.
abbrev pub AllOwned : tree.BTreeMap ℕ ℕ → slab.Slab Outbox → Type 0
AllOwned keys boxes =
    (key : ℕ) → is_some (slab.get boxes key) ≡ true
    → ∥ ((c : ℕ) × (tree.get nat_cmp keys c ≡ Some key)) ∥₁

-- No two clients have one key.
abbrev pub AreApart : tree.BTreeMap ℕ ℕ → Type 0
AreApart keys =
    (b c key : ℕ) → tree.get nat_cmp keys b ≡ Some key → tree.get nat_cmp keys c ≡ Some key → b ≡ c

-- Each client for which replies wait is in the list.
abbrev pub AllHeard : tree.BTreeMap ℕ ℕ → slab.Slab Outbox → List ℕ → Type 0
AllHeard keys boxes waiting = (c : ℕ) → is_heard waiting c (shown (box_of keys boxes c)) ≡ true
