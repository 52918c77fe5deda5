-- Messages of a connection that join the groups of their loop, and their answers.
use Rattle.std.specs.Prelude.{◌≡◌, ◌⊎◌, ℕ, nat_lt, Bool, ◌&&◌, if◌then◌else◌, ◌∷◌, [], ◌++◌}
use Rattle.std.specs.Prelude.{length, List, Option, Some, None}
use Rattle.linda_wire.specs.declared.message.Message.{Message}
use Rattle.linda_net_session.specs.declared.phase.Way.TheVariants as ways
use Rattle.linda_net_session.specs.declared.route.Route.{Route}
use Rattle.linda_net_session.specs.declared.route.Route.TheVariants as routes
use Rattle.linda_net_session.specs.Session.{Session}
use Rattle.linda_net_session.specs.Between.{TakesOne}
use Rattle.linda_net_loops.specs.declared.groups.LoopCall.{LoopCall}
use Rattle.linda_net_loops.specs.declared.groups.LoopCall.TheVariants as calls
use Rattle.linda_shared_accounts.specs.Account.{Account}
use Rattle.linda_shared_accounts.specs.declared.limits.TheConstants.{MOST_ASKED}
use Rattle.linda_shared.specs.Group.{MessageGroup, group_of}

-- Whether a message of the account may join: fewer of it are on their way than may be, and the
-- group has room.
abbrev pub may_join : Account → MessageGroup ℕ → Bool
may_join a group = nat_lt a.asked MOST_ASKED && nat_lt (length group.messages) group.room

-- The group once a message was given to it: if it may join it is after the others, as one of the
-- account's client, and its answer comes back with the key. Without an account nothing joins.
abbrev pub joined : Option Account → ℕ → Message → MessageGroup ℕ → MessageGroup ℕ
joined (Some a) key m group =
    if may_join a group
    then group_of group.room (group.messages ++ (a.client, m) ∷ []) (group.addresses ++ key ∷ [])
    else group
joined None key m group = group

-- The groups of a loop: messages of which no deed comes, and all others.
pub record Groups : Type 0 where
  pub asking : MessageGroup ℕ
  pub doing : MessageGroup ℕ

abbrev pub groups_of : MessageGroup ℕ → MessageGroup ℕ → Groups
groups_of asking doing = record { asking = asking; doing = doing }

-- The groups once a message was given to them: it joins that of its way, and no other.
abbrev pub joined_by_way : Route → Option Account → ℕ → Message → Groups → Groups
joined_by_way routes.Greet a key m groups = groups
joined_by_way routes.Busy a key m groups = groups
joined_by_way (routes.Goes ways.Asks) a key m groups =
    groups_of (joined a key m groups.asking) groups.doing
joined_by_way (routes.Goes ways.Deeds) a key m groups =
    groups_of groups.asking (joined a key m groups.doing)
joined_by_way routes.Keep a key m groups = groups

-- A message that the session took was given to the groups, with the way that the session says; or
-- it took none, and they are as they were.
abbrev pub TakesFrom : Option Account → ℕ → Session → Session → Groups → Groups → Type 0
TakesFrom a key old new groups after =
    ((m : Message) × ((route : Route) × (TakesOne old m route new
    × (after ≡ joined_by_way route a key m groups))))
    ⊎ ((new.taken ≡ old.taken) × (after ≡ groups))

-- The calls once a message was given to them: one that greets is the last of them, as it was taken,
-- unless memory ran out; no other message is among them.
abbrev pub IsCalled : Route → ℕ → Message → List LoopCall → List LoopCall → Type 0
IsCalled routes.Greet key m old new = (new ≡ old ++ calls.Greet key m ∷ []) ⊎ (new ≡ old)
IsCalled routes.Busy key m old new = new ≡ old
IsCalled (routes.Goes way) key m old new = new ≡ old
IsCalled routes.Keep key m old new = new ≡ old

-- The same of the message that the session took, if it took one.
abbrev pub CallsFrom : ℕ → Session → Session → List LoopCall → List LoopCall → Type 0
CallsFrom key old new before after =
    ((m : Message) × ((route : Route) × (TakesOne old m route new
    × IsCalled route key m before after)))
    ⊎ ((new.taken ≡ old.taken) × (after ≡ before))
