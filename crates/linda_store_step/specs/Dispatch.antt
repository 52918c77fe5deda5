-- Dispatch of a tuple that is new or free again, of one whose request is given up, and of all that
-- a client asked.
use Rattle.std.specs.Prelude.{ℕ, List, [], ◌∷◌, ◌++◌, map, Option, Some, None, option_to_list}
use Rattle.std.specs.Prelude.{if◌then◌else◌}
use Rattle.std.specs.FinMap as maps
use Rattle.linda_tuple.specs.Tuple.{Tuple}
use Rattle.linda_hold.specs.declared.request.Request.{Request}
use Rattle.linda_hold.specs.Waits.{Wait, is_waiting, readers, without_readers, longest, without}
use Rattle.linda_hold.specs.Waits.{without_client}
use Rattle.linda_hold.specs.Holds.{held_in}
use Rattle.linda_wire.specs.declared.reply.Reply.{Reply}
use Rattle.linda_wire.specs.declared.reply.Reply.TheVariants as replies
use Rattle.linda_store_step.specs.Soft.{Soft, Bagged}

-- what is sent, each reply to a client, in order; and the holds and waits after it
pub record Sends : Type 0 where
  pub sends : List (ℕ × Reply)
  pub soft : Soft

-- nothing is sent, and the holds and waits are these
abbrev pub no_sends : Soft → Sends
no_sends soft = record { sends = []; soft = soft }

-- a tuple as the answer to a read that waited
abbrev pub read_to : ℕ → Tuple → Wait → ℕ × Reply
read_to id row w = (w.0.client, replies.Read w.0.ticket id row)

-- a tuple as the offer to an input that waited
abbrev pub offer_to : ℕ → Tuple → Wait → ℕ × Reply
offer_to id row w = (w.0.client, replies.Offer w.0.ticket id row)

-- the tuple is held for this wait, which ends it, or for nobody
abbrev pub held_for : ℕ → Option Wait → Soft → Soft
held_for id None soft = soft
held_for id (Some w) soft =
    record { holds = maps.insert soft.holds id w.0; waits = without w.0 soft.waits }

-- A tuple is new or free: each waiting read that it matches is answered, in order of arrival, and
-- waits no longer; then it is offered to the longest waiting input that it matches, and held for
-- it.
abbrev pub dispatch : ℕ → Tuple → Soft → Sends
dispatch id row soft = record {
  sends =
      map (read_to id row) (readers row soft.waits)
      ++ map (offer_to id row) (option_to_list (longest row soft.waits));
  soft =
      held_for id (longest row soft.waits)
      (record { holds = soft.holds; waits = without_readers row soft.waits });
}

-- the tuple under this id, if the bag has it, is held no longer, and is free
abbrev pub release_tuple : ℕ → Option Tuple → Soft → Sends
release_tuple id None soft = no_sends soft
release_tuple id (Some row) soft =
    dispatch id row (record { holds = maps.remove soft.holds id; waits = soft.waits })

-- The hold of a tuple is released.
abbrev pub release : Bagged → ℕ → Soft → Sends
release bag id soft = release_tuple id (maps.get bag id) soft

-- what is held for a request, if something is, is released
abbrev pub release_if : Bagged → Option ℕ → Soft → Sends
release_if bag None soft = no_sends soft
release_if bag (Some id) soft = release bag id soft

-- A request is given up, given what is held for it: it waits no longer, or what was held for it is
-- released.
abbrev pub on_cancel : Bagged → Request → Option ℕ → Soft → Sends
on_cancel bag request held soft =
    if is_waiting request soft.waits
    then no_sends (record { holds = soft.holds; waits = without request soft.waits })
    else release_if bag held soft

-- one after the other
abbrev pub sends_then : Sends → (Soft → Sends) → Sends
sends_then first next =
    record { sends = first.sends ++ (next first.soft).sends; soft = (next first.soft).soft }

-- Holds are released one after the other.
abbrev pub release_all : Bagged → List ℕ → Soft → Sends
release_all bag [] soft = no_sends soft
release_all bag (id ∷ ids) soft = sends_then (release bag id soft) (release_all bag ids)

-- All that a client asked is given up: first its waits, then its holds by rising id.
abbrev pub on_close : Bagged → ℕ → Soft → Sends
on_close bag client soft =
    release_all bag (held_in client (maps.entries soft.holds))
    (record { holds = soft.holds; waits = without_client client soft.waits })
