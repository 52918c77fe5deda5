-- Standings of a client, one at each of its servers.
use Rattle.std.specs.Prelude.{ℕ, ◌+◌, ◌-◌, ◌^◌, min, Bool, true, false, ◌&&◌, nat_lt, max}
use Rattle.std.specs.Prelude.{if◌then◌else◌}
use Rattle.std.specs.Prelude.{List, [], ◌∷◌, length, replicate, slice_index_or, slice_set, Option}
use Rattle.std.specs.Prelude.{Some, None, nat_le, not, ◌==◌}
use Rattle.linda_wire.specs.declared.message.Message.{Message}
use Rattle.linda_wire.specs.declared.message.Message.TheVariants as message
use Rattle.linda_wire.specs.declared.reply.Reply.{Reply}
use Rattle.linda_wire.specs.declared.reply.Reply.TheVariants as reply
use Rattle.linda_call.specs.Numbers.{answered_in}
use Rattle.linda_call.specs.declared.calling.standing.Meeting.{Meeting}
use Rattle.linda_call.specs.declared.calling.standing.Meeting.TheVariants.{Known, Restored, InUse}
use Rattle.linda_call.specs.declared.calling.standing.ServerStanding.{ServerStanding}
use Rattle.linda_call.specs.declared.calling.standing.AwaitedReply.{AwaitedReply}
use Rattle.linda_call.specs.declared.calling.standing.AwaitedReply.TheVariants as wants

-- a server that was not met yet
abbrev pub unmet : ServerStanding
unmet = record {
  is_met = false;
  base = 0;
  kept = 0;
  sent = 0;
  wants = wants.Nothing;
  asked_again = false;
}

-- so many of them
abbrev pub all_unmet : ℕ → List ServerStanding
all_unmet n = replicate n unmet

-- the first that was not met, of those that are numbered from this number on, by numbers of 32 bits
abbrev pub first_unmet : ℕ → List ServerStanding → Option ℕ
first_unmet server [] = None
first_unmet server (s ∷ rest) =
    if s.is_met then first_unmet (min (server + 1) (2 ^ 32 - 1)) rest else Some server

-- the client's standing with the server of this number, or that with one that was not met if there
-- is none
abbrev pub standing_at : List ServerStanding → ℕ → ServerStanding
standing_at standings server =
    if nat_lt server (length standings) then slice_index_or standings server unmet else unmet

-- the standings, with this one for the server of this number, if there is one
abbrev pub with_standing : List ServerStanding → ℕ → ServerStanding → List ServerStanding
with_standing standings server s =
    if nat_lt server (length standings) then slice_set standings server s else standings

-- it is sent this message, by its own numbers
abbrev pub sent_on : Message → ServerStanding → ServerStanding
sent_on (message.Hello version client fresh) s = s
sent_on (message.Out n tuple) s = record s { sent = max s.sent n; wants = wants.Stored }
sent_on (message.Ask ticket remove template) s = s
sent_on (message.Accept n ticket id) s = record s { sent = max s.sent n; wants = wants.Taken id }
sent_on (message.Cancel ticket) s = s
sent_on (message.Leave n) s = record s { sent = max s.sent n; wants = wants.Left }

-- it has answered this number: nothing is unanswered there once that is the last one it was sent
abbrev pub answered : ServerStanding → Option ℕ → ServerStanding
answered s None = s
answered s (Some n) = record s {
  kept = max s.kept n;
  wants = if nat_lt n s.sent then s.wants else wants.Nothing;
}

-- the number after all that it answered or was sent, of the 64 bits that there are
abbrev pub next_number : ServerStanding → ℕ
next_number s = min (max s.kept s.sent + 1) (2 ^ 64 - 1)

-- It is sent a tuple beside the client, under its next number. The client, which hears nothing of
-- it, counts on after it.
abbrev pub put_beside : ServerStanding → ServerStanding
put_beside s = record s {
  base = min (s.base + 1) (2 ^ 64 - 1);
  sent = next_number s;
  wants = wants.Stored;
}

-- whether a reply can answer a message that is unanswered
abbrev pub fits : AwaitedReply → Reply → Bool
fits wants.Nothing r = true
fits wants.Stored (reply.Stored n id) = true
fits wants.Stored r = false
fits (wants.Taken wanted) (reply.Taken n id tuple) = id == wanted
fits (wants.Taken wanted) (reply.Gone n) = true
fits (wants.Taken wanted) r = false
fits wants.Left (reply.Left n) = true
fits wants.Left r = false

-- whether this number is that of a message that is unanswered
abbrev pub is_unanswered : ServerStanding → Option ℕ → Bool
is_unanswered s None = false
is_unanswered s (Some n) = nat_lt s.kept n && nat_le n s.sent

-- whether a reply answers the number of an unanswered message, and cannot answer the message
abbrev pub is_foreign : ServerStanding → Reply → Bool
is_foreign s r = is_unanswered s (answered_in r) && not (fits s.wants r)

-- it welcomes the client with this number
abbrev pub welcomed : Bool → ℕ → ServerStanding → ServerStanding
welcomed goes_on last s = if s.is_met then s
    else record s { is_met = true; kept = last; base = if goes_on then last else s.base }

-- What it comes to that it welcomes the client with this number, if it was met before: the number
-- is lower than the last one it answered, or higher than the last one it answered or was sent.
abbrev pub meeting : ℕ → ServerStanding → Meeting
meeting last s = if not s.is_met then Known
    else if nat_lt last s.kept then Restored
    else if nat_lt (max s.kept s.sent) last then InUse else Known

-- nothing was asked for there again
abbrev pub settled : ServerStanding → ServerStanding
settled s = record s { asked_again = false }
