-- Ring of the puts that are under way together.
use Rattle.std.specs.Prelude.{ℕ, ◌+◌, ◌-◌, ◌==◌, Bool, true, false, ◌&&◌, nat_lt, nat_le}
use Rattle.std.specs.Prelude.{if◌then◌else◌, List, [], ◌∷◌, length, Option, Some, None, slice_get}
use Rattle.std.specs.Prelude.{option_and_then, option_map}
use Rattle.linda_tuple.specs.Tuple.{Tuple}
use Rattle.linda_wire.specs.declared.codes.TheConstants.{NUMBER_GAP}
use Rattle.linda_wire.specs.declared.message.Message.{Message}
use Rattle.linda_wire.specs.declared.message.Message.TheVariants.{Out}
use Rattle.linda_wire.specs.declared.reply.Reply.{Reply}
use Rattle.linda_wire.specs.declared.reply.Reply.TheVariants as reply
use Rattle.linda_net_proxy.specs.declared.server_events.ServerEvent.{ServerEvent}
use Rattle.linda_net_proxy.specs.declared.server_events.ServerEvent.TheVariants as arrival
use Rattle.linda_call.specs.declared.calling.ring.PutStatus.{PutStatus}
use Rattle.linda_call.specs.declared.calling.ring.PutStatus.TheVariants as fate
use Rattle.linda_call.specs.declared.calling.ring.PutEvent.{PutEvent}
use Rattle.linda_call.specs.declared.calling.ring.PutEvent.TheVariants as news
use Rattle.linda_call.specs.declared.calling.ring.Put.{Put}

-- the server whose turn it is after this one: the next of so many, and 0 after the last
abbrev pub turn_after : ℕ → ℕ → ℕ
turn_after servers server = if nat_le (servers - 1) server then 0 else server + 1

-- a tuple that was just put, under this number
abbrev pub new_put : ℕ → ℕ → Tuple → Put
new_put server number tuple =
    record { server = server; number = number; message = Out number tuple; fate = fate.Open }

-- whether a put is not answered
abbrev pub is_open : PutStatus → Bool
is_open fate.Open = true
is_open (fate.Stored id) = false
is_open fate.Lost = false
is_open (fate.Refused code detail) = false

-- whether a put waits: for an answer, or to be reported as refused
abbrev pub waits : PutStatus → Bool
waits fate.Open = true
waits (fate.Stored id) = false
waits fate.Lost = false
waits (fate.Refused code detail) = true

-- whether a put is not answered by its server, which is this one
abbrev pub is_open_at : ℕ → Put → Bool
is_open_at server p = is_open p.fate && (p.server == server)

-- whether a put waits at this server
abbrev pub waits_at : ℕ → Put → Bool
waits_at server p = waits p.fate && (p.server == server)

-- whether a reply says that messages before one are missing
abbrev pub is_gap_reply : Reply → Bool
is_gap_reply (reply.Welcome last) = false
is_gap_reply (reply.Stored n id) = false
is_gap_reply (reply.Offer ticket id tuple) = false
is_gap_reply (reply.Read ticket id tuple) = false
is_gap_reply (reply.Taken n id tuple) = false
is_gap_reply (reply.Gone n) = false
is_gap_reply (reply.Refused code detail) = code == NUMBER_GAP
is_gap_reply (reply.Left n) = false

-- whether a server says that messages before one are missing
abbrev pub is_gap : ServerEvent → Bool
is_gap (arrival.Greeted last) = false
is_gap (arrival.Came r) = is_gap_reply r
is_gap (arrival.Refused code detail) = false
is_gap arrival.NotAServer = false
is_gap arrival.NoConnection = false
is_gap arrival.Memory = false

-- what comes of puts by a reply
abbrev pub news_of : ℕ → Reply → Option PutEvent
news_of server (reply.Welcome last) = None
news_of server (reply.Stored n id) = Some (news.Stored server n id)
news_of server (reply.Offer ticket id tuple) = None
news_of server (reply.Read ticket id tuple) = None
news_of server (reply.Taken n id tuple) = None
news_of server (reply.Gone n) = None
news_of server (reply.Refused code detail) = Some (news.Refused server code detail)
news_of server (reply.Left n) = None

-- What is known of a put after these news. The tuple of this number is stored; all those below the
-- number of a Welcome are, and their ids are lost; a server that refuses one does so with all after
-- it.
abbrev pub fate_after : PutEvent → Put → PutStatus
fate_after (news.Stored server number id) p =
    if is_open_at server p && (p.number == number) then fate.Stored id else p.fate
fate_after (news.Welcomed server last) p =
    if is_open_at server p && nat_lt p.number last then fate.Lost else p.fate
fate_after (news.Refused server code detail) p =
    if is_open_at server p then fate.Refused code detail else p.fate

-- what comes of puts by what a server brings
abbrev pub news_in : ℕ → ServerEvent → Option PutEvent
news_in server (arrival.Greeted last) = Some (news.Welcomed server last)
news_in server (arrival.Came r) = news_of server r
news_in server (arrival.Refused code detail) = None
news_in server arrival.NotAServer = None
news_in server arrival.NoConnection = None
news_in server arrival.Memory = None

-- the put after these news
abbrev pub after : PutEvent → Put → Put
after n p = record p { fate = fate_after n p }

-- the message of the put at this place, if it is to be sent again to the server
abbrev pub again : ℕ → ℕ → List Put → Option Message
again server place puts =
    option_and_then (λ p. if is_open_at server p then Some p.message else None)
    (slice_get puts place)

-- the message of the last put
abbrev pub last_message : List Put → Option Message
last_message puts = option_map (λ p. p.message) (slice_get puts (length puts - 1))

-- what is reported next: the server of the first put, and what is known of it, if it is not open
abbrev pub first_done : List Put → Option (ℕ × PutStatus)
first_done [] = None
first_done (p ∷ ps) = if is_open p.fate then None else Some (p.server, p.fate)

-- the puts that are under way once that was reported
abbrev pub left_after : List Put → List Put
left_after [] = []
left_after (p ∷ ps) = if is_open p.fate then p ∷ ps else ps
