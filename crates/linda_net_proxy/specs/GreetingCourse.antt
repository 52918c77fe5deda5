-- Course of a link after a greeting: which Hello it sends, and what follows a fault.
use Rattle.std.specs.Prelude.{ℕ, ◌-◌, ◌==◌, Bool, true, false, ◌&&◌, ◌||◌, not, nat_lt}
use Rattle.std.specs.Prelude.{if◌then◌else◌}
use Rattle.std.specs.Prelude.{Result, Ok, Err}
use Rattle.linda_wire.specs.declared.codes.TheConstants.{BUSY}
use Rattle.linda_wire.specs.declared.limits.TheConstants.{VERSION}
use Rattle.linda_wire.specs.declared.message.Message.{Message}
use Rattle.linda_wire.specs.declared.message.Message.TheVariants.{Hello}
use Rattle.linda_wire.specs.declared.reply.Reply.{Reply}
use Rattle.linda_wire.specs.declared.reply.Reply.TheVariants as reply
use Rattle.linda_net_proxy.specs.declared.server_events.ServerEvent.{ServerEvent}
use Rattle.linda_net_proxy.specs.declared.server_events.ServerEvent.TheVariants as arrival
use Rattle.linda_net_proxy.specs.declared.fault.ProxyFault.{ProxyFault}
use Rattle.linda_net_proxy.specs.declared.fault.ProxyFault.TheVariants.{Unreachable, Lost, Refused}
use Rattle.linda_net_proxy.specs.declared.fault.ProxyFault.TheVariants.{NotAServer, Memory}
use Rattle.linda_net_proxy.specs.declared.course.GreetingCourse.{GreetingCourse}
use Rattle.linda_net_proxy.specs.declared.course.RetryDecision.{RetryDecision}
use Rattle.linda_net_proxy.specs.declared.course.RetryDecision.TheVariants.{Again, Later, Over}
use Rattle.linda_net_proxy.specs.declared.course.TheConstants.{FIRST_TRIES, MAX_TRIES}

-- The Hello of a client, in the version that is spoken here.
abbrev pub hello_of : ℕ → Bool → Message
hello_of client fresh = Hello VERSION client fresh

-- What the answer to a Hello says: the last number that is kept, the refusal, or nothing that
-- answers it, so that no server gave it.
abbrev pub welcome_in : Reply → Result ℕ ProxyFault
welcome_in (reply.Welcome last) = Ok last
welcome_in (reply.Stored n id) = Err NotAServer
welcome_in (reply.Offer ticket id tuple) = Err NotAServer
welcome_in (reply.Read ticket id tuple) = Err NotAServer
welcome_in (reply.Taken n id tuple) = Err NotAServer
welcome_in (reply.Gone n) = Err NotAServer
welcome_in (reply.Refused code detail) = Err (Refused code detail)
welcome_in (reply.Left n) = Err NotAServer

-- Whether a client says that it was never used: only before a Hello of it may have reached the
-- server.
abbrev pub says_fresh : GreetingCourse → Bool
says_fresh c = c.fresh && not c.is_met

-- Whether a greeting that failed so may be made again. Before a Hello may have reached the server,
-- only if this one may have, or if the server says that a client that goes on has another
-- connection.
abbrev pub is_again : GreetingCourse → ProxyFault → Bool
is_again c Unreachable = c.is_met
is_again c Lost = true
is_again c (Refused code detail) = (code == BUSY) && (c.is_met || not c.fresh)
is_again c NotAServer = false
is_again c Memory = false

-- Nothing was said to the server yet.
abbrev pub begun : Bool → GreetingCourse
begun fresh = record { fresh = fresh; is_met = false; left = FIRST_TRIES }

-- A Hello may have reached the server, and none has failed since.
abbrev pub met : GreetingCourse → GreetingCourse
met c = record c { is_met = true; left = MAX_TRIES }

-- The tries are over: they begin anew once that is asked for, or the server is given up if it never
-- was met.
abbrev pub spent : GreetingCourse → RetryDecision × GreetingCourse
spent c = if c.is_met then (Later, met c) else (Over, c)

-- one more greeting has failed
abbrev pub failed : GreetingCourse → RetryDecision × GreetingCourse
failed c = if nat_lt 1 c.left then (Again, record c { left = c.left - 1 }) else spent c

-- one more greeting has failed, of which the Hello may have reached the server
abbrev pub lost : GreetingCourse → RetryDecision × GreetingCourse
lost c = if c.is_met then failed c else (Again, met c)

-- What follows of a fault, and the course after it.
abbrev pub after : GreetingCourse → ProxyFault → RetryDecision × GreetingCourse
after c Unreachable = if is_again c Unreachable then failed c else (Over, c)
after c Lost = lost c
after c (Refused code detail) = if is_again c (Refused code detail) then failed c else (Over, c)
after c NotAServer = (Over, c)
after c Memory = (Over, c)

-- What is brought of a server that is given up.
abbrev pub arrival_of : ProxyFault → ServerEvent
arrival_of Unreachable = arrival.NoConnection
arrival_of Lost = arrival.NoConnection
arrival_of (Refused code detail) = arrival.Refused code detail
arrival_of NotAServer = arrival.NotAServer
arrival_of Memory = arrival.Memory
