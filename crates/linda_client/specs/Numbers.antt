-- Numbered messages of a client at each server, an Out, an Accept or a Leave each: which are sent,
-- and which the server has not answered yet.
use Rattle.std.specs.Prelude.{◌≡◌, ◌≢◌, ℕ, ◌+◌, ◌<◌, ◌≤◌, ◌⊎◌, [], ◌∷◌, Option, Some, None, All}
use Rattle.std.specs.Prelude.{Contains}
use Rattle.std.specs.Prelude.{IsSome}
use Rattle.linda_tuple.specs.Tuple.{Tuple}
use Rattle.linda_wire.specs.declared.message.Message.{Message}
use Rattle.linda_wire.specs.declared.message.Message.TheVariants as messages
use Rattle.linda_wire.specs.declared.reply.Reply.TheVariants as replies
use Rattle.linda_client.specs.Client.{Client, next_at, servers}
use Rattle.linda_client.specs.Packets.{Packet, unanswered}
use Rattle.linda_client.specs.Reaction.{Reaction}
use Rattle.linda_client.specs.React.{Call, Leave, Receive}

-- the number of a message, if it has one
abbrev pub number_of : Message → Option ℕ
number_of (messages.Hello version client fresh) = None
number_of (messages.Out n row) = Some n
number_of (messages.Ask ticket remove template) = None
number_of (messages.Accept n ticket id) = Some n
number_of (messages.Cancel ticket) = None
number_of (messages.Leave n) = Some n

-- The next numbers never fall, and the servers stay.
pub record Rises (old new : Client) : Type 0 where
  pub numbers : (server : ℕ) → next_at old server ≤ next_at new server
  pub tickets : old.ticket ≤ new.ticket
  pub same_servers : servers new ≡ servers old

-- The call is the answer to a numbered message: it comes from the server of the message, with its
-- number.
abbrev pub IsAnswerTo : Packet → Call → Type 0
IsAnswerTo (server, messages.Out n row) call =
    (id : ℕ) × (call ≡ Receive server (replies.Stored n id))
IsAnswerTo (server, messages.Accept n ticket id) call = (call ≡ Receive server (replies.Gone n))
    ⊎ ((row : Tuple) × (call ≡ Receive server (replies.Taken n id row)))
IsAnswerTo (server, messages.Leave n) call = call ≡ Receive server (replies.Left n)
IsAnswerTo _ call = ⊥

-- The server has not answered this numbered message yet.
abbrev pub IsUnanswered : Client → ℕ → Message → Type 0
IsUnanswered c server m = Contains (unanswered c.task) (server, m)

-- No number is used at the server: a numbered message that is sent to it is one that it had not
-- answered, as it was; and each of those stays, or is answered, and no other joins them.
pub record UsesNoNumber (c : Client) (call : Call) (r : Reaction) (server : ℕ) : Type 0 where
  pub next : next_at r.client server ≡ next_at c server
  pub again : (m : Message) → Contains r.packets (server, m) → IsSome (number_of m)
      → IsUnanswered c server m
  pub old : (m : Message) → IsUnanswered r.client server m → IsUnanswered c server m
  pub stays : (m : Message) → IsUnanswered c server m
      → IsUnanswered r.client server m ⊎ IsAnswerTo (server, m) call

-- A number is used at the server, which is there: this numbered message is sent to it, under its
-- next number, which then is one greater. All that is sent goes so, each message to its server
-- under the next number there; and unless the client is asked to leave, this message is all that is
-- sent. What was unanswered, at any server, is answered, and what is sent is what is unanswered.
pub record UsesNumber (c : Client) (call : Call) (r : Reaction) (server : ℕ) (m : Message)
    : Type 0 where
  pub sent : Contains r.packets (server, m)
  pub own : (k : Message) → Contains r.packets (server, k) → k ≡ m
  pub fresh : All (λ (p : Packet). number_of p.1 ≡ Some (next_at c p.0)) r.packets
  pub alone : call ≢ Leave → r.packets ≡ (server, m) ∷ []
  pub within : server < servers c
  pub number : number_of m ≡ Some (next_at c server)
  pub next : next_at r.client server ≡ next_at c server + 1
  pub answered : All (λ (p : Packet). IsAnswerTo p call) (unanswered c.task)
  pub unanswered_is : unanswered r.client.task ≡ r.packets

-- How numbers go on at a call: at each server none is used, or one is.
abbrev pub NumbersGoOn : Client → Call → Reaction → Type 0
NumbersGoOn c call r =
    (server : ℕ) → UsesNoNumber c call r server ⊎ ((m : Message) × UsesNumber c call r server m)
