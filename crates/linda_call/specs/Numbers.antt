-- The numbers of a client that goes on: what it counts from 1 on, its server counts after the
-- number that it kept before.
use Rattle.std.specs.Prelude.{ℕ, ◌+◌, ◌-◌, ◌^◌, min, nat_le, if◌then◌else◌, Option, Some, None}
use Rattle.linda_wire.specs.declared.message.Message.{Message}
use Rattle.linda_wire.specs.declared.message.Message.TheVariants.{Hello, Out, Ask, Accept, Cancel}
use Rattle.linda_wire.specs.declared.message.Message.TheVariants.{Leave}
use Rattle.linda_wire.specs.declared.reply.Reply.{Reply}
use Rattle.linda_wire.specs.declared.reply.Reply.TheVariants.{Welcome, Stored, Offer, Read, Taken}
use Rattle.linda_wire.specs.declared.reply.Reply.TheVariants.{Gone, Refused, Left}

-- The number that a server sees in place of one of the client, of the 64 bits that there are.
abbrev pub counted_on : ℕ → ℕ → ℕ
counted_on base n = min (n + base) (2 ^ 64 - 1)

-- The message that its server sees, which kept so many numbers before.
abbrev pub onward_of : ℕ → Message → Message
onward_of base (Hello version client fresh) = Hello version client fresh
onward_of base (Out n tuple) = Out (counted_on base n) tuple
onward_of base (Ask ticket remove template) = Ask ticket remove template
onward_of base (Accept n ticket id) = Accept (counted_on base n) ticket id
onward_of base (Cancel ticket) = Cancel ticket
onward_of base (Leave n) = Leave (counted_on base n)

-- what is made of a number above the base; nothing of any other
abbrev pub above : {A : Type 0} → ℕ → ℕ → (ℕ → A) → Option A
above base n make = if nat_le n base then None else Some (make (n - base))

-- The reply that the client sees, of a server that kept so many numbers before; nothing if it
-- answers one of those.
abbrev pub homeward_of : ℕ → Reply → Option Reply
homeward_of base (Welcome last) = Some (Welcome last)
homeward_of base (Stored n id) = above base n (λ m. Stored m id)
homeward_of base (Offer ticket id tuple) = Some (Offer ticket id tuple)
homeward_of base (Read ticket id tuple) = Some (Read ticket id tuple)
homeward_of base (Taken n id tuple) = above base n (λ m. Taken m id tuple)
homeward_of base (Gone n) = above base n Gone
homeward_of base (Refused code detail) = Some (Refused code detail)
homeward_of base (Left n) = above base n Left

-- The number of the message that a reply answers, if it answers a numbered one.
abbrev pub answered_in : Reply → Option ℕ
answered_in (Welcome last) = None
answered_in (Stored n id) = Some n
answered_in (Offer ticket id tuple) = None
answered_in (Read ticket id tuple) = None
answered_in (Taken n id tuple) = Some n
answered_in (Gone n) = Some n
answered_in (Refused code detail) = None
answered_in (Left n) = Some n
