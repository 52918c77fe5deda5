-- Pumping of a stream: the bytes that were read, the messages that they spell, and those that were
-- taken.
use Rattle.std.specs.Prelude.{◌≡◌, ℕ, ◌≤◌, List, ◌++◌, ◌∷◌, All, length, take, ⊤}
use Rattle.std.specs.Prelude.{Option, Some, None, Result, Ok, Err}
use Rattle.std.specs.List.{flat_map}
use Rattle.std.specs.Io.KnownBytes.{Consumes, IsAtEnd}
use Rattle.linda_wire.specs.declared.message.Message.{Message}
use Rattle.linda_wire.specs.Frames.{message_frame, FitsMessage}
use Rattle.linda_wire.specs.Stream.{Partial, message_front}
use Rattle.linda_store.specs.Conversation.{IsMalformed}
use Rattle.linda_store.specs.declared.conversation.TheConstants.{MAX_READS}
use Rattle.linda_store.specs.declared.end.End.{End}
use Rattle.linda_store.specs.declared.end.End.TheVariants as ends
use Rattle.linda_store.specs.declared.end.ConverseFault.{ConverseFault}
use Rattle.linda_store.specs.declared.end.ConverseFault.TheVariants as faults

-- what is known of the messages that an intake took
abbrev pub Known : Type 0
Known = Option (List Message)

-- the known messages grow by these, in this order
abbrev pub Takes : Known → Known → List Message → Type 0
Takes None new messages = ⊤
Takes (Some before) None messages = ⊥
Takes (Some before) (Some now) messages = now ≡ before ++ messages

-- the known messages grow by some first ones of these
abbrev pub TakesSome : Known → Known → List Message → Type 0
TakesSome old new messages = (count : ℕ) × Takes old new (take count messages)

-- a fault that an intake may answer
abbrev pub IsOfIntake : ConverseFault → Type 0
IsOfIntake faults.Read = ⊥
IsOfIntake faults.Write = ⊤
IsOfIntake faults.Turns = ⊥
IsOfIntake faults.Down = ⊤
IsOfIntake faults.Memory = ⊤

-- The bytes spell these messages, each of which fits its frame, and a rest.
pub record IsReading (bytes : List ℕ) (messages : List Message) (rest : List ℕ) : Type 0 where
  pub fit : All FitsMessage messages
  pub spelled : bytes ≡ flat_map message_frame messages ++ rest

-- the messages after a first one
abbrev pub ReadsOn : List ℕ → List ℕ → Message → List Message → Type 0
ReadsOn bytes rest first messages =
    (more : List Message) × ((messages ≡ first ∷ more) × IsReading bytes more rest)

-- What the bytes after the last message are: less than a whole frame, and no fault; or the frame at
-- their front has a fault, at this offset.
abbrev pub StandsAs : Option ℕ → List ℕ → Type 0
StandsAs None rest = message_front rest ≡ Partial
StandsAs (Some detail) rest = IsMalformed rest detail

-- All messages in the bytes were taken, up to this rest: it begins with a fault at this offset, or
-- if none is given it is less than a whole frame, without a fault.
abbrev pub AllTaken : List ℕ → Option ℕ → List ℕ → Known → Known → Type 0
AllTaken bytes stand rest old new =
    (messages : List Message)
    × (IsReading bytes messages rest × (StandsAs stand rest × Takes old new messages))

-- Some first messages in the bytes were taken.
abbrev pub SomeTaken : List ℕ → Known → Known → Type 0
SomeTaken bytes old new =
    (messages : List Message)
    × ((rest : List ℕ) × (IsReading bytes messages rest × TakesSome old new messages))

-- What a call that hands over all messages in the bytes did: it returns the offset of a fault after
-- them, if there is one.
abbrev pub HandsOver : List ℕ → List ℕ → Known → Known → Result (Option ℕ) ConverseFault → Type 0
HandsOver bytes rest old new (Ok stand) = AllTaken bytes stand rest old new
HandsOver bytes rest old new (Err fault) = IsOfIntake fault × SomeTaken bytes old new

-- How a stream ended: what was read of it, and what was taken.
abbrev pub EndsSo : Result End ConverseFault → List ℕ → Option (List ℕ) → Known → Known → Type 0
EndsSo (Ok (ends.Ended n)) read left old new =
    IsAtEnd left × ((rest : List ℕ) × (AllTaken read None rest old new × (n ≡ length rest)))
EndsSo (Ok (ends.Malformed detail)) read left old new =
    (rest : List ℕ) × AllTaken read (Some detail) rest old new
EndsSo (Err faults.Read) read left old new = (rest : List ℕ) × AllTaken read None rest old new
EndsSo (Err faults.Turns) read left old new =
    (MAX_READS ≤ length read) × ((rest : List ℕ) × AllTaken read None rest old new)
EndsSo (Err faults.Write) read left old new = SomeTaken read old new
EndsSo (Err faults.Down) read left old new = SomeTaken read old new
EndsSo (Err faults.Memory) read left old new = SomeTaken read old new

-- A pump took bytes off a reader, and ended so.
pub record HasPumped (input left : Option (List ℕ)) (old new : Known)
    (result : Result End ConverseFault) : Type 0 where
  pub read : List ℕ
  pub consumed : Consumes input left read
  pub ends : EndsSo result read left old new
