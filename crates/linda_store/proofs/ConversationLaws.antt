-- Conversations that begin, and that go on over one more piece.
use Rattle.std.proofs.Common.{◌≡◌, ℕ, true, List, [], ◌++◌, refl, ◌∙◌, sym, ap, append_assoc, subst}
use Rattle.std.specs.List.{flat_map}
use Rattle.std.proofs.lemmas.List.{append-nil}
use Rattle.std.proofs.lemmas.List.Elements.{All-append}
use Rattle.linda_wire.specs.declared.reply.Reply.{Reply}
use Rattle.linda_wire.specs.Frames.{message_frame, FitsMessage}
use Rattle.linda_wire.specs.Stream.{payload_len, Partial}
use Rattle.linda_wire.specs.Stream.{message_front}
use Rattle.linda_store.specs.declared.connection_state.ConnectionState.{ConnectionState}
use Rattle.linda_store.specs.declared.connection_state.ConnectionState.TheVariants as stages
use Rattle.linda_store.specs.Turn.{Point}
use Rattle.linda_store.specs.Conversation.{IsTalk, IsConversation, last_words}
use Rattle.linda_store.proofs.RunLaws.{runs_then}
use Rattle.linda_store.proofs.TalkLaws.{talk_begins, frames_then}

-- a talk, and then one over what it left and a piece more
pub talk_then : (from mid to : Point) (bytes piece rest later : List ℕ) (one two : List Reply)
    → IsTalk from bytes one rest mid → IsTalk mid (rest ++ piece) two later to → IsTalk from (bytes ++ piece) (one ++ two) later to
talk_then from mid to bytes piece rest later one two first second =
    record {
      messages = first.messages ++ second.messages;
      fit = All-append FitsMessage first.messages second.messages first.fit second.fit;
      spelled = frames_then message_frame first.messages second.messages (bytes ++ piece) (rest ++ piece) later
          (ap (λ bytes. bytes ++ piece) first.spelled ∙ append_assoc (flat_map message_frame first.messages) rest piece) second.spelled;
      run = runs_then from first.messages second.messages one two mid to first.run second.run;
    }

-- a conversation that goes on is a talk
pub open_talk : (from to : Point) (bytes rest : List ℕ) (said : List Reply)
    → IsConversation from bytes said stages.Open rest to → IsTalk from bytes said rest to
open_talk from to bytes rest said talk =
    subst (λ (said : List Reply). IsTalk from bytes said rest to) (sym (talk.said_is ∙ append-nil talk.turns)) talk.talk

-- nothing came yet, so no frame is whole
nothing_whole : message_front [] ≡ Partial
unfolding payload_len
nothing_whole = refl

-- nothing came yet, and nothing was said
pub conversation_begins : (from : Point) → from.is_open ≡ true → IsConversation from [] [] stages.Open [] from
conversation_begins from opens =
    record { turns = []; talk = talk_begins from []; stands = nothing_whole; up = opens; said_is = refl }

-- an open conversation goes on over what it left and one more piece
pub conversation_goes_on : (from mid to : Point) (bytes piece rest later : List ℕ) (one two : List Reply) (stage : ConnectionState)
    → IsConversation from bytes one stages.Open rest mid → IsConversation mid (rest ++ piece) two stage later to
    → IsConversation from (bytes ++ piece) (one ++ two) stage later to
conversation_goes_on from mid to bytes piece rest later one two stage first second =
    record {
      turns = one ++ second.turns;
      talk = talk_then from mid to bytes piece rest later one second.turns (open_talk from mid bytes rest one first) second.talk;
      stands = second.stands;
      up = second.up;
      said_is = ap (λ said. one ++ said) second.said_is ∙ sym (append_assoc one second.turns (last_words stage));
    }
