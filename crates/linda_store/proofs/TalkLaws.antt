-- Talks and conversations that go on.
use Rattle.std.proofs.Common.{◌≡◌, Bool, true, false, List, [], ◌∷◌, ◌++◌, refl, ◌∙◌, sym, ap, append_assoc}
use Rattle.linda_wire.specs.declared.message.Message.{Message}
use Rattle.linda_wire.specs.declared.reply.Reply.{Reply}
use Rattle.linda_wire.specs.Frames.{message_frame, FitsMessage}
use Rattle.std.specs.List.{flat_map}
use Rattle.std.specs.Prelude.{ℕ, Option, Result, Ok, Err, IsErr}
use Rattle.std.proofs.lemmas.List.{append-nil}
use Rattle.std.proofs.lemmas.List.Elements.{All-nil, All-cons, All-append}
use Rattle.std.proofs.lemmas.List.Concat.{flat_map-cons}
use Rattle.std.proofs.lemmas.Grind.{flat_map-append}
use Rattle.linda_store.specs.declared.connection_state.ConnectionState.{ConnectionState}
use Rattle.linda_store.specs.declared.connection_state.ConnectionState.TheVariants as stages
use Rattle.linda_store.specs.Node.{Node}
use Rattle.linda_store.specs.Turn.{Point, point_at, Turns}
use Rattle.linda_store.specs.Conversation.{IsTalk, IsConversation, IsGivenUp, HasAnswered}
use Rattle.linda_store.proofs.RunLaws.{run_none, run_one, runs_then}

pub talk_begins : (from : Point) (bytes : List ℕ) → IsTalk from bytes [] bytes from
talk_begins from bytes = record { messages = []; fit = All-nil FitsMessage; spelled = refl; run = run_none from }

-- lists of frames, one after the other
pub frames_then : {A : Type 0} (spell : A → List ℕ) (ms ns : List A) (bytes mid rest : List ℕ)
    → bytes ≡ flat_map spell ms ++ mid → mid ≡ flat_map spell ns ++ rest → bytes ≡ flat_map spell (ms ++ ns) ++ rest
frames_then spell ms ns bytes mid rest first second =
    first ∙ ap (λ later. flat_map spell ms ++ later) second ∙ sym (append_assoc (flat_map spell ms) (flat_map spell ns) rest)
    ∙ ap (λ bytes. bytes ++ rest) (sym (flat_map-append spell ms ns))

-- one frame, as a list of frames
frame_alone : {A : Type 0} (spell : A → List ℕ) (m : A) (bytes rest : List ℕ) → bytes ≡ spell m ++ rest → bytes ≡ flat_map spell (m ∷ []) ++ rest
frame_alone spell m bytes rest e = e ∙ ap (λ bytes. bytes ++ rest) (sym (flat_map-cons spell m [] ∙ append-nil (spell m)))

-- one more message of the stream has its turn
pub talk_turns : (from mid to : Point) (bytes old rest : List ℕ) (turns said : List Reply) (m : Message)
    → IsTalk from bytes turns old mid → (old ≡ message_frame m ++ rest) × FitsMessage m → Turns mid m said to
    → IsTalk from bytes (turns ++ said) rest to
talk_turns from mid to bytes old rest turns said m talk frame turn =
    record {
      messages = talk.messages ++ m ∷ [];
      fit = All-append FitsMessage talk.messages (m ∷ []) talk.fit (All-cons FitsMessage m [] frame.1 (All-nil FitsMessage));
      spelled = frames_then message_frame talk.messages (m ∷ []) bytes old rest talk.spelled (frame_alone message_frame m old rest frame.0);
      run = runs_then from talk.messages (m ∷ []) turns said mid to talk.run (run_one mid m said to turn);
    }

-- the talk so far, with what was said after the earlier replies
abbrev pub HasTold : Point → List ℕ → List Reply → List ℕ → List Reply → Point → Type 0
HasTold from bytes old rest new to = (turns : List Reply) × (IsTalk from bytes turns rest to × (new ≡ old ++ turns))

turn_told : (from mid to : Point) (bytes old rest : List ℕ) (m : Message) (before replies now said : List Reply)
    → HasTold from bytes before old replies mid → (old ≡ message_frame m ++ rest) × FitsMessage m
    → Turns mid m said to → now ≡ replies ++ said → HasTold from bytes before rest now to
turn_told from mid to bytes old rest m before replies now said told frame turn now_is = (
  told.0 ++ said,
  (
    talk_turns from mid to bytes old rest told.0 said m told.1.0 frame turn,
    now_is ∙ ap (λ replies. replies ++ said) told.1.1 ∙ append_assoc before told.0 said,
  ),
)

-- the talk goes on after an answer
pub told_on : (from mid : Point) (node : Node) (greeted : Option ℕ) (is_open : Bool) (bytes old rest : List ℕ) (m : Message) (before replies now : List Reply)
    → is_open ≡ true
    → HasTold from bytes before old replies mid → (old ≡ message_frame m ++ rest) × FitsMessage m
    → (said : List Reply) × (Turns mid m said (point_at node greeted is_open) × (now ≡ replies ++ said))
    → HasTold from bytes before rest now (point_at node greeted true)
told_on from mid node greeted is_open bytes old rest m before replies now opens told frame said =
    turn_told from mid (point_at node greeted true) bytes old rest m before replies now said.0 told frame (rw opens at said.1.0) said.1.1

-- the node is down, which ends it
pub told_down : (from mid : Point) (node : Node) (greeted : Option ℕ) (is_open : Bool) (bytes old rest : List ℕ) (m : Message) (before replies now : List Reply)
    → is_open ≡ false
    → HasTold from bytes before old replies mid → (old ≡ message_frame m ++ rest) × FitsMessage m
    → (said : List Reply) × (Turns mid m said (point_at node greeted is_open) × (now ≡ replies ++ said))
    → (said : List Reply) × (IsConversation from bytes said stages.Down rest (point_at node greeted false) × (now ≡ before ++ said))
told_down from mid node greeted is_open bytes old rest m before replies now opens told frame said =
    let done = turn_told from mid (point_at node greeted false) bytes old rest m before replies now said.0 told frame (rw opens at said.1.0) said.1.1 in
    (done.0, (record { turns = done.0; talk = done.1.0; stands = tt; up = refl; said_is = sym (append-nil done.0) }, done.1.1))

-- memory ran out for an answer
pub told_lost : (from mid : Point) (node : Node) (greeted : Option ℕ) (bytes old rest : List ℕ) (m : Message) (before replies : List Reply)
    → HasTold from bytes before old replies mid → (old ≡ message_frame m ++ rest) × FitsMessage m
    → (said : List Reply) × ((is_open : Bool) × Turns mid m said (point_at node greeted is_open))
    → IsGivenUp from bytes node greeted
told_lost from mid node greeted bytes old rest m before replies told frame said =
    (told.0 ++ said.0, (rest, (said.1.0, talk_turns from mid (point_at node greeted said.1.0) bytes old rest told.0 said.0 m told.1.0 frame said.1.1)))

-- an answer that is an error says no more than that the talk was given up
pub lost_answered : {E : Type 0} (from : Point) (bytes rest : List ℕ) (before now : List Reply) (node : Node) (greeted : Option ℕ)
    (result : Result ConnectionState E)
    → IsErr result → IsGivenUp from bytes node greeted → HasAnswered from bytes before result rest now node greeted
lost_answered from bytes rest before now node greeted (Ok stage) err given_up = let no : ⊥ = cc err in absurd no
lost_answered from bytes rest before now node greeted (Err fault) err given_up = given_up
