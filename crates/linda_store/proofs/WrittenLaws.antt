-- Conversations that go on, with what is written of them.
use Rattle.std.proofs.Common.{◌≡◌, ℕ, ◌+◌, true, List, [], ◌++◌, length, take, refl, ◌∙◌, sym, ap}
use Rattle.std.specs.List.{flat_map}
use Rattle.std.proofs.lemmas.Grind.{flat_map-append}
use Rattle.std.proofs.Math.Seq.{take-append-add}
use Rattle.linda_wire.specs.declared.reply.Reply.{Reply}
use Rattle.linda_wire.specs.Frames.{reply_frame}
use Rattle.linda_store.specs.declared.connection_state.ConnectionState.{ConnectionState}
use Rattle.linda_store.specs.declared.connection_state.ConnectionState.TheVariants as stages
use Rattle.linda_store.specs.Turn.{Point}
use Rattle.linda_store.specs.Converse.{IsWritten, IsWrittenInPart, IsBrokenOff}
use Rattle.linda_store.proofs.ConversationLaws.{open_talk, talk_then, conversation_begins, conversation_goes_on}

-- frames written, and then a prefix of more frames
part_spelled : (one two : List ℕ) (said more : List Reply) (count : ℕ)
    → one ≡ flat_map reply_frame said → two ≡ take count (flat_map reply_frame more)
    → one ++ two ≡ take (length one + count) (flat_map reply_frame (said ++ more))
part_spelled one two said more count first second =
    let whole : flat_map reply_frame (said ++ more) ≡ one ++ flat_map reply_frame more =
    flat_map-append reply_frame said more ∙ ap (λ bytes. bytes ++ flat_map reply_frame more) (sym first) in
    ap (λ bytes. one ++ bytes) second ∙ sym (take-append-add one (flat_map reply_frame more) count) ∙ ap (take (length one + count)) (sym whole)

pub written_then : (from mid to : Point) (bytes piece rest later one two : List ℕ) (stage : ConnectionState)
    → IsWritten from bytes one stages.Open rest mid → IsWritten mid (rest ++ piece) two stage later to
    → IsWritten from (bytes ++ piece) (one ++ two) stage later to
written_then from mid to bytes piece rest later one two stage first second =
    record {
      said = first.said ++ second.said;
      talk = conversation_goes_on from mid to bytes piece rest later first.said second.said stage first.talk second.talk;
      spelled = ap (λ bytes. bytes ++ two) first.spelled ∙ ap (λ bytes. flat_map reply_frame first.said ++ bytes) second.spelled
          ∙ sym (flat_map-append reply_frame first.said second.said);
    }

pub part_then : (from mid to : Point) (bytes piece rest one two : List ℕ)
    → IsWritten from bytes one stages.Open rest mid → IsWrittenInPart mid (rest ++ piece) two to
    → IsWrittenInPart from (bytes ++ piece) (one ++ two) to
part_then from mid to bytes piece rest one two first second =
    record {
      said = first.said ++ second.said;
      stage = second.stage;
      rest = second.rest;
      count = length one + second.count;
      talk = conversation_goes_on from mid to bytes piece rest second.rest first.said second.said second.stage first.talk second.talk;
      spelled = part_spelled one two first.said second.said second.count first.spelled second.spelled;
    }

pub broken_then : (from mid to : Point) (bytes piece rest one two : List ℕ)
    → IsWritten from bytes one stages.Open rest mid → IsBrokenOff mid (rest ++ piece) two to
    → IsBrokenOff from (bytes ++ piece) (one ++ two) to
broken_then from mid to bytes piece rest one two first second =
    record {
      said = first.said ++ second.said;
      rest = second.rest;
      count = length one + second.count;
      talk = talk_then from mid to bytes piece rest second.rest first.said second.said (open_talk from mid bytes rest first.said first.talk) second.talk;
      spelled = part_spelled one two first.said second.said second.count first.spelled second.spelled;
    }

pub nothing_written : (from : Point) → from.is_open ≡ true → IsWritten from [] [] stages.Open [] from
nothing_written from opens =
    record {
      said = [];
      talk = conversation_begins from opens;
      spelled = refl;
    }
