-- What was done with a piece, by the ways in which that may end.
use Rattle.std.proofs.Common.{◌≡◌, ℕ, List, [], take, refl, ap}
use Rattle.std.specs.Prelude.{Option, Err}
use Rattle.std.specs.List.{flat_map}
use Rattle.linda_wire.specs.declared.reply.Reply.{Reply}
use Rattle.linda_wire.specs.Frames.{reply_frame}
use Rattle.linda_store.specs.declared.connection_state.Taken.{Taken}
use Rattle.linda_store.specs.declared.end.ConverseFault.{ConverseFault}
use Rattle.linda_store.specs.declared.end.ConverseFault.TheVariants as faults
use Rattle.linda_store.specs.Node.{Node}
use Rattle.linda_store.specs.Sending.{HasWritten}
use Rattle.linda_store.specs.Conversation.{is_up}
use Rattle.linda_store.specs.Session.{Session, HasTaken, HasGivenUp}
use Rattle.linda_store.specs.Converse.{HasReplied}
use Rattle.std.proofs.KnownBytes.{Appends-nil}

-- memory ran out in the session
pub gave_up_replied : (old : Session) (was : Node) (piece : List ℕ) (output : Option (List ℕ)) (new : Session) (node : Node)
    → HasGivenUp old was piece new node → HasReplied old was piece output output (Err faults.Memory) new node
gave_up_replied old was piece output new node given_up =
    record {
      written = [];
      is_open = given_up.talk.1.1.0;
      appended = Appends-nil output;
      answers = record { said = given_up.talk.0; rest = given_up.talk.1.0; count = 0; talk = given_up.talk.1.1.1; spelled = refl };
      stage = tt;
      not_spent = tt;
    }

-- the replies of a piece went out in part, or not at all
pub lost_replied : (old : Session) (was : Node) (piece : List ℕ) (output now : Option (List ℕ))
    (taken : Taken) (replies : List Reply) (fault : ConverseFault) (new : Session) (node : Node)
    → replies ≡ taken.replies.items → HasTaken old was piece taken new node
    → HasWritten {A = Unit {0}} output now (flat_map reply_frame replies) (Err fault)
    → HasReplied old was piece output now (Err fault) new node
lost_replied old was piece output now taken replies faults.Write new node same took written =
    record {
      written = _;
      is_open = is_up new.stage;
      appended = written.1;
      answers = record {
        said = taken.replies.items;
        stage = new.stage;
        rest = new.unread;
        count = written.0;
        talk = took.talk;
        spelled = ap (λ replies. take written.0 (flat_map reply_frame replies)) same;
      };
      stage = tt;
      not_spent = tt;
    }
lost_replied old was piece output now taken replies faults.Memory new node same took written =
    record {
      written = [];
      is_open = is_up new.stage;
      appended = written;
      answers = record { said = took.talk.turns; rest = new.unread; count = 0; talk = took.talk.talk; spelled = refl };
      stage = tt;
      not_spent = tt;
    }
lost_replied old was piece output now taken replies faults.Read new node same took written = absurd written
lost_replied old was piece output now taken replies faults.Turns new node same took written = absurd written
lost_replied old was piece output now taken replies faults.Down new node same took written = absurd written
