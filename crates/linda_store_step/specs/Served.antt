-- Results of clients' messages, each by itself.
use Rattle.std.specs.Prelude.{◌≡◌, ℕ, List, [], ◌∷◌, ◌++◌, map, length, option_to_list}
use Rattle.std.specs.Option.{is_some}
use Rattle.std.specs.List.{flat_map}
use Rattle.linda_wire.specs.declared.message.Message.{Message}
use Rattle.linda_wire.specs.declared.reply.Reply.{Reply}
use Rattle.linda_store_state.specs.declared.deed.Deed.{Deed}
use Rattle.linda_store_state.specs.State.{State}
use Rattle.linda_store_step.specs.Soft.{Soft}
use Rattle.linda_store_step.specs.Answer.{Answer, IsStep}
use Rattle.linda_store_step.specs.declared.served.StepCounts.{StepCounts}
use Rattle.linda_store_step.specs.declared.served.Served.{Served}

-- Messages, one after another: an answer to each, and the state, the holds and the waits after
-- them.
abbrev pub AreAnswered : State → Soft → List (ℕ × Message) → List Answer → State → Soft → Type 0
AreAnswered st soft [] answers new then = (answers ≡ []) × ((new ≡ st) × (then ≡ soft))
AreAnswered st soft (m ∷ ms) answers new then =
    (first : Answer) × ((mid : State) × ((later : List Answer)
    × (IsStep st soft m.0 m.1 first mid
    × (AreAnswered mid first.soft ms later new then × (answers ≡ first ∷ later)))))

-- the deeds of all answers
abbrev pub deeds_of : List Answer → List Deed
deeds_of answers = flat_map (λ (a : Answer). option_to_list a.deed) answers

-- the sends of all answers
abbrev pub sends_of : List Answer → List (ℕ × Reply)
sends_of answers = flat_map (λ (a : Answer). a.sends) answers

-- one answer's counts: whether it did a deed, and how many it sends
abbrev pub counts_of : Answer → StepCounts
counts_of a = record { has_deed = is_some a.deed; sends = length a.sends }

-- What was served gives the answers: all deeds in order, all sends in order, and each answer's
-- counts.
pub record Tells (told : Served) (answers : List Answer) : Type 0 where
  pub deeds : told.deeds.items ≡ deeds_of answers
  pub sends : told.sends.items ≡ sends_of answers
  pub counts : told.counts.items ≡ map counts_of answers

-- From this state, with these holds and waits, the messages were answered so, and what was served
-- gives these answers.
pub record IsServed (st : State) (soft : Soft) (ms : List (ℕ × Message)) (told : Served)
    (new : State) (then : Soft) : Type 0 where
  pub answers : List Answer
  pub answered : AreAnswered st soft ms answers new then
  pub tells : Tells told answers

-- One message more was answered, and what was served gives it after what it gave before.
pub record IsServedToo (st : State) (soft : Soft) (c : ℕ) (m : Message) (before told : Served)
    (new : State) (then : Soft) : Type 0 where
  pub answer : Answer
  pub step : IsStep st soft c m answer new
  pub soft_is : then ≡ answer.soft
  pub deeds : told.deeds.items ≡ before.deeds.items ++ option_to_list answer.deed
  pub sends : told.sends.items ≡ before.sends.items ++ answer.sends
  pub counts : told.counts.items ≡ before.counts.items ++ counts_of answer ∷ []
