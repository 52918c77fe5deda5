-- The laws of the layers below that a run rests on, as their functions' contracts state them.
use Rattle.std.specs.Prelude.{◌≡◌, ◌≤◌, ℕ, ◌-◌, List, ◌++◌, Some, All, Contains, Result}
use Rattle.std.specs.List.{slice_get}
use Rattle.std.specs.Global.{Vec}
use Rattle.linda_client.specs.declared.limits.TheConstants.{MAX_SERVERS}
use Rattle.linda_tuple.specs.Tuple.{Tuple}
use Rattle.linda_wire.specs.declared.message.Message.{Message}
use Rattle.linda_wire.specs.declared.reply.Reply.{Reply}
use Rattle.linda_wire.specs.declared.reply.Reply.TheVariants as replies
use Rattle.linda_store_state.specs.declared.deed.Deed.{Deed}
use Rattle.linda_store_state.specs.declared.deed.Deed.TheVariants.{Take}
use Rattle.linda_store_state.specs.State.{State, IsState, empty_state}
use Rattle.linda_store_state.specs.Deed.{outs_of}
use Rattle.linda_store_state.specs.Proper.{IsProper}
use Rattle.linda_store_state.specs.Once.{IsTakenOnce}
use Rattle.linda_store_step.specs.Soft.{Soft, Bagged}
use Rattle.linda_store_step.specs.Dispatch.{on_close}
use Rattle.linda_store_step.specs.Answer.{Answer, IsStep}
use Rattle.linda_store_step.specs.History.{Coming, says}
use Rattle.linda_store_step.specs.Reported.{HoldsWhatIsThere, DoesAsAsked}
use Rattle.linda_store_step.specs.Deeds.{NumbersEachOnce}
use Rattle.linda_store_step.specs.Offers.{OffersWhatIsSought}
use Rattle.linda_store_step.specs.Replies.{ReportsOne}
use Rattle.linda_store_step.specs.Deeds.{HandsOver, PassesOn}
use Rattle.linda_store.specs.declared.node.NodeFault.{NodeFault}
use Rattle.linda_store.specs.Node.{Node, NodeAnswer, Sent, Works, Closes, Snaps, Stops}
use Rattle.linda_store.specs.Sound.{IsSound, AreBacked, added}
use Rattle.linda_client.specs.Client.{IsClient, pending_in}
use Rattle.linda_client.specs.Ending.{TakenBy}
use Rattle.linda_client.specs.Numbers.{NumbersGoOn, Rises}
use Rattle.linda_client.specs.Offers.{KeepsOffers, TreatsOffers}
use Rattle.linda_client.specs.Progress.{GoesOn, IsSoundPacket}
use Rattle.linda_client.specs.React.{AtEachCall, new_client}

-- A server stays sound, whatever comes to its node.
pub record OfSound : Type 0 where
  pub works : (ds es : List Deed) (old new : Node) (xs : List Coming) (answer : NodeAnswer)
      → IsSound ds old → Works old xs answer es new → IsSound (ds ++ es) new
  pub works_backed : (ds es : List Deed) (old new : Node) (xs : List Coming)
      (sends : List (ℕ × Reply))
      → IsSound ds old → Works old xs (Sent sends) es new → AreBacked (ds ++ es) sends
  pub closes : (ds : List Deed) (old new : Node) (c : ℕ) (answer : NodeAnswer) → IsSound ds old
      → Closes old c answer new → IsSound ds new
  pub closes_backed : (ds : List Deed) (old new : Node) (c : ℕ) (sends : List (ℕ × Reply))
      → IsSound ds old → Closes old c (Sent sends) new → AreBacked ds sends
  pub snaps : (ds : List Deed) (old new : Node) (answer : Result (Unit {0}) NodeFault)
      → IsSound ds old → Snaps old answer new → IsSound ds new
  pub stops : (ds : List Deed) (old new : Node) (xs : List Coming)
      (answer : Result (Vec Deed) NodeFault)
      → IsSound ds old → Stops old xs answer new → IsSound (ds ++ added answer) new

-- What deeds and replies come to.
pub record OfDeeds : Type 0 where
  pub taken_once : (st : State) (ds : List Deed) → IsState st → IsProper st ds → IsTakenOnce ds
  pub handed : (ds : List Deed) (c n id : ℕ) → IsProper empty_state ds → Contains ds (Take c n id)
      → (row : Tuple) × HandsOver ds c id row
  pub one_take : (ds : List Deed) (c d n m id : ℕ)
      → IsTakenOnce ds → Contains ds (Take c n id) → Contains ds (Take d m id)
      → Take c n id ≡ Take d m id
  pub numbered : (ds : List Deed) → IsProper empty_state ds → NumbersEachOnce ds
  pub told_take : (ds : List Deed) (c n id : ℕ) (row : Tuple)
      → ReportsOne ds c (replies.Taken n id row) → Contains ds (Take c n id)
  pub told_tuple : (ds : List Deed) (c n id : ℕ) (row : Tuple)
      → ReportsOne ds c (replies.Taken n id row) → slice_get (outs_of ds) (id - 1) ≡ Some row
  pub told_gone : (ds : List Deed) (c n : ℕ) → IsProper empty_state ds
      → ReportsOne ds c (replies.Gone n) → PassesOn ds c n

-- What steps offer, and which deeds they do.
pub record OfSteps : Type 0 where
  pub step_spreads : (st new : State) (old : Soft) (c : ℕ) (m : Message) (answered : Answer)
      → IsState st → IsStep st old c m answered new
      → OffersWhatIsSought new.bag (says c m) old answered.sends answered.soft
  pub close_spreads : (bag : Bagged) (x : Coming) (client : ℕ) (old : Soft)
      → OffersWhatIsSought bag x old (on_close bag client old).sends (on_close bag client old).soft
  pub step_deed : (st new : State) (c : ℕ) (old : Soft) (m : Message) (answered : Answer) (d : Deed)
      → HoldsWhatIsThere st old → IsStep st old c m answered new → answered.deed ≡ Some d
      → DoesAsAsked c m answered.soft d

-- What holds of a client at each call.
pub record OfCalls : Type 0 where
  pub new : (number count : ℕ) → 1 ≤ count → count ≤ MAX_SERVERS
      → IsClient (new_client number count)
  pub kept : AtEachCall (λ c call r. IsClient r.client)
  pub rises : AtEachCall (λ c call r. Rises c r.client)
  pub numbers : AtEachCall NumbersGoOn
  pub packets : AtEachCall (λ c call r. All (IsSoundPacket r.client) r.packets)
  pub goes_on : AtEachCall (λ c call r. GoesOn c call (pending_in c.task) r)
  pub taken : AtEachCall (λ c call r. TakenBy c call r.outcome)
  pub treated : AtEachCall TreatsOffers
  pub in_hand : AtEachCall KeepsOffers
