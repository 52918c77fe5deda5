-- Offers: a tuple goes only to a request that seeks such a one.
use Rattle.std.specs.Prelude.{◌≡◌, ℕ, true, false, Bool, List, ◌⊎◌, Some, Contains}
use Rattle.std.specs.FinMap as map
use Rattle.linda_tuple.specs.Tuple.{Tuple}
use Rattle.linda_tuple.specs.Matching.{Matches}
use Rattle.linda_hold.specs.declared.request.Request.{Request}
use Rattle.linda_hold.specs.Waits.{Wait}
use Rattle.linda_wire.specs.declared.message.Message.TheVariants as messages
use Rattle.linda_wire.specs.declared.reply.Reply.{Reply}
use Rattle.linda_wire.specs.declared.reply.Reply.TheVariants as replies
use Rattle.linda_store_step.specs.Soft.{Soft, Bagged}
use Rattle.linda_store_step.specs.History.{Coming, says}

-- what comes is the Ask of this request
abbrev pub IsAskOf : Coming → Wait → Type 0
IsAskOf x w = x ≡ says w.0.client (messages.Ask w.0.ticket w.1.remove w.1.template)

-- The request waits, or it is asked now.
abbrev pub Seeks : Soft → Coming → Wait → Type 0
Seeks soft x w = Contains soft.waits w ⊎ IsAskOf x w

-- The request is an input that seeks a tuple like this one.
pub record HasTaker (soft : Soft) (x : Coming) (request : Request) (tuple : Tuple) : Type 0 where
  pub wait : Wait
  pub seeks : Seeks soft x wait
  pub request_is : wait.0 ≡ request
  pub removes : wait.1.remove ≡ true
  pub matches : Matches wait.1.template tuple

-- The tuple of this id is in the bag, is offered now for this request, and the request is an input
-- that seeks it.
pub record MakesOffer (bag : Bagged) (soft : Soft) (x : Coming) (sends : List (ℕ × Reply)) (id : ℕ)
    (request : Request) : Type 0 where
  pub tuple : Tuple
  pub there : map.get bag id ≡ Some tuple
  pub sent : Contains sends (request.client, replies.Offer request.ticket id tuple)
  pub taker : HasTaker soft x request tuple

-- an offer that is made again: the tuple was held for this request before
abbrev pub OffersAgain : Bagged → Soft → ℕ → Request → Tuple → Type 0
OffersAgain bag old id request tuple =
    (map.get old.holds id ≡ Some request) × (map.get bag id ≡ Some tuple)

-- From the old holds and waits to the new ones by what is sent: what is held was held so, or is
-- offered now; what waits waited, or asks now; and each offer is one that is made again, or has a
-- taker.
pub record OffersWhatIsSought (bag : Bagged) (x : Coming) (old : Soft) (sends : List (ℕ × Reply))
    (new : Soft) : Type 0 where
  pub holds :
      (id : ℕ) (request : Request) → map.get new.holds id ≡ Some request
      → (map.get old.holds id ≡ Some request) ⊎ MakesOffer bag old x sends id request
  pub waits : (w : Wait) → Contains new.waits w → Seeks old x w
  pub offers :
      (request : Request) (id : ℕ) (tuple : Tuple)
      → Contains sends (request.client, replies.Offer request.ticket id tuple)
      → OffersAgain bag old id request tuple ⊎ HasTaker old x request tuple

-- whether the reply is an offer
abbrev pub is_offer : Reply → Bool
is_offer (replies.Offer ticket id tuple) = true
is_offer _ = false
