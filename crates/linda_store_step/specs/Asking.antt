-- Answers of a server to an Ask and to a Cancel, given what they look up.
use Rattle.std.specs.Prelude.{◌≡◌, ℕ, Bool, nat_le, if◌then◌else◌, List, [], ◌∷◌, ◌++◌, map}
use Rattle.std.specs.Prelude.{Option, Some, None, option_to_list}
use Rattle.std.specs.FinMap as maps
use Rattle.linda_hold.specs.declared.request.Request.{Request}
use Rattle.linda_wire.specs.Refusal.{refused}
use Rattle.linda_wire.specs.declared.refusal.Refusal.TheVariants as refusals
use Rattle.linda_wire.specs.declared.limits.TheConstants.{MAX_ASKS}
use Rattle.linda_tuple.specs.Template.{Template}
use Rattle.linda_hold.specs.Waits.{Wait, is_waiting}
use Rattle.linda_hold.specs.Holds.{IsHeldAt}
use Rattle.linda_wire.specs.declared.reply.Reply.{Reply}
use Rattle.linda_wire.specs.declared.reply.Reply.TheVariants as replies
use Rattle.linda_store_step.specs.Soft.{Soft, Bagged, open_asks}
use Rattle.linda_store_step.specs.Looking.{IsLeast, passed_over}
use Rattle.linda_store_step.specs.Dispatch.{Sends, no_sends, on_cancel}

-- the tuple under this id, if the bag has it, offered for a request
abbrev pub offer_of : Bagged → ℕ → Request → List (ℕ × Reply)
offer_of bag id request =
    map (λ row. (request.client, replies.Offer request.ticket id row))
    (option_to_list (maps.get bag id))

-- the tuple under this id, if the bag has it, as the answer to a read
abbrev pub read_of : Bagged → ℕ → Request → List (ℕ × Reply)
read_of bag id request =
    map (λ row. (request.client, replies.Read request.ticket id row))
    (option_to_list (maps.get bag id))

-- these replies are sent, and holds and waits stay
abbrev pub only_sent : List (ℕ × Reply) → Soft → Sends
only_sent sends soft = record { sends = sends; soft = soft }

-- a wait: who asks, and what is asked
abbrev pub wait_of : Request → Bool → Template → Wait
wait_of request remove shape = (request, record { remove = remove; template = shape })

-- A new request, given the least tuple that it can have: an input is offered it and holds it, a
-- read is answered with it; with no such tuple the request waits, last in order.
abbrev pub serve : Bagged → Request → Bool → Template → Option ℕ → Soft → Sends
serve bag request remove shape (Some id) soft =
    if remove
    then record {
      sends = offer_of bag id request;
      soft = record { holds = maps.insert soft.holds id request; waits = soft.waits };
    }
    else only_sent (read_of bag id request) soft
serve bag request remove shape None soft =
    no_sends (record {
      holds = soft.holds;
      waits = soft.waits ++ wait_of request remove shape ∷ [];
    })

-- An Ask, given the tuple that its request holds and the least one that it can have: the first case
-- that holds. A request that holds is offered its tuple again; one that waits is sent nothing; a
-- client with as many open asks as it may have is refused; and what is left is a new request.
abbrev pub on_ask : Bagged → Request → Bool → Template → Option ℕ → Option ℕ → Soft → Sends
on_ask bag request remove shape (Some id) least soft = only_sent (offer_of bag id request) soft
on_ask bag request remove shape None least soft =
    if is_waiting request soft.waits then no_sends soft
    else (if nat_le MAX_ASKS (open_asks request.client soft)
    then only_sent ((request.client, refused (refusals.TooManyAsks request.ticket)) ∷ []) soft
    else serve bag request remove shape least soft)

-- What is sent for an Ask, and the holds and waits after it.
pub record AnswersAsk (bag : Bagged) (request : Request) (remove : Bool) (shape : Template)
    (soft : Soft)
    (told : Sends) : Type 0 where
  pub held : Option ℕ
  pub is_held : IsHeldAt soft.holds request held
  pub least : Option ℕ
  pub is_least : IsLeast bag shape (passed_over remove soft.holds) least
  pub told_is : told ≡ on_ask bag request remove shape held least soft

-- What is sent when a request is given up, and the holds and waits after it.
pub record AnswersCancel (bag : Bagged) (request : Request) (soft : Soft) (told : Sends)
    : Type 0 where
  pub held : Option ℕ
  pub is_held : IsHeldAt soft.holds request held
  pub told_is : told ≡ on_cancel bag request held soft
