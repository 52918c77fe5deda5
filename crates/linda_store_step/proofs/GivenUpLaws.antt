-- What is left of a request that was given up, and of a client that was closed.
use Rattle.std.proofs.Common.{ℕ, Option, refl}
use Rattle.linda_hold.specs.declared.request.Request.{Request}
use Rattle.linda_hold.specs.Request.{request_of}
use Rattle.linda_hold.specs.Holds.{IsHeldAt}
use Rattle.linda_store_step.specs.Soft.{Soft, Bagged, IsSoft}
use Rattle.linda_store_step.specs.Dispatch.{on_cancel, on_close}
use Rattle.linda_store_step.specs.Promises.{IsOver, IsClosed}
use Rattle.linda_store_step.proofs.ReleaseLaws.{cancelled_waits, cancelled_holds, closed_waits_not, closed_holds}
use Rattle.linda_store_step.proofs.AddressLaws.{closed_sends}

pub over_when_cancelled : (bag : Bagged) (request : Request) (held : Option ℕ) (soft : Soft)
    → IsSoft bag soft → IsHeldAt soft.holds request held → IsOver request (on_cancel bag request held soft).soft
over_when_cancelled bag request held soft is held_is = (cancelled_waits bag request held soft, cancelled_holds bag request held soft is held_is)

pub closed_asks_nothing : (bag : Bagged) (client : ℕ) (soft : Soft) → IsSoft bag soft → IsClosed client (on_close bag client soft)
closed_asks_nothing bag client soft is =
    record {
      requests = λ ticket. (
        closed_waits_not bag client (request_of client ticket) refl soft,
        closed_holds bag client (request_of client ticket) refl soft is,
      );
      silent = closed_sends bag client soft;
    }
