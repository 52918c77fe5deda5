-- What the names have once a number was given to a request, taken from one, or handed over; and if no number changed.
use Rattle.std.proofs.Common.{◌≡◌, ℕ, None, Some, sym, ◌∙◌}
use Rattle.linda_bag.specs.Filing.{Refiles}
use Rattle.linda_hold.specs.declared.request.Request.{Request}
use Rattle.linda_hold.specs.declared.ticket_index.TicketIndex.{TicketIndex}
use Rattle.linda_hold.specs.TicketIndex.{Requests, number_at, AreUsed, HasNames, Sets}
use Rattle.linda_hold.proofs.NameLaws.{numbered_new, numbered_gone, numbered_over}

module _ (old new : TicketIndex) (used : AreUsed old.by_client → AreUsed new.by_client) where
  pub names_put : (k : ℕ) (request : Request) → number_at old.by_client request ≡ None
      → Sets (number_at old.by_client) (number_at new.by_client) request (Some k) → Refiles (HasNames old) (HasNames new) k None (Some request)
  names_put k request none put rows free has = (numbered_new has.0 k request free none put, used has.1)

  pub names_gone : (k : ℕ) (request : Request) → Sets (number_at old.by_client) (number_at new.by_client) request None
      → Refiles (HasNames old) (HasNames new) k (Some request) None
  names_gone k request out rows was has = (numbered_gone has.0 k request was out, used has.1)

  pub names_over : (k : ℕ) (before request : Request) (mid : TicketIndex) → number_at old.by_client request ≡ None
      → Sets (number_at old.by_client) (number_at mid.by_client) request (Some k)
      → Sets (number_at mid.by_client) (number_at new.by_client) before None → Refiles (HasNames old) (HasNames new) k (Some before) (Some request)
  names_over k before request mid none put out rows was has = (numbered_over has.0 k before request was none put out, used has.1)

  pub names_same : ((q : Request) → number_at new.by_client q ≡ number_at old.by_client q) → (rows : Requests) → HasNames old rows → HasNames new rows
  names_same same rows has = (
    record {
      there = λ k request e. same request ∙ has.0.there k request e;
      back = λ request k e. has.0.back request k (sym (same request) ∙ e);
    },
    used has.1,
  )
