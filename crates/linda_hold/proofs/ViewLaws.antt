-- The holds as contracts see them, and the maps that keep them.
use Rattle.std.proofs.Common.{◌≡◌, ℕ, Option, None, Some, refl, sym, ap, ◌∙◌}
use Rattle.std.specs.FinMap as map
use Rattle.linda_hold.specs.declared.request.Request.{Request}
use Rattle.linda_hold.specs.Holds.{HeldFor, IsHeldAt, IsOneEach}
use Rattle.linda_hold.specs.TicketIndex.{IsNumbered}

module _ (by_id holds : HeldFor) (view_is : by_id ≡ holds) where
  -- A look-up in the holds is one in the map by id.
  pub viewed : (id : ℕ) → map.get holds id ≡ map.get by_id id
  viewed id = sym (ap (λ m. map.get m id) view_is)

  module _ {by_request : Request → Option ℕ} (numbered : IsNumbered by_request (map.get by_id)) where
    -- No request holds two tuples.
    pub one_each : IsOneEach holds
    one_each i k request first second =
        let one : by_request request ≡ Some i = numbered.there i request (sym (viewed i) ∙ first) in
        let two : by_request request ≡ Some k = numbered.there k request (sym (viewed k) ∙ second) in
        cc

    -- What is held for a request is found by the request.
    pub held_at : (request : Request) → IsHeldAt holds request (by_request request)
    held_at request = by (by_request request) refl
      where
        by : (found : Option ℕ) → by_request request ≡ found → IsHeldAt holds request found
        by (Some id) e = viewed id ∙ numbered.back request id e
        by None e = λ id held. let other : by_request request ≡ Some id = numbered.there id request (sym (viewed id) ∙ held) in cc

    -- A request that holds nothing is not found.
    pub not_found : (request : Request) → IsHeldAt holds request None → by_request request ≡ None
    not_found request none = by (by_request request) refl
      where
        by : (found : Option ℕ) → by_request request ≡ found → by_request request ≡ None
        by (Some id) e = absurd (none id (viewed id ∙ numbered.back request id e))
        by None e = e
