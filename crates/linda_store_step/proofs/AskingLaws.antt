-- What an Ask comes to if no new request is served, in terms of what was looked up for it.
use Rattle.std.proofs.Common.{◌≡◌, ℕ, Bool, true, false, cond, nat_le, List, [], ◌∷◌, Some, None, sym, ap, ◌∙◌}
use Rattle.std.specs.FinMap.{get}
use Rattle.linda_hold.specs.declared.request.Request.{Request}
use Rattle.linda_wire.specs.Refusal.{refused}
use Rattle.linda_wire.specs.declared.refusal.Refusal.TheVariants as refusals
use Rattle.linda_wire.specs.declared.limits.TheConstants.{MAX_ASKS}
use Rattle.linda_tuple.specs.Template.{Template}
use Rattle.linda_hold.specs.Waits.{is_waiting}
use Rattle.linda_hold.specs.Holds.{IsHeldAt}
use Rattle.linda_wire.specs.declared.reply.Reply.{Reply}
use Rattle.linda_store_step.specs.Soft.{Soft, Bagged, open_asks}
use Rattle.linda_store_step.specs.Looking.{passed_over}
use Rattle.linda_store_step.specs.Dispatch.{Sends, no_sends}
use Rattle.linda_store_step.specs.Asking.{AnswersAsk, offer_of, only_sent, serve}
use Rattle.linda_store_step.proofs.LeastLaws.{some_least}

module _ (bag : Bagged) (request : Request) (remove : Bool) (shape : Template) (soft : Soft) (sends : List (ℕ × Reply)) where
  -- The request holds a tuple.
  pub offered_again : (id : ℕ) → get soft.holds id ≡ Some request → sends ≡ offer_of bag id request
      → AnswersAsk bag request remove shape soft (only_sent sends soft)
  offered_again id held offered =
      let least = some_least bag shape (passed_over remove soft.holds) in
      record { held = Some id; is_held = held; least = least.0; is_least = least.1; told_is = ap (λ s. only_sent s soft) offered }

  -- The request waits.
  pub waits_on : IsHeldAt soft.holds request None → is_waiting request soft.waits ≡ true → sends ≡ []
      → AnswersAsk bag request remove shape soft (only_sent sends soft)
  waits_on nothing waits none =
      let least = some_least bag shape (passed_over remove soft.holds) in
      let rest : Sends = cond (nat_le MAX_ASKS (open_asks request.client soft))
      (only_sent ((request.client, (refused (refusals.TooManyAsks request.ticket))) ∷ []) soft) (serve bag request remove shape least.0 soft) in
      record {
        held = None;
        is_held = nothing;
        least = least.0;
        is_least = least.1;
        told_is = ap (λ s. only_sent s soft) none ∙ sym (ap (λ b. cond b (no_sends soft) rest) waits);
      }

  -- The request is new, and the client has as many open asks as it may have.
  pub turned_away : IsHeldAt soft.holds request None → is_waiting request soft.waits ≡ false → nat_le MAX_ASKS (open_asks request.client soft) ≡ true
      → sends ≡ (request.client, (refused (refusals.TooManyAsks request.ticket))) ∷ [] → AnswersAsk bag request remove shape soft (only_sent sends soft)
  turned_away nothing never many told =
      let least = some_least bag shape (passed_over remove soft.holds) in
      let only : Sends = only_sent ((request.client, (refused (refusals.TooManyAsks request.ticket))) ∷ []) soft in
      let new : Sends = serve bag request remove shape least.0 soft in
      record {
        held = None;
        is_held = nothing;
        least = least.0;
        is_least = least.1;
        told_is = ap (λ s. only_sent s soft) told
            ∙ sym (ap (λ b. cond b only new) many)
            ∙ sym (ap (λ b. cond b (no_sends soft) (cond (nat_le MAX_ASKS (open_asks request.client soft)) only new)) never);
      }
