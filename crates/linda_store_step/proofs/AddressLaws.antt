-- To whom is sent: only to clients that waited, so to none that is closed.
use Rattle.std.proofs.Common.{◌≡◌, ◌≢◌, ℕ, not, ◌==◌, List, [], ◌∷◌, map, Option, Some, None, option_to_list, All, refl, sym, ap, ◌∙◌, true≢false, eq-eqb}
use Rattle.std.proofs.lemmas.List.Elements.{All-nil, All-cons, All-append, All-map, All-filter}
use Rattle.std.specs.FinMap.{get, remove, entries}
use Rattle.linda_tuple.specs.Tuple.{Tuple}
use Rattle.linda_hold.specs.Request.{same_request}
use Rattle.linda_hold.specs.Waits.{Wait, is_reader, is_taker, readers, without_client, without_readers, longest}
use Rattle.linda_hold.specs.Holds.{held_in}
use Rattle.linda_wire.specs.declared.reply.Reply.{Reply}
use Rattle.linda_store_step.specs.Soft.{Soft, Bagged}
use Rattle.linda_store_step.specs.Dispatch.{read_to, offer_to, held_for, dispatch, release, release_tuple, release_all, on_close}
use Rattle.linda_store_step.proofs.WaitLaws.{all_kept, found_has}

module _ (P : ℕ → Type 0) where
  -- Each who waits is such a client, and each to whom is sent.
  abbrev AllWait : List Wait → Type 0
  AllWait waits = All (λ (w : Wait). P w.0.client) waits

  abbrev AllSent : List (ℕ × Reply) → Type 0
  AllSent sends = All (λ (send : ℕ × Reply). P send.0) sends

  -- A dispatch sends only to those that waited.
  pub dispatch_sent : (id : ℕ) (row : Tuple) (soft : Soft) → All (λ (w : Wait). P w.0.client) soft.waits
      → All (λ (send : ℕ × Reply). P send.0) (dispatch id row soft).sends
  dispatch_sent id row soft waiting =
      All-append (λ (send : ℕ × Reply). P send.0) (map (read_to id row) (readers row soft.waits))
      (map (offer_to id row) (option_to_list (longest row soft.waits)))
      (All-map (λ (send : ℕ × Reply). P send.0) (read_to id row) (readers row soft.waits)
      (All-filter {X = Wait} (is_reader row) (λ w. P w.0.client) soft.waits waiting))
      (All-map (λ (send : ℕ × Reply). P send.0) (offer_to id row) (option_to_list (longest row soft.waits)) (by (longest row soft.waits) refl))
    where
      by : (first : Option Wait) → longest row soft.waits ≡ first → AllWait (option_to_list first)
      by None none = All-nil (λ (w : Wait). P w.0.client)
      by (Some first) found = All-cons (λ (w : Wait). P w.0.client) first []
          (found_has {X = Wait} (is_taker row) (λ w. P w.0.client) soft.waits first found waiting) (All-nil (λ (w : Wait). P w.0.client))

  -- A release sends only to those that waited, and lets only those wait on.
  pub freed_sent : (bag : Bagged) (id : ℕ) (soft : Soft) → All (λ (w : Wait). P w.0.client) soft.waits
      → All (λ (send : ℕ × Reply). P send.0) (release bag id soft).sends
  freed_sent bag id soft waiting = by (get bag id)
    where
      by : (there : Option Tuple) → AllSent (release_tuple id there soft).sends
      by None = All-nil (λ (send : ℕ × Reply). P send.0)
      by (Some row) = dispatch_sent id row (record { holds = remove soft.holds id; waits = soft.waits }) waiting

  freed_left : (bag : Bagged) (id : ℕ) (soft : Soft) → AllWait soft.waits → AllWait (release bag id soft).soft.waits
  freed_left bag id soft waiting = by (get bag id)
    where
      others : (row : Tuple) → AllWait (without_readers row soft.waits)
      others row = All-filter {X = Wait} (λ w. not (is_reader row w)) (λ w. P w.0.client) soft.waits waiting

      first : (row : Tuple) (o : Option Wait) → AllWait (held_for id o (record { holds = remove soft.holds id; waits = without_readers row soft.waits })).waits
      first row None = others row
      first row (Some w) = All-filter {X = Wait} (λ v. not (same_request w.0 v.0)) (λ v. P v.0.client) (without_readers row soft.waits) (others row)

      by : (there : Option Tuple) → AllWait (release_tuple id there soft).soft.waits
      by None = waiting
      by (Some row) = first row (longest row soft.waits)

  -- So do releases one after the other.
  pub all_freed_sent : (bag : Bagged) (ids : List ℕ) (soft : Soft) → All (λ (w : Wait). P w.0.client) soft.waits
      → All (λ (send : ℕ × Reply). P send.0) (release_all bag ids soft).sends
  all_freed_sent bag [] soft waiting = All-nil (λ (send : ℕ × Reply). P send.0)
  all_freed_sent bag (id ∷ ids) soft waiting =
      All-append (λ (send : ℕ × Reply). P send.0) (release bag id soft).sends (release_all bag ids (release bag id soft).soft).sends
      (freed_sent bag id soft waiting)
      (all_freed_sent bag ids (release bag id soft).soft (freed_left bag id soft waiting))

-- Nothing is sent to a client that is closed.
pub closed_sends : (bag : Bagged) (client : ℕ) (soft : Soft) → All (λ (send : ℕ × Reply). send.0 ≢ client) (on_close bag client soft).sends
closed_sends bag client soft =
    all_freed_sent (λ c. c ≢ client) bag (held_in client (entries soft.holds)) (record { holds = soft.holds; waits = without_client client soft.waits })
    (all_kept {X = Wait} (λ w. not (client == w.0.client)) (λ w. Unit {0}) (λ w. w.0.client ≢ client)
    (λ w other was same. true≢false (sym other ∙ ap not (eq-eqb client w.0.client (sym same))))
    soft.waits (λ k d within. tt))
