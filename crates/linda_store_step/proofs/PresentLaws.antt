-- What holds of the client of each request that waits or holds: what each step keeps of it, and whom a Leave leaves.
use Rattle.std.proofs.Common.{◌≡◌, ◌≢◌, ℕ, Bool, true, false, true≢false, ◌==◌, List, [], ◌∷◌, Option, Some, None}
use Rattle.std.proofs.Common.{IfSome, All, inl, inr, refl, sym, ap, ◌∙◌, subst, eq-eqb}
use Rattle.std.proofs.lemmas.Bool.{cases_eq}
use Rattle.std.proofs.lemmas.List.Elements.{All-nil, All-append, All-cons, All-filter}
use Rattle.std.specs.FinMap.{get, insert, remove}
use Rattle.linda_tuple.specs.Tuple.{Tuple}
use Rattle.linda_map_laws.proofs.MapLaws.{get_same, get_other, get_removed_same, get_removed_other, get_empty}
use Rattle.linda_hold.specs.declared.request.Request.{Request}
use Rattle.linda_hold.specs.Request.{same_request}
use Rattle.linda_hold.specs.Waits.{Wait, is_reader, is_taker, without_readers, longest}
use Rattle.linda_hold.specs.Holds.{HeldFor}
use Rattle.linda_store_step.specs.Soft.{Soft, Bagged, IsSoft, OfAsking, no_asks}
use Rattle.linda_store_step.specs.Dispatch.{dispatch, held_for, release, release_tuple, on_close}
use Rattle.linda_store_step.proofs.WaitLaws.{none_passes, found_has}
use Rattle.linda_store_step.proofs.SoftLaws.{kept_waits}
use Rattle.linda_store_step.proofs.ReleaseLaws.{closed_waits, closed_holds}

-- If P of what an option has gives Q of it, and P holds of it, so does Q.
if_some_by : {X : Type 0} (o : Option X) (P Q : X → Type 0) → ((x : X) → o ≡ Some x → P x → Q x) → IfSome o P → IfSome o Q
if_some_by None P Q gives is = tt
if_some_by (Some x) P Q gives is = gives x refl is

module _ (P : ℕ → Type 0) where
  abbrev AllWait : List Wait → Type 0
  AllWait waits = All (λ (w : Wait). P w.0.client) waits

  abbrev AllHold : HeldFor → Type 0
  AllHold holds = (id : ℕ) → IfSome (get holds id) (λ (r : Request). P r.client)

  pub fewer_asking : (p : Wait → Bool) (soft : Soft) → OfAsking P soft → OfAsking P (kept_waits p soft)
  fewer_asking p soft is = record { waits = All-filter p (λ (w : Wait). P w.0.client) soft.waits is.waits; holds = is.holds }

  held_more : (holds : HeldFor) (id : ℕ) (request : Request) → P request.client → AllHold holds → AllHold (insert holds id request)
  held_more holds id request own is k =
      elim (cases_eq k id) [
        | inl same ↦ subst (λ o. IfSome o (λ (r : Request). P r.client)) (sym (ap (get (insert holds id request)) same ∙ get_same holds id request)) own
        | inr other ↦ subst (λ o. IfSome o (λ (r : Request). P r.client)) (sym (get_other holds id request k other)) (is k)
      ]

  held_fewer : (holds : HeldFor) (id : ℕ) → AllHold holds → AllHold (remove holds id)
  held_fewer holds id is k =
      elim (cases_eq k id) [
        | inl same ↦ subst (λ o. IfSome o (λ (r : Request). P r.client)) (sym (ap (get (remove holds id)) same ∙ get_removed_same holds id)) tt
        | inr other ↦ subst (λ o. IfSome o (λ (r : Request). P r.client)) (sym (get_removed_other holds id k other)) (is k)
      ]

  -- One tuple less is held.
  pub taken_asking : (id : ℕ) (soft : Soft) → OfAsking P soft → OfAsking P (record { holds = remove soft.holds id; waits = soft.waits })
  taken_asking id soft is = record { waits = is.waits; holds = held_fewer soft.holds id is.holds }

  -- One more is held, for such a client; or one such waits.
  pub held_asking : (id : ℕ) (request : Request) (soft : Soft) → P request.client → OfAsking P soft
      → OfAsking P (record { holds = insert soft.holds id request; waits = soft.waits })
  held_asking id request soft own is = record { waits = is.waits; holds = held_more soft.holds id request own is.holds }

  pub waiting_asking : (w : Wait) (soft : Soft) → P w.0.client → OfAsking P soft
      → OfAsking P (record { holds = soft.holds; waits = Rattle.std.proofs.Common.◌++◌ soft.waits (w ∷ []) })
  waiting_asking w soft own is = record {
    waits = All-append (λ (v : Wait). P v.0.client) soft.waits (w ∷ []) is.waits
        (All-cons (λ (v : Wait). P v.0.client) w [] own (All-nil (λ (v : Wait). P v.0.client)));
    holds = is.holds;
  }

  -- A dispatch lets only those wait and hold that waited.
  pub dispatched_asking : (id : ℕ) (row : Tuple) (soft : Soft) → OfAsking P soft → OfAsking P (dispatch id row soft).soft
  dispatched_asking id row soft is = by (longest row soft.waits) refl
    where
      others : AllWait (without_readers row soft.waits)
      others = All-filter {X = Wait} (λ w. Rattle.std.proofs.Common.not (is_reader row w)) (λ w. P w.0.client) soft.waits is.waits

      by : (o : Option Wait) → longest row soft.waits ≡ o → OfAsking P (held_for id o (record { holds = soft.holds; waits = without_readers row soft.waits }))
      by None none = record { waits = others; holds = is.holds }
      by (Some w) found = record {
        waits = All-filter {X = Wait} (λ v. Rattle.std.proofs.Common.not (same_request w.0 v.0)) (λ v. P v.0.client) (without_readers row soft.waits) others;
        holds = held_more soft.holds id w.0 (found_has {X = Wait} (is_taker row) (λ v. P v.0.client) soft.waits w found is.waits) is.holds;
      }

  pub freed_asking : (bag : Bagged) (id : ℕ) (soft : Soft) → OfAsking P soft → OfAsking P (release bag id soft).soft
  freed_asking bag id soft is = by (get bag id)
    where
      by : (there : Option Tuple) → OfAsking P (release_tuple id there soft).soft
      by None = is
      by (Some row) = dispatched_asking id row (record { holds = remove soft.holds id; waits = soft.waits }) (taken_asking id soft is)

  pub no_asking : OfAsking P no_asks
  no_asking = record { waits = All-nil (λ (w : Wait). P w.0.client); holds = λ id. subst (λ o. IfSome o (λ (r : Request). P r.client)) (sym (get_empty id)) tt }

-- If P of a client gives Q of it, then P of all who ask gives Q of all who ask.
pub asking_by : (P Q : ℕ → Type 0) (soft : Soft) → ((c : ℕ) → P c → Q c) → OfAsking P soft → OfAsking Q soft
asking_by P Q soft gives is = record {
  waits = λ k d within. gives _ (is.waits k d within);
  holds = λ id. if_some_by (get soft.holds id) (λ (r : Request). P r.client) (λ (r : Request). Q r.client) (λ r e own. gives r.client own) (is.holds id);
}

-- Once a client is closed, all who ask are others, who asked before.
pub closed_asking : (P : ℕ → Type 0) (bag : Bagged) (client : ℕ) (soft : Soft) → IsSoft bag soft
    → OfAsking P (on_close bag client soft).soft → OfAsking (λ c. P c × (c ≢ client)) (on_close bag client soft).soft
closed_asking P bag client soft is asking = record {
  waits = λ k d within. (
    asking.waits k d within,
    λ same. true≢false (sym (eq-eqb client _ (sym same))
        ∙ none_passes (λ (w : Wait). client == w.0.client) (on_close bag client soft).soft.waits (closed_waits bag client soft) k d within),
  );
  holds = λ id.
      if_some_by (get (on_close bag client soft).soft.holds id) (λ (r : Request). P r.client) (λ (r : Request). P r.client × (r.client ≢ client))
      (λ r held own. (own, λ same. closed_holds bag client r same soft is id held)) (asking.holds id);
}
