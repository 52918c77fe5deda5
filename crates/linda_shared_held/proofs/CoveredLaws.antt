-- What waits in the outboxes is kept, until the client's next number is.
use Rattle.std.proofs.Common.{◌≡◌, ℕ, inl, inr, true, cond, ◌==◌, List, [], ◌∷◌, Option, Some, None, All, IfSome, sym, ap, subst, eqb-true}
use Rattle.std.proofs.lemmas.Bool.{cases_Bool, cases_eq}
use Rattle.std.proofs.lemmas.List.Elements.{All-nil, All-cons, All-head, All-tail, All-append, All-weaker}
use Rattle.linda_wire.specs.declared.reply.Reply.{Reply}
use Rattle.linda_store_state.specs.State.{State}
use Rattle.linda_store_step.specs.Soft.{Soft, Bagged}
use Rattle.linda_store_step.specs.Dispatch.{on_close}
use Rattle.linda_store_step.specs.Covered.{IsCovered}
use Rattle.linda_store_step.proofs.CoveredLaws.{close_sends}
use Rattle.linda_shared_outbox.specs.Replies.{replies_to, with_more}
use Rattle.linda_shared_outbox.specs.declared.outboxes.Outboxes.{Outboxes}
use Rattle.linda_shared_outbox.specs.Waiting.{waits_for}
use Rattle.linda_shared_held.specs.Covered.{BoxesCovered}
use Rattle.linda_shared_held.specs.Kept.{KeepCovered}
use Rattle.linda_shared_held.specs.Posted.{HasClosed}

-- ---- outboxes

to_client : (new : State) (c : ℕ) (ss : List (ℕ × Reply)) → All (IsCovered new) ss → All (λ (r : Reply). IsCovered new (c, r)) (replies_to c ss)
to_client new c [] all = All-nil (λ (r : Reply). IsCovered new (c, r))
to_client new c (s ∷ ss) all =
    let P : Reply → Type 0 = λ r. IsCovered new (c, r) in
    let rest = to_client new c ss (All-tail (IsCovered new) s ss all) in
    elim (cases_Bool (s.0 == c)) [
      | inl own ↦
          subst (λ b. All P (cond b (s.1 ∷ replies_to c ss) (replies_to c ss))) (sym own)
          (All-cons P s.1 (replies_to c ss) (subst (λ k. IsCovered new (k, s.1)) (eqb-true s.0 c own) (All-head (IsCovered new) s ss all)) rest)
      | inr other ↦ subst (λ b. All P (cond b (s.1 ∷ replies_to c ss) (replies_to c ss))) (sym other) rest
    ]

-- What was covered stays so, and what is posted is covered.
pub boxes_more : (st new : State) (sends : List (ℕ × Reply)) (waits0 waits1 : ℕ → Option (List Reply))
    → ((send : ℕ × Reply) → IsCovered st send → IsCovered new send) → All (IsCovered new) sends
    → ((c : ℕ) → waits1 c ≡ with_more (replies_to c sends) (waits0 c)) → BoxesCovered st waits0 → BoxesCovered new waits1
boxes_more st new sends waits0 waits1 stays all more covered c =
    subst (λ o. IfSome o (All (λ (r : Reply). IsCovered new (c, r)))) (sym (more c)) (at (waits0 c) (covered c))
  where
    at : (o : Option (List Reply)) → IfSome o (All (λ (r : Reply). IsCovered st (c, r)))
        → IfSome (with_more (replies_to c sends) o) (All (λ (r : Reply). IsCovered new (c, r)))
    at None none = tt
    at (Some rs) some =
        All-append (λ (r : Reply). IsCovered new (c, r)) rs (replies_to c sends)
        (All-weaker (λ (r : Reply). IsCovered st (c, r)) (λ (r : Reply). IsCovered new (c, r)) (λ r. stays (c, r)) rs some)
        (to_client new c sends all)

-- Nothing is posted.
pub boxes_same : (st new : State) (waits0 waits1 : ℕ → Option (List Reply)) → ((send : ℕ × Reply) → IsCovered st send → IsCovered new send)
    → ((c : ℕ) → waits1 c ≡ waits0 c) → BoxesCovered st waits0 → BoxesCovered new waits1
boxes_same st new waits0 waits1 stays same covered c =
    subst (λ o. IfSome o (All (λ (r : Reply). IsCovered new (c, r)))) (sym (same c)) (at (waits0 c) (covered c))
  where
    at : (o : Option (List Reply)) → IfSome o (All (λ (r : Reply). IsCovered st (c, r))) → IfSome o (All (λ (r : Reply). IsCovered new (c, r)))
    at None none = tt
    at (Some rs) some = All-weaker (λ (r : Reply). IsCovered st (c, r)) (λ (r : Reply). IsCovered new (c, r)) (λ r. stays (c, r)) rs some

-- One outbox is empty, and the others are as before.
pub boxes_but : (st : State) (client : ℕ) (waits0 waits1 : ℕ → Option (List Reply)) → IfSome (waits1 client) (λ rs. rs ≡ [])
    → ((c : ℕ) → (c ≡ client → ⊥) → waits1 c ≡ waits0 c) → BoxesCovered st waits0 → BoxesCovered st waits1
boxes_but st client waits0 waits1 empty others covered c =
    elim (cases_eq c client) [
      | inl here ↦ subst (λ c. IfSome (waits1 c) (All (λ (r : Reply). IsCovered st (c, r)))) (sym here) (at (waits1 client) empty)
      | inr apart ↦ subst (λ o. IfSome o (All (λ (r : Reply). IsCovered st (c, r)))) (sym (others c apart)) (covered c)
    ]
  where
    at : (o : Option (List Reply)) → IfSome o (λ rs. rs ≡ []) → IfSome o (All (λ (r : Reply). IsCovered st (client, r)))
    at None none = tt
    at (Some rs) some = subst (All (λ (r : Reply). IsCovered st (client, r))) (sym some) (All-nil (λ (r : Reply). IsCovered st (client, r)))

-- What a close sends reports no deed that is not kept.
closes_covered : (st : State) (bag : Bagged) (client : ℕ) (old soft : Soft) (sends : List (ℕ × Reply))
    → record { sends = sends; soft = soft } ≡ on_close bag client old → All (IsCovered st) sends
closes_covered st bag client old soft sends closed = subst (All (IsCovered st)) (sym (ap (λ s. s.sends) closed)) (close_sends st bag client old)

pub close_keeps : {bag : Bagged} {client : ℕ} {was soft : Soft} (old new : Outboxes)
    → HasClosed bag client was (λ q. waits_for old q) (λ q. waits_for new q) soft → KeepCovered old new
close_keeps {bag} {client} {was} {soft} old new closes st covered =
    boxes_more st st closes.sends (λ q. waits_for old q) (λ q. waits_for new q) (λ send is. is)
    (closes_covered st bag client was soft closes.sends closes.closed) closes.posted_is covered
