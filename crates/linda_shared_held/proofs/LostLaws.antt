-- What is covered stays covered while deeds are done that are reported to nobody.
use Rattle.std.proofs.Common.{◌≡◌, ℕ, ◌+◌, ◌<◌, true, false, true≢false, cond, ◌==◌, Bool, List, [], ◌∷◌, Option, Some}
use Rattle.std.proofs.Common.{None, All, IfSome, inl, inr, refl, sym, ap, ◌∙◌, subst, eqb-true, arith}
use Rattle.std.proofs.lemmas.Bool.{cases_Bool}
use Rattle.std.proofs.lemmas.List.Elements.{All-weaker}
use Rattle.std.specs.FinMap.{get}
use Rattle.linda_wire.specs.declared.reply.Reply.{Reply}
use Rattle.linda_book.specs.declared.kept_reply.KeptReply.{KeptReply}
use Rattle.linda_book.specs.declared.kept_reply.KeptReply.TheVariants as kept
use Rattle.linda_book.specs.Entries.{number_in}
use Rattle.linda_store_state.specs.declared.deed.Deed.{Deed}
use Rattle.linda_store_state.specs.Deed.{client_of, number_of}
use Rattle.linda_store_state.specs.State.{State, IsState}
use Rattle.linda_store_state.specs.After.{IsAfter, entry_after, reply_of_deed}
use Rattle.linda_store_state.specs.Proper.{IsAllowed, AreDone}
use Rattle.linda_store_state.proofs.AfterLaws.{none_after, one_after}
use Rattle.linda_store_state.proofs.DoneLaws.{done, done_after, done_state}
use Rattle.linda_store_state.proofs.JoinLaws.{behind_one}
use Rattle.linda_store_step.specs.Answer.{reply_of_kept, last_number}
use Rattle.linda_store_step.specs.Store.{Store}
use Rattle.linda_store_step.specs.Covered.{number_in_reply, IsCovered}
use Rattle.linda_shared_held.specs.Order.{known}
use Rattle.linda_shared_held.specs.Covered.{BoxesCovered}

kept_number : (n : ℕ) (reply : KeptReply) → number_in_reply (reply_of_kept n reply) ≡ n
kept_number n (kept.Stored id) = refl
kept_number n (kept.Taken id tuple) = refl
kept_number n kept.Gone = refl
kept_number n kept.Left = refl

-- The client's last number is one more.
passed : (st new : State) (send : ℕ × Reply) → last_number new send.0 ≡ last_number st send.0 + 1 → IsCovered st send → IsCovered new send
passed st new send more covered reports =
    elim (covered reports) [
      | inl low ↦ inl (omega (arith, low, more))
      | inr keeps ↦
          let n : number_in_reply send.1 ≡ keeps.entry.0 = ap number_in_reply keeps.reply ∙ kept_number keeps.entry.0 keeps.entry.1 in
          let last : last_number st send.0 ≡ keeps.entry.0 = ap number_in keeps.kept in
          inl (omega (arith, n, last, more))
    ]

-- The client's entry is as it was.
same_entry : (st new : State) (send : ℕ × Reply) → get new.book send.0 ≡ get st.book send.0 → IsCovered st send → IsCovered new send
same_entry st new send same covered reports =
    elim (covered reports) [
      | inl low ↦ inl (subst (λ e. number_in_reply send.1 < number_in e) (sym same) low)
      | inr keeps ↦ inr (record { entry = keeps.entry; kept = same ∙ keeps.kept; reply = keeps.reply })
    ]

-- One deed more: its client goes on by it, and the entries of the others are as they were.
one_covered : (st : State) (d : Deed) (send : ℕ × Reply) → IsState st → IsAllowed st d → IsCovered st send → IsCovered (done st d) send
one_covered st d send is allowed covered =
    let after : IsAfter st (d ∷ []) (done st d) = done_after st d is in
    elim (cases_Bool (client_of d == send.0)) [
      | inl own ↦
          let there : get (done st d).book send.0 ≡ Some (number_of d, reply_of_deed st [] d) =
          after.book send.0 ∙ ap (λ b. entry_after st send.0 (cond b (Some ([], d)) None)) own in
          let mine : number_of d ≡ last_number st send.0 + 1 =
          subst (λ c. number_of d ≡ last_number st c + 1) (eqb-true (client_of d) send.0 own) allowed.number in
          passed st (done st d) send (ap number_in there ∙ mine) covered
      | inr other ↦ same_entry st (done st d) send (after.book send.0 ∙ ap (λ b. entry_after st send.0 (cond b (Some ([], d)) None)) other) covered
    ]

-- Many more.
all_covered : (ds : List Deed) (st new : State) (send : ℕ × Reply) → IsState st → AreDone st ds new → IsCovered st send → IsCovered new send
all_covered [] st new send is all covered = subst (λ s. IsCovered s send) (one_after st [] st new (none_after st is) all.after) covered
all_covered (d ∷ ds) st new send is all covered =
    let allowed : IsAllowed st d = all.proper [] d ds st refl (none_after st is) in
    all_covered ds (done st d) new send (done_state st d is allowed) (behind_one st new d ds is allowed all) (one_covered st d send is allowed covered)

-- The same holds of all that waits.
pub boxes_behind : (ds : List Deed) (st new : State) (waits : ℕ → Option (List Reply)) → IsState st
    → AreDone st ds new → BoxesCovered st waits → BoxesCovered new waits
boxes_behind ds st new waits is all covered c = at (waits c) (covered c)
  where
    at : (o : Option (List Reply)) → IfSome o (All (λ (r : Reply). IsCovered st (c, r))) → IfSome o (All (λ (r : Reply). IsCovered new (c, r)))
    at None none = tt
    at (Some rs) some = All-weaker (λ (r : Reply). IsCovered st (c, r)) (λ (r : Reply). IsCovered new (c, r)) (λ r. all_covered ds st new (c, r) is all) rs some

-- While the server is down, what waits is covered by the state before.
pub is_covered_down : (waits : ℕ → Option (List Reply)) (is_down : Bool) (before : State) (store : Store)
    → is_down ≡ true → BoxesCovered (known before store is_down) waits → BoxesCovered before waits
is_covered_down waits true before store is covered = covered
is_covered_down waits false before store is covered = absurd (true≢false (sym is))
