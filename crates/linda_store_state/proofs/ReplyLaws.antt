-- The reply to a deed that comes after others.
use Rattle.std.proofs.Common.{◌≡◌, ℕ, ◌+◌, ◌==◌, true, cond, List, [], ◌∷◌, Some, None, length, refl, sym, ap, ◌∙◌, eq-eqb, arith}
use Rattle.std.proofs.lemmas.Option.{same_Some}
use Rattle.std.specs.FinMap.{get}
use Rattle.linda_book.specs.declared.kept_reply.KeptReply.TheVariants as kept
use Rattle.linda_book.specs.Entries.{Entry}
use Rattle.linda_store_state.specs.declared.deed.Deed.{Deed}
use Rattle.linda_store_state.specs.declared.deed.Deed.TheVariants.{Out, Take, Pass, Leave}
use Rattle.linda_store_state.specs.Deed.{client_of, number_of, outs_of}
use Rattle.linda_store_state.specs.State.{State, IsState}
use Rattle.linda_store_state.specs.After.{IsAfter, entry_after, taken_reply, reply_of_deed}
use Rattle.linda_store_state.proofs.AfterLaws.{none_after}

-- In a state that deeds led to, the reply to a deed is that to it after these deeds.
pub reply_behind : (st mid : State) (ds : List Deed) (d : Deed) → IsState mid → IsAfter st ds mid → reply_of_deed mid [] d ≡ reply_of_deed st ds d
reply_behind st mid ds (Out c n tuple) is after =
    let next = after.next in
    let same : mid.next + 0 ≡ st.next + length (outs_of ds) = omega (arith, next) in
    ap kept.Stored same
reply_behind st mid ds (Take c n id) is after = ap (taken_reply id) (sym ((none_after mid is).bag id) ∙ after.bag id)
reply_behind st mid ds (Pass c n id) is after = refl
reply_behind st mid ds (Leave c n) is after = refl

-- After a deed the book has its number and its reply for its client.
pub kept_behind : (st new : State) (d : Deed) → IsAfter st (d ∷ []) new → get new.book (client_of d) ≡ Some (number_of d, reply_of_deed st [] d)
kept_behind st new d after =
    let own : (client_of d == client_of d) ≡ true = eq-eqb (client_of d) (client_of d) refl in
    after.book (client_of d) ∙ ap (λ b. entry_after st (client_of d) (cond b (Some ([], d)) None)) own

-- So what is found there for the client is that reply.
pub entry_behind : (st new : State) (d : Deed) (c : ℕ) (entry : Entry) → IsAfter st (d ∷ []) new
    → client_of d ≡ c → get new.book c ≡ Some entry → entry.1 ≡ reply_of_deed st [] d
entry_behind st new d c entry after mine there =
    ap (λ (e : Entry). e.1) (same_Some entry (number_of d, reply_of_deed st [] d) (sym there ∙ (ap (get new.book) (sym mine) ∙ kept_behind st new d after)))
