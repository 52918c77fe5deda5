-- Each deed raises the sum of the kept numbers by one.
use Rattle.std.proofs.Common.{◌≡◌, ◌+◌, List, [], ◌∷◌, length, Option, Some, None, refl, subst, arith}
use Rattle.std.specs.Option.{unwrap_or, option_map}
use Rattle.std.specs.FinMap.{get}
use Rattle.linda_map_laws.proofs.SumLaws.{sum_inserted}
use Rattle.linda_book.specs.Entries.{Entry, number_in}
use Rattle.linda_store_state.specs.declared.deed.Deed.{Deed}
use Rattle.linda_store_state.specs.Deed.{client_of, number_of}
use Rattle.linda_store_state.specs.State.{State, IsState}
use Rattle.linda_store_state.specs.After.{reply_of_deed}
use Rattle.linda_store_state.specs.Proper.{IsAllowed, AreDone}
use Rattle.linda_store_state.specs.Numbers.{kept_sum}
use Rattle.linda_store_state.proofs.AfterLaws.{none_after, one_after}
use Rattle.linda_store_state.proofs.DoneLaws.{done, done_state}
use Rattle.linda_store_state.proofs.JoinLaws.{behind_one}

number_there : (o : Option Entry) → number_in o ≡ unwrap_or (option_map (λ (e : Entry). e.0) o) 0
number_there None = refl
number_there (Some e) = refl

-- One deed that is allowed.
one_more : (st : State) (d : Deed) → IsAllowed st d → kept_sum (done st d) ≡ kept_sum st + 1
one_more st d allowed =
    let whole = sum_inserted (λ (e : Entry). e.0) st.book (client_of d) (number_of d, reply_of_deed st [] d) in
    let was = number_there (get st.book (client_of d)) in
    let next = allowed.number in
    omega (arith, whole, was, next)

-- A proper list of so many deeds raises it by as many.
pub sum_done : (st : State) → IsState st → (ds : List Deed) (new : State) → AreDone st ds new → kept_sum new ≡ kept_sum st + length ds
sum_done st is [] new all =
    let same : st ≡ new = one_after st [] st new (none_after st is) all.after in
    subst (λ s. kept_sum s ≡ kept_sum st + 0) same (omega arith)
sum_done st is (d ∷ ds) new all =
    let allowed : IsAllowed st d = all.proper [] d ds st refl (none_after st is) in
    let rest = sum_done (done st d) (done_state st d is allowed) ds new (behind_one st new d ds is allowed all) in
    let one = one_more st d allowed in
    omega (arith, rest, one)
