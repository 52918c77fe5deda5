-- Lists of ids that rise: the place of an id, and what an edit leaves.
use Rattle.std.proofs.Common.{◌≡◌, ◌≢◌, ℕ, ◌+◌, ◌-◌, ◌<◌, ◌≤◌, List, length, get_or, sym, ap, subst, inl, inr, arith}
use Rattle.std.specs.List.{insert, remove}
use Rattle.std.proofs.lemmas.Bool.{cases_order}
use Rattle.std.proofs.lemmas.List.Edits.{length-insert, get_or-insert_below, get_or-insert_at, get_or-insert_above}
use Rattle.std.proofs.lemmas.List.Edits.{length-remove, get_or-remove_below, get_or-remove_above}
use Rattle.linda_rising.specs.Rows.{Rises, IsPlace}

-- No place of the list has the id.
abbrev pub IsAbsent : List ℕ → ℕ → Type 0
IsAbsent ids id = (j : ℕ) → j < length ids → get_or ids j 0 ≢ id

-- Each id from the place on is not lower than this one, and not this one: so it is higher.
pub higher_there : (ids : List ℕ) (id at : ℕ) → IsPlace ids id at → IsAbsent ids id → (k : ℕ) → at ≤ k → k < length ids → id < get_or ids k 0
higher_there ids id at place absent k le l =
    elim (cases_order id (get_or ids k 0)) [
      | inl same ↦ absurd (absent k l (sym same))
      | inr (inl lower) ↦ lower
      | inr (inr higher) ↦ absurd (omega (arith, place.above k le l))
    ]

-- An id that is not there rises at its place.
pub rises_insert : (ids : List ℕ) → Rises ids → (id at : ℕ) → IsPlace ids id at → IsAbsent ids id → Rises (insert ids at id)
rises_insert ids rises id at place absent i j less inside =
    let new = insert ids at id in
    let long = length-insert ids at id place.bound in
    let below : (k : ℕ) → k < at → get_or new k 0 ≡ get_or ids k 0 = λ k l. get_or-insert_below ids at id 0 k l place.bound in
    let here : (k : ℕ) → k ≡ at → get_or new k 0 ≡ id = λ k l. rw l (get_or-insert_at ids at id 0 place.bound) in
    let above : (k : ℕ) → at < k → get_or new k 0 ≡ get_or ids (k - 1) 0 =
    λ k l. subst (λ q. get_or new q 0 ≡ get_or ids (k - 1) 0) {x = k - 1 + 1} (omega arith)
    (get_or-insert_above ids at id 0 (k - 1) (omega arith) place.bound) in
    let higher : (k : ℕ) → at ≤ k → k < length ids → id < get_or ids k 0 = higher_there ids id at place absent in
    grind (arith, below i, here i, above i, below j, here j, above j, rises i j, rises i (j - 1), rises (i - 1) (j - 1), place.below i, higher (j - 1))

-- The ids without one of them rise.
pub rises_remove : (ids : List ℕ) (at : ℕ) → Rises ids → at < length ids → Rises (remove ids at)
rises_remove ids at rises within i j less inside =
    let new = remove ids at in
    let long = length-remove ids at within in
    let below : (k : ℕ) → k < at → get_or new k 0 ≡ get_or ids k 0 = λ k l. get_or-remove_below ids at 0 k l within in
    let above : (k : ℕ) → at ≤ k → get_or new k 0 ≡ get_or ids (k + 1) 0 = λ k l. get_or-remove_above ids at 0 k l within in
    grind (arith, below i, above i, below j, above j, rises i j, rises i (j + 1), rises (i + 1) (j + 1))

-- Ids that rise do not fall.
pub falls_never : (ids : List ℕ) → Rises ids → (i j : ℕ) → i ≤ j → j < length ids → get_or ids i 0 ≤ get_or ids j 0
falls_never ids rises i j le within =
    elim (cases_order i j) [
      | inl same ↦ omega (arith, ap (λ k. get_or ids k 0) same)
      | inr (inl less) ↦ omega (arith, rises i j less within)
      | inr (inr more) ↦ absurd (omega arith)
    ]
