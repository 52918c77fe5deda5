-- Places that are shortened, and numbers that are remembered.
use Rattle.std.proofs.Common.{◌≡◌, ◌≢◌, ℕ, ◌==◌, inl, inr, true, false, cond, List, Option, Some, None, IfSome}
use Rattle.std.proofs.Common.{BTreeMap, refl, sym, ap, subst, ◌∙◌, nat_cmp, arith}
use Rattle.std.specs.BTreeMap as tree
use Rattle.std.specs.Cmp.{nat_cmp_total, eq_by_cmp_equiv, unsigned_ties, unsigned_Decides}
use Rattle.std.specs.FinMap.{get, insert}
use Rattle.std.proofs.lemmas.Bool.{cases_eq}
use Rattle.linda_map_laws.proofs.MapLaws.{get_same, get_other, same_map_by_key}
use Rattle.linda_store_state.specs.State.{State}
use Rattle.linda_store_step.specs.Answer.{last_number}
use Rattle.linda_shared_accounts.specs.declared.place.Place.{Place}
use Rattle.linda_shared_accounts.specs.declared.place.Place.TheVariants as places
use Rattle.linda_shared_accounts.specs.declared.receipt.Receipt.{Receipt}
use Rattle.linda_shared_accounts.specs.Ring.{ring_of}
use Rattle.linda_shared_accounts.specs.Recall.{AreKept}
use Rattle.linda_shared_accounts.specs.Accounts.{Places, IsPlaceOf, Tallies, weight_out, deeds_at, shortened, shortened_at, AreShortened}
use Rattle.linda_shared_accounts.proofs.CutLaws.{kept_ring, kept_all}
use Rattle.linda_shared_accounts.proofs.AccountsLaws.{put_over}

weighs_same : (p : Place) → weight_out (shortened p) ≡ weight_out p
weighs_same places.Out = refl
weighs_same (places.Parked ring deeds true) = refl
weighs_same (places.Parked ring deeds false) = refl

counts_same : (p : Place) → deeds_at (shortened p) ≡ deeds_at p
counts_same places.Out = refl
counts_same (places.Parked ring deeds true) = refl
counts_same (places.Parked ring deeds false) = refl

its_place : (c : ℕ) (p : Place) → IsPlaceOf c p → IsPlaceOf c (shortened p)
its_place c places.Out own = own
its_place c (places.Parked ring deeds true) own = own
its_place c (places.Parked ring deeds false) own = (own.0, kept_ring ring.client 1 ring.receipts own.1)

-- If one place is shortened, the tallies stay.
pub tallies_stay : (out back : ℕ) (ps qs : Places) (c : ℕ) → Tallies out back ps → get qs c ≡ shortened_at (get ps c)
    → ((q : ℕ) → q ≢ c → get qs q ≡ get ps q) → Tallies out back qs
tallies_stay out back ps qs c t here others = by (get ps c) refl
  where
    by : (o : Option Place) → get ps c ≡ o → Tallies out back qs
    by None is =
        subst (Tallies out back) (same_map_by_key ps qs c (is ∙ sym (here ∙ ap shortened_at is)) (λ q apart. sym (others q apart))) t
    by (Some p) is =
        let all : insert ps c (shortened p) ≡ qs =
        same_map_by_key _ _ c (get_same ps c (shortened p) ∙ sym (here ∙ ap shortened_at is))
        (λ q apart. get_other ps c (shortened p) q apart ∙ sym (others q apart)) in
        subst (Tallies out back) all (put_over out back ps c p (shortened p) t is (weighs_same p)
        (counts_same p) (its_place c p (subst (λ o. IfSome o (IsPlaceOf c)) is (t.own c))))

-- If the number that the book keeps for a client is noted, all numbers are still those that it keeps.
pub noted : (st : State) (old new : BTreeMap ℕ ℕ) (k : ℕ) → tree.Updates nat_cmp old new k (Some (last_number st k)) → AreKept st old → AreKept st new
noted st old new k updates kept q =
    let is : tree.get nat_cmp new q ≡ cond (q == k) (Some (last_number st k)) (tree.get nat_cmp old q) =
    updates.0 q ∙ ap (λ b. cond b (Some (last_number st k)) (tree.get nat_cmp old q)) ((eq_by_cmp_equiv nat_cmp_total).symm k q ∙ sym (unsigned_ties q k)) in
    subst (λ (o : Option ℕ). IfSome o (λ n. n ≡ last_number st q)) (sym is)
    (elim (q == k) as (λ b. (q == k) ≡ b → IfSome (cond b (Some (last_number st k)) (tree.get nat_cmp old q)) (λ n. n ≡ last_number st q)) [
      | true ↦ λ e. ap (last_number st) (sym ((unsigned_Decides q k).0 e))
      | false ↦ λ e. kept q
    ] refl)

-- What is shortened twice is shortened.
shortened_twice : (o : Option Place) → shortened_at (shortened_at o) ≡ shortened_at o
shortened_twice None = refl
shortened_twice (Some places.Out) = refl
shortened_twice (Some (places.Parked ring deeds true)) = refl
shortened_twice (Some (places.Parked ring deeds false)) =
    ap (λ (rs : List Receipt). Some (places.Parked (ring_of ring.client rs) deeds false)) (kept_all 1 1 ring.receipts (omega arith))

-- One place more is shortened.
pub shorten_more : (ps qs rs : Places) (c : ℕ) → AreShortened ps qs → get rs c ≡ shortened_at (get qs c)
    → ((q : ℕ) → q ≢ c → get rs q ≡ get qs q) → AreShortened ps rs
shorten_more ps qs rs c are here others q =
    elim (cases_eq q c) [
      | inl same ↦
          let at : get rs q ≡ shortened_at (get qs q) = subst (λ k. get rs k ≡ shortened_at (get qs k)) (sym same) here in
          elim (are q) [
            | inl is ↦ inr (at ∙ ap shortened_at is)
            | inr is ↦ inr (at ∙ (ap shortened_at is ∙ shortened_twice (get ps q)))
          ]
      | inr apart ↦ elim (are q) [
        | inl is ↦ inl (others q apart ∙ is)
        | inr is ↦ inr (others q apart ∙ is)
      ]
    ]
