-- How the sums over all places go with one place.
use Rattle.std.proofs.Common.{◌≡◌, ℕ, ◌+◌, ◌-◌, ◌≤◌, ◌<◌, ◌^◌, ◌==◌, min, true, false, true≢false, cond, All, Option}
use Rattle.std.proofs.Common.{Some, None, IfSome, refl, sym, ap, subst, ◌∙◌, nat_cmp, arith}
use Rattle.std.specs.Option.{unwrap_or, option_map}
use Rattle.std.specs.List.{sum_by}
use Rattle.std.specs.Map.{values_of}
use Rattle.std.specs.Cmp.{unsigned_Decides}
use Rattle.std.specs.FinMap.{empty, get, insert, remove, entries, len-entries, len-empty}
use Rattle.std.proofs.lemmas.List.{nil_from_length}
use Rattle.std.proofs.lemmas.List.Elements.{All-nil, All-weaker}
use Rattle.linda_map_laws.proofs.MapLaws.{get_empty, get_inserted, get_removed, get_removed_same, get_removed_other, get_same, get_other, same_map_by_key}
use Rattle.linda_map_laws.proofs.SumLaws.{sum_inserted}
use Rattle.linda_shared_accounts.specs.declared.place.Place.{Place}
use Rattle.linda_shared_accounts.specs.declared.place.Place.TheVariants as places
use Rattle.linda_shared_accounts.specs.declared.receipt.Receipt.{Receipt}
use Rattle.linda_shared_accounts.specs.Receipts.{client_in}
use Rattle.linda_shared_accounts.specs.Accounts.{Places, receipts_at, IsPlaceOf, is_away, weight_out, deeds_at, seats_out, Tallies}

-- what a sum has of a place that may be there
abbrev pub at_place : (Place → ℕ) → Option Place → ℕ
at_place f o = unwrap_or (option_map f o) 0

-- After a place is put in, what is parked is still each client's own.
own_put : (ps : Places) (c : ℕ) (p : Place) → IsPlaceOf c p → ((q : ℕ) → IfSome (get ps q) (IsPlaceOf q))
    → (q : ℕ) → IfSome (get (insert ps c p) q) (IsPlaceOf q)
own_put ps c p here own q =
    subst (λ o. IfSome o (IsPlaceOf q)) (sym (get_inserted ps c p q))
    (elim (q == c) as (λ b. (q == c) ≡ b → IfSome (cond b (Some p) (get ps q)) (IsPlaceOf q)) [
      | true ↦ λ e. subst (λ k. IsPlaceOf k p) (sym ((unsigned_Decides q c).0 e)) here
      | false ↦ λ e. own q
    ] refl)

own_removed : (ps : Places) (c : ℕ) → ((q : ℕ) → IfSome (get ps q) (IsPlaceOf q)) → (q : ℕ) → IfSome (get (remove ps c) q) (IsPlaceOf q)
own_removed ps c own q =
    subst (λ o. IfSome o (IsPlaceOf q)) (sym (get_removed ps c q))
    (elim (q == c) as (λ b. IfSome (cond b None (get ps q)) (IsPlaceOf q)) [
      | true ↦ tt
      | false ↦ own q
    ])

-- A place that was taken away, put in again.
put_again : (ps : Places) (c : ℕ) (p : Place) → get ps c ≡ Some p → insert (remove ps c) c p ≡ ps
put_again ps c p there =
    same_map_by_key _ _ c (get_same (remove ps c) c p ∙ sym there)
    (λ q apart. get_other (remove ps c) c p q apart ∙ get_removed_other ps c q apart)

abbrev sum_of : (Place → ℕ) → Places → ℕ
sum_of f ps = sum_by f (values_of (entries ps))

sum_put : (f : Place → ℕ) (ps : Places) (c : ℕ) (p : Place) (o : Option Place) → get ps c ≡ o → sum_of f (insert ps c p) + at_place f o ≡ sum_of f ps + f p
sum_put f ps c p o is = subst (λ x. sum_of f (insert ps c p) + at_place f x ≡ sum_of f ps + f p) is (sum_inserted f ps c p)

sum_removed : (f : Place → ℕ) (ps : Places) (c : ℕ) (p : Place) → get ps c ≡ Some p → sum_of f ps ≡ sum_of f (remove ps c) + f p
sum_removed f ps c p there =
    let whole : sum_of f (insert (remove ps c) c p) + 0 ≡ sum_of f (remove ps c) + f p = sum_put f (remove ps c) c p None (get_removed_same ps c) in
    let same : sum_of f (insert (remove ps c) c p) ≡ sum_of f ps = ap (sum_of f) (put_again ps c p there) in
    omega (arith, whole, same)

-- No place adds anything.
none_there : (f : Place → ℕ) → sum_of f (empty {X = Place} {R = nat_cmp}) ≡ 0
none_there f = ap (λ es. sum_by f (values_of es))
    (nil_from_length (entries (empty {X = Place} {R = nat_cmp})) (sym (len-entries empty) ∙ len-empty nat_cmp Place))

pub nothing_yet : Tallies 0 0 empty
nothing_yet = record {
  out_is = sym (none_there weight_out);
  back_is = sym (none_there deeds_at);
  own = λ q. subst (λ (o : Option Place). IfSome o (IsPlaceOf q)) (sym (get_empty q)) tt;
}

not_out : (o : Option Place) → is_away o ≡ false → at_place weight_out o ≡ 0
not_out None there = refl
not_out (Some places.Out) there = absurd (true≢false there)
not_out (Some (places.Parked ring deeds for_good)) there = refl

-- A seat goes out: the deeds that were reported to its client no longer count among those of the seats that are back.
pub goes_out : (out back : ℕ) (ps : Places) (c : ℕ) (o : Option Place) → Tallies out back ps → get ps c ≡ o → is_away o ≡ false
    → (at_place deeds_at o ≤ back) × Tallies (out + 1) (back - at_place deeds_at o) (insert ps c places.Out)
goes_out out back ps c o t is there =
    let outs = sum_put weight_out ps c places.Out o is in
    let none = not_out o there in
    let backs = sum_put deeds_at ps c places.Out o is in
    let out_is = t.out_is in
    let back_is = t.back_is in (
      omega (arith, backs, back_is),
      record {
        out_is = omega (arith, outs, none, out_is);
        back_is = omega (arith, backs, back_is);
        own = own_put ps c places.Out tt t.own;
      },
    )

-- A seat comes back, with the number of deeds that were reported to its client.
comes_back : (out back : ℕ) (ps : Places) (c : ℕ) (p : Place) → Tallies out back ps → get ps c ≡ Some places.Out → weight_out p ≡ 0 → IsPlaceOf c p
    → Tallies (out - 1) (back + deeds_at p) (insert ps c p)
comes_back out back ps c p t is parked here =
    let outs = sum_put weight_out ps c p (Some places.Out) is in
    let backs = sum_put deeds_at ps c p (Some places.Out) is in
    let out_is = t.out_is in
    let back_is = t.back_is in
    record {
      out_is = omega (arith, outs, parked, out_is);
      back_is = omega (arith, backs, back_is);
      own = own_put ps c p here t.own;
    }

-- A seat comes back and is given up.
gives_up : (out back : ℕ) (ps : Places) (c : ℕ) → Tallies out back ps → get ps c ≡ Some places.Out → Tallies (out - 1) back (remove ps c)
gives_up out back ps c t is =
    let outs = sum_removed weight_out ps c places.Out is in
    let backs = sum_removed deeds_at ps c places.Out is in
    let out_is = t.out_is in
    let back_is = t.back_is in
    record {
      out_is = omega (arith, outs, out_is);
      back_is = omega (arith, backs, back_is);
      own = own_removed ps c t.own;
    }

-- A place comes for another one that weighs the same.
pub put_over : (out back : ℕ) (ps : Places) (c : ℕ) (p q : Place) → Tallies out back ps → get ps c ≡ Some p
    → weight_out q ≡ weight_out p → deeds_at q ≡ deeds_at p → IsPlaceOf c q
    → Tallies out back (insert ps c q)
put_over out back ps c p q t is weighs counts here =
    let outs = sum_put weight_out ps c q (Some p) is in
    let backs = sum_put deeds_at ps c q (Some p) is in
    let out_is = t.out_is in
    let back_is = t.back_is in
    record {
      out_is = omega (arith, outs, weighs, out_is);
      back_is = omega (arith, backs, counts, back_is);
      own = own_put ps c q here t.own;
    }

-- A count that stops at the greatest u64 is the whole amount if the total is below 2 ^ 64.
counted_whole : (counted amount total : ℕ) → counted ≡ min amount (2 ^ 64 - 1) → amount ≤ total → total < 2 ^ 64 → counted ≡ amount
counted_whole counted amount total is few small = grind (arith, is, few, small)

-- A seat comes back with its count, which is the number of all deeds that were reported to its client.
pub comes_back_counted : (out back counted amount total : ℕ) (ps : Places) (c : ℕ) (p : Place) → Tallies out back ps → get ps c ≡ Some places.Out
    → counted ≡ min amount (2 ^ 64 - 1) → (amount ≤ total) × (total < 2 ^ 64) → weight_out p ≡ 0 → deeds_at p ≡ counted → IsPlaceOf c p
    → Tallies (out - 1) (back + amount) (insert ps c p)
comes_back_counted out back counted amount total ps c p t is counts most parked deeds here =
    subst (λ n. Tallies (out - 1) (back + n) (insert ps c p)) (deeds ∙ counted_whole counted amount total counts most.0 most.1)
    (comes_back out back ps c p t is parked here)

-- A seat comes back and is given up, since nothing was counted.
pub gives_up_uncounted : (out back counted amount total : ℕ) (ps : Places) (c : ℕ) → Tallies out back ps → get ps c ≡ Some places.Out
    → counted ≡ min amount (2 ^ 64 - 1) → (amount ≤ total) × (total < 2 ^ 64) → counted ≡ 0
    → Tallies (out - 1) (back + amount) (remove ps c)
gives_up_uncounted out back counted amount total ps c t is counts most none =
    let all = counted_whole counted amount total counts most.0 most.1 in
    let same : back ≡ back + amount = omega (arith, all, none) in
    subst (λ n. Tallies (out - 1) n (remove ps c)) same (gives_up out back ps c t is)

-- If the number of seats that are out is 0, no place is out.
pub nobody_out : (ps : Places) → seats_out ps ≡ 0 → (c : ℕ) → get ps c ≡ Some places.Out → ⊥
nobody_out ps none c is =
    let outs = sum_removed weight_out ps c places.Out is in
    omega (arith, outs, none)

-- What is parked for a client is of that client.
pub its_own : (c : ℕ) (o : Option Place) → IfSome o (IsPlaceOf c) → All (λ r. client_in r ≡ c) (receipts_at o)
its_own c None own = All-nil _
its_own c (Some places.Out) own = All-nil _
its_own c (Some (places.Parked ring deeds for_good)) own =
    All-weaker (λ (r : Receipt). client_in r ≡ ring.client) (λ r. client_in r ≡ c) (λ r its. its ∙ own.0) ring.receipts own.1.all_its
