-- The numbers of a client's requests: those in its map, and as many as are there.
use Rattle.std.proofs.Common.{◌≡◌, ◌⊎◌, inl, inr, ℕ, ◌≤◌, arith, Bool, true, false, ◌||◌, cond, List, [], ◌∷◌, Option}
use Rattle.std.proofs.Common.{None, Some, is_some, length, map, unwrap_or, refl, sym, ap, subst, ◌∙◌, nat_cmp}
use Rattle.std.proofs.Common.{true≢false}
use Rattle.std.specs.BTreeSet.{BTreeSet}
use Rattle.std.specs.BTreeSet as sets
use Rattle.std.specs.BTreeMap.{is_at}
use Rattle.std.specs.Ordering.{is_eq, eq_by_cmp}
use Rattle.std.specs.Option.{option_map}
use Rattle.std.specs.Cmp.{IsEquivalence, nat_cmp_total, eq_by_cmp_equiv}
use Rattle.std.specs.List.{list_any, IsDistinct, Contains}
use Rattle.std.specs.List.Sorted.{IsStrictlySortedBy}
use Rattle.std.specs.Map.{lookup, keys_of, values_of}
use Rattle.std.proofs.lemmas.Bool.{or_cases, or_left, or_right}
use Rattle.std.proofs.lemmas.Bool.Decides.{same_from_decides}
use Rattle.std.proofs.lemmas.List.{length-map}
use Rattle.std.proofs.lemmas.Map.Entries.{length-keys_of, length-values_of}
use Rattle.std.proofs.lemmas.Map.Keys.{IsDistinct-from_sorted}
use Rattle.std.proofs.lemmas.Map.Made.{is_member-Decides, length-le_from_is_member, is_some-lookup, Contains-values_of, Contains-from_values_of}
use Rattle.std.proofs.lemmas.Map.Views.{Contains-from_lookup, lookup-from_Contains}
use Rattle.linda_bag.specs.Filing.{HasIds, row_at, rows_at, placed}
use Rattle.linda_hold.specs.declared.request.Request.{Request}
use Rattle.linda_hold.specs.Request.{request_of}
use Rattle.linda_hold.specs.TicketIndex.{Requests, IsNumbered, client_of}
use Rattle.linda_hold.proofs.NameLaws.{number_told}

-- A request of the client's own, or none.
own_request : (client : ℕ) (o : Option Request) → is_some (row_at nat_cmp client (placed client_of o)) ≡ true
    → (request : Request) × (o ≡ Some request) × (request.client ≡ client)
own_request client None own = absurd (true≢false (sym own))
own_request client (Some request) own = (request, refl, (number_told request.client client).0 (by (is_eq (nat_cmp request.client client)) own))
  where
    by : (b : Bool) → is_some (cond b (Some request) None) ≡ true → b ≡ true
    by true own = refl
    by false own = absurd (true≢false (sym own))

is_own : (client ticket : ℕ) → is_some (row_at nat_cmp client (placed client_of (Some (request_of client ticket)))) ≡ true
is_own client ticket = ap (λ b. is_some (cond b (Some (request_of client ticket)) None)) ((number_told client client).1 refl)

-- What is in a list is in what the list is mapped to.
mapped : (f : ℕ → ℕ) (x : ℕ) (xs : List ℕ) → list_any (is_at (nat_cmp x)) xs ≡ true → list_any (is_at (nat_cmp (f x))) (map f xs) ≡ true
mapped f x [] there = absurd (true≢false (sym there))
mapped f x (y ∷ ys) there = by (or_cases (is_eq (nat_cmp x y)) (list_any (is_at (nat_cmp x)) ys) there) (mapped f x ys)
  where
    by : (is_eq (nat_cmp x y) ≡ true) ⊎ (list_any (is_at (nat_cmp x)) ys ≡ true)
        → (list_any (is_at (nat_cmp x)) ys ≡ true → list_any (is_at (nat_cmp (f x))) (map f ys) ≡ true)
        → (is_eq (nat_cmp (f x) (f y)) || list_any (is_at (nat_cmp (f x))) (map f ys)) ≡ true
    by (inl here) rest = or_left (is_eq (nat_cmp (f x) (f y))) _ ((number_told (f x) (f y)).1 (ap f ((number_told x y).0 here)))
    by (inr later) rest = or_right (is_eq (nat_cmp (f x) (f y))) _ (rest later)

abbrev ticket_of : Option Request → ℕ
ticket_of o = unwrap_or (option_map (λ r. r.ticket) o) 0

-- The numbers es of a client's tickets.
module _ (requests : Requests) {u : Request → Option ℕ} (numbered : IsNumbered u requests) (client : ℕ) (es : List (ℕ × ℕ))
    (sorted : IsStrictlySortedBy nat_cmp (keys_of es)) (found : (ticket : ℕ) → u (request_of client ticket) ≡ lookup (is_at (nat_cmp ticket)) es) where
  abbrev own : Requests
  own = rows_at nat_cmp client_of client requests

  differ : IsDistinct (eq_by_cmp nat_cmp) (keys_of es)
  differ = IsDistinct-from_sorted nat_cmp (keys_of es) sorted

  -- The request under a number of theirs.
  request_at : (ticket q : ℕ) → lookup (is_at (nat_cmp ticket)) es ≡ Some q → requests q ≡ Some (request_of client ticket)
  request_at ticket q there = numbered.back (request_of client ticket) q (found ticket ∙ there)

  own_at : (ticket q : ℕ) → lookup (is_at (nat_cmp ticket)) es ≡ Some q → is_some (own q) ≡ true
  own_at ticket q there = ap (λ o. is_some (row_at nat_cmp client (placed client_of o))) (request_at ticket q there) ∙ is_own client ticket

  -- They are those of the client's requests.
  pub listed : (q : ℕ) → list_any (is_at (nat_cmp q)) (values_of es) ≡ is_some (own q)
  listed q = same_from_decides _ _ (is_member-Decides {eq = eq_by_cmp nat_cmp} number_told (values_of es) q) (to, from)
    where
      to : is_some (own q) ≡ true → Contains (values_of es) q
      to is =
          let r = own_request client (requests q) is in
          let there : u (request_of client r.0.ticket) ≡ Some q = ap (λ c. u (request_of c r.0.ticket)) (sym r.2) ∙ numbered.there q r.0 r.1 in
          Contains-values_of es r.0.ticket q (Contains-from_lookup (λ x y. (number_told x y).0) r.0.ticket q es (sym (found r.0.ticket) ∙ there))

      from : Contains (values_of es) q → is_some (own q) ≡ true
      from among =
          let e = Contains-from_values_of es q among in
          own_at e.0 q (lookup-from_Contains (eq_by_cmp_equiv nat_cmp_total) e.0 q es differ e.1)

  -- There are as many as a set of the numbers has.
  pub counted : (numbers : BTreeSet ℕ) → sets.IsOrdered nat_cmp numbers → HasIds numbers own → length es ≡ length numbers.keys
  counted numbers rising has =
      let most : length (keys_of es) ≤ length (map tickets numbers.keys) = length-le_from_is_member laws (keys_of es) (map tickets numbers.keys) differ each in
      let least : length numbers.keys ≤ length (values_of es) =
      length-le_from_is_member laws numbers.keys (values_of es) (IsDistinct-from_sorted nat_cmp numbers.keys rising)
      (λ q there. listed q ∙ sym (has q) ∙ there) in
      let keys = length-keys_of es in
      let values = length-values_of es in
      let mapped_length = length-map numbers.keys tickets in
      omega arith
    where
      tickets : ℕ → ℕ
      tickets q = ticket_of (requests q)

      laws : IsEquivalence (eq_by_cmp nat_cmp)
      laws = eq_by_cmp_equiv nat_cmp_total

      each : (q : ℕ) → list_any (is_at (nat_cmp q)) (keys_of es) ≡ true → list_any (is_at (nat_cmp q)) (map tickets numbers.keys) ≡ true
      each q there = at (lookup (is_at (nat_cmp q)) es) refl (is_some-lookup (is_at (nat_cmp q)) es ∙ there)
        where
          at : (o : Option ℕ) → lookup (is_at (nat_cmp q)) es ≡ o → is_some o ≡ true → list_any (is_at (nat_cmp q)) (map tickets numbers.keys) ≡ true
          at None e some = absurd (true≢false (sym some))
          at (Some k) e some =
              subst (λ x. list_any (is_at (nat_cmp x)) (map tickets numbers.keys) ≡ true) (ap ticket_of (request_at q k e))
              (mapped tickets k numbers.keys (has k ∙ own_at q k e))
