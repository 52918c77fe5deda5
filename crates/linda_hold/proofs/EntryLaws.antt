-- The waits that a map keeps under their numbers: each request is in one of them, which is found by the request, and
-- what a change of the map does to the list of them in order.
use Rattle.std.proofs.Common.{◌≡◌, ℕ, ◌<◌, ◌+◌, arith, Bool, true, false, not, ◌||◌, ◌==◌, List, [], ◌∷◌, ◌++◌, Option}
use Rattle.std.proofs.Common.{None, Some, filter, cond, refl, sym, ap, subst, ◌∙◌, nat_cmp, nat_eq, Less, Greater}
use Rattle.std.specs.declared.cmp.Ordering.{Ordering}
use Rattle.std.specs.Ordering.{is_eq}
use Rattle.std.specs.Option.{is_some, option_map, unwrap_or}
use Rattle.std.specs.Cmp.{nat_cmp_total, nat_cmp_is, nat_eq_equiv, eq_by_cmp_equiv, ranked, unsigned_Decides, unsigned_ties}
use Rattle.std.specs.BTreeMap.{is_at}
use Rattle.std.specs.FinMap.{entries, entries-insert, from_entries, get, get-from_entries, insert, put}
use Rattle.std.specs.FinMap.Entries.{by_order}
use Rattle.std.specs.List.{list_any, AllByRecursion, IsDistinct}
use Rattle.std.specs.List.Sorted.{IsStrictlySortedBy}
use Rattle.std.specs.Map.{lookup, keys_of, values_of}
use Rattle.std.proofs.lemmas.Bool.{true≢false, false_from_ne_true, or_right}
use Rattle.std.proofs.lemmas.Map.Entries.{option_filter, lookup-filter-values}
use Rattle.std.proofs.lemmas.Map.Keys.{IsDistinct-from_sorted}
use Rattle.linda_map_laws.proofs.MapLaws.{get_inserted, same_map}
use Rattle.linda_hold.specs.declared.request.Request.{Request}
use Rattle.linda_hold.specs.Request.{request_of, same_request}
use Rattle.linda_hold.specs.Waits.{Wait, is_waiting, waits_of, without, AreDistinct}
use Rattle.linda_hold.specs.TagIndex.{Waiting}
use Rattle.linda_hold.specs.TicketIndex.{IsNumbered}
use Rattle.linda_hold.specs.Numbered.{AreBelow, in_order, wait_at}
use Rattle.linda_hold.specs.Index.{requests_of}
use Rattle.linda_hold.proofs.ListLaws.{request_told, weaker}
use Rattle.linda_hold.proofs.NumberedLaws.{alike, each_found, found, ordered, same_list}
use Rattle.linda_hold.proofs.PartLaws.{part, part_sorted}
use Rattle.linda_hold.proofs.WaitLaws.{part_values}

same_some : {A : Type 0} {x y : A} → Some x ≡ Some y → x ≡ y
same_some {x = x} e = ap (λ o. unwrap_or o x) e

-- A wait of this request.
with_request : (o : Option Wait) (request : Request) → option_map (λ w. w.0) o ≡ Some request → (w : Wait) × (o ≡ Some w) × (w.0 ≡ request)
with_request None request e = let none : None ≡ Some request = e in absurd (true≢false (sym (ap is_some none)))
with_request (Some w) request e = (w, refl, same_some e)

-- What a look-up finds passes, so something passes.
hit : (p : Wait → Bool) (test : ℕ → Bool) (es : List (ℕ × Wait)) (w : Wait) → lookup test es ≡ Some w → p w ≡ true → list_any p (values_of es) ≡ true
hit p test [] w found passes = absurd (true≢false (sym (ap is_some found)))
hit p test (e ∷ es) w found passes = by (test e.0) found (λ later. hit p test es w later passes)
  where
    by : (b : Bool) → cond b (Some e.1) (lookup test es) ≡ Some w → (lookup test es ≡ Some w → list_any p (values_of es) ≡ true)
        → (p e.1 || list_any p (values_of es)) ≡ true
    by true is later = ap (λ b. b || list_any p (values_of es)) (ap p (same_some is) ∙ passes)
    by false is later = or_right (p e.1) (list_any p (values_of es)) (later is)

kept_values : (p : Wait → Bool) (es : List (ℕ × Wait)) → AllByRecursion (λ e. p e.1 ≡ true) es → filter p (values_of es) ≡ values_of es
kept_values p [] all = refl
kept_values p (e ∷ es) all = ap (λ b. cond b (e.1 ∷ filter p (values_of es)) (filter p (values_of es))) all.0 ∙ ap (λ l. e.1 ∷ l) (kept_values p es all.1)

none_values : (p : Wait → Bool) (es : List (ℕ × Wait)) → AllByRecursion (λ e. p e.1 ≡ false) es → list_any p (values_of es) ≡ false
none_values p [] all = refl
none_values p (e ∷ es) all = ap (λ b. b || list_any p (values_of es)) all.0 ∙ none_values p es all.1

-- A number above all others goes after them.
put_last : (k : ℕ) (w : Wait) (es : List (ℕ × Wait)) → AllByRecursion (λ e. e.0 < k) es → values_of (put nat_cmp k w es) ≡ values_of es ++ w ∷ []
put_last k w [] above = refl
put_last k w (e ∷ es) above =
    ap (λ (o : Ordering). values_of (by_order o ((k, w) ∷ e ∷ es) ((e.0, w) ∷ es) (e ∷ put nat_cmp k w es))) (sym (nat_cmp_is k e.0 Greater above.0))
    ∙ ap (λ l. e.1 ∷ l) (put_last k w es above.1)

-- The test of a number, as the map makes it and as an index does.
told : (k q : ℕ) → nat_eq k q ≡ is_eq (nat_cmp k q)
told k q = unsigned_ties k q

-- What a change of the map is to an index.
pub as_rows : (old new : Waiting) (k : ℕ) (o : Option Wait) → ((q : ℕ) → new q ≡ cond (nat_eq k q) o (old q))
    → (q : ℕ) → new q ≡ cond (is_eq (nat_cmp k q)) o (old q)
as_rows old new k o changed q = changed q ∙ ap (λ b. cond b o (old q)) (told k q)

-- Maps with the same entries have the same waits.
pub same_waits : (Has : Waiting → Type 0) (old new : List (ℕ × Wait)) → new ≡ old → Has (wait_at old) → Has (wait_at new)
same_waits Has old new same = subst Has (λ j. λ q. wait_at (sym same j) q)

-- No wait has the next number.
pub none_above : (next : ℕ) (waiting : Waiting) → AreBelow next waiting → waiting next ≡ None
none_above next waiting below = by (waiting next) refl
  where
    by : (o : Option Wait) → waiting next ≡ o → o ≡ None
    by None is = refl
    by (Some w) is = let self : next < next = below next (ap is_some is) in absurd (omega arith)

-- whether the wait is not of this request
abbrev other : Request → Wait → Bool
other request w = not (same_request request w.0)

module _ (old new : List (ℕ × Wait)) (k : ℕ) where
  -- The next to arrive is the last in order.
  pub added : (w : Wait) → AreBelow k (wait_at old) → ((q : ℕ) → wait_at new q ≡ cond (nat_eq k q) (Some w) (wait_at old q))
      → values_of (in_order new) ≡ values_of (in_order old) ++ w ∷ []
  added w below changed =
      ap (λ m. values_of (entries m)) inserted
      ∙ ap values_of (entries-insert nat_cmp_total (from_entries old) k w)
      ∙ put_last k w (in_order old)
      (weaker _ (λ e. e.0 < k) (λ e there. below e.0 (ap is_some (found old e.0 ∙ there))) (in_order old) (each_found (in_order old) (ordered old)))
    where
      rows : (es : List (ℕ × Wait)) (q : ℕ) → get (from_entries {R = nat_cmp} es) q ≡ wait_at es q
      rows es q = get-from_entries nat_cmp_total es q ∙ sym (alike es q)

      inserted : from_entries {R = nat_cmp} new ≡ insert (from_entries old) k w
      inserted = same_map _ _ (λ q. rows new q ∙ changed q ∙ ap (λ b. cond b (Some w) (wait_at old q)) (nat_eq_equiv.symm k q)
          ∙ ap (cond (q == k) (Some w)) (sym (rows old q)) ∙ sym (get_inserted (from_entries old) k w q))

  -- Numbers below the next are below the one after it.
  pub below_next : (w : Wait) → AreBelow k (wait_at old) → ((q : ℕ) → wait_at new q ≡ cond (nat_eq k q) (Some w) (wait_at old q))
      → AreBelow (k + 1) (wait_at new)
  below_next w below changed q some = by (nat_eq k q) refl (sym (ap is_some (changed q)) ∙ some)
    where
      by : (b : Bool) → nat_eq k q ≡ b → is_some (cond b (Some w) (wait_at old q)) ≡ true → q < k + 1
      by true is there = let same : k ≡ q = (unsigned_Decides k q).0 is in omega arith
      by false is there = let less : q < k = below q there in omega arith

  -- What is left is below the same number.
  pub below_still : (next : ℕ) → AreBelow next (wait_at old) → ((q : ℕ) → wait_at new q ≡ cond (nat_eq k q) None (wait_at old q)) → AreBelow next (wait_at new)
  below_still next below changed q some = by (nat_eq k q) (sym (ap is_some (changed q)) ∙ some)
    where
      by : (b : Bool) → is_some (cond b None (wait_at old q)) ≡ true → q < next
      by true there = absurd (true≢false (sym there))
      by false there = below q there

  -- To take out the wait under the number of a request is to take out what the request asked.
  pub taken : (request : Request) {u : Request → Option ℕ} → IsNumbered u (requests_of (wait_at old)) → u request ≡ Some k
      → ((q : ℕ) → wait_at new q ≡ cond (nat_eq k q) None (wait_at old q)) → values_of (in_order new) ≡ without request (values_of (in_order old))
  taken request {u} numbered named changed =
      ap values_of (same_list (in_order new) (part (other request) (in_order old)) (ordered new) (part_sorted (other request) (in_order old) (ordered old)) at)
      ∙ part_values (other request) (in_order old)
    where
      left : (q : ℕ) (b : Bool) → nat_eq k q ≡ b → (o : Option Wait) → wait_at old q ≡ o → cond b None o ≡ option_filter (other request) o
      left q b test None is = elim b as (λ c. cond {A = Option Wait} c None None ≡ None) [ true ↦ refl | false ↦ refl ]
      left q true test (Some w) is =
          let here : requests_of (wait_at old) k ≡ Some w.0 = ap (requests_of (wait_at old)) ((unsigned_Decides k q).0 test) ∙ ap (option_map (λ v. v.0)) is in
          let same : request ≡ w.0 = same_some (sym (numbered.back request k named) ∙ here) in
          sym (ap (λ b. cond (not b) (Some w) None) ((request_told request w.0).1 same))
      left q false test (Some w) is =
          sym (ap (λ b. cond (not b) (Some w) None) (false_from_ne_true _ (λ same.
          let one : Some k ≡ Some q = sym named ∙ ap u ((request_told request w.0).0 same) ∙ numbered.there q w.0 (ap (option_map (λ v. v.0)) is) in
          true≢false (sym ((unsigned_Decides k q).1 (same_some one)) ∙ test))))

      at : (q : ℕ) → lookup (is_at (nat_cmp q)) (in_order new) ≡ lookup (is_at (nat_cmp q)) (part (other request) (in_order old))
      at q =
          sym (found new q)
          ∙ changed q
          ∙ left q (nat_eq k q) refl (wait_at old q) refl
          ∙ ap (option_filter (other request)) (found old q)
          ∙ sym (lookup-filter-values (eq_by_cmp_equiv nat_cmp_total) (other request) q (in_order old)
          (IsDistinct-from_sorted nat_cmp (keys_of (in_order old)) (ordered old)))

-- The waits of a map, by their requests.
module _ (raw : List (ℕ × Wait)) {u : Request → Option ℕ} (numbered : IsNumbered u (requests_of (wait_at raw))) where
  abbrev es : List (ℕ × Wait)
  es = in_order raw

  -- The request of an entry is that of its key, and its key is found by the request.
  record Known (e : ℕ × Wait) : Type 0 where
    at : requests_of (wait_at raw) e.0 ≡ Some e.1.0
    named : u e.1.0 ≡ Some e.0

  each : AllByRecursion Known es
  each =
      weaker (λ e. lookup (is_at (nat_cmp e.0)) es ≡ Some e.1) Known
      (λ e there. let at : requests_of (wait_at raw) e.0 ≡ Some e.1.0 = ap (option_map (λ w. w.0)) (found raw e.0 ∙ there) in
      record { at = at; named = numbered.there e.0 e.1.0 at })
      es (each_found es (ordered raw))

  -- A request that is not found is in no entry.
  absent : (request : Request) → u request ≡ None → AllByRecursion (λ e. same_request request e.1.0 ≡ false) es
  absent request none =
      weaker Known (λ e. same_request request e.1.0 ≡ false)
      (λ e known. false_from_ne_true _ (λ is. true≢false (ap is_some (sym known.named ∙ ap u (sym ((request_told request e.1.0).0 is)) ∙ none))))
      es each

  -- A request waits exactly if it is found.
  pub waits_where_found : (request : Request) → is_some (u request) ≡ is_waiting request (values_of es)
  waits_where_found request = by (u request) refl
    where
      by : (o : Option ℕ) → u request ≡ o → is_some o ≡ is_waiting request (values_of es)
      by None e = sym (none_values (λ w. same_request request w.0) es (absent request e))
      by (Some k) e =
          let own = with_request (wait_at raw k) request (numbered.back request k e) in
          sym (hit (λ w. same_request request w.0) (is_at (nat_cmp k)) es own.0 (sym (found raw k) ∙ own.1) ((request_told request own.0.0).1 (sym own.2)))

  -- One that does not wait is not found.
  pub unnamed : (request : Request) → is_waiting request (values_of es) ≡ false → u request ≡ None
  unnamed request off = by (u request) (waits_where_found request ∙ off)
    where
      by : (o : Option ℕ) → is_some o ≡ false → o ≡ None
      by None e = refl
      by (Some k) e = absurd (true≢false e)

  -- One that is not found has no wait to take out.
  pub without_absent : (request : Request) → u request ≡ None → values_of es ≡ without request (values_of es)
  without_absent request none =
      sym (kept_values (λ w. not (same_request request w.0)) es
      (weaker (λ e. same_request request e.1.0 ≡ false) (λ e. not (same_request request e.1.0) ≡ true) (λ e off. ap not off) es (absent request none)))

  -- Its entry is there.
  pub entry_found : (request : Request) (k : ℕ) → u request ≡ Some k → wait_at raw k ≡ None → ⊥
  entry_found request k found none =
      true≢false (ap is_some (sym (numbered.back request k found) ∙ ap (option_map (λ w. w.0)) none))

  -- A client none of whose requests is found has no wait.
  pub none_of_client : (client : ℕ) → ((ticket : ℕ) → u (request_of client ticket) ≡ None) → waits_of client (values_of es) ≡ []
  none_of_client client none = all es each
    where
      other : (e : ℕ × Wait) → Known e → (client == e.1.0.client) ≡ false
      other e known = false_from_ne_true _ (λ is.
          let own : u e.1.0 ≡ None = ap (λ c. u (request_of c e.1.0.ticket)) (sym ((unsigned_Decides client e.1.0.client).0 is)) ∙ none e.1.0.ticket in
          true≢false (ap is_some (sym known.named ∙ own)))

      all : (es : List (ℕ × Wait)) → AllByRecursion Known es → waits_of client (values_of es) ≡ []
      all [] known = refl
      all (e ∷ es) known = ap (λ b. cond b (e.1 ∷ waits_of client (values_of es)) (waits_of client (values_of es))) (other e known.0) ∙ all es known.1

  -- No two waits are of one request.
  pub distinct : AreDistinct (values_of es)
  unfolding IsDistinct IsStrictlySortedBy
  distinct = all es (ordered raw) each
    where
      later : (e : ℕ × Wait) → Known e → (es : List (ℕ × Wait)) → AllByRecursion (λ y. nat_cmp e.0 y ≡ Less) (keys_of es)
          → AllByRecursion Known es → AllByRecursion (λ q. same_request e.1.0 q ≡ false) (keys_of (values_of es))
      later e first [] above known = tt
      later e first (f ∷ fs) above known =
          let differ : same_request e.1.0 f.1.0 ≡ false = false_from_ne_true _ (λ is.
          let one : Some e.0 ≡ Some f.0 = sym first.named ∙ ap u ((request_told e.1.0 f.1.0).0 is) ∙ known.0.named in
          let same : e.0 ≡ f.0 = same_some one in
          let less : e.0 < f.0 = ranked e.0 f.0 Less (sym above.0) in
          omega arith)
          in
          (differ, later e first fs above.1 known.1)

      all : (es : List (ℕ × Wait)) → IsStrictlySortedBy nat_cmp (keys_of es) → AllByRecursion Known es → AreDistinct (values_of es)
      all [] sorted known = tt
      all (e ∷ es) sorted known = (later e known.0 es sorted.0 known.1, all es sorted.1 known.1)
