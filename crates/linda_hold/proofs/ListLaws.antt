-- What is said of lists, in the words of `specs/Waits`.
use Rattle.std.proofs.Common.{◌≡◌, ℕ, ◌+◌, ◌<◌, arith, Bool, true, false, not, ◌&&◌, ◌||◌, ◌==◌, List, [], ◌∷◌, ◌++◌}
use Rattle.std.proofs.Common.{Option, Some, length, map, filter, find, cond, refl, sym, ap, ◌∙◌}
use Rattle.std.specs.Option.{is_some}
use Rattle.std.specs.List.{list_any, AllByRecursion, IsDistinct}
use Rattle.std.specs.Map.{lookup, keys_of}
use Rattle.std.specs.Bool.{Decides}
use Rattle.std.proofs.lemmas.Bool.{true≢false, false_from_ne_true, and_left, not-true}
use Rattle.std.proofs.lemmas.List.Elements.{filter_agree}
use Rattle.std.proofs.lemmas.Bool.Decides.{Decides-like, Decides-and, Decides-eqb}
use Rattle.linda_hold.specs.declared.request.Request.{Request}
use Rattle.linda_hold.specs.Request.{request_of, same_request}
use Rattle.linda_hold.specs.Waits.{Wait, without, without_client, AreDistinct}

-- The test of two requests decides whether they are the same.
pub request_told : (p q : Request) → Decides (same_request p q) (p ≡ q)
request_told p q =
    Decides-like _ (λ e. λ j. request_of (e.0 j) (e.1 j)) (λ e. (ap (λ r. r.client) e, ap (λ r. r.ticket) e))
    (Decides-and _ _ (Decides-eqb p.client q.client) (Decides-eqb p.ticket q.ticket))

module _ {K X : Type 0} (test : K → Bool) where
  cases : (b : Bool) (x : X) (rest : Option X) → is_some (cond b (Some x) rest) ≡ (b || is_some rest)
  cases true x rest = refl
  cases false x rest = refl

  -- Some key passes exactly if a look-up finds something.
  pub lookup_any : (es : List (K × X)) → is_some (lookup test es) ≡ list_any (λ e. test e.0) es
  lookup_any [] = refl
  lookup_any (e ∷ es) = cases (test e.0) e.1 (lookup test es) ∙ ap (λ b. test e.0 || b) (lookup_any es)

pub weaker : {X : Type 0} (P Q : X → Type 0) → ((x : X) → P x → Q x) → (xs : List X) → AllByRecursion P xs → AllByRecursion Q xs
weaker P Q less [] all = tt
weaker P Q less (x ∷ xs) all = (less x all.0, weaker P Q less xs all.1)

module _ {X : Type 0} (p : X → Bool) where
  pub all_kept : (xs : List X) → AllByRecursion (λ x. p x ≡ true) xs → filter p xs ≡ xs
  all_kept [] all = refl
  all_kept (x ∷ xs) all = ap (λ b. cond b (x ∷ filter p xs) (filter p xs)) all.0 ∙ ap (λ l. x ∷ l) (all_kept xs all.1)

  pub none_passes : (xs : List X) → AllByRecursion (λ x. p x ≡ false) xs → list_any p xs ≡ false
  none_passes [] all = refl
  none_passes (x ∷ xs) all = ap (λ b. b || list_any p xs) all.0 ∙ none_passes xs all.1

  -- One that passes makes the list longer than what does not pass.
  pub fewer : (xs : List X) → list_any p xs ≡ true → length (filter (λ x. not (p x)) xs) < length xs
  fewer [] some = absurd (true≢false (sym some))
  fewer (x ∷ xs) some = by (p x) some (at_most xs) (λ later. fewer xs later)
    where
      at_most : (ys : List X) → length (filter (λ y. not (p y)) ys) < length ys + 1
      at_most [] = omega arith
      at_most (y ∷ ys) = at (p y) (at_most ys)
        where
          at : (b : Bool) → length (filter (λ z. not (p z)) ys) < length ys + 1
              → length (cond (not b) (y ∷ filter (λ z. not (p z)) ys) (filter (λ z. not (p z)) ys)) < length (y ∷ ys) + 1
          at true rest = omega arith
          at false rest = omega arith

      by : (b : Bool) → (b || list_any p xs) ≡ true → length (filter (λ y. not (p y)) xs) < length xs + 1
          → (list_any p xs ≡ true → length (filter (λ y. not (p y)) xs) < length xs)
          → length (cond (not b) (x ∷ filter (λ y. not (p y)) xs) (filter (λ y. not (p y)) xs)) < length (x ∷ xs)
      by true e most later = omega arith
      by false e most later = let less = later e in omega arith

-- If all that passes one test passes another as well, it can be looked for among what passes the other.
module _ {X : Type 0} (p q : X → Bool) (also : (x : X) → p x ≡ true → q x ≡ true) where
  pub find_within : (xs : List X) → find p (filter q xs) ≡ find p xs
  find_within [] = refl
  find_within (x ∷ xs) = by (q x) refl (find_within xs)
    where
      by : (b : Bool) → q x ≡ b → find p (filter q xs) ≡ find p xs → find p (cond b (x ∷ filter q xs) (filter q xs)) ≡ cond (p x) (Some x) (find p xs)
      by true e rest = ap (λ o. cond (p x) (Some x) o) rest
      by false e rest = rest ∙ ap (λ b. cond b (Some x) (find p xs)) (sym (false_from_ne_true (p x) (λ is. true≢false (sym (also x is) ∙ e))))

  pub filter_within : (xs : List X) → filter p (filter q xs) ≡ filter p xs
  filter_within [] = refl
  filter_within (x ∷ xs) = by (q x) refl (filter_within xs)
    where
      by : (b : Bool) → q x ≡ b → filter p (filter q xs) ≡ filter p xs
          → filter p (cond b (x ∷ filter q xs) (filter q xs)) ≡ cond (p x) (x ∷ filter p xs) (filter p xs)
      by true e rest = ap (λ l. cond (p x) (x ∷ l) l) rest
      by false e rest = rest ∙ ap (λ b. cond b (x ∷ filter p xs) (filter p xs)) (sym (false_from_ne_true (p x) (λ is. true≢false (sym (also x is) ∙ e))))

  pub any_within : (xs : List X) → list_any p (filter q xs) ≡ list_any p xs
  any_within [] = refl
  any_within (x ∷ xs) = by (q x) refl (any_within xs)
    where
      by : (b : Bool) → q x ≡ b → list_any p (filter q xs) ≡ list_any p xs → list_any p (cond b (x ∷ filter q xs) (filter q xs)) ≡ (p x || list_any p xs)
      by true e rest = ap (λ t. p x || t) rest
      by false e rest = rest ∙ ap (λ b. b || list_any p xs) (sym (false_from_ne_true (p x) (λ is. true≢false (sym (also x is) ∙ e))))

-- Waits but those of several requests, one taken out after another.
abbrev pub without_all : List Request → List Wait → List Wait
without_all [] waits = waits
without_all (request ∷ requests) waits = without_all requests (without request waits)

-- If no two waits are of one request, the waits without the requests of some of them are the other waits.
among : List Request → Wait → Bool
among requests w = list_any (λ request. same_request request w.0) requests

passed_twice : {X : Type 0} (p q : X → Bool) (xs : List X) → filter q (filter (λ x. not (p x)) xs) ≡ filter (λ x. not (p x) && q x) xs
passed_twice p q [] = refl
passed_twice p q (x ∷ xs) = by (p x) (passed_twice p q xs)
  where
    by : (b : Bool) → filter q (filter (λ y. not (p y)) xs) ≡ filter (λ y. not (p y) && q y) xs
        → filter q (cond (not b) (x ∷ filter (λ y. not (p y)) xs) (filter (λ y. not (p y)) xs))
        ≡ cond (not b && q x) (x ∷ filter (λ y. not (p y) && q y) xs) (filter (λ y. not (p y) && q y) xs)
    by true rest = rest
    by false rest = ap (λ l. cond (q x) (x ∷ l) l) rest

not_either : (a b : Bool) → (not a && not b) ≡ not (a || b)
not_either true b = refl
not_either false b = refl

all_true : (waits : List Wait) → AllByRecursion (λ w. not (among [] w) ≡ true) waits
unfolding among
all_true [] = tt
all_true (w ∷ waits) = (refl, all_true waits)

-- One after another comes to the same as all at once.
at_once : (requests : List Request) (waits : List Wait) → without_all requests waits ≡ filter (λ w. not (among requests w)) waits
unfolding among
at_once [] waits = sym (all_kept (λ w. not (among [] w)) waits (all_true waits))
at_once (request ∷ requests) waits =
    at_once requests (without request waits)
    ∙ passed_twice (λ w. same_request request w.0) (λ w. not (among requests w)) waits
    ∙ filter_agree (λ w. not (same_request request w.0) && not (among requests w))
    (λ w. not (among (request ∷ requests) w)) (λ w. not_either (same_request request w.0) (among requests w)) waits

module _ (p : Wait → Bool) where
  -- the requests of those that pass
  abbrev passing : List Wait → List Request
  passing waits = map (λ w. w.0) (filter p waits)

  not_among : (request : Request) (w : Wait) (waits : List Wait) → AllByRecursion (λ q. same_request request q ≡ false) (keys_of waits)
      → w.0 ≡ request → among (passing waits) w ≡ false
  unfolding among
  not_among request w [] apart same = refl
  not_among request w (v ∷ waits) apart same = by (p v) (not_among request w waits apart.1 same)
    where
      off : same_request v.0 w.0 ≡ false
      off = false_from_ne_true _ (λ is. true≢false (sym ((request_told request v.0).1 (sym ((request_told v.0 w.0).0 is ∙ same))) ∙ apart.0))

      by : (b : Bool) → list_any (λ q. same_request q w.0) (passing waits) ≡ false
          → list_any (λ q. same_request q w.0) (map (λ x. x.0) (cond b (v ∷ filter p waits) (filter p waits))) ≡ false
      by true rest = ap (λ b. b || list_any (λ q. same_request q w.0) (passing waits)) off ∙ rest
      by false rest = rest

  -- Those whose request is not that of w are treated alike with it and without it.
  rest_alike : (request : Request) (requests : List Request) (waits : List Wait) → AllByRecursion (λ q. same_request request q ≡ false) (keys_of waits)
      → filter (λ w. not (among (request ∷ requests) w)) waits ≡ filter (λ w. not (among requests w)) waits
  unfolding among
  rest_alike request requests [] apart = refl
  rest_alike request requests (w ∷ waits) apart =
      ap (λ b. cond (not (b || among requests w)) (w ∷ filter (λ v. not (among (request ∷ requests) v)) waits)
      (filter (λ v. not (among (request ∷ requests) v)) waits)) apart.0
      ∙ ap (λ l. cond (not (among requests w)) (w ∷ l) l) (rest_alike request requests waits apart.1)

  others : (waits : List Wait) → AreDistinct waits → filter (λ w. not (among (passing waits) w)) waits ≡ filter (λ w. not (p w)) waits
  unfolding IsDistinct among
  others [] distinct = refl
  others (w ∷ waits) distinct = by (p w) (others waits distinct.1)
    where
      by : (b : Bool) → filter (λ v. not (among (passing waits) v)) waits ≡ filter (λ v. not (p v)) waits
          → filter (λ v. not (among (map (λ x. x.0) (cond b (w ∷ filter p waits) (filter p waits))) v)) (w ∷ waits)
          ≡ cond (not b) (w ∷ filter (λ v. not (p v)) waits) (filter (λ v. not (p v)) waits)
      by true rest =
          ap (λ b. cond (not (b || among (passing waits) w)) (w ∷ filter (λ v. not (among (w.0 ∷ passing waits) v)) waits)
          (filter (λ v. not (among (w.0 ∷ passing waits) v)) waits)) ((request_told w.0 w.0).1 refl)
          ∙ rest_alike w.0 (passing waits) waits distinct.0
          ∙ rest
      by false rest =
          ap (λ b. cond (not b) (w ∷ filter (λ v. not (among (passing waits) v)) waits) (filter (λ v. not (among (passing waits) v)) waits))
          (not_among w.0 w waits distinct.0 refl)
          ∙ ap (λ l. w ∷ l) rest

  -- If the requests of those that pass are taken out, one after another, the others are left.
  pub without_passing : (waits : List Wait) → AreDistinct waits → without_all (passing waits) waits ≡ filter (λ w. not (p w)) waits
  without_passing waits distinct = at_once (passing waits) waits ∙ others waits distinct

-- Several requests and then one more.
pub without_more : (requests : List Request) (request : Request) (waits : List Wait)
    → without_all (requests ++ request ∷ []) waits ≡ without request (without_all requests waits)
without_more [] request waits = refl
without_more (q ∷ requests) request waits = without_more requests request (without q waits)

-- If none passes, all are left.
pub all_left : {X : Type 0} (p : X → Bool) (xs : List X) → filter p xs ≡ [] → filter (λ x. not (p x)) xs ≡ xs
all_left p [] none = refl
all_left p (x ∷ xs) none = by (p x) none (all_left p xs)
  where
    by : (b : Bool) → cond b (x ∷ filter p xs) (filter p xs) ≡ [] → (filter p xs ≡ [] → filter (λ y. not (p y)) xs ≡ xs)
        → cond (not b) (x ∷ filter (λ y. not (p y)) xs) (filter (λ y. not (p y)) xs) ≡ x ∷ xs
    by true is rest = absurd (omega (arith, ap length is))
    by false is rest = ap (λ l. x ∷ l) (rest is)

-- A wait of a client is none of the others'.
pub others_stay : (client ticket : ℕ) (waits : List Wait) → without_client client (without (request_of client ticket) waits) ≡ without_client client waits
others_stay client ticket waits =
    filter_within (λ w. not (client == w.0.client)) (λ w. not (same_request (request_of client ticket) w.0))
    (λ w other. ap not (and_left (client == w.0.client) (ticket == w.0.ticket) (not-true (client == w.0.client) other)))
    waits
