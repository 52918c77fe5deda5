-- Elements of lists.
use Rattle.std.proofs.Common.{◌≡◌, ℕ, ◌+◌, ◌<◌, ◌||◌, ◌⊎◌, inl, inr, arith, Bool, true, false, List, [], ◌∷◌, ◌++◌}
use Rattle.std.proofs.Common.{filter, Contains, length, get_or, map, drop, refl, sym, ap, ◌∙◌, append_assoc}
use Rattle.std.specs.Prelude.{All, Option, Some, None, filter_map, flat_map, option_to_list}
use Rattle.std.specs.List.{cons_option, enumerate_from, list_any}
use Rattle.std.proofs.lemmas.Bool.{false≢true}
use Rattle.std.proofs.lemmas.List.{drop_more}
use Rattle.std.proofs.lemmas.List.Elements.{All-cons, All-contains, All-contains_itself, All-drop, All-filter, All-nil}
use Rattle.std.proofs.lemmas.List.Elements.{All-weaker, Contains-append_cases, Contains-append_left}
use Rattle.std.proofs.lemmas.List.Elements.{Contains-append_right}

-- what is left by a filter was there
pub kept_there : {X : Type 0} (p : X → Bool) (xs : List X) (x : X) → Contains (filter p xs) x → Contains xs x
kept_there p xs x there = All-contains (Contains xs) (filter p xs) x (All-filter p (Contains xs) xs (All-contains_itself xs)) there

-- what holds of all holds of all but the first
pub tail_all : {X : Type 0} (P : X → Type 0) (x : X) (xs : List X) → All P (x ∷ xs) → All P xs
tail_all P x xs all = All-drop P 1 (x ∷ xs) all

-- what holds of all of a list holds of all that is there
pub all_there : {X : Type 0} (P : X → Type 0) (xs ys : List X) → ((x : X) → Contains xs x → Contains ys x) → All P ys → All P xs
all_there P xs ys there all = All-weaker (Contains xs) P (λ x here. All-contains P ys x all (there x here)) xs (All-contains_itself xs)

-- an element of a list with one in front
pub in_front : {X : Type 0} (y x : X) (ys : List X) → Contains (y ∷ ys) x → (y ≡ x) ⊎ Contains ys x
in_front {X} y x ys there = by (Contains-append_cases (y ∷ []) ys x there)
  where
    by : Contains (y ∷ []) x ⊎ Contains ys x → (y ≡ x) ⊎ Contains ys x
    by (inl here) = inl (All-contains (λ z. y ≡ z) (y ∷ []) x (All-cons (λ z. y ≡ z) y [] refl (All-nil (λ z. y ≡ z))) here)
    by (inr later) = inr later

-- one that passes, if some does
pub any_one : {X : Type 0} (p : X → Bool) (xs : List X) → list_any p xs ≡ true → (x : X) × (Contains xs x × (p x ≡ true))
any_one p [] e = absurd (false≢true e)
any_one {X} p (y ∷ ys) e = by (p y) refl e (λ f. any_one p ys f)
  where
    by : (b : Bool) → p y ≡ b → (b || list_any p ys) ≡ true → (list_any p ys ≡ true → (x : X) × (Contains ys x × (p x ≡ true)))
        → (x : X) × (Contains (y ∷ ys) x × (p x ≡ true))
    by true here f later = (y, (Contains-append_left (y ∷ []) ys y (0, omega arith, refl), here))
    by false other f later = let found = later f in (found.0, (Contains-append_right (y ∷ []) ys found.0 found.1.0, found.1.1))

-- none passes
pub not_any : {X : Type 0} (p : X → Bool) (xs : List X) → list_any p xs ≡ false → All (λ x. p x ≡ false) xs
not_any p [] e = All-nil (λ x. p x ≡ false)
not_any {X} p (y ∷ ys) e = by (p y) refl e (λ f. not_any p ys f)
  where
    by : (b : Bool) → p y ≡ b → (b || list_any p ys) ≡ false → (list_any p ys ≡ false → All (λ x. p x ≡ false) ys) → All (λ x. p x ≡ false) (y ∷ ys)
    by true here f later = absurd (false≢true (sym f))
    by false other f later = All-cons (λ x. p x ≡ false) y ys other (later f)

-- if none passes, one that is there does not
pub none_any : {X : Type 0} (p : X → Bool) (xs : List X) (x : X) → Contains xs x → list_any p xs ≡ false → p x ≡ false
none_any p xs x there none = All-contains (λ y. p y ≡ false) xs x (not_any p xs none) there

-- the only element of a list of one
pub only_one : {X : Type 0} (x y : X) → Contains (x ∷ []) y → x ≡ y
only_one x y there = All-contains (λ z. x ≡ z) (x ∷ []) y (All-cons (λ z. x ≡ z) x [] refl (All-nil (λ z. x ≡ z))) there

-- nothing is in an empty list
pub nowhere : {X A : Type 0} (x : X) → Contains [] x → A
nowhere x there = absurd (All-contains (λ _. ⊥) [] x (All-nil (λ _. ⊥)) there)

-- what equal lists have first, and after that
pub same_first : {X : Type 0} (x y : X) (xs ys : List X) → x ∷ xs ≡ y ∷ ys → x ≡ y
same_first x y xs ys same = cc

pub same_rest : {X : Type 0} (x y : X) (xs ys : List X) → x ∷ xs ≡ y ∷ ys → xs ≡ ys
same_rest x y xs ys same = cc

pub not_empty : {X : Type 0} (xs : List X) (y : X) (ys : List X) → [] ≡ xs ++ y ∷ ys → ⊥
not_empty [] y ys same = cc
not_empty (x ∷ xs) y ys same = cc

made_first : {Z : Type 0} (o : Option Z) (l : List Z) → cons_option o l ≡ option_to_list o ++ l
made_first None l = refl
made_first (Some z) l = refl

-- what the later items are to make, after one item more
pub made_next : {X Y Z : Type 0} (h : ℕ × Y → Option Z) (k : X → Y) (n : ℕ) (xs : List X) (x : X) (before after all : List Z)
    → n < length xs → x ≡ get_or xs n x → after ≡ before ++ option_to_list (h (n, k x))
    → before ++ filter_map h (enumerate_from n (map k (drop n xs))) ≡ all → after ++ filter_map h (enumerate_from (n + 1) (map k (drop (n + 1) xs))) ≡ all
made_next {X} {Y} {Z} h k n xs x before after all low is more so =
    let rest : List Z = filter_map h (enumerate_from (n + 1) (map k (drop (n + 1) xs))) in
    ap (λ l. l ++ rest) more ∙ append_assoc before (option_to_list (h (n, k x))) rest
    ∙ ap (λ l. before ++ l) (sym (made_first (h (n, k x)) rest)
    ∙ ap (λ l. filter_map h (enumerate_from n (map k l))) (sym (drop_more xs n x low ∙ ap (λ y. y ∷ drop (n + 1) xs) (sym is)))) ∙ so

-- what the later items are to give, after one item more
pub given_next : {X Y : Type 0} (f : ℕ × X → List Y) (first n : ℕ) (xs : List X) (x : X) (before after all : List Y)
    → n < length xs → x ≡ get_or xs n x → after ≡ before ++ f (first + n, x)
    → before ++ flat_map f (enumerate_from (first + n) (drop n xs)) ≡ all → after ++ flat_map f (enumerate_from (first + (n + 1)) (drop (n + 1) xs)) ≡ all
given_next {X} {Y} f first n xs x before after all low is more so =
    let rest : List Y = flat_map f (enumerate_from ((first + n) + 1) (drop (n + 1) xs)) in
    let e : first + (n + 1) ≡ (first + n) + 1 = omega arith in
    ap (λ m. after ++ flat_map f (enumerate_from m (drop (n + 1) xs))) e ∙ ap (λ l. l ++ rest) more ∙ append_assoc before (f (first + n, x)) rest
    ∙ ap (λ l. before ++ flat_map f (enumerate_from (first + n) l)) (sym (drop_more xs n x low ∙ ap (λ y. y ∷ drop (n + 1) xs) (sym is))) ∙ so

-- what the later items are to map to, after one item more
pub mapped_next : {X Y : Type 0} (f : X → Y) (n : ℕ) (xs : List X) (d : X) (before after all : List Y)
    → n < length xs → after ≡ before ++ f (get_or xs n d) ∷ [] → before ++ map f (drop n xs) ≡ all
    → after ++ map f (drop (n + 1) xs) ≡ all
mapped_next f n xs d before after all low more so =
    ap (λ l. l ++ map f (drop (n + 1) xs)) more ∙ append_assoc before (f (get_or xs n d) ∷ []) (map f (drop (n + 1) xs))
    ∙ ap (λ l. before ++ map f l) (sym (drop_more xs n d low)) ∙ so

-- what the later items are with their numbers, after one item more
pub numbered_next : {X : Type 0} (n : ℕ) (xs : List X) (d : X) (before after all : List (ℕ × X))
    → n < length xs → after ≡ before ++ (n, get_or xs n d) ∷ [] → before ++ enumerate_from n (drop n xs) ≡ all
    → after ++ enumerate_from (n + 1) (drop (n + 1) xs) ≡ all
numbered_next n xs d before after all low more so =
    ap (λ l. l ++ enumerate_from (n + 1) (drop (n + 1) xs)) more ∙ append_assoc before ((n, get_or xs n d) ∷ []) (enumerate_from (n + 1) (drop (n + 1) xs))
    ∙ ap (λ l. before ++ enumerate_from n l) (sym (drop_more xs n d low)) ∙ so
