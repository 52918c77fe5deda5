-- Keys and boxes after a change of one of them. What is found under a client, and what is found under a key, are functions here, so that no law
-- speaks of a map or of a slab.
use Rattle.std.proofs.Common.{◌≡◌, ◌≢◌, ℕ, Bool, true, false, cond, ◌==◌, List, [], ◌∷◌, ◌++◌, Option, Some, None}
use Rattle.std.proofs.Common.{is_some, refl, sym, ap, ◌∙◌, subst, inl, inr, eq-eqb, ne_eqb, true≢false}
use Rattle.std.proofs.lemmas.Bool.{cases_eq}
use Rattle.std.proofs.Math.Logic.{∥∥₁_map}
use Rattle.std.specs.Ordering.{nat_cmp}
use Rattle.std.specs.Cmp.{unsigned_tied}
use Rattle.std.specs.BTreeMap as tree
use Rattle.std.specs.Map.{lookup}
use Rattle.std.specs.BTreeMap.{is_at}
use Rattle.std.proofs.lemmas.Option.{none-some, same_Some}
use Rattle.linda_wire.specs.declared.reply.Reply.{Reply}
use Rattle.linda_shared_outbox.specs.declared.outbox.Outbox.{Outbox}
use Rattle.linda_shared_outbox.specs.Boxes.{shown, replies_in, TakesMore, stands_in, is_heard, posted, taken_out, unlisted, is_unlisted}

-- What a look-up by key gives for what is found.
abbrev pub boxed : (ℕ → Option Outbox) → Option ℕ → Option Outbox
boxed at None = None
boxed at (Some key) = at key

abbrev pub Taken : (ℕ → Option ℕ) → (ℕ → Option Outbox) → Type 0
Taken find at = (c key : ℕ) → find c ≡ Some key → is_some (at key) ≡ true

abbrev pub Apart : (ℕ → Option ℕ) → Type 0
Apart find = (b c key : ℕ) → find b ≡ Some key → find c ≡ Some key → b ≡ c

abbrev pub Heard : (ℕ → Option ℕ) → (ℕ → Option Outbox) → List ℕ → Type 0
Heard find at ws = (c : ℕ) → is_heard ws c (shown (boxed at (find c))) ≡ true

-- Each other client that is in the one list is in the other too.
abbrev pub StillStand : ℕ → List ℕ → List ℕ → Type 0
StillStand c old new = (q : ℕ) → q ≢ c → stands_in q old ≡ true → stands_in q new ≡ true

still_heard : (c : ℕ) (old new : List ℕ) → StillStand c old new → (q : ℕ) → q ≢ c → (o : Option (List Reply × Bool))
    → is_heard old q o ≡ true → is_heard new q o ≡ true
still_heard c old new still q differs None is = refl
still_heard c old new still q differs (Some (rs, true)) is = still q differs is
still_heard c old new still q differs (Some (rs, false)) is = is

-- The box under one client's key changed.
module _ (find : ℕ → Option ℕ) (old new : ℕ → Option Outbox) (c key : ℕ) (found : find c ≡ Some key)
    (others : (k : ℕ) → k ≢ key → new k ≡ old k) where
  pub box_here : boxed new (find c) ≡ new key
  box_here = ap (boxed new) found

  pub box_apart : Apart find → (q : ℕ) → q ≢ c → boxed new (find q) ≡ boxed old (find q)
  box_apart apart q differs = by (find q) refl
    where
      by : (o : Option ℕ) → find q ≡ o → boxed new o ≡ boxed old o
      by None is = refl
      by (Some k) is = others k (λ same. differs (apart q c k is (found ∙ ap (λ x. Some x) (sym same))))

  pub heard_after : (ws xs : List ℕ) → Apart find → Heard find old ws
      → (is_heard ws c (shown (old key)) ≡ true → is_heard xs c (shown (new key)) ≡ true) → StillStand c ws xs → Heard find new xs
  heard_after ws xs apart heard here still q =
      elim (cases_eq q c) [
        | inl same ↦
            let was : is_heard ws c (shown (old key)) ≡ true = ap (λ o. is_heard ws c (shown (boxed old o))) (sym found) ∙ heard c in
            ap (λ x. is_heard xs x (shown (boxed new (find x)))) same ∙ ap (λ o. is_heard xs c (shown o)) box_here ∙ here was
        | inr differs ↦
            ap (λ o. is_heard xs q (shown o)) (box_apart apart q differs)
            ∙ still_heard c ws xs still q differs (shown (boxed old (find q))) (heard q)
      ]

-- The list changed, and the client has no box.
pub heard_without : (find : ℕ → Option ℕ) (at : ℕ → Option Outbox) (c : ℕ) (ws xs : List ℕ) → find c ≡ None
    → Heard find at ws → StillStand c ws xs → Heard find at xs
heard_without find at c ws xs none heard still q =
    elim (cases_eq q c) [
      | inl same ↦ ap (λ x. is_heard xs x (shown (boxed at (find x)))) same ∙ ap (λ o. is_heard xs c (shown (boxed at o))) none
      | inr differs ↦ still_heard c ws xs still q differs (shown (boxed at (find q))) (heard q)
    ]

-- A client has lost its key, and the box under it is gone.
module _ (find now : ℕ → Option ℕ) (c : ℕ) (gone : now c ≡ None) (same : (q : ℕ) → q ≢ c → now q ≡ find q) where
  kept_key : (q key : ℕ) → now q ≡ Some key → find q ≡ Some key
  kept_key q key is =
      elim (cases_eq q c) [
        | inl here ↦ absurd (none-some key (sym gone ∙ ap now (sym here) ∙ is))
        | inr differs ↦ sym (same q differs) ∙ is
      ]

  pub apart_without : Apart find → Apart now
  apart_without apart a b key is also = apart a b key (kept_key a key is) (kept_key b key also)

  module _ (old new : ℕ → Option Outbox) (key : ℕ) (found : find c ≡ Some key) (others : (k : ℕ) → k ≢ key → new k ≡ old k) where
    pub box_without : Apart find → (q : ℕ) → q ≢ c → boxed new (now q) ≡ boxed old (find q)
    box_without apart q differs = ap (boxed new) (same q differs) ∙ box_apart find old new c key found others apart q differs

    pub heard_gone : (ws : List ℕ) → Apart find → Heard find old ws → Heard now new ws
    heard_gone ws apart heard q =
        elim (cases_eq q c) [
          | inl here ↦ ap (λ x. is_heard ws x (shown (boxed new (now x)))) here ∙ ap (λ o. is_heard ws c (shown (boxed new o))) gone
          | inr differs ↦ ap (λ o. is_heard ws q (shown o)) (box_without apart q differs) ∙ heard q
        ]

-- A client without a key has a new one, whose box is empty.
module _ (find now : ℕ → Option ℕ) (old new : ℕ → Option Outbox) (c key : ℕ) (got : now c ≡ Some key) (same : (q : ℕ) → q ≢ c → now q ≡ find q)
    (free : old key ≡ None) (others : (k : ℕ) → k ≢ key → new k ≡ old k) where
  not_it : Taken find old → (q : ℕ) → find q ≡ Some key → ⊥
  not_it taken q is = true≢false (sym (taken q key is) ∙ ap is_some free)

  new_key : Taken find old → (q k : ℕ) → q ≢ c → now q ≡ Some k → k ≢ key
  new_key taken q k differs is e = not_it taken q (sym (same q differs) ∙ is ∙ ap (λ x. Some x) e)

  pub apart_with : Taken find old → Apart find → Apart now
  apart_with taken apart a b k is also =
      elim (cases_eq a c) [
        | inl a_is ↦
            elim (cases_eq b c) [
              | inl b_is ↦ a_is ∙ sym b_is
              | inr b_not ↦ absurd (new_key taken b k b_not also (same_Some k key (sym is ∙ ap now a_is ∙ got)))
            ]
        | inr a_not ↦
            elim (cases_eq b c) [
              | inl b_is ↦ absurd (new_key taken a k a_not is (same_Some k key (sym also ∙ ap now b_is ∙ got)))
              | inr b_not ↦ apart a b k (sym (same a a_not) ∙ is) (sym (same b b_not) ∙ also)
            ]
      ]

  pub box_with : Taken find old → (q : ℕ) → q ≢ c → boxed new (now q) ≡ boxed old (find q)
  box_with taken q differs = ap (boxed new) (same q differs) ∙ by (find q) refl
    where
      by : (o : Option ℕ) → find q ≡ o → boxed new o ≡ boxed old o
      by None is = refl
      by (Some k) is = others k (λ e. not_it taken q (is ∙ ap (λ x. Some x) e))

  pub heard_with : (ws : List ℕ) → is_heard ws c (shown (new key)) ≡ true → Taken find old → Heard find old ws → Heard now new ws
  heard_with ws here taken heard q =
      elim (cases_eq q c) [
        | inl it ↦ ap (λ x. is_heard ws x (shown (boxed new (now x)))) it ∙ ap (λ o. is_heard ws c (shown (boxed new o))) got ∙ here
        | inr differs ↦ ap (λ o. is_heard ws q (shown o)) (box_with taken q differs) ∙ heard q
      ]

-- What a list with one more at its end says of the clients in it.
pub stands_last : (c : ℕ) (ws : List ℕ) → stands_in c (ws ++ c ∷ []) ≡ true
stands_last c [] = ap (λ b. cond b true false) (eq-eqb c c refl)
stands_last c (w ∷ ws) = by (w == c) (stands_last c ws)
  where
    by : (b : Bool) → stands_in c (ws ++ c ∷ []) ≡ true → cond b true (stands_in c (ws ++ c ∷ [])) ≡ true
    by true later = refl
    by false later = later

either : (b : Bool) (x y : Bool) → (x ≡ true → y ≡ true) → cond b true x ≡ true → cond b true y ≡ true
either true x y later is = refl
either false x y later is = later is

pub stands_before : (q w : ℕ) (ws : List ℕ) → stands_in q ws ≡ true → stands_in q (ws ++ w ∷ []) ≡ true
stands_before q w [] is = absurd (true≢false (sym is))
stands_before q w (v ∷ ws) is = either (v == q) (stands_in q ws) (stands_in q (ws ++ w ∷ [])) (stands_before q w ws) is

pub stands_still : (q w : ℕ) → q ≢ w → (ws : List ℕ) → stands_in q (ws ++ w ∷ []) ≡ true → stands_in q ws ≡ true
stands_still q w differs [] is = absurd (true≢false (sym is ∙ ap (λ b. cond b true false) (ne_eqb w q (λ e. differs (sym e)))))
stands_still q w differs (v ∷ ws) is = either (v == q) (stands_in q (ws ++ w ∷ [])) (stands_in q ws) (stands_still q w differs ws) is

-- A client is heard after each change.
pub heard_posted : (c : ℕ) (ws : List ℕ) (r : Reply) (o : Option (List Reply × Bool)) → is_heard (ws ++ c ∷ []) c (posted r o) ≡ true
heard_posted c ws r None = refl
heard_posted c ws r (Some o) = stands_last c ws

pub heard_listed : (c : ℕ) (ws : List ℕ) (r : Reply) (o : Option (List Reply × Bool)) → is_unlisted o ≡ false
    → is_heard ws c o ≡ true → is_heard ws c (posted r o) ≡ true
heard_listed c ws r None listed is = refl
heard_listed c ws r (Some (rs, true)) listed is = is
heard_listed c ws r (Some (rs, false)) listed is = absurd (true≢false listed)

pub heard_taken_out : (c : ℕ) (ws : List ℕ) (o : Option (List Reply × Bool)) → is_heard ws c o ≡ true → is_heard ws c (taken_out o) ≡ true
heard_taken_out c ws None is = refl
heard_taken_out c ws (Some (rs, true)) is = is
heard_taken_out c ws (Some (rs, false)) is = refl

pub heard_unlisted : (c : ℕ) (ws : List ℕ) (o : Option (List Reply × Bool)) → is_heard ws c (unlisted (taken_out o)) ≡ true
heard_unlisted c ws None = refl
heard_unlisted c ws (Some o) = refl

-- A client that has a key has a box.
pub some_box : (at : ℕ → Option Outbox) (o : Option ℕ) → ((key : ℕ) → o ≡ Some key → is_some (at key) ≡ true) → is_some (boxed at o) ≡ is_some o
some_box at None taken = refl
some_box at (Some key) taken = taken key refl

-- There is as much room as before if the box under one key was made larger.
pub more_taken : (old new : ℕ → Option Outbox) (key n : ℕ) → (TakesMore n (old key) → TakesMore n (new key)) → ((k : ℕ) → k ≢ key → new k ≡ old k)
    → (o : Option ℕ) → TakesMore n (boxed old o) → TakesMore n (boxed new o)
more_taken old new key n kept others None room = tt
more_taken old new key n kept others (Some k) room =
    elim (cases_eq k key) [
      | inl here ↦ subst (λ x. TakesMore n (new x)) (sym here) (kept (subst (λ x. TakesMore n (old x)) here room))
      | inr differs ↦ subst (TakesMore n) (sym (others k differs)) room
    ]

-- A look-up of another key is of another key for the map too.
pub is_other : (c q : ℕ) → q ≢ c → is_at (nat_cmp c) q ≡ false
is_other c q differs = unsigned_tied c q ∙ ne_eqb c q (λ e. differs (sym e))

-- ---- each box is a client's

abbrev pub Owned : (ℕ → Option ℕ) → (ℕ → Option Outbox) → Type 0
Owned find at = (key : ℕ) → is_some (at key) ≡ true → ∥ ((c : ℕ) × (find c ≡ Some key)) ∥₁

-- The box under one client's key changed.
pub owned_at : (find : ℕ → Option ℕ) (old new : ℕ → Option Outbox) (c key : ℕ) → find c ≡ Some key
    → ((k : ℕ) → k ≢ key → new k ≡ old k) → Owned find old → Owned find new
owned_at find old new c key found others owned k is =
    elim (cases_eq k key) [
      | inl same ↦ ∣ (c, found ∙ ap (λ x. Some x) (sym same)) ∣₁
      | inr differs ↦ owned k (ap is_some (sym (others k differs)) ∙ is)
    ]

-- A client has lost its key, and the box under it is gone.
pub owned_without : (find now : ℕ → Option ℕ) (old new : ℕ → Option Outbox) (c key : ℕ) → find c ≡ Some key
    → new key ≡ None → ((q : ℕ) → q ≢ c → now q ≡ find q)
    → ((k : ℕ) → k ≢ key → new k ≡ old k) → Owned find old → Owned now new
owned_without find now old new c key found gone same others owned k is =
    elim (cases_eq k key) [
      | inl here ↦ absurd (true≢false (sym is ∙ ap (λ x. is_some (new x)) here ∙ ap is_some gone))
      | inr differs ↦
          ∥∥₁_map (owned k (ap is_some (sym (others k differs)) ∙ is))
          (λ own. (own.0, same own.0 (λ mine. differs (same_Some k key (sym own.1 ∙ (ap find mine ∙ found)))) ∙ own.1))
    ]

-- A client that had none has a new key.
pub owned_with : (find now : ℕ → Option ℕ) (old new : ℕ → Option Outbox) (c key : ℕ) → find c ≡ None → now c ≡ Some key → ((q : ℕ) → q ≢ c → now q ≡ find q)
    → ((k : ℕ) → k ≢ key → new k ≡ old k) → Owned find old → Owned now new
owned_with find now old new c key none has same others owned k is =
    elim (cases_eq k key) [
      | inl here ↦ ∣ (c, has ∙ ap (λ x. Some x) (sym here)) ∣₁
      | inr differs ↦
          ∥∥₁_map (owned k (ap is_some (sym (others k differs)) ∙ is))
          (λ own. (own.0, same own.0 (λ mine. none-some k (sym none ∙ sym (ap find mine) ∙ own.1)) ∙ own.1))
    ]

-- A client for which nothing can wait has no key.
pub has_no_key : (find : ℕ → Option ℕ) (at : ℕ → Option Outbox) (c : ℕ) → Taken find at → is_some (replies_in (boxed at (find c))) ≡ false → find c ≡ None
has_no_key find at c taken none = by (find c) refl
  where
    there : (o : Option Outbox) → is_some o ≡ true → is_some (replies_in o) ≡ true
    there None is = is
    there (Some box) is = refl

    by : (o : Option ℕ) → find c ≡ o → o ≡ None
    by None is = refl
    by (Some key) is = absurd (true≢false (sym (there (at key) (taken c key is)) ∙ (sym (ap (λ o. is_some (replies_in (boxed at o))) is) ∙ none)))

-- ---- nothing changed

pub get_same : (m n : tree.BTreeMap ℕ ℕ) → n.entries ≡ m.entries → (q : ℕ) → tree.get nat_cmp n q ≡ tree.get nat_cmp m q
get_same m n same q = ap (lookup (is_at (nat_cmp q))) same

module _ (find now : ℕ → Option ℕ) (old new : ℕ → Option Outbox) (same : (q : ℕ) → now q ≡ find q) (kept : (k : ℕ) → new k ≡ old k) where
  pub still_taken : Taken find old → Taken now new
  still_taken taken c key is = ap is_some (kept key) ∙ taken c key (sym (same c) ∙ is)

  pub still_owned : Owned find old → Owned now new
  still_owned owned k is = ∥∥₁_map (owned k (ap is_some (sym (kept k)) ∙ is)) (λ own. (own.0, same own.0 ∙ own.1))

  pub still_apart : Apart find → Apart now
  still_apart apart a b key is also = apart a b key (sym (same a) ∙ is) (sym (same b) ∙ also)

  pub still_heard_of : (ws : List ℕ) → Heard find old ws → Heard now new ws
  still_heard_of ws heard c = ap (λ o. is_heard ws c (shown o)) (ap (boxed new) (same c) ∙ at (find c)) ∙ heard c
    where
      at : (o : Option ℕ) → boxed new o ≡ boxed old o
      at None = refl
      at (Some key) = kept key
