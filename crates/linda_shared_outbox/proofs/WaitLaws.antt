-- What waits, reply by reply.
use Rattle.std.proofs.Common.{◌≡◌, ◌≢◌, ℕ, ◌+◌, Bool, true, false, cond, ◌==◌, List, [], ◌∷◌, ◌++◌, Option, Some, None}
use Rattle.std.proofs.Common.{All, refl, sym, ap, ◌∙◌, subst, append-nil, append_assoc, eq-eqb, ne_eqb, inl, inr, arith}
use Rattle.std.proofs.Common.{is_some}
use Rattle.std.proofs.lemmas.Bool.{cases_eq}
use Rattle.std.proofs.lemmas.List.Elements.{All-weaker}
use Rattle.linda_wire.specs.declared.reply.Reply.{Reply}
use Rattle.linda_shared_outbox.specs.declared.outbox.Outbox.{Outbox}
use Rattle.linda_shared_outbox.specs.Boxes.{replies_in, TakesMore}
use Rattle.linda_shared_outbox.specs.Replies.{replies_to, with_more}

pub with_none : (o : Option (List Reply)) → with_more [] o ≡ o
with_none None = refl
with_none (Some rs) = ap (λ l. Some l) (append-nil rs)

with_both : (xs ys : List Reply) (o : Option (List Reply)) → with_more ys (with_more xs o) ≡ with_more (xs ++ ys) o
with_both xs ys None = refl
with_both xs ys (Some rs) = ap (λ l. Some l) (append_assoc rs xs ys)

back : (c : ℕ) (s : ℕ × Reply) (b : Bool) → s.0 == c ≡ b → (ss : List (ℕ × Reply)) → replies_to c (ss ++ s ∷ []) ≡ replies_to c ss ++ cond b (s.1 ∷ []) []
back c s b e [] = ap (λ x. cond x (s.1 ∷ []) []) e
back c s b e (q ∷ ss) = by (q.0 == c) (back c s b e ss)
  where
    by : (x : Bool) → replies_to c (ss ++ s ∷ []) ≡ replies_to c ss ++ cond b (s.1 ∷ []) []
        → cond x (q.1 ∷ replies_to c (ss ++ s ∷ [])) (replies_to c (ss ++ s ∷ [])) ≡ cond x (q.1 ∷ replies_to c ss) (replies_to c ss) ++ cond b (s.1 ∷ []) []
    by true rest = ap (λ l. q.1 ∷ l) rest
    by false rest = rest

-- One reply more was posted.
pub posted_more : (first old new : ℕ → Option Outbox) (ss : List (ℕ × Reply)) (s : ℕ × Reply)
    → ((c : ℕ) → replies_in (old c) ≡ with_more (replies_to c ss) (replies_in (first c)))
    → replies_in (new s.0) ≡ with_more (s.1 ∷ []) (replies_in (old s.0)) → ((c : ℕ) → c ≢ s.0 → new c ≡ old c)
    → (c : ℕ) → replies_in (new c) ≡ with_more (replies_to c (ss ++ s ∷ [])) (replies_in (first c))
posted_more first old new ss s before at others c =
    elim (cases_eq c s.0) [
      | inl here ↦
          subst (λ c. replies_in (new c) ≡ with_more (replies_to c (ss ++ s ∷ [])) (replies_in (first c))) (sym here)
          (at ∙ ap (with_more (s.1 ∷ [])) (before s.0) ∙ with_both (replies_to s.0 ss) (s.1 ∷ []) (replies_in (first s.0))
          ∙ ap (λ l. with_more l (replies_in (first s.0))) (sym (back s.0 s true (eq-eqb s.0 s.0 refl) ss)))
      | inr apart ↦
          ap replies_in (others c apart) ∙ before c
          ∙ ap (λ l. with_more l (replies_in (first c))) (sym (back c s false (ne_eqb s.0 c (λ e. apart (sym e))) ss ∙ append-nil (replies_to c ss)))
    ]

-- There is room for the others then.
pub room_left : (old new : ℕ → Option Outbox) (s : ℕ × Reply) (n : ℕ)
    → (TakesMore (n + 1) (old s.0) → TakesMore n (new s.0)) → ((c : ℕ) → c ≢ s.0 → new c ≡ old c)
    → (ss : List (ℕ × Reply)) → All (λ (q : ℕ × Reply). TakesMore (n + 1) (old q.0)) ss → All (λ (q : ℕ × Reply). TakesMore n (new q.0)) ss
room_left old new s n at others ss all =
    All-weaker (λ (q : ℕ × Reply). TakesMore (n + 1) (old q.0)) (λ (q : ℕ × Reply). TakesMore n (new q.0)) (λ q room. one q.0 room) ss all
  where
    fewer : (o : Option Outbox) → TakesMore (n + 1) o → TakesMore n o
    fewer None room = tt
    fewer (Some o) room = omega (arith, room)

    one : (c : ℕ) → TakesMore (n + 1) (old c) → TakesMore n (new c)
    one c room =
        elim (cases_eq c s.0) [
          | inl here ↦ subst (λ c. TakesMore n (new c)) (sym here) (at (subst (λ c. TakesMore (n + 1) (old c)) here room))
          | inr apart ↦ subst (TakesMore n) (sym (others c apart)) (fewer (old c) room)
        ]

-- If there is an outbox, it has a list of replies, which may be empty.
pub is_some_replies : (o : Option Outbox) → is_some (replies_in o) ≡ is_some o
is_some_replies None = refl
is_some_replies (Some o) = refl
