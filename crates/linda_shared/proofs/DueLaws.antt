-- A deed that is reported of a message is one that it asks for.
use Rattle.std.proofs.Common.{◌≡◌, ◌⊎◌, inl, inr, ℕ, ◌+◌, zero, suc, arith, List, [], ◌∷◌, ◌++◌, Option, Some, None}
use Rattle.std.proofs.Common.{All, map, replicate, length, reverse, refl, sym, ap, subst, ◌∙◌}
use Rattle.std.proofs.Common.{Result, Ok, Err, OnOk, IfErr, IsErrOf, Bool, true, not}
use Rattle.std.proofs.lemmas.List.{reverse-reverse, reverse-append, replicate-append-replicate}
use Rattle.std.proofs.lemmas.List.Elements.{All-nil, All-cons}
use Rattle.linda_wire.specs.declared.message.Message.{Message}
use Rattle.linda_wire.specs.declared.reply.Reply.{Reply}
use Rattle.linda_book.specs.declared.kept_reply.KeptReply.{KeptReply}
use Rattle.linda_disk.specs.declared.disk.Disk.{Ghosts}
use Rattle.linda_store_state.specs.declared.deed.Deed.{Deed}
use Rattle.linda_store_state.specs.State.{State}
use Rattle.linda_store_step.specs.Soft.{Soft}
use Rattle.linda_store_step.specs.Answer.{Answer}
use Rattle.linda_store_step.specs.Reported.{IsDeedOf}
use Rattle.linda_store_step.proofs.AskedLaws.{step_deed}
use Rattle.linda_store_step.specs.Served.{AreAnswered}
use Rattle.linda_server.specs.declared.durable.Durable.{Durable}
use Rattle.linda_shared_accounts.specs.declared.receipt.Receipt.{Receipt}
use Rattle.linda_shared_accounts.specs.declared.effect.Effect.{Effect}
use Rattle.linda_shared_accounts.specs.declared.effect.Effect.TheVariants as effects
use Rattle.linda_shared_accounts.specs.declared.fault.SharedFault.{SharedFault}
use Rattle.linda_shared_accounts.specs.declared.fault.SharedFault.TheVariants as faults
use Rattle.linda_shared_accounts.specs.Effect.{told_of}
use Rattle.linda_shared_accounts.specs.Telling.{receipt_of, receipt_for, receipt_with, kept_of}
use Rattle.linda_shared_held.specs.Posted.{GoTogether, GoesAlone, WentAlone, WereTaken, IsHandled, none, more}
use Rattle.linda_shared_queue.specs.Seat.{IsToldOf}
use Rattle.linda_shared.specs.Group.{IsEffectOf, IsWhyNone, AreTold}

-- By position: nothing is reported, or a deed that the message asks for.
abbrev pub AreOf : List (ℕ × Message) → List (Option Receipt) → Type 0
AreOf [] [] = Unit {0}
AreOf [] (t ∷ ts) = ⊥
AreOf (m ∷ ms) [] = ⊥
AreOf (m ∷ ms) (t ∷ ts) = IsToldOf m.0 m.1 t × AreOf ms ts

with_of : (c : ℕ) (m : Message) (d : Deed) → IsDeedOf c m d → (k : Option KeptReply) → IsToldOf c m (receipt_with d k)
with_of c m d of (Some reply) = of
with_of c m d of None = tt

for_of : (c : ℕ) (m : Message) (d : Option Deed) (sends : List (ℕ × Reply)) → ((x : Deed) → d ≡ Some x → IsDeedOf c m x) → IsToldOf c m (receipt_for d sends)
for_of c m None sends of = tt
for_of c m (Some d) [] of = tt
for_of c m (Some d) (s ∷ sends) of = with_of c m d (of d refl) (kept_of s.1)

answered_of : (st : State) (soft : Soft) (ms : List (ℕ × Message)) (answers : List Answer) (new : State) (behind : Soft)
    → AreAnswered st soft ms answers new behind → AreOf ms (map receipt_of answers)
answered_of st soft [] answers new behind (nothing, rest) = subst (λ (l : List Answer). AreOf [] (map receipt_of l)) (sym nothing) tt
answered_of st soft (m ∷ ms) answers new behind (first, (mid, (later, (step, (rest, is))))) =
    subst (λ (l : List Answer). AreOf (m ∷ ms) (map receipt_of l)) (sym is) (
      for_of m.0 m.1 first.deed first.sends (λ x deed. step_deed st mid m.0 soft m.1 first x step deed),
      answered_of mid first.soft ms later new behind rest,
    )

of_both : (ms : List (ℕ × Message)) (ts : List (Option Receipt)) (m : ℕ × Message) (t : Option Receipt) → AreOf ms ts → IsToldOf m.0 m.1 t
    → AreOf (ms ++ m ∷ []) (ts ++ t ∷ [])
of_both [] [] m t all one = (one, tt)
of_both [] (u ∷ ts) m t all one = absurd all
of_both (n ∷ ms) [] m t all one = absurd all
of_both (n ∷ ms) (u ∷ ts) m t all one = (all.0, of_both ms ts m t all.1 one)

module _ {D : Type 0} {g : Ghosts D} where
  together_of : (s : Durable D g) (ms : List (ℕ × Message)) (told : List (Option Receipt)) (old posted : ℕ → Option (List Reply)) (new : Durable D g)
      → GoTogether s ms told old posted new → AreOf ms told
  together_of s ms told old posted new went =
      let has = went.posts.has_told in
      subst (λ (ts : List (Option Receipt)). AreOf ms ts) (sym has.told_is)
      (answered_of s.store.state s.store.soft ms has.answers new.store.state new.store.soft has.answered)

  alone_one : (s : Durable D g) (count : ℕ) (m : ℕ × Message) (old : ℕ → Option (List Reply)) (told : Option Receipt) (posted : ℕ → Option (List Reply))
      (new : Durable D g) → GoesAlone s count m old told posted new → IsToldOf m.0 m.1 told
  alone_one s count m old told posted new (inl went) = (together_of s (m ∷ []) (told ∷ []) old posted new went).0
  alone_one s count m old told posted new (inr away) = subst (λ (t : Option Receipt). IsToldOf m.0 m.1 t) (sym away.none_told) tt

  alone_of : (s : Durable D g) (count : ℕ) (old : ℕ → Option (List Reply)) (ms : List (ℕ × Message)) (told : List (Option Receipt))
      (posted : ℕ → Option (List Reply)) (new : Durable D g) → WentAlone s count old ms told posted new → AreOf ms told
  alone_of s count old _ _ _ _ (none posted same) = tt
  alone_of s count old _ _ _ _ (more ms told mid waits m one posted new before last) =
      of_both ms told m one (alone_of s count old ms told waits mid before) (alone_one mid _ m waits one posted new last)

  taken_of : (s : Durable D g) (count : ℕ) (ms : List (ℕ × Message)) (told : List (Option Receipt)) (old posted : ℕ → Option (List Reply)) (new : Durable D g)
      → WereTaken s count ms told old posted new → AreOf ms told
  taken_of s count ms told old posted new (inl went) = together_of s ms told old posted new went
  taken_of s count ms told old posted new (inr alone) = alone_of s count old ms told posted new alone.1

effect_is : (m : ℕ × Message) (t : Option Receipt) → IsToldOf m.0 m.1 t → IsEffectOf m (told_of t)
effect_is m None of = tt
effect_is m (Some r) of = of

failed_is : (m : ℕ × Message) (fault : SharedFault) (e : Effect Receipt) → e ≡ effects.Failed fault → IsEffectOf m e
failed_is m fault e is = subst (IsEffectOf m) (sym is) tt

module _ {A : Type 0} (read : A → Effect Receipt) where
  abbrev IsOwn : (ℕ × Message) × A → Type 0
  IsOwn p = IsEffectOf p.0 (read p.1)

  effects_of : (ps : List ((ℕ × Message) × A)) (ts : List (Option Receipt)) → AreOf (map (λ p. p.0) ps) ts
      → map (λ p. read p.1) ps ≡ map told_of ts → All IsOwn ps
  effects_of [] ts of is = All-nil IsOwn
  effects_of (p ∷ ps) [] of is = absurd of
  effects_of (p ∷ ps) (t ∷ ts) of is =
      let one : read p.1 ≡ told_of t = cc in
      let rest : map (λ q. read q.1) ps ≡ map told_of ts = cc in
      All-cons IsOwn p ps (subst (IsEffectOf p.0) (sym one) (effect_is p.0 t of.0)) (effects_of ps ts of.1 rest)

  failed_of : (ps : List ((ℕ × Message) × A)) (fault : SharedFault) (n : ℕ) → map (λ p. read p.1) ps ≡ replicate n (effects.Failed fault) → All IsOwn ps
  failed_of [] fault n is = All-nil IsOwn
  failed_of (p ∷ ps) fault zero is = absurd (omega (arith, ap length is))
  failed_of (p ∷ ps) fault (suc n) is =
      let one : read p.1 ≡ effects.Failed fault = cc in
      let rest : map (λ q. read q.1) ps ≡ replicate n (effects.Failed fault) = cc in
      All-cons IsOwn p ps (failed_is p.0 fault (read p.1) one) (failed_of ps fault n rest)

-- What is reported of each message is of its own.
pub own_of : {A D : Type 0} {g : Ghosts D} (read : A → Effect Receipt) (ps : List ((ℕ × Message) × A)) (ms : List (ℕ × Message))
    → (up : Bool) → map (λ p. p.0) ps ≡ ms → AreTold D g up ms (map (λ p. read p.1) ps) → All (IsOwn read) ps
own_of read ps ms up each (inl served) =
    effects_of read ps served.receipts
    (subst (λ (l : List (ℕ × Message)). AreOf l served.receipts) (sym each)
    (taken_of served.before served.count ms served.receipts served.waited served.waits served.after served.taken))
    served.told_is
own_of read ps ms up each (inr failed) = failed_of read ps failed.0 (length ms) failed.1.1

-- A fault is that memory ran out, or the server is down.
why_of : (fault : SharedFault) (down : Bool) → (fault ≡ faults.Down) ⊎ (fault ≡ faults.Memory) → (fault ≡ faults.Down → down ≡ true)
    → IsWhyNone (not down) fault
why_of fault down (inl is) so = inr (is, ap not (so is))
why_of fault down (inr is) so = inl is

reverse_replicate : {X : Type 0} (n : ℕ) (x : X) → reverse (replicate n x) ≡ replicate n x
reverse_replicate zero x = refl
reverse_replicate (suc n) x =
    let one_more : n + 1 ≡ suc n = omega arith in
    reverse-append (x ∷ []) (replicate n x)
    ∙ (ap (λ l. l ++ x ∷ []) (reverse_replicate n x) ∙ (replicate-append-replicate n 1 x ∙ ap (λ (k : ℕ). replicate k x) one_more))

-- What the server reports, the last message first, is what is reported of the messages.
pub told_of_group : {D : Type 0} {g : Ghosts D} (ms : List (ℕ × Message)) (many : ℕ) (before told : List (Effect Receipt)) (s new : Durable D g) (count : ℕ)
    (old_receipts receipts : List Receipt) (waited waits : ℕ → Option (List Reply)) (r : Result (Unit {0}) SharedFault)
    → many ≡ length ms → before ≡ [] → OnOk r (IsHandled s count ms old_receipts waited before receipts waits told new)
    → IfErr r (λ fault. told ≡ before ++ replicate many (effects.Failed fault)) → IfErr r (λ fault. (fault ≡ faults.Down) ⊎ (fault ≡ faults.Memory))
    → (down : Bool) → (IsErrOf r faults.Down → down ≡ true) → AreTold D g (not down) ms (reverse told)
told_of_group ms many before told s new count old_receipts receipts waited waits (Ok x) same nothing done failed faulty down so =
    inl (record {
      before = s;
      count = count;
      waited = waited;
      waits = waits;
      after = new;
      receipts = done.told;
      taken = done.taken;
      told_is = ap reverse (done.told_are ∙ ap (λ l. l ++ reverse (map told_of done.told)) nothing) ∙ reverse-reverse (map told_of done.told);
    })
told_of_group ms many before told s new count old_receipts receipts waited waits (Err fault) same nothing done failed faulty down so =
    inr (
      fault,
      (
        why_of fault down faulty (λ is. so (ap Err is)),
        ap reverse (failed ∙ ap (λ l. l ++ replicate many (effects.Failed fault)) nothing)
            ∙ (reverse_replicate many (effects.Failed fault) ∙ ap (λ k. replicate k (effects.Failed fault)) same),
      ),
    )
