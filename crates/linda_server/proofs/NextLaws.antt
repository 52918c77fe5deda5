-- How the next bank goes on while it is written in steps.
use Rattle.std.proofs.Common.{◌≡◌, ℕ, zero, suc, take, ◌+◌, ◌≤◌, Bool, true, false, List, [], ◌∷◌, ◌++◌, length, Option}
use Rattle.std.proofs.Common.{Some, None, Result, Ok, Err, option_to_list, refl, sym, ap, subst, ◌∙◌, true≢false, arith}
use Rattle.std.specs.Prelude.{IfOk, IfErr, IfSome, ◌||◌}
use Rattle.std.specs.List.{AllByRecursion}
use Rattle.std.specs.Cmp.{unsigned_Decides}
use Rattle.std.proofs.Math.Logic.{∥∥₁_map}
use Rattle.std.proofs.lemmas.List.Elements.{All-nil, All-from_recursion, recursion_from_All, All-append}
use Rattle.linda_wire.specs.declared.message.Message.{Message}
use Rattle.linda_wire.specs.declared.message.Message.TheVariants as messages
use Rattle.linda_store_state.specs.declared.deed.Deed.{Deed}
use Rattle.linda_store_state.specs.declared.deed.Deed.TheVariants as deeds
use Rattle.linda_store_state.specs.Deed.{is_taken, takes}
use Rattle.linda_store_state.specs.State.{State}
use Rattle.linda_store_step.specs.Soft.{Soft}
use Rattle.linda_store_step.specs.Answer.{Answer}
use Rattle.linda_store_step.specs.Reported.{IsDeedOf}
use Rattle.linda_store_step.proofs.AskedLaws.{step_deed}
use Rattle.linda_disk.specs.declared.disk.Disk.{Ghosts}
use Rattle.linda_journal.specs.declared.bank.Bank.{Bank}
use Rattle.linda_journal.specs.Renewal.{IsFilled}
use Rattle.linda_snap.specs.declared.bank_writer.BankWriter.{BankWriter}
use Rattle.linda_snap.specs.SnapshotEncoder.{Tuples}
use Rattle.linda_snap.specs.BankWriter.{Follows, IsSafeFor}
use Rattle.linda_server.specs.declared.disks.Disks.{Disks}
use Rattle.linda_server.specs.declared.disks.Disks.TheVariants.{InUse, Shut, Away}
use Rattle.linda_server.specs.declared.next.NextBank.{NextBank}
use Rattle.linda_store_step.specs.declared.served.Served.{Served}
use Rattle.linda_server.specs.Disks.{AreRelated}
use Rattle.linda_server.specs.Next.{IsBegunOn, IsNextFor, IsSafeIn, IsSpared, AreSpared, KeepsUp}
use Rattle.linda_store_step.specs.Served.{AreAnswered, deeds_of, IsServed}
use Rattle.linda_server.specs.Server.{IsBesideStill, limit_in_use}

-- ---- what is taken is what was spared

pub take_all : {A : Type 0} (n : ℕ) (xs : List A) → length xs ≤ n → take n xs ≡ xs
take_all zero [] le = refl
take_all (suc n) [] le = refl
take_all zero (x ∷ xs) le = absurd (omega (arith, le))
take_all (suc n) (x ∷ xs) le = ap (λ l. x ∷ l) (take_all n xs (omega (arith, le)))

module _ (s : BankWriter) (now : Tuples) where
  pub none_spared : AreSpared s now []
  none_spared = All-nil (λ (m : ℕ × Message). IsSpared s now m.1)

  pub one_spared : (c : ℕ) (m : Message) → IsSpared s now m → AreSpared s now ((c, m) ∷ [])
  one_spared c m is = All-from_recursion (λ (m : ℕ × Message). IsSpared s now m.1) ((c, m) ∷ []) (is, tt)

  pub more_spared : (ms : List (ℕ × Message)) (c : ℕ) (m : Message) → AreSpared s now ms → IsSpared s now m → AreSpared s now (ms ++ (c, m) ∷ [])
  more_spared ms c m are is = All-append (λ (m : ℕ × Message). IsSpared s now m.1) ms ((c, m) ∷ []) are (one_spared c m is)

  -- A deed takes what its message may take.
  deed_safe : (c : ℕ) (m : Message) (d : Deed) (id : ℕ) → IsDeedOf c m d → IsSpared s now m → takes id d ≡ true → IsSafeFor s now id
  deed_safe c (messages.Out n tuple) (deeds.Out client k put) id is spared taken = absurd (true≢false (sym taken))
  deed_safe c (messages.Out n tuple) (deeds.Take client k other) id is spared taken = absurd is
  deed_safe c (messages.Out n tuple) (deeds.Pass client k other) id is spared taken = absurd is
  deed_safe c (messages.Out n tuple) (deeds.Leave client k) id is spared taken = absurd is
  deed_safe c (messages.Accept n ticket at) (deeds.Out client k put) id is spared taken = absurd is
  deed_safe c (messages.Accept n ticket at) (deeds.Take client k other) id is spared taken =
      subst (IsSafeFor s now) (sym is.2 ∙ (unsigned_Decides other id).0 taken) spared
  deed_safe c (messages.Accept n ticket at) (deeds.Pass client k other) id is spared taken = absurd (true≢false (sym taken))
  deed_safe c (messages.Accept n ticket at) (deeds.Leave client k) id is spared taken = absurd is
  deed_safe c (messages.Leave n) (deeds.Out client k put) id is spared taken = absurd is
  deed_safe c (messages.Leave n) (deeds.Take client k other) id is spared taken = absurd is
  deed_safe c (messages.Leave n) (deeds.Pass client k other) id is spared taken = absurd is
  deed_safe c (messages.Leave n) (deeds.Leave client k) id is spared taken = absurd (true≢false (sym taken))
  deed_safe c (messages.Hello version client fresh) d id is spared taken = absurd is
  deed_safe c (messages.Ask ticket remove shape) d id is spared taken = absurd is
  deed_safe c (messages.Cancel ticket) d id is spared taken = absurd is

  -- So it is of all answers.
  answers_safe : (st : State) (soft : Soft) (ms : List (ℕ × Message)) (answers : List Answer) (new : State) (then : Soft)
      → AreAnswered st soft ms answers new then
      → AllByRecursion (λ (m : ℕ × Message). IsSpared s now m.1) ms → (id : ℕ) → is_taken id (deeds_of answers) ≡ true → IsSafeFor s now id
  answers_safe st soft [] answers new then are spared id taken =
      absurd (true≢false (sym taken ∙ ap (λ l. is_taken id (deeds_of l)) are.0))
  answers_safe st soft (m ∷ ms) answers new then are spared id taken =
      let first : Answer = are.0 in
      let mid : State = are.1.0 in
      let later : List Answer = are.1.1.0 in
      let rest = answers_safe mid first.soft ms later new then are.1.1.1.1.0 spared.1 id in
      by first.deed refl (sym (ap (λ l. is_taken id (deeds_of l)) are.1.1.1.1.1) ∙ taken) rest
    where
      by : (o : Option Deed) → are.0.deed ≡ o → is_taken id (option_to_list o ++ deeds_of are.1.1.0) ≡ true
          → (is_taken id (deeds_of are.1.1.0) ≡ true → IsSafeFor s now id) → IsSafeFor s now id
      by None is taken rest = rest taken
      by (Some d) is taken rest =
          which (takes id d) refl (step_deed st are.1.0 m.0 soft m.1 are.0 d are.1.1.1.0 is) taken rest
        where
          which : (b : Bool) → takes id d ≡ b → IsDeedOf m.0 m.1 d → (b || is_taken id (deeds_of are.1.1.0)) ≡ true
              → (is_taken id (deeds_of are.1.1.0) ≡ true → IsSafeFor s now id) → IsSafeFor s now id
          which true e asked taken rest = deed_safe m.0 m.1 d id asked spared.0 e
          which false e asked taken rest = rest taken

-- What messages led to takes only what was spared.
pub served_safe : (next : Option NextBank) (now : Tuples) (st : State) (soft : Soft) (ms : List (ℕ × Message)) (served : Served) (new : State) (then : Soft)
    → IsServed st soft ms served new then
    → IfSome next (λ n. AreSpared n.writer now ms) → (id : ℕ) → is_taken id served.deeds.items ≡ true → IsSafeIn next now id
served_safe None now st soft ms served new then is spared id taken = tt
served_safe (Some n) now st soft ms served new then is spared id taken =
    answers_safe n.writer now st soft ms is.answers new then is.answered
    (recursion_from_All (λ (m : ℕ × Message). IsSpared n.writer now m.1) ms spared) id
    (subst (λ l. is_taken id l ≡ true) is.tells.deeds taken)

-- ---- it keeps up

-- What holds of the one that is handed back holds of the one that is kept.
pub if_kept : {E : Type 0} (P : NextBank → Type 0) (told : Result (Option NextBank) E) (next : Option NextBank)
    → IfOk told (λ o. next ≡ o) × IfErr told (λ _. next ≡ None) → IfOk told (λ o. IfSome o P) → IfSome next P
if_kept P (Ok o) next is holds = subst (λ o. IfSome o P) (sym is.0) holds
if_kept P (Err e) next is holds = subst (λ o. IfSome o P) (sym is.1) tt

module _ {D : Type 0} {g : Ghosts D} where
  -- The disk that is not in use is as it was.
  begun_still : (next : NextBank) (old new : Disks (Bank D g) D) (st : State) → IsBesideStill old new
      → limit_in_use new ≡ limit_in_use old → IsBegunOn next old st → IsBegunOn next new st
  begun_still next (InUse pair) (InUse other) st still limit begun = (
    record {
      front = begun.0.front;
      follows = begun.0.follows;
      place = begun.0.place;
      filled = subst (λ d. g.honest d → IsFilled begun.0.front next.at (g.view d)) (sym still.1.0) begun.0.filled;
    },
    begun.1 ∙ ap (λ n. n + 1) (sym still.0),
    begun.2 ∙ sym limit,
  )
  begun_still next (InUse pair) (Shut left right) st still limit begun = absurd still
  begun_still next (InUse pair) Away st still limit begun = absurd still
  begun_still next (Shut left right) new st still limit begun = absurd begun
  begun_still next Away new st still limit begun = absurd begun

  begun_on : (was next : NextBank) (disks : Disks (Bank D g) D) (st now : State)
      → next.writer.generation ≡ was.writer.generation → next.writer.limit ≡ was.writer.limit → next.at ≡ was.at
      → ((front : List ℕ) → Follows was.writer front st → Follows next.writer front now) → IsBegunOn was disks st → IsBegunOn next disks now
  begun_on was next (InUse pair) st now generation limit place follows begun = (
    record {
      front = begun.0.front;
      follows = follows begun.0.front begun.0.follows;
      place = place ∙ begun.0.place;
      filled = subst (λ n. g.honest pair.other → IsFilled begun.0.front n (g.view pair.other)) (sym place) begun.0.filled;
    },
    generation ∙ begun.1,
    limit ∙ begun.2,
  )
  begun_on was next (Shut left right) st now generation limit place follows begun = absurd begun
  begun_on was next Away st now generation limit place follows begun = absurd begun

  keeps_up : (old new : Option NextBank) (disks : Disks (Bank D g) D) (st now : State)
      → IfSome new (λ n. KeepsUp old st n now) → IsNextFor old disks st → IsNextFor new disks now
  keeps_up old None disks st now keeps begun = tt
  keeps_up old (Some n) disks st now keeps begun =
      begun_on keeps.was n disks st now keeps.generation keeps.limit keeps.place keeps.follows (subst (λ o. IsNextFor o disks st) keeps.is begun)

  pub next_up : (old new : Option NextBank) (disks : Disks (Bank D g) D) (st now : State)
      → IfSome new (λ n. KeepsUp old st n now) → ∥ IsNextFor old disks st ∥₁ → ∥ IsNextFor new disks now ∥₁
  next_up old new disks st now keeps begun = ∥∥₁_map begun (keeps_up old new disks st now keeps)

  next_still : (next : Option NextBank) (old new : Disks (Bank D g) D) (st : State) → IsBesideStill old new
      → limit_in_use new ≡ limit_in_use old → IsNextFor next old st → IsNextFor next new st
  next_still None old new st still limit begun = tt
  next_still (Some n) old new st still limit begun = begun_still n old new st still limit begun

  pub next_beside : (next : Option NextBank) (old new : Disks (Bank D g) D) (st : State) → IsBesideStill old new
      → limit_in_use new ≡ limit_in_use old → ∥ IsNextFor next old st ∥₁ → ∥ IsNextFor next new st ∥₁
  next_beside next old new st still limit begun = ∥∥₁_map begun (next_still next old new st still limit)

  pub beside_itself : (disks : Disks (Bank D g) D) → IsBesideStill disks disks
  beside_itself (InUse pair) = (refl, (refl, refl))
  beside_itself (Shut left right) = (refl, refl)
  beside_itself Away = tt

  -- Disks with the same histories hold what they held.
  pub next_as : {H : Type 0} (history : D → H) (next : Option NextBank) (old new : Disks (Bank D g) D) (st : State)
      → ((d e : D) → history e ≡ history d → g.honest e → g.honest d)
      → ((front : List ℕ) (at : ℕ) (d e : D) → history e ≡ history d → IsFilled front at (g.view d) → IsFilled front at (g.view e))
      → AreRelated (λ b c. (c.form ≡ b.form) × ((c.generation ≡ b.generation) × ((c.end ≡ b.end) × (history c.disk ≡ history b.disk))))
      (λ d e. history e ≡ history d) old new
      → limit_in_use new ≡ limit_in_use old → IsNextFor next old st → IsNextFor next new st
  next_as history None old new st honest filled same limit begun = tt
  next_as history (Some n) (InUse pair) (InUse other) st honest filled same limit begun = (
    record {
      front = begun.0.front;
      follows = begun.0.follows;
      place = begun.0.place;
      filled = λ h. filled begun.0.front n.at pair.other other.other same.1.0 (begun.0.filled (honest pair.other other.other same.1.0 h));
    },
    begun.1 ∙ ap (λ k. k + 1) (sym same.0.1.0),
    begun.2 ∙ sym limit,
  )
  next_as history (Some n) (InUse pair) (Shut left right) st honest filled same limit begun = absurd same
  next_as history (Some n) (InUse pair) Away st honest filled same limit begun = absurd same
  next_as history (Some n) (Shut left right) new st honest filled same limit begun = absurd begun
  next_as history (Some n) Away new st honest filled same limit begun = absurd begun
