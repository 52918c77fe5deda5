-- Messages that are answered one after another, given in one list of deeds and one of sends.
use Rattle.std.proofs.Common.{◌≡◌, ℕ, ◌+◌, suc, arith, List, [], ◌∷◌, ◌++◌, option_to_list, refl, sym, ap, subst, ◌∙◌, append-nil}
use Rattle.std.proofs.lemmas.List.{map-append}
use Rattle.std.proofs.lemmas.Grind.{flat_map-append}
use Rattle.linda_wire.specs.declared.message.Message.{Message}
use Rattle.linda_store_state.specs.State.{State}
use Rattle.linda_store_step.specs.Soft.{Soft}
use Rattle.linda_store_step.specs.Answer.{Answer, IsStep}
use Rattle.linda_store_step.specs.History.{History, Happens, comings, first_then, history_of}
use Rattle.linda_store_step.specs.declared.served.Served.{Served}
use Rattle.linda_store_step.specs.Served.{AreAnswered, deeds_of, sends_of, counts_of, IsServed, IsServedToo}

-- What one answer at the end adds.
deeds_more : (answers : List Answer) (a : Answer) → deeds_of (answers ++ a ∷ []) ≡ deeds_of answers ++ option_to_list a.deed
deeds_more answers a =
    flat_map-append (λ (x : Answer). option_to_list x.deed) answers (a ∷ []) ∙ ap (λ l. deeds_of answers ++ l) (append-nil (option_to_list a.deed))

sends_more : (answers : List Answer) (a : Answer) → sends_of (answers ++ a ∷ []) ≡ sends_of answers ++ a.sends
sends_more answers a = flat_map-append (λ (x : Answer). x.sends) answers (a ∷ []) ∙ ap (λ l. sends_of answers ++ l) (append-nil a.sends)

-- One message more is answered.
answered_more : (st : State) (soft : Soft) (ms : List (ℕ × Message)) (answers : List Answer) (mid : State)
    (between : Soft) (m : ℕ × Message) (a : Answer) (new : State) (then : Soft)
    → AreAnswered st soft ms answers mid between → IsStep mid between m.0 m.1 a new → then ≡ a.soft
    → AreAnswered st soft (ms ++ m ∷ []) (answers ++ a ∷ []) new then
answered_more st soft [] answers mid between m a new then so_far step soft_is =
    let stepped : IsStep st soft m.0 m.1 a new = subst (λ s. IsStep s soft m.0 m.1 a new) so_far.1.0
    (subst (λ s. IsStep mid s m.0 m.1 a new) so_far.1.1 step) in
    (a, (new, ([], (stepped, ((refl, (refl, soft_is)), ap (λ l. l ++ a ∷ []) so_far.0)))))
answered_more st soft (x ∷ ms) answers mid between m a new then so_far step soft_is =
    let first : Answer = so_far.0 in
    let next : State = so_far.1.0 in
    let later : List Answer = so_far.1.1.0 in (
      first,
      (
        next,
        (
          later ++ a ∷ [],
          (
            so_far.1.1.1.0,
            (
              answered_more next first.soft ms later mid between m a new then so_far.1.1.1.1.0 step soft_is,
              ap (λ l. l ++ a ∷ []) so_far.1.1.1.1.1,
            ),
          ),
        ),
      ),
    )

-- Nothing was served yet.
pub none_served : (st : State) (soft : Soft) (told : Served) → told.deeds.items ≡ [] → told.sends.items ≡ []
    → told.counts.items ≡ [] → IsServed st soft [] told st soft
none_served st soft told deeds sends counts = record {
  answers = [];
  answered = (refl, (refl, refl));
  tells = record { deeds = deeds; sends = sends; counts = counts };
}

-- One message more was served.
pub served_more : (st : State) (soft : Soft) (ms : List (ℕ × Message)) (before told : Served)
    (mid : State) (between : Soft) (c : ℕ) (m : Message) (new : State) (then : Soft)
    → IsServed st soft ms before mid between → IsServedToo mid between c m before told new then → IsServed st soft (ms ++ (c, m) ∷ []) told new then
served_more st soft ms before told mid between c m new then so_far more = record {
  answers = so_far.answers ++ more.answer ∷ [];
  answered = answered_more st soft ms so_far.answers mid between (c, m) more.answer new then so_far.answered more.step more.soft_is;
  tells = record {
    deeds = more.deeds ∙ ap (λ l. l ++ option_to_list more.answer.deed) so_far.tells.deeds ∙ sym (deeds_more so_far.answers more.answer);
    sends = more.sends ∙ ap (λ l. l ++ more.answer.sends) so_far.tells.sends ∙ sym (sends_more so_far.answers more.answer);
    counts = more.counts ∙ ap (λ l. l ++ counts_of more.answer ∷ []) so_far.tells.counts ∙ sym (map-append counts_of so_far.answers (more.answer ∷ []));
  };
}

-- The answers make a history.
happened_so : (st : State) (soft : Soft) (ms : List (ℕ × Message)) (answers : List Answer) (new : State) (then : Soft) → AreAnswered st soft ms answers new then
    → Happens st soft (comings ms) (history_of new then (deeds_of answers) (sends_of answers))
happened_so st soft [] answers new then are =
    λ i. record { deeds = ap deeds_of are.0 i; sends = ap sends_of are.0 i; soft = are.1.1 i; state = are.1.0 i }
happened_so st soft (m ∷ ms) answers new then are =
    let first : Answer = are.0 in
    let mid : State = are.1.0 in
    let later : List Answer = are.1.1.0 in
    let rest : History = history_of new then (deeds_of later) (sends_of later) in
    let same : history_of new then (deeds_of answers) (sends_of answers) ≡ first_then first rest = λ i. record {
      deeds = ap deeds_of are.1.1.1.1.1 i;
      sends = ap sends_of are.1.1.1.1.1 i;
      soft = then;
      state = new;
    } in
    (first, (mid, (rest, (are.1.1.1.0, (happened_so mid first.soft ms later new then are.1.1.1.1.0, same)))))

pub served_happens : (st : State) (soft : Soft) (ms : List (ℕ × Message)) (told : Served) (new : State) (then : Soft) → IsServed st soft ms told new then
    → Happens st soft (comings ms) (history_of new then told.deeds.items told.sends.items)
served_happens st soft ms told new then served =
    subst (Happens st soft (comings ms)) (λ i. record { deeds = sym served.tells.deeds i; sends = sym served.tells.sends i; soft = then; state = new })
    (happened_so st soft ms served.answers new then served.answered)

pub one_more : (i : ℕ) → i + 1 ≡ suc i
one_more i = omega arith
