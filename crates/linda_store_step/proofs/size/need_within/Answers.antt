-- With each turn one message more is counted.
use Rattle.std.proofs.Common.{Option, IfNone, ◌≡◌, ◌+◌, ◌==◌, cond, take, drop, [], ◌∷◌, ◌++◌, ap, sym, ◌∙◌, subst, arith, ◌%◌, ◌<◌, length, set, true}
use Rattle.std.proofs.lemmas.List.{take_more_set, length-set}
use Rattle.std.specs.FinMap.{get}
use Rattle.linda_store_state.specs.State.{State}
use Rattle.linda_store_step.specs.declared.size.Need.{Need}
use Rattle.linda_store_step.specs.Size.{bytes_from, count_from, numbers_of, last_behind, latest_in, AllSuit, AreMarked}
use Rattle.linda_store_step.proofs.SizeLaws.{numbers_behind, first_of, as_number, clients_few, next_low, counted_on}
use Rattle.linda_store_step.proofs.SizeLaws.{one_more, suit_on, suit_back, suit_first, passed_on, count_passed}
use Rattle.linda_store_step.proofs.SizeLaws.{suit_passed, suit_before, marked_more}
use Rattle.linda_store_step.proofs.size.need_within.Goals as goal

pub loop-client-preserved : goal.loop-client-preserved
loop-client-preserved g c =
    let st : State = c.args.state.now in
    let ms = c.args.messages.now in
    let l = c.loop-client in
    let m = c.loop-client-item.result in
    let d = c.in-Some.done in
    let last_is =
    c.latest-last.ensures
    ∙ ap (λ n. last_behind (take l.count l.lasts) m.0 n) ((λ i. (c.standing.ensures.last i, c.standing.ensures.left i))
    ∙ ap (λ (s : State). latest_in (get s.book m.0)) c.state.view_is)
    in
    let k_is = ap (λ n. l.clients + n) (c.from-clients.ensures ∙ as_number (c.latest-last.result.0 == 0)) in
    let x_is = ap (λ n. l.next + n) (c.from-next.ensures ∙ as_number c.puts.result ∙ ap (λ b. cond b 1 0) c.puts.ensures) in
    let fs_is = take_more_set l.lasts l.count (m.0, (d.n, c.leaves.result)) (omega arith)
    ∙ ap (λ b. take l.count l.lasts ++ (m.0, (d.n, b)) ∷ []) c.leaves.ensures in
    let place_is : c.place_of.result ≡ m.0 % length l.met = c.place_of.ensures.exact in
    let place_within : m.0 % length l.met < length l.met =
    subst (λ p. p < length l.met) place_is c.place_of.ensures.within
    in
    let i = l.client-index in
    let rest : drop i ms ≡ m ∷ drop (i + 1) ms = first_of ms i m c.loop-client-test.true c.loop-client-item.is in
    let form = c.args.form in
    let here = numbers_behind st (take l.count l.lasts) l.clients l.next in
    let all = l.invariant.all ∙ ap (λ xs. l.bytes + bytes_from form here xs) rest in
    record {
      all = counted_on form st _ _ m.0 m.1 _ l.clients l.next _ _ l.bytes _ d
          (drop (i + 1) ms) last_is c.in-Some.ensures fs_is k_is x_is c.in_ok-size.size c.in_ok-size.ensures.exact all;
      counted =
          one_more form st _ _ m.0 m.1 _ l.clients l.next _ _ l.bytes 0 d (drop (i + 1) ms) last_is c.in-Some.ensures fs_is k_is x_is l.count _
          (l.invariant.counted ∙ ap (λ xs. l.count + count_from here xs) rest);
      suit = (
        λ every. (suit_on form st _ _ m.0 m.1 _ l.clients l.next _ _ l.bytes 0 d (drop (i + 1) ms) last_is
            c.in-Some.ensures fs_is k_is x_is (subst (AllSuit form here) rest (l.invariant.suit.0 every))).1,
        λ later. l.invariant.suit.1
            (subst (AllSuit form here) (sym rest)
            (suit_back form st _ _ m.0 m.1 _ l.clients l.next _ _ l.bytes 0 d
            (drop (i + 1) ms) last_is c.in-Some.ensures fs_is k_is x_is c.in_ok-size.ensures.suits later)),
      );
      count_few = omega (arith, l.invariant.count_few);
      clients_few = clients_few form st _ _ m.0 m.1 _ l.clients l.next _ _ l.bytes 0 d ms last_is c.in-Some.ensures fs_is k_is x_is l.invariant.clients_few;
      next_low = next_low form st _ _ m.0 m.1 _ l.clients l.next _ _ l.bytes 0 d ms last_is c.in-Some.ensures fs_is k_is x_is l.invariant.next_low;
      bytes_few = omega (arith, l.invariant.bytes_few, c.in_ok-size.ensures.short);
      places = subst (λ n. 0 < n) (sym (length-set l.met c.place_of.result true)) l.invariant.places;
      marked =
          subst (AreMarked (set l.met c.place_of.result true)) (sym (take_more_set l.lasts l.count (m.0, (d.n, c.leaves.result)) (omega arith)))
          (subst (λ p. AreMarked (set l.met p true) (take l.count l.lasts ++ (m.0, (d.n, c.leaves.result)) ∷ [])) (sym place_is)
          (marked_more l.met (take l.count l.lasts) m.0 (d.n, c.leaves.result) place_within l.invariant.marked));
    }

-- A message of which nothing is done is passed over.
pub loop-client-preserved-in_default : goal.loop-client-preserved-in_default
loop-client-preserved-in_default g c =
    let st : State = c.args.state.now in
    let ms = c.args.messages.now in
    let l = c.loop-client in
    let m = c.loop-client-item.result in
    let form = c.args.form in
    let es = take l.count l.lasts in
    let last_is =
    c.latest-last.ensures
    ∙ ap (λ n. last_behind es m.0 n) ((λ i. (c.standing.ensures.last i, c.standing.ensures.left i))
    ∙ ap (λ (s : State). latest_in (get s.book m.0)) c.state.view_is)
    in
    let i = l.client-index in
    let rest : drop i ms ≡ m ∷ drop (i + 1) ms = first_of ms i m c.loop-client-test.true c.loop-client-item.is in
    let here = numbers_behind st es l.clients l.next in
    let undone = sym c.in_default.is ∙ c.done_of.ensures in
    record {
      all = passed_on form st es m.0 m.1 _ l.clients l.next (drop (i + 1) ms) last_is undone l.bytes _
          (l.invariant.all ∙ ap (λ xs. l.bytes + bytes_from form here xs) rest);
      counted = count_passed form st es m.0 m.1 _ l.clients l.next (drop (i + 1) ms) last_is undone l.count _
          (l.invariant.counted ∙ ap (λ xs. l.count + count_from here xs) rest);
      suit = (
        λ every. suit_passed form st es m.0 m.1 _ l.clients l.next (drop (i + 1) ms) last_is undone (subst (AllSuit form here) rest (l.invariant.suit.0 every)),
        λ later. l.invariant.suit.1
            (subst (AllSuit form here) (sym rest) (suit_before form st es m.0 m.1 _ l.clients l.next (drop (i + 1) ms) last_is undone later)),
      );
      count_few = omega (arith, l.invariant.count_few);
      clients_few = l.invariant.clients_few;
      next_low = l.invariant.next_low;
      bytes_few = omega (arith, l.invariant.bytes_few);
      places = l.invariant.places;
      marked = l.invariant.marked;
    }

-- What is done has no spelling, so not all suit.
pub returns-in_err-size-clause-none : goal.returns-in_err-size-clause-none
returns-in_err-size-clause-none g c =
    let st : State = c.args.state.now in
    let ms = c.args.messages.now in
    let l = c.loop-client in
    let m = c.loop-client-item.result in
    let form = c.args.form in
    let es = take l.count l.lasts in
    let last_is =
    c.latest-last.ensures
    ∙ ap (λ n. last_behind es m.0 n) ((λ i. (c.standing.ensures.last i, c.standing.ensures.left i))
    ∙ ap (λ (s : State). latest_in (get s.book m.0)) c.state.view_is)
    in
    let rest : drop l.client-index ms ≡ m ∷ drop (l.client-index + 1) ms = first_of ms l.client-index m c.loop-client-test.true c.loop-client-item.is in
    subst (λ (o : Option Need). IfNone o (AllSuit form (numbers_of st) ms → ⊥)) (sym c.from_residual.ensures)
    (λ every. c.in_err-size.ensures.none (suit_first form st es m.0 m.1 _ l.clients l.next c.in-Some.done
    (drop (l.client-index + 1) ms) last_is c.in-Some.ensures
    (subst (AllSuit form (numbers_behind st es l.clients l.next)) rest (l.invariant.suit.0 every))))
