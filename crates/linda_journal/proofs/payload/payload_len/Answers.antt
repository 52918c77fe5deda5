-- One deed more is counted, if it has a spelling.
use Rattle.std.proofs.Common.{◌≡◌, ◌+◌, ◌≤◌, [], ◌∷◌, ◌++◌, All, length, length-append, take, sym, ap, ◌∙◌, subst, arith}
use Rattle.std.proofs.lemmas.List.{take_all, take_more, flat_map_more}
use Rattle.std.proofs.lemmas.List.Elements.{All-get_or, All-more}
use Rattle.linda_journal.specs.Records.{spell_deed, payload, FitsDeed, SuitsForm}
use Rattle.linda_journal.proofs.payload.payload_len.Goals as goal

pub loop-deed-preserved : goal.loop-deed-preserved
loop-deed-preserved c =
    let ds = c.args.deeds.now in
    let form = c.args.form in
    let at = c.loop-deed.deed-index in
    let deed = c.deed-item.result in
    let inv = c.loop-deed.invariant in
    let fits = c.if-not-fits.false in
    let next : take (at + 1) ds ≡ take at ds ++ deed ∷ [] = take_more ds at deed c.loop-deed-test.true ∙ ap (λ d. take at ds ++ d ∷ []) (sym c.deed-item.is) in
    let spelled = ap (payload form) next ∙ sym (flat_map_more (spell_deed form) [] (take at ds) deed) in
    let long = ap length spelled ∙ length-append (payload form (take at ds)) (spell_deed form deed) in (
      omega (arith, inv.0, c.len-len.ensures.exact, long),
      omega (arith, inv.1, c.len-len.ensures.short),
      All-more (SuitsForm form) ds at deed c.loop-deed-test.true inv.2 (subst (SuitsForm form) c.deed-item.is (c.fits.ensures.exact.0 fits)),
      All-more (FitsDeed form) ds at deed c.loop-deed-test.true inv.3 (subst (FitsDeed form) c.deed-item.is (c.fits.ensures.spelled fits)),
    )

pub returns-then-not-fits-clause-none : goal.returns-then-not-fits-clause-none
returns-then-not-fits-clause-none c = λ all.
    let ds = c.args.deeds.now in
    let form = c.args.form in
    let there = All-get_or (SuitsForm form) ds c.loop-deed.deed-index c.deed-item.result c.loop-deed-test.true all in
    let fits = c.fits.ensures.exact.1 (subst (SuitsForm form) (sym c.deed-item.is) there) in
    absurd cc

pub returns-clause-suit : goal.returns-clause-suit
returns-clause-suit c =
    let over : length c.args.deeds.now ≤ c.loop-deed.deed-index = omega (arith, c.loop-deed-test.false) in
    subst (All (SuitsForm c.args.form)) (take_all c.loop-deed.deed-index c.args.deeds.now over) c.loop-deed.invariant.2

pub returns-clause-spelled : goal.returns-clause-spelled
returns-clause-spelled c =
    let over : length c.args.deeds.now ≤ c.loop-deed.deed-index = omega (arith, c.loop-deed-test.false) in
    subst (All (FitsDeed c.args.form)) (take_all c.loop-deed.deed-index c.args.deeds.now over) c.loop-deed.invariant.3
