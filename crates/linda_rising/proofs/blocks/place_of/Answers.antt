use Rattle.std.proofs.Common.{◌≡◌, [], arith, ap, ◌∙◌, inl, inr}
use Rattle.std.proofs.lemmas.Bool.{cases_order}
use Rattle.std.proofs.lemmas.List.{get_or_default}
use Rattle.linda_rising.proofs.BlockLaws.{froms_rise, from_at}
use Rattle.linda_rising.proofs.blocks.place_of.Goals as goal
use Rattle.linda_rising.proofs.blocks.place_of.Goals.{then-last-eq0-via-then-last-eq0, then-last-eq0-via-else-last-eq0+then-id-from}

pub returns-then-last-eq0 : goal.returns-then-last-eq0
returns-then-last-eq0 g c =
    let blocks = c.args.blocks.now.items in
    let long = c.args.blocks.now.ok.0 in
    record {
      within = c.requires.some;
      begins = λ some. absurd (omega arith);
      above = elim c.then-last-eq0.branch [
        | then-last-eq0-via-then-last-eq0 w ↦ λ j less inside. absurd (omega (arith, w.if-last-eq0.true, c.len-last.ensures, long))
        | then-last-eq0-via-else-last-eq0+then-id-from w ↦ λ j less inside.
            let one : w.from-else-last-eq0.result ≡ from_at blocks 1 = w.from-else-last-eq0.ensures
            ∙ ap (λ b. b.0) (w.index-else-last-eq0.ensures
            ∙ get_or_default blocks 1 w.index-else-last-eq0.result.now (0, [])
            (omega (arith, inside, less, w.if-last-eq0.false, c.len-last.ensures, long))) in
            elim (cases_order 1 j) [
              | inl same ↦ omega (arith, ap (from_at blocks) same, one, w.if-id-from.true)
              | inr (inl more) ↦ omega (arith, froms_rise blocks 1 j c.requires.rising more inside, one, w.if-id-from.true)
              | inr (inr none) ↦ absurd (omega arith)
            ]
      ];
    }
