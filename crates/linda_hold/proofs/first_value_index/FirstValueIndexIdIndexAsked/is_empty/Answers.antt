use Rattle.std.proofs.Common.{nat_cmp, sym, ap, ◌∙◌, true≢false}
use Rattle.linda_bag.specs.Filing.{placed}
use Rattle.linda_bag.proofs.FirstFieldLaws.{no_keys, unplaced}
use Rattle.linda_bag.proofs.OrderLaws.{number_itself}
use Rattle.linda_hold.specs.FirstValue.{later_of}
use Rattle.linda_hold.specs.Group.{HasGroup}
use Rattle.linda_hold.specs.FirstValueIndex.{early_at, early_of}
use Rattle.linda_hold.proofs.PositionLaws.{no_request}
use Rattle.linda_hold.proofs.first_value_index.FirstValueIndexIdIndexAsked.is_empty.Goals as goal

pub returns-then-is_empty : goal.returns-then-is_empty
returns-then-is_empty c = λ rows known.
    let early = c.is_empty.ensures (early_of rows) known.0 in
    let later = c.args.self.now.later in (
      (λ yes q. no_request (rows q) (early.0 c.if-is_empty.true q)
          (unplaced nat_cmp number_itself HasGroup later_of later rows known.1 (c.is_empty-then-is_empty.ensures.0 yes) q)),
      (λ bare. c.is_empty-then-is_empty.ensures.1 (no_keys nat_cmp number_itself HasGroup later_of later rows known.1 (λ q. ap (placed later_of) (bare q)))),
    )

pub returns-else-is_empty : goal.returns-else-is_empty
returns-else-is_empty c = λ rows known.
    let early = c.is_empty.ensures (early_of rows) known.0 in (
      (λ yes. absurd (true≢false (sym yes ∙ c.if-is_empty.false))),
      (λ bare. early.1 (λ q. ap early_at (bare q))),
    )
