use Rattle.std.proofs.Common.{sym, ap, ◌∙◌, true≢false, eqb-true, eq-eqb}
use Rattle.linda_bag.proofs.SetLaws.{set_bare}
use Rattle.linda_bag.specs.FirstFieldIndex.{keyed_in}
use Rattle.linda_hold.specs.FirstValue.{first_of}
use Rattle.linda_hold.specs.Group.{unkeyed_at, unkeyed_of}
use Rattle.linda_hold.proofs.BeginningLaws.{no_request}
use Rattle.linda_hold.proofs.group.GroupIdIndexAsked.is_empty.Goals as goal

pub returns-then-is_empty : goal.returns-then-is_empty
returns-then-is_empty c = λ rows known.
    let keyed = c.is_empty.ensures rows known.0 in
    let unkeyed = set_bare c.args.self.now.unkeyed (unkeyed_of rows) known.1 in (
      (λ yes q. no_request (rows q) (keyed.0 c.if-is_empty.true q) (unkeyed.0 (sym c.len.ensures ∙ eqb-true _ _ yes) q)),
      (λ bare. eq-eqb _ _ (c.len.ensures ∙ unkeyed.1 (λ q. ap unkeyed_at (bare q)))),
    )

pub returns-else-is_empty : goal.returns-else-is_empty
returns-else-is_empty c = λ rows known.
    let keyed = c.is_empty.ensures rows known.0 in (
      (λ yes. absurd (true≢false (sym yes ∙ c.if-is_empty.false))),
      (λ bare. keyed.1 (λ q. ap (keyed_in first_of) (bare q))),
    )
