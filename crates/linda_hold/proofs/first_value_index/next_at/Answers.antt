use Rattle.std.proofs.Common.{sym, ap, subst, ◌∙◌, nat_cmp}
use Rattle.std.specs.Option.{option_copied}
use Rattle.linda_bag.specs.Filing.{IsIndexed, rows_at}
use Rattle.linda_hold.specs.FirstValue.{later_of}
use Rattle.linda_hold.specs.Group.{HasGroup, is_reached}
use Rattle.linda_hold.proofs.PositionLaws.{none_reached}
use Rattle.linda_hold.proofs.first_value_index.next_at.Goals as goal

pub returns-in-Some : goal.returns-in-Some
returns-in-Some c = λ asked filed.
    let rows = rows_at nat_cmp later_of c.args.position asked in
    c.next_from.ensures rows (subst (λ s. IsIndexed HasGroup s rows) (sym c.in-Some.ensures.value) (filed c.args.position)).0

pub returns-in-None : goal.returns-in-None
returns-in-None c = λ asked filed k above.
    let rows = rows_at nat_cmp later_of c.args.position asked in
    ap (is_reached (option_copied c.args.field)) (subst (λ s. IsIndexed HasGroup s rows) (sym c.in-None.ensures.value) (filed c.args.position) k)
    ∙ none_reached (option_copied c.args.field)
