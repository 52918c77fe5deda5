use Rattle.std.proofs.Common.{◌≡◌, None, nat_cmp, sym, ap, ◌∙◌}
use Rattle.std.specs.Option.{option_copied}
use Rattle.linda_bag.specs.Filing.{keyed, placed}
use Rattle.linda_bag.proofs.FilingLaws.{refiled_as, no_id_index}
use Rattle.linda_hold.specs.FirstValue.{later_of}
use Rattle.linda_hold.specs.Group.{HasGroup}
use Rattle.linda_hold.proofs.first_value_index.remove_later.Goals as goal

pub returns-in-Some-later : goal.returns-in-Some-later
returns-in-Some-later c = λ after none.
    let was = ap (λ k. keyed k c.in-Some.old.now) (sym c.in-Some-later.is ∙ c.later.ensures) ∙ ap (λ o. placed later_of (option_copied o)) (sym c.in-Some.is) in
    refiled_as nat_cmp HasGroup later_of c.args.later.now c.unfile.new.id_indexes _ _ _ _ _ was (sym none) c.unfile.ensures

pub returns-in_default-later : goal.returns-in_default-later
returns-in_default-later c = λ after none.
    let later = c.args.later.now in
    let was : None ≡ placed later_of (option_copied c.args.old) = ap (λ k. keyed k c.in-Some.old.now) (sym c.in_default-later.is ∙ c.later.ensures)
    ∙ ap (λ o. placed later_of (option_copied o)) (sym c.in-Some.is) in
    refiled_as nat_cmp HasGroup later_of later later c.args.id (option_copied c.args.old) after None None was
    (sym none) (no_id_index HasGroup nat_cmp later c.args.id)
