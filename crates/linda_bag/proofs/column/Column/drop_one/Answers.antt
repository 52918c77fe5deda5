use Rattle.std.proofs.Common.{refl, sym, subst, true, ◌≡◌}
use Rattle.linda_bag.specs.Ids.{has_any}
use Rattle.linda_bag.proofs.ColumnLaws.{without_gone}
use Rattle.linda_bag.proofs.column.Column.drop_one.Goals as goal

-- What was found under the value is under it.
pub returns-in-None : goal.returns-in-None
returns-in-None g c = λ next right.
    without_gone (g.B.Bag.contents c.args.bag.now) next c.args.self.now
    (record { kind = c.args.self.now.kind; position = c.args.self.now.position; upto = c.args.self.now.upto; ids = c.take_out.new.ids })
    c.in-Some.id c.args.value.now refl refl refl
    (subst (λ o. has_any o c.in-Some.id ≡ true) c.get.ensures.value c.in-Some.ensures)
    (sym c.in-None.ensures) c.take_out.ensures right
