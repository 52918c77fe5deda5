use Rattle.std.proofs.Common.{refl, ap, nat_cmp, arith, ◌+◌}
use Rattle.std.specs.BTreeSet.{contains}
use Rattle.std.specs.Option.{option_copied}
use Rattle.linda_bag.proofs.ColumnLaws.{filed_next, filed_all, if_none, if_some}
use Rattle.linda_bag.proofs.column.Column.file_next.Goals as goal

pub returns-in-None : goal.returns-in-None
returns-in-None g c = λ right.
    filed_all (g.B.Bag.contents c.args.bag.now) c.args.next c.args.self.now
    (record { kind = c.args.self.now.kind; position = c.args.self.now.position; upto = c.args.next; ids = c.args.self.now.ids })
    (contains nat_cmp c.new.result) refl refl refl refl
    (λ k. ap (λ keys. contains nat_cmp (record { keys = keys }) k) c.new.ensures.empty)
    (if_none c.least_match_from-found.result.id c.least_match_from-found.ensures.none c.in-None.is) right

pub returns : goal.returns
returns g c = λ right.
    filed_next (g.B.Bag.contents c.args.bag.now) c.args.next c.args.self.now
    (record { kind = c.args.self.now.kind; position = c.args.self.now.position; upto = c.in-Some.id + 1; ids = c.put.new.ids })
    c.in-Some.id (option_copied c.field_under-value.result) (contains nat_cmp c.new.result) refl refl refl
    (if_some _ c.least_match_from-found.result.id c.in-Some.id c.least_match_from-found.ensures.above c.in-Some.is)
    (let over = c.if-id-next.false in omega arith)
    (λ k. ap (λ keys. contains nat_cmp (record { keys = keys }) k) c.new.ensures.empty)
    (if_some _ c.least_match_from-found.result.id c.in-Some.id c.least_match_from-found.ensures.least c.in-Some.is)
    c.field_under-value.ensures c.in_ok-put.ensures right
