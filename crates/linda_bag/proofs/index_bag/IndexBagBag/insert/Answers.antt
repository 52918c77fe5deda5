use Rattle.std.proofs.Common.{arith, refl, sym, ap, subst, ◌∙◌}
use Rattle.std.specs.FinMap as map
use Rattle.linda_bag.specs.Bytes.{tuple_bytes, bytes_of}
use Rattle.linda_bag.proofs.BytesLaws.{put_bytes}
use Rattle.linda_bag.proofs.PlaceLaws.{HasIndex}
use Rattle.linda_bag.proofs.KeptLaws.{as_before, as_after, rows_set}
use Rattle.linda_bag.proofs.index_bag.IndexBagBag.insert.Goals as goal

pub invariant_of-self : goal.invariant_of-self
invariant_of-self c =
    let before = map.get c.self.inside.tuples in (
      subst (λ m. HasIndex c.insert.new.id_index (map.get m)) (sym c.in_err-freed.ensures.err)
          (as_before (HasIndex c.self.inside.index) (HasIndex c.insert.new.id_index) before c.args.id _ refl c.in_err-freed.ensures.unfiled c.self.invariant.0),
      c.self.invariant.1 ∙ ap bytes_of (sym c.in_err-freed.ensures.err),
    )

pub overflow_sub-self : goal.overflow_sub-self
overflow_sub-self c =
    let put = put_bytes c.self.inside.tuples c.args.id c.in_ok-tuple.tuple.value in
    let same = ap tuple_bytes c.in_ok-tuple.ensures.ok in
    omega (arith, put, same, c.in_ok-freed.ensures.freed, c.self.invariant.1, c.in-Some.ensures, c.tuple_len.ensures.exact)

pub invariant_of-self-2 : goal.invariant_of-self-2
invariant_of-self-2 c =
    let before = map.get c.self.inside.tuples in
    let put = put_bytes c.self.inside.tuples c.args.id c.in_ok-tuple.tuple.value in
    let same = ap tuple_bytes c.in_ok-tuple.ensures.ok in
    let now = ap bytes_of c.in_ok-freed.ensures.ok in (
      as_after (HasIndex c.self.inside.index) (HasIndex c.insert.new.id_index) before c.args.id (map.get c.insert.new.self) _ _
          refl (rows_set c.self.inside.tuples c.insert.new.self c.args.id _ c.in_ok-freed.ensures.ok) c.in_ok-freed.ensures.filed c.self.invariant.0,
      omega (arith, put, same, now, c.in_ok-freed.ensures.freed, c.self.invariant.1, c.in-Some.ensures, c.tuple_len.ensures.exact),
    )
