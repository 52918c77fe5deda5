use Rattle.std.proofs.Common.{[], ◌∷◌, arith, refl}
use Rattle.std.proofs.lemmas.Result.{err_from_is_err_and}
use Rattle.linda_codec.proofs.ValueLaws.{tuple_is, tuple_within}
use Rattle.linda_codec.proofs.reading.build_tuple.Goals as goal

pub single-requires : goal.single-requires
single-requires c =
    tuple_within c.args.form _
    ((tuple_is c.args.form).takes c.args.bytes.now (
      record { tag = c.in_ok-tag.tag; fields = c.in_ok-field.field ∷ [] },
      c.in_ok-field.rest.now,
    ) (λ i. omega (arith, c.type_inv.bytes i))
    (rw (c.in_ok-tag.ensures.value, c.in_ok-count.ensures, c.if-count-eq1.true, c.in_ok-field.ensures) refl)).1

pub from_parts-requires : goal.from_parts-requires
from_parts-requires c =
    tuple_within c.args.form _
    ((tuple_is c.args.form).takes c.args.bytes.now (
      record { tag = c.in_ok-tag.tag; fields = c.in_ok-fields.fields.items },
      c.in_ok-fields.rest.now,
    ) (λ i. omega (arith, c.type_inv.bytes i))
    (rw (c.in_ok-tag.ensures.value, c.in_ok-count.ensures, c.in_ok-fields.ensures) refl)).1

pub returns-in_err-field : goal.returns-in_err-field
returns-in_err-field c =
    let p = err_from_is_err_and c.from_residual-in_err-field.result c.from_residual-in_err-field.ensures.1 in
    rw (p.1, p.2)
    (λ no. rw (c.in_ok-tag.ensures.value, c.in_ok-count.ensures, c.if-count-eq1.true, c.in_err-field.ensures no) refl)

pub returns-then-count-eq1 : goal.returns-then-count-eq1
returns-then-count-eq1 c =
    rw (c.in_ok-tag.ensures.value, c.in_ok-count.ensures, c.if-count-eq1.true, c.in_ok-field.ensures, c.shared.ensures, c.single.ensures) refl
