use Rattle.std.proofs.Common.{◌≡◌, Err, sym, ap, refl, ◌∙◌, arith, length}
use Rattle.linda_codec.specs.declared.fault.ReadFault.TheVariants.{Memory}
use Rattle.linda_codec.specs.Places.{placed}
use Rattle.linda_codec.proofs.PlaceLaws.{is_found, is_only, no_fault}
use Rattle.linda_codec.proofs.BoundLaws.{is_place}
use Rattle.linda_codec.proofs.offset.get.Goals as goal

pub overflow_sub-result : goal.overflow_sub-result
overflow_sub-result g c =
    (is_found c.requires c.args.bytes.now c.tail.result.now c.args.at (c.in-Ok.value, c.in-Ok.rest.now)
    (λ i. omega (arith, c.type_inv.bytes i)) c.tail.ensures c.in-Ok.ensures.value).1

pub returns-in-Ok : goal.returns-in-Ok
returns-in-Ok g c =
    let f = is_found c.requires c.args.bytes.now c.tail.result.now c.args.at (c.in-Ok.value, c.in-Ok.rest.now)
    (λ i. omega (arith, c.type_inv.bytes i)) c.tail.ensures c.in-Ok.ensures.value in
    record {
      found = (f.0, omega arith, f.2);
      only = λ a rest fits spelled.
          let same = is_only c.requires c.args.bytes.now c.tail.result.now c.args.at (
            c.in-Ok.value,
            c.in-Ok.rest.now,
          ) c.tail.ensures c.in-Ok.ensures.value a rest fits spelled in
          cc;
      exact = rw (sym c.tail.ensures, c.in-Ok.ensures.value) refl;
      place = tt;
      memory = λ e. absurd cc;
    }

pub returns-in-Err : goal.returns-in-Err
returns-in-Err g c =
    record {
      found = tt;
      only = λ a rest fits spelled not_memory.
          absurd (no_fault c.requires c.args.bytes.now c.tail.result.now c.args.at _ c.in-Err.fault c.placed.result
          c.tail.ensures c.in-Err.ensures.value c.placed.ensures.value a rest fits spelled not_memory);
      exact = λ not_memory.
          rw (
            sym c.tail.ensures,
            c.in-Err.ensures.value (λ m. not_memory (c.placed.ensures.value ∙ ap (placed (length c.args.bytes.now)) m)),
            c.placed.ensures.value,
          ) refl;
      place = is_place (g.V.Spelled.format c.args.form).read c.requires.bounded c.args.bytes.now c.tail.result.now
          c.args.at c.in-Err.fault c.placed.result c.tail.ensures c.in-Err.ensures.value c.placed.ensures.value;
      memory = λ e.
          let told : c.placed.result ≡ Memory = cc in
          let fault : c.in-Err.fault ≡ Memory = c.placed.ensures.memory told in
          rw (sym c.tail.ensures) (c.in-Err.ensures.memory (ap (λ f. Err f) fault));
    }
