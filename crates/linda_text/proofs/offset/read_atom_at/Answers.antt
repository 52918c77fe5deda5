use Rattle.std.proofs.Common.{◌≡◌, ap, Err, arith}
use Rattle.linda_text.specs.declared.fault.TextFault.TheVariants.{Memory}
use Rattle.linda_text.proofs.RowLaws.{spaced_atom_is}
use Rattle.linda_text.proofs.PlaceLaws.{is_found, is_only, no_fault, stands_there}
use Rattle.linda_text.proofs.offset.read_atom_at.Goals as goal

pub overflow_sub-result : goal.overflow_sub-result
overflow_sub-result c =
    let f = is_found spaced_atom_is c.args.text.now c.tail.result.now c.args.at (c.in-Ok.atom, c.in-Ok.rest.now) c.tail.ensures c.in-Ok.ensures.value in
    omega (arith, f.1)

pub returns-in-Ok-clause-found : goal.returns-in-Ok-clause-found
returns-in-Ok-clause-found c =
    let f = is_found spaced_atom_is c.args.text.now c.tail.result.now c.args.at (c.in-Ok.atom, c.in-Ok.rest.now) c.tail.ensures c.in-Ok.ensures.value in
    (f.0, f.2)

pub returns-in-Ok-clause-only : goal.returns-in-Ok-clause-only
returns-in-Ok-clause-only c = λ a rest is ends.
    let same = is_only spaced_atom_is c.args.text.now c.tail.result.now c.args.at (
      c.in-Ok.atom,
      c.in-Ok.rest.now,
    ) c.tail.ensures c.in-Ok.ensures.value a rest is.0 ends is.1 in
    cc

pub returns-in-Err-clause-only : goal.returns-in-Err-clause-only
returns-in-Err-clause-only c = λ a rest is ends not_memory.
    absurd (no_fault spaced_atom_is c.args.text.now c.tail.result.now c.args.at _ c.in-Err.fault c.placed.result
    c.tail.ensures c.in-Err.ensures.value c.placed.ensures.value a rest is.0 ends is.1 not_memory)

pub returns-in-Err-clause-memory : goal.returns-in-Err-clause-memory
returns-in-Err-clause-memory c = λ e.
    let told : c.placed.result ≡ Memory = cc in
    stands_there spaced_atom_is c.args.text.now c.tail.result.now c.args.at c.tail.ensures
    (c.in-Err.ensures.memory (ap (λ fault. Err fault) (c.placed.ensures.memory told)))
