use Rattle.std.proofs.Common.{Result, Ok, Err, OnOk, refl, None, Some}
use Rattle.std.specs.Option.{option_copied}
use Rattle.linda_tuple.specs.contracts.atom.AtomOrd.TheImpl as atom_ord
use Rattle.linda_bag.specs.Ids.{IsOf}
use Rattle.linda_bag.specs.Filing.{place}
use Rattle.linda_bag.proofs.FilingLaws.{refiled_as}
use Rattle.linda_bag.proofs.column.put.Goals as goal

on_ok_then : {T E P Q : Type 0} (r : Result T E) → OnOk r P → (P → Q) → OnOk r Q
on_ok_then (Ok t) p then = then p
on_ok_then (Err e) p then = tt

pub returns : goal.returns
returns c =
    on_ok_then c.refile.result c.refile.ensures.ok (λ change.
    refiled_as atom_ord.ghosts.cmp IsOf (λ v. Some v) c.args.ids.now c.refile.new.id_indexes c.args.id None
    (option_copied c.args.value) None (place c.place_of.result) refl c.place_of.ensures change)
