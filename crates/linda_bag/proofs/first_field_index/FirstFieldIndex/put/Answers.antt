use Rattle.std.proofs.Common.{Result, Ok, Err, sym, ap, subst, ◌∙◌}
use Rattle.std.specs.Result.{OnErr}
use Rattle.std.specs.Ordering.{int_cmp}
use Rattle.linda_tuple.specs.contracts.atom.AtomOrd.TheImpl as atom_ord
use Rattle.linda_bag.specs.Filing.{IsFound, IsFiled, place}
use Rattle.linda_bag.specs.Ids.{IsOf}
use Rattle.linda_bag.specs.Ints.{ids_at}
use Rattle.linda_bag.specs.FirstFieldIndex.{int_of, other_of}
use Rattle.linda_bag.proofs.FirstFieldLaws.{no_other}
use Rattle.linda_bag.proofs.FilingLaws.{refiled_as, refound_as, same_rows}
use Rattle.linda_bag.proofs.first_field_index.FirstFieldIndex.put.Goals as goal

on_err_there : {T E P : Type 0} (r : Result T E) → P → OnErr r P
on_err_there (Ok t) p = tt
on_err_there (Err e) p = p

pub returns-in_err-refile-in-Some-clause-err : goal.returns-in_err-refile-in-Some-clause-err
returns-in_err-refile-in-Some-clause-err g c = on_err_there c.from_residual.result (λ rows there known. (
  refound_as _ _ (int_of g.R.Tagged.first_of) (ids_at c.args.self.now.ints) (ids_at c.refile.new.sets) _ _ _ _ _
      c.int_place-in-Some.ensures c.int_place-in-Some.ensures c.in_err-refile-in-Some.ensures.err rows there known.0,
  subst (IsFiled atom_ord.ghosts.cmp IsOf (other_of g.R.Tagged.first_of) c.args.self.now.others) (sym (same_rows rows c.args.id _ there)) known.1,
))

pub returns-in_err-refile-in-None-clause-err : goal.returns-in_err-refile-in-None-clause-err
returns-in_err-refile-in-None-clause-err g c = on_err_there c.from_residual-in_err-refile-in-None.result (λ rows there known. (
  subst (IsFound int_cmp IsOf (int_of g.R.Tagged.first_of) (ids_at c.args.self.now.ints)) (sym (same_rows rows c.args.id _ there)) known.0,
  refiled_as _ _ (other_of g.R.Tagged.first_of) c.args.self.now.others c.refile-in-None.new.id_indexes _ _ _ _ _
      c.other_place-in-None.ensures c.other_place-in-None.ensures c.in_err-refile-in-None.ensures.err rows there known.1,
))

pub returns-in_ok-refile-in-Some-clause-ok : goal.returns-in_ok-refile-in-Some-clause-ok
returns-in_ok-refile-in-Some-clause-ok g c = λ rows there known.
    let int = ap place (sym c.in-Some.is) ∙ c.int_place.ensures in (
      refound_as _ _ (int_of g.R.Tagged.first_of) (ids_at c.args.self.now.ints)
          (ids_at c.refile.new.sets) _ _ _ _ _ c.int_place-in-Some.ensures int c.in_ok-refile-in-Some.ensures.ok rows there known.0,
      refiled_as _ _ (other_of g.R.Tagged.first_of) c.args.self.now.others c.unfile_if_any.new.id_indexes _ _ _ _ _ c.other_place.ensures
          (no_other g.R.Tagged.first_of c.args.new.now _ int) c.unfile_if_any.ensures rows there known.1,
    )

pub returns-in_ok-refile-in-None-clause-ok : goal.returns-in_ok-refile-in-None-clause-ok
returns-in_ok-refile-in-None-clause-ok g c = λ rows there known.
    let none = ap place (sym c.in-None.is) ∙ c.int_place.ensures in (
      refound_as _ _ (int_of g.R.Tagged.first_of) (ids_at c.args.self.now.ints)
          (ids_at c.unfile_if_any-in-None.new.sets) _ _ _ _ _ c.int_place-in-None.ensures none c.unfile_if_any-in-None.ensures rows there known.0,
      refiled_as _ _ (other_of g.R.Tagged.first_of) c.args.self.now.others c.refile-in-None.new.id_indexes _ _ _ _ _
          c.other_place-in-None.ensures c.other_place-other.ensures c.in_ok-refile-in-None.ensures.ok rows there known.1,
    )
