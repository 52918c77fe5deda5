use Rattle.std.proofs.Common.{sym, ap, ◌∙◌}
use Rattle.std.specs.Ordering.{is_eq}
use Rattle.std.specs.Cmp.{int_cmp_total}
use Rattle.std.proofs.lemmas.Result.{on_ok_weaker, on_err_weaker, IfOk-from_err, MatchResult-from_err}
use Rattle.linda_bag.proofs.FilingLaws.{put_first, put_none, put_again, kept_again, kept_elsewhere, moved, apart_from}
use Rattle.linda_bag.proofs.ints.refile.Goals as goal

pub returns-in_default-clause-ok : goal.returns-in_default-clause-ok
returns-in_default-clause-ok g c =
    rw (c.in_default.is) (on_ok_weaker c.file.result (λ put. put_first int_cmp_total put) c.file.ensures.ok)

pub returns-in_default-clause-err : goal.returns-in_default-clause-err
returns-in_default-clause-err g c =
    rw (c.in_default.is) (on_err_weaker c.file.result (λ kept. put_none int_cmp_total kept) c.file.ensures.err)

pub returns-in-Equal-clause-ok : goal.returns-in-Equal-clause-ok
returns-in-Equal-clause-ok g c =
    let same = ap is_eq (sym c.cmp.ensures ∙ c.in-Equal.is) in
    rw (c.in-Some.is) (on_ok_weaker c.file-in-Equal.result (λ put. put_again int_cmp_total _ _ _ _ same put) c.file-in-Equal.ensures.ok)

pub returns-in-Equal-clause-err : goal.returns-in-Equal-clause-err
returns-in-Equal-clause-err g c =
    let same = ap is_eq (sym c.cmp.ensures ∙ c.in-Equal.is) in
    rw (c.in-Some.is) (on_err_weaker c.file-in-Equal.result (λ kept. kept_again int_cmp_total _ _ _ same kept) c.file-in-Equal.ensures.err)

pub returns-in_err-file : goal.returns-in_err-file
returns-in_err-file g c =
    let differ = apart_from _ _ c.cmp.ensures c.in_default-cmp.not-Equal in
    record {
      ok = IfOk-from_err c.from_residual.result _ c.from_residual.ensures.0;
      err = rw (c.in-Some.is) (MatchResult-from_err c.from_residual.result _ _ c.from_residual.ensures.0
          (λ _. kept_elsewhere int_cmp_total _ _ _ differ c.in_err-file.ensures.err));
    }

pub returns : goal.returns
returns g c =
    let differ = apart_from _ _ c.cmp.ensures c.in_default-cmp.not-Equal in
    record {
      ok = rw (c.in-Some.is) (moved int_cmp_total _ _ _ _ differ c.in_ok-file.ensures.ok c.take.ensures);
      err = tt;
    }
