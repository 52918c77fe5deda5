use Rattle.std.proofs.Common.{sym, ap, ◌∙◌}
use Rattle.std.specs.Ordering.{is_eq}
use Rattle.std.proofs.lemmas.Result.{on_ok_weaker, on_err_weaker, IfOk-from_err, MatchResult-from_err}
use Rattle.linda_bag.proofs.FilingLaws.{one_id_index, put_first, put_none, put_again, kept_again, kept_elsewhere, moved, apart_from}
use Rattle.linda_bag.proofs.id_index.refile.Goals as goal

pub returns-in_default-old-clause-ok : goal.returns-in_default-old-clause-ok
returns-in_default-old-clause-ok g c =
    rw (c.in_default-old.is, c.in-Some.is)
    (on_ok_weaker c.file.result (λ put. put_first g.met.K.Ord.total (one_id_index g.met.K.Ord.total put)) c.file.ensures.ok)

pub returns-in_default-old-clause-err : goal.returns-in_default-old-clause-err
returns-in_default-old-clause-err g c =
    rw (c.in_default-old.is) (on_err_weaker c.file.result (λ kept. put_none g.met.K.Ord.total (one_id_index g.met.K.Ord.total kept)) c.file.ensures.err)

pub returns-in-Equal-clause-ok : goal.returns-in-Equal-clause-ok
returns-in-Equal-clause-ok g c =
    let same = ap is_eq (sym c.cmp.ensures ∙ c.in-Equal.is) in
    rw (c.in-Some-old.is, c.in-Some.is)
    (on_ok_weaker c.file-in-Equal.result (λ put. put_again g.met.K.Ord.total _ _ _ _ same (one_id_index g.met.K.Ord.total put)) c.file-in-Equal.ensures.ok)

pub returns-in-Equal-clause-err : goal.returns-in-Equal-clause-err
returns-in-Equal-clause-err g c =
    let same = ap is_eq (sym c.cmp.ensures ∙ c.in-Equal.is) in
    rw (c.in-Some-old.is) (on_err_weaker c.file-in-Equal.result
    (λ kept. kept_again g.met.K.Ord.total _ _ _ same (one_id_index g.met.K.Ord.total kept)) c.file-in-Equal.ensures.err)

pub returns-in_err-file : goal.returns-in_err-file
returns-in_err-file g c =
    let differ = apart_from _ _ c.cmp.ensures c.in_default-cmp.not-Equal in
    record {
      ok = IfOk-from_err c.from_residual.result _ c.from_residual.ensures.0;
      err = rw (c.in-Some-old.is) (MatchResult-from_err c.from_residual.result _ _ c.from_residual.ensures.0
          (λ _. kept_elsewhere g.met.K.Ord.total _ _ _ differ (one_id_index g.met.K.Ord.total c.in_err-file.ensures.err)));
    }

pub returns : goal.returns
returns g c =
    let differ = apart_from _ _ c.cmp.ensures c.in_default-cmp.not-Equal in
    record {
      ok = rw (c.in-Some-old.is, c.in-Some.is)
          (moved g.met.K.Ord.total _ _ _ _ differ (one_id_index g.met.K.Ord.total c.in_ok-file.ensures.ok) (one_id_index g.met.K.Ord.total c.take.ensures));
      err = tt;
    }
