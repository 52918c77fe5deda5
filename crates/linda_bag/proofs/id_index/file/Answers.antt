use Rattle.std.proofs.Common.{IsSome, subst, refl}
use Rattle.std.proofs.lemmas.Result.{on_err_weaker}
use Rattle.linda_bag.proofs.FilingLaws.{kept_id_index, written}
use Rattle.linda_bag.proofs.id_index.file.Goals as goal

pub returns-in-Some-clause-err : goal.returns-in-Some-clause-err
returns-in-Some-clause-err g c =
    let updates = (c.get_mut.follows.holds c.put.new.self).3 (subst (λ s. IsSome s) c.in-Some.ensures.value refl) in
    on_err_weaker c.put.result
    (λ kept. written g.S.IdIndex.has g.K.Ord.cmp _ _ _ _ _ _ _ _ c.in-Some.ensures.value updates (kept_id_index g.S.IdIndex.has _ _ _ _ kept))
    c.put.ensures.err
