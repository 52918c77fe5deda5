use Rattle.std.proofs.Common.{Some, ap, sym, ◌∙◌}
use Rattle.std.specs.Option.{option_copied}
use Rattle.std.proofs.lemmas.Result.{on_ok_weaker, on_err_weaker}
use Rattle.linda_bag.specs.Filing.{placed}
use Rattle.linda_bag.proofs.PlaceLaws.{key_placed}
use Rattle.linda_bag.proofs.FilingLaws.{refiled_as}
use Rattle.linda_bag.proofs.tag_index.TagIndexIdIndex.put.Goals as goal

pub returns-in_default-clause-ok : goal.returns-in_default-clause-ok
returns-in_default-clause-ok g c =
    let was = ap (λ o. placed (λ r. Some (g.T.Tagged.tag_of r)) (option_copied o)) (sym c.in_default.is) in
    on_ok_weaker c.refile.result
    (refiled_as _ _ (λ r. Some (g.T.Tagged.tag_of r)) c.args.self.now.tags c.refile.new.id_indexes _ _ _ _ _ was
    (key_placed g.T.Tagged.tag_of _ _ c.tag.ensures)) c.refile.ensures.ok

pub returns-in_default-clause-err : goal.returns-in_default-clause-err
returns-in_default-clause-err g c =
    let was = ap (λ o. placed (λ r. Some (g.T.Tagged.tag_of r)) (option_copied o)) (sym c.in_default.is) in
    on_err_weaker c.refile.result
    (refiled_as _ _ (λ r. Some (g.T.Tagged.tag_of r)) c.args.self.now.tags c.refile.new.id_indexes _ _ _ _ _ was was) c.refile.ensures.err

pub returns-clause-ok : goal.returns-clause-ok
returns-clause-ok g c =
    let was = key_placed g.T.Tagged.tag_of _ _ c.tag-2.ensures ∙ ap (λ o. placed (λ r. Some (g.T.Tagged.tag_of r)) (option_copied o)) (sym c.in-Some.is) in
    on_ok_weaker c.refile-2.result
    (refiled_as _ _ (λ r. Some (g.T.Tagged.tag_of r)) c.args.self.now.tags c.refile-2.new.id_indexes _ _ _ _ _ was
    (key_placed g.T.Tagged.tag_of _ _ c.tag-3.ensures)) c.refile-2.ensures.ok

pub returns-clause-err : goal.returns-clause-err
returns-clause-err g c =
    let was = key_placed g.T.Tagged.tag_of _ _ c.tag-2.ensures ∙ ap (λ o. placed (λ r. Some (g.T.Tagged.tag_of r)) (option_copied o)) (sym c.in-Some.is) in
    on_err_weaker c.refile-2.result
    (refiled_as _ _ (λ r. Some (g.T.Tagged.tag_of r)) c.args.self.now.tags c.refile-2.new.id_indexes _ _ _ _ _ was was) c.refile-2.ensures.err
