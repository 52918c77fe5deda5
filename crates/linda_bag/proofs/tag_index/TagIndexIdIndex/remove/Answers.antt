use Rattle.std.proofs.Common.{Some, refl}
use Rattle.linda_bag.proofs.PlaceLaws.{key_placed}
use Rattle.linda_bag.proofs.FilingLaws.{refiled_as}
use Rattle.linda_bag.proofs.tag_index.TagIndexIdIndex.remove.Goals as goal

pub returns : goal.returns
returns g c =
    refiled_as _ _ (λ r. Some (g.T.Tagged.tag_of r)) c.args.self.now.tags c.unfile.new.id_indexes _ _ _ _ _
    (key_placed g.T.Tagged.tag_of _ _ c.tag.ensures) refl c.unfile.ensures
