use Rattle.std.proofs.Common.{Some, refl}
use Rattle.linda_bag.proofs.PlaceLaws.{key_placed}
use Rattle.linda_bag.proofs.FilingLaws.{refiled_as}
use Rattle.linda_bag.proofs.tag_index.CountsIdIndex.remove.Goals as goal

pub returns : goal.returns
returns g c =
    refiled_as _ _ (λ r. Some (g.T.Tagged.count_of r)) c.args.self.now.groups c.unfile.new.id_indexes _ _ _ _ _
    (key_placed g.T.Tagged.count_of _ _ c.count.ensures) refl c.unfile.ensures
