use Rattle.linda_bag.proofs.OrderLaws.{atom_itself}
use Rattle.linda_bag.proofs.BareLaws.{map_bare}
use Rattle.linda_bag.proofs.tag_index.TagIndexIdIndex.is_empty.Goals as goal

pub returns : goal.returns
returns g c = λ rows filed.
    let bare = map_bare _ atom_itself _ g.T.Tagged.tag_of c.args.self.now.tags rows filed in
    ((λ yes. bare.0 (c.is_empty.ensures.0 yes)), (λ none. c.is_empty.ensures.1 (bare.1 none)))
