use Rattle.std.proofs.Common.{sym, ◌∙◌, eqb-true, eq-eqb}
use Rattle.linda_bag.proofs.IntLaws.{bare_ints}
use Rattle.linda_bag.proofs.ints.is_empty.Goals as goal

pub returns : goal.returns
returns c =
    let bare = bare_ints c.args.sets.now in
    ((λ is. bare.0 (sym c.len.ensures ∙ eqb-true _ _ is)), (λ none. eq-eqb _ _ (c.len.ensures ∙ bare.1 none)))
