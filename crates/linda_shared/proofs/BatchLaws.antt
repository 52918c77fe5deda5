-- Whether all answers have their copies, and so may go out.
use Rattle.std.proofs.Common.{◌≡◌, Bool, true, false, List, [], ◌∷◌, All, IsTrue, true≢false, refl, sym}
use Rattle.std.proofs.lemmas.List.Elements.{All-nil, All-cons}
use Rattle.linda_shared.specs.Batch.{all_true}

pub all_have : (bs : List Bool) → all_true bs ≡ true → All IsTrue bs
all_have [] is = All-nil IsTrue
all_have (true ∷ bs) is = All-cons IsTrue true bs refl (all_have bs is)
all_have (false ∷ bs) is = absurd (true≢false (sym is))
