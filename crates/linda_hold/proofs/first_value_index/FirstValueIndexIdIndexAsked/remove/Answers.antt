use Rattle.std.proofs.Common.{None, refl}
use Rattle.linda_hold.proofs.first_value_index.FirstValueIndexIdIndexAsked.remove.Goals as goal

pub returns : goal.returns
returns c = λ rows there known. (
  c.remove_early.ensures None refl rows there known.0,
  c.remove_later.ensures None refl rows there known.1,
)
