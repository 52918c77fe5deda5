use Rattle.linda_hold.proofs.BeginningLaws.{unkeyed_with}
use Rattle.std.proofs.Common.{None, false, refl}
use Rattle.linda_hold.proofs.group.GroupIdIndexAsked.remove.Goals as goal

pub returns : goal.returns
returns c = λ rows there known. (
  c.remove.ensures rows there known.0,
  unkeyed_with c.args.self.now.unkeyed c.take_id.new.ids rows c.args.id None false known.1 c.take_id.ensures refl,
)
