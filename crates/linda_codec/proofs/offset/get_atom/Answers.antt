use Rattle.linda_codec.proofs.ValueLaws.{atom_is}
use Rattle.linda_codec.proofs.offset.get_atom.Goals as goal

pub get-requires : goal.get-requires
get-requires c = atom_is c.args.form
