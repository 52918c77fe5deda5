use Rattle.linda_codec.proofs.ValueLaws.{tuple_is}
use Rattle.linda_codec.proofs.offset.get_tuple.Goals as goal

pub get-requires : goal.get-requires
get-requires c = tuple_is c.args.form
