use Rattle.linda_codec.proofs.ValueLaws.{template_is}
use Rattle.linda_codec.proofs.offset.get_template.Goals as goal

pub get-requires : goal.get-requires
get-requires c = template_is c.args.form
