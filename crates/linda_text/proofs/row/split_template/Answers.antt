use Rattle.linda_text.proofs.AtomLaws.{pattern_is}
use Rattle.linda_text.proofs.RowLaws.{tag_is_sound, are_within}
use Rattle.linda_text.proofs.row.split_template.Goals as goal

pub from_parts-requires : goal.from_parts-requires
from_parts-requires c =
    let within = are_within pattern_is _ _ c.in_ok-fields.ensures in
    record { count = within.0; tag = tag_is_sound _ _ c.in_ok-tag.ensures; fields = within.1 }
