use Rattle.linda_text.proofs.AtomLaws.{atom_is}
use Rattle.linda_text.proofs.RowLaws.{tag_is_sound, are_within}
use Rattle.linda_text.proofs.row.build_tuple.Goals as goal

pub from_parts-requires : goal.from_parts-requires
from_parts-requires c =
    let within = are_within atom_is _ _ c.in_ok-fields.ensures in
    record { count = within.0; tag = tag_is_sound _ _ c.in_ok-tag.ensures; fields = within.1 }
