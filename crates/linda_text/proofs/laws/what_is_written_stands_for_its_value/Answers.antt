use Rattle.linda_text.proofs.WrittenLaws.{atom_alone, tuple_alone, template_alone}
use Rattle.linda_text.proofs.laws.what_is_written_stands_for_its_value.Goals as goal

pub returns-clause-atoms : goal.returns-clause-atoms
returns-clause-atoms c = atom_alone

pub returns-clause-tuples : goal.returns-clause-tuples
returns-clause-tuples c = tuple_alone

pub returns-clause-templates : goal.returns-clause-templates
returns-clause-templates c = template_alone
