use Rattle.linda_text.proofs.RowLaws.{tuple_is, template_is}
use Rattle.linda_text.proofs.PlaceLaws.{one_value}
use Rattle.linda_text.proofs.laws.a_text_stands_for_one_value.Goals as goal

pub returns-clause-tuples : goal.returns-clause-tuples
returns-clause-tuples c = one_value tuple_is

pub returns-clause-templates : goal.returns-clause-templates
returns-clause-templates c = one_value template_is
