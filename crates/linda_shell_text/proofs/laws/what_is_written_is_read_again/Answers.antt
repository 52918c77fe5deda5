use Rattle.linda_shell_text.proofs.WrittenLaws.{event_alone}
use Rattle.linda_shell_text.proofs.laws.what_is_written_is_read_again.Goals as goal

pub returns : goal.returns
returns c = event_alone
