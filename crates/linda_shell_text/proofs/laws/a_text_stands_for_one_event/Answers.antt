use Rattle.linda_shell_text.proofs.AloneLaws.{alone_only, only_again}
use Rattle.linda_shell_text.proofs.laws.a_text_stands_for_one_event.Goals as goal

pub returns : goal.returns
returns c = λ one other text is is_too. alone_only text other (only_again text other is_too) one is
