use Rattle.std.proofs.Common.{arith}
use Rattle.linda_text.proofs.WrittenLaws.{written_itself, pushed}
use Rattle.linda_text.proofs.written.push_char.Goals as goal

pub returns-in_default : goal.returns-in_default
returns-in_default c =
    pushed _ _ _ _ _ c.push.ensures.bytes
    (written_itself c.args.c ((λ e. omega arith), (λ e. omega arith), (λ e. omega arith), (λ e. omega arith), (λ e. omega arith)))
