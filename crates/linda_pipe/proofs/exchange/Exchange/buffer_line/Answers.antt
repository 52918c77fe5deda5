use Rattle.linda_pipe.proofs.StepLaws.{memory_ends}
use Rattle.linda_pipe.proofs.exchange.Exchange.buffer_line.Goals as goal

pub returns-in-Err-clause-err : goal.returns-in-Err-clause-err
returns-in-Err-clause-err g c = λ first read sent u. memory_ends read sent c.args.self.now.line.items c.args.self.now u
