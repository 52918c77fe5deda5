use Rattle.std.proofs.Common.{codes}
use Rattle.clap.specs.Words.{new_app}
use Rattle.linda_args.proofs.command.serve.serve_command.Goals as goal

pub returns : goal.returns
returns c = c.with_entries.ensures (new_app (codes "serve")) c.full_command-full.ensures
