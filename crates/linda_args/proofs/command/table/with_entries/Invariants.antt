use Rattle.std.proofs.Common.{◌≡◌, fold, map, take}
use Rattle.clap.specs.Words.{App, with_rule}
use Rattle.linda_args.specs.Entries.{rules_in}
use Rattle.linda_args.specs.Rules.{IsCommand}
use Rattle.linda_args.proofs.command.table.with_entries.Given as goal

-- The command has the arguments of the entries so far.
abbrev pub invariant-loop-entry : goal.invariant-loop-entry
invariant-loop-entry l =
    (app : App) → IsCommand app l.initial.grown → IsCommand (fold with_rule app (rules_in (take l.entry-index l.entries))) l.grown
