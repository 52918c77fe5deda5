use Rattle.std.proofs.Common.{codes, refl}
use Rattle.clap.specs.Words.{found_of}
use Rattle.linda_args.specs.declared.command.Task.TheVariants as tasks
use Rattle.linda_args.proofs.TaskLaws.{as_found, in_found}
use Rattle.linda_args.proofs.command.task_of.Goals as goal

pub returns-in-Some : goal.returns-in-Some
returns-in-Some c =
    in_found c.args.matches.now (found_of c.in-Some._below.now) (codes "pipe") tasks.Pipe (c.in-Some.ensures.found.0 refl) c.in-Some.ensures.rows (refl, tt)

pub returns-in-Some-subcommand_matches : goal.returns-in-Some-subcommand_matches
returns-in-Some-subcommand_matches c =
    let some = c.in-Some-subcommand_matches in
    as_found c.args.matches.now (found_of some.below.now) (codes "run") c.run_of.result (some.ensures.found.0 refl) some.ensures.rows c.run_of.ensures

pub returns-in-Some-subcommand_matches-2 : goal.returns-in-Some-subcommand_matches-2
returns-in-Some-subcommand_matches-2 c =
    let some = c.in-Some-subcommand_matches-2 in
    as_found c.args.matches.now (found_of some.below.now) (codes "call") c.call_of.result (some.ensures.found.0 refl) some.ensures.rows c.call_of.ensures

pub returns-in-Some-subcommand_matches-3 : goal.returns-in-Some-subcommand_matches-3
returns-in-Some-subcommand_matches-3 c =
    let some = c.in-Some-subcommand_matches-3 in
    as_found c.args.matches.now (found_of some.below.now) (codes "serve") c.serve_of.result (some.ensures.found.0 refl) some.ensures.rows c.serve_of.ensures

pub returns-in-Some-subcommand_matches-4 : goal.returns-in-Some-subcommand_matches-4
returns-in-Some-subcommand_matches-4 c =
    let some = c.in-Some-subcommand_matches-4 in
    as_found c.args.matches.now (found_of some.below.now) (codes "inspect") c.inspect_of.result (some.ensures.found.0 refl) some.ensures.rows
    c.inspect_of.ensures
