use Rattle.std.proofs.Common.{List, ℕ, map}
use Rattle.std.specs.String.{string_bytes}
use Rattle.linda_args.specs.Options.{options_of}
use Rattle.linda_args.proofs.CommandLaws.{rows_by_words}
use Rattle.linda_args.proofs.TaskLaws.{as_asked, has_servers, is_kept}
use Rattle.linda_args.proofs.command.read_task.Goals as goal

pub returns-in-Ok-clause-asked : goal.returns-in-Ok-clause-asked
returns-in-Ok-clause-asked c =
    let words : List (List ℕ) = map string_bytes c.args.words.now in
    as_asked c.in_ok-matches.matches words c.in-Ok.task (rows_by_words _ words c.in_ok-matches.matches c.in_ok-linda.ensures c.in_ok-matches.ensures.ok.2)
    c.in-Ok.ensures

pub returns-in-Ok-clause-servers : goal.returns-in-Ok-clause-servers
returns-in-Ok-clause-servers c = has_servers (options_of c.in-Ok.ensures.found) c.in-Ok.task c.in-Ok.ensures.by

pub returns-in-Ok-clause-kept : goal.returns-in-Ok-clause-kept
returns-in-Ok-clause-kept c = is_kept (options_of c.in-Ok.ensures.found) c.in-Ok.task c.in-Ok.ensures.by
