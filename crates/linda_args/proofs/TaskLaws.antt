-- The task that the parser found, and that the words ask for.
use Rattle.std.proofs.Common.{◌≡◌, ◌∙◌, List, Option, Some, None, ap, ap₂, false, refl, sym, option_map, unwrap_or}
use Rattle.std.proofs.Common.{Box, Global}
use Rattle.std.specs.Box.{box_value}
use Rattle.std.specs.Prelude.{Result, Ok, Err, IfOk, IfSome}
use Rattle.clap.specs.Matches.{subcommand_name_of}
use Rattle.clap.specs.Simple.{subcommand_of, subcommand_rows, subcommand_rows_of}
use Rattle.clap.specs.Walk.{Row, Text, rows_of}
use Rattle.clap.specs.declared.parser.matches.ArgMatches.{ArgMatches}
use Rattle.clap.specs.declared.parser.matches.ArgMatches.TheViews.{out-ArgMatches, out-SubCommand}
use Rattle.clap.specs.declared.parser.matches.Found.{Found}
use Rattle.clap.specs.declared.parser.matches.SubCommand.{SubCommand}
use Rattle.linda_args.specs.Commands.{HasServers, IsAskedBy, IsBy, IsIn, IsOf, is_unkept}
use Rattle.linda_args.specs.Options.{Options, options_of}
use Rattle.linda_args.specs.Rules.{linda}
use Rattle.linda_args.specs.declared.command.Task.{Task}
use Rattle.linda_args.specs.declared.command.Task.TheVariants as tasks

-- the name of the command that was met, by the rows
name_of_rows : (m : ArgMatches) → subcommand_name_of m ≡ option_map (λ p. p.0) (subcommand_rows_of m)
name_of_rows m = go (out-ArgMatches m).subcommand
  where
    go : (o : Option (Box SubCommand Global)) → option_map (λ b. (out-SubCommand (box_value b)).name.now) o ≡ option_map (λ p. p.0) (subcommand_rows o)
    go None = refl
    go (Some b) = refl

both : (o : Option (Text × List Row)) (name : Text) (rows : List Row) → option_map (λ p. p.0) o ≡ Some name → option_map (λ p. p.1) o ≡ Some rows
    → o ≡ Some (name, rows)
both None name rows a b = let bad : None ≡ Some name = a in cc
both (Some (n, r)) name rows a b =
    ap₂ (λ (x : Text) (y : List Row). Some (x, y)) (ap (λ (o : Option Text). unwrap_or o name) a) (ap (λ (o : Option (List Row)). unwrap_or o rows) b)

-- a task by the options below a command is one that the parser found
pub in_found : (m : ArgMatches) (f : Found) (name : Text) (task : Task) → subcommand_name_of m ≡ Some name
    → option_map (λ p. p.1) (subcommand_rows_of m) ≡ Some (rows_of f) → IsOf name (options_of f) task → IsIn m task
in_found m f name task is below h = record {
  found = f;
  rows = both (subcommand_rows_of m) _ _ (sym (name_of_rows m) ∙ is ∙ ap (λ n. Some n) (sym h.0)) below;
  by = h.1;
}

-- and so is what is read of them
pub as_found : {E : Type 0} (m : ArgMatches) (f : Found) (name : Text) (result : Result Task E) → subcommand_name_of m ≡ Some name
    → option_map (λ p. p.1) (subcommand_rows_of m) ≡ Some (rows_of f) → IfOk result (IsOf name (options_of f)) → IfOk result (IsIn m)
as_found m f name (Err e) is below h = tt
as_found m f name (Ok task) is below h = in_found m f name task is below h

-- and so it is the one that the words ask for
pub as_asked : (m : ArgMatches) (words : List Text) (task : Task) → subcommand_rows_of m ≡ subcommand_of linda words → IsIn m task → IsAskedBy words task
as_asked m words task rows h = record { found = h.found; rows = sym rows ∙ h.rows; by = h.by }

-- its servers are 1 to 16
pub has_servers : (o : Options) (task : Task) → IsBy o task → HasServers task
has_servers o tasks.Pipe h = tt
has_servers o (tasks.Run n explain) h = (h.0.some, h.0.most)
has_servers o (tasks.TracedRun n file explain) h = (h.0.some, h.0.most)
has_servers o (tasks.Call client ports again together explain) h = (h.1.0.0, h.1.0.1.0)
has_servers o (tasks.CallAt client paths again together explain) h = tt
has_servers o (tasks.Serve plan log explain) h = tt
has_servers o (tasks.Inspect dir lists json explain) h = tt

-- it counts tags only beside a status
pub is_kept : (o : Options) (task : Task) → IsBy o task → is_unkept task ≡ false
is_kept o tasks.Pipe h = refl
is_kept o (tasks.Run n explain) h = refl
is_kept o (tasks.TracedRun n file explain) h = refl
is_kept o (tasks.Call client ports again together explain) h = refl
is_kept o (tasks.CallAt client paths again together explain) h = refl
is_kept o (tasks.Serve plan log explain) h = h.0.is_counted
is_kept o (tasks.Inspect dir lists json explain) h = refl
