-- The program's command and those below it, as the parser has them: each is a list of rules.
use Rattle.std.specs.Prelude.{◌≡◌, ℕ, true, false, List, [], ◌∷◌, Some, codes, fold, pos}
use Rattle.clap.specs.Words.{App, Rule, app_of, new_app, new_rule, with_rule, with_subcommand}
use Rattle.clap.specs.Simple.{on_top}
use Rattle.clap.specs.declared.builder.action.ArgAction.TheVariants.{Append, Set, SetTrue}
use Rattle.clap.specs.declared.builder.command.Command.{Command}
use Rattle.clap.specs.declared.builder.command.Command.TheViews.{out-Command as fields_of}
use Rattle.clap.specs.declared.builder.value_parser.ValueParser.{ValueParser}
use Rattle.clap.specs.declared.builder.value_parser.ValueParser.TheVariants as parsers
use Rattle.linda_client.specs.declared.limits.TheConstants.{MAX_SERVERS}

-- an option of this name, which may be there, with a value
abbrev pub option_rule : List ℕ → ValueParser → Rule
option_rule name parser = record (new_rule name) {
  long = Some name;
  value_names = 1;
  action = Some Set;
  parser = Some parser;
}

-- an option of this name, which may be there more than once, with a value
abbrev pub options_rule : List ℕ → ValueParser → Rule
options_rule name parser = record (option_rule name parser) { action = Some Append }

-- an option of this name, which may be there and takes no value
abbrev pub flag_rule : List ℕ → Rule
flag_rule name = record (new_rule name) {
  long = Some name;
  action = Some SetTrue;
  parser = Some parsers.Bool;
}

-- a word of this name, which may be there
abbrev pub word_rule : List ℕ → ValueParser → Rule
word_rule name parser = record (new_rule name) {
  value_names = 1;
  action = Some Set;
  parser = Some parser;
}

-- words of this name, as many as servers there may be, and one at least if there are any
abbrev pub words_rule : List ℕ → ValueParser → Rule
words_rule name parser = record (word_rule name parser) {
  range = Some (record { start_inclusive = 1; end_inclusive = MAX_SERVERS });
}

-- it must be there
abbrev pub needed : Rule → Rule
needed r = record r { required = true }

-- whether it may or must be there goes by another argument
abbrev pub by_another : Rule → Rule
by_another r = record r { is_free = false }

-- a number of 32 bits, from this one on
abbrev pub number_from : ℕ → ValueParser
number_from least = parsers.Signed (pos least) (pos 4294967295)

-- a number of 16 bits, from this one on
abbrev pub short_from : ℕ → ValueParser
short_from least = parsers.Signed (pos least) (pos 65535)

-- the command of this name, with an argument for each of these rules, in order
abbrev pub command_with : List ℕ → List Rule → App
command_with name rules = fold with_rule (new_app name) rules

abbrev pub pipe_command : App
pipe_command = command_with (codes "pipe") []

abbrev pub run_command : App
run_command = command_with (codes "run") (
    needed (option_rule (codes "servers") (parsers.Signed (pos 1) (pos MAX_SERVERS)))
    ∷ option_rule (codes "trace") parsers.String ∷ flag_rule (codes "explain") ∷ [])

-- ports must be there if no socket is, and may not be there beside one
abbrev pub call_command : App
call_command = command_with (codes "call") (
    needed (option_rule (codes "client") (number_from 0))
    ∷ by_another (words_rule (codes "ports") (short_from 1))
    ∷ by_another (options_rule (codes "socket") parsers.NonEmptyString)
    ∷ flag_rule (codes "again") ∷ flag_rule (codes "together") ∷ flag_rule (codes "explain") ∷ [])

-- a port must be there if no socket is, and a mode may be there beside a socket
abbrev pub serve_command : App
serve_command = command_with (codes "serve") (
    by_another (option_rule (codes "port") (short_from 0))
    ∷ needed (option_rule (codes "dir") parsers.String)
    ∷ option_rule (codes "sessions") (number_from 0)
    ∷ flag_rule (codes "log")
    ∷ option_rule (codes "lease") (number_from 1)
    ∷ option_rule (codes "status") parsers.String
    ∷ options_rule (codes "metric") parsers.String
    ∷ option_rule (codes "socket") parsers.NonEmptyString
    ∷ by_another (option_rule (codes "mode") parsers.String)
    ∷ flag_rule (codes "wait")
    ∷ flag_rule (codes "explain") ∷ [])

-- the word names the folder of a store
abbrev pub inspect_command : App
inspect_command = command_with (codes "inspect") (
    needed (word_rule (codes "dir") parsers.String)
    ∷ flag_rule (codes "tuples") ∷ flag_rule (codes "clients") ∷ flag_rule (codes "json")
    ∷ flag_rule (codes "explain") ∷ [])

-- the program's command with none below it: it wants one
abbrev pub bare_linda : App
bare_linda = on_top (λ s. record s { subcommand_required = true }) (new_app (codes "linda"))

-- The program's command as the parser has it: it wants a command below it, `pipe`, `run`, `call`,
-- `serve` or `inspect`.
abbrev pub linda : App
linda = fold with_subcommand bare_linda (
    pipe_command.top ∷ run_command.top ∷ call_command.top ∷ serve_command.top
    ∷ inspect_command.top ∷ [])

-- The command is this one, and has no argument that goes for the commands below it too.
pub record IsCommand (app : App) (command : Command) : Type 0 where
  pub is : app_of command ≡ app
  pub local : (fields_of command).has_globals ≡ false
