-- Command lines: the task that each asks for, as the parser's definition has the words.
use Rattle.std.specs.Prelude.{◌≡◌, ◌<◌, ◌≤◌, ◌⊎◌, ◌==◌, ◌&&◌, ◌||◌, ◌^◌, ⊤, ℕ, Bool, true, false}
use Rattle.std.specs.Prelude.{not, List, [], ◌∷◌, length, map, Option, Some, None, IfSome, IsSome}
use Rattle.std.specs.Prelude.{codes, unwrap_or}
use Rattle.std.specs.Str.{bytes_eq}
use Rattle.std.specs.Option.{is_some}
use Rattle.std.specs.String.{string_bytes}
use Rattle.clap.specs.Simple.{subcommand_of, subcommand_rows_of}
use Rattle.clap.specs.Walk.{rows_of}
use Rattle.clap.specs.declared.parser.matches.ArgMatches.{ArgMatches}
use Rattle.clap.specs.declared.parser.matches.Found.{Found}
use Rattle.linda_args.specs.Ports.{ArePorts}
use Rattle.linda_args.specs.Options.{Options, options_of, IsCallBy, IsInspectBy, IsMark, IsNumber}
use Rattle.linda_args.specs.Options.{IsServeBy}
use Rattle.linda_args.specs.Rules.{linda}
use Rattle.linda_args.specs.declared.command.Task.{Task}
use Rattle.linda_args.specs.declared.command.Task.TheVariants as tasks
use Rattle.linda_serve_plan.specs.declared.plan.ServePlan.{ServePlan}
use Rattle.linda_serve_plan.specs.declared.plan.StatusPlace.{StatusPlace}
use Rattle.linda_serve_plan.specs.declared.plan.StatusPlace.TheVariants as places
use Rattle.linda_client.specs.declared.limits.TheConstants.{MAX_SERVERS}

-- the name of a task's command
abbrev pub name_of : Task → List ℕ
name_of tasks.Pipe = codes "pipe"
name_of (tasks.Run n explain) = codes "run"
name_of (tasks.TracedRun n file explain) = codes "run"
name_of (tasks.Call client ports again together explain) = codes "call"
name_of (tasks.CallAt client paths again together explain) = codes "call"
name_of (tasks.Serve plan log explain) = codes "serve"
name_of (tasks.Inspect dir lists json explain) = codes "inspect"

-- A run: as many servers as the option says, 1 to 16.
pub record IsRunBy (o : Options) (n : ℕ) (explain : Bool) : Type 0 where
  pub is_servers : IsNumber 32 (o.one (codes "servers")) (Some n)
  pub some : 1 ≤ n
  pub most : n ≤ MAX_SERVERS
  pub is_explain : IsMark (o.source (codes "explain")) explain

-- a port from 1 on, or a path
abbrev pub IsStatusPlace : StatusPlace → Type 0
IsStatusPlace (places.Port port) = (1 ≤ port) × (port < 2 ^ 16)
IsStatusPlace (places.Path path) = ⊤

-- whether tags are counted although no status is served
abbrev pub is_uncounted : Bool → ℕ → Bool
is_uncounted is_served tags = not is_served && not (tags == 0)

-- The numbers of a plan are in their ranges, it has a port or a socket, and tags are counted only
-- if there is a status.
pub record IsPlan (plan : ServePlan) : Type 0 where
  pub is_port : IfSome plan.port (λ p. p < 2 ^ 16)
  pub are_sessions : IfSome plan.sessions (λ k. k < 2 ^ 32)
  pub is_lease : IfSome plan.lease (λ s. (1 ≤ s) × (s < 2 ^ 32))
  pub is_status : IfSome plan.status IsStatusPlace
  pub is_mode : IfSome plan.socket (λ s. s.mode < 2 ^ 9)
  pub is_somewhere : IsSome plan.port ⊎ IsSome plan.socket
  pub is_counted : is_uncounted (is_some plan.status) (length plan.metrics.items) ≡ false

-- a task has each number, text and flag as the options of its command say
abbrev pub IsBy : Options → Task → Type 0
IsBy o tasks.Pipe = ⊤
IsBy o (tasks.Run n explain) = IsRunBy o n explain × (o.first (codes "trace") ≡ None)
IsBy o (tasks.TracedRun n file explain) =
    IsRunBy o n explain × (o.first (codes "trace") ≡ Some (string_bytes file))
IsBy o (tasks.Call client ports again together explain) =
    (client < 2 ^ 32) × (ArePorts ports × IsCallBy o client again together explain)
IsBy o (tasks.CallAt client paths again together explain) =
    (client < 2 ^ 32)
    × ((map string_bytes paths.items.items ≡ unwrap_or (o.all (codes "socket")) [])
    × IsCallBy o client again together explain)
IsBy o (tasks.Serve plan log explain) = IsPlan plan × IsServeBy o plan log explain
IsBy o (tasks.Inspect dir lists json explain) =
    IsInspectBy o (string_bytes dir) lists.tuples lists.clients json explain

-- it is one of the command of this name, by its options
abbrev pub IsOf : List ℕ → Options → Task → Type 0
IsOf name o task = (name_of task ≡ name) × IsBy o task

-- The parser found the task's command, and the task is as it found its options.
pub record IsIn (m : ArgMatches) (task : Task) : Type 0 where
  pub found : Found
  pub rows : subcommand_rows_of m ≡ Some (name_of task, rows_of found)
  pub by : IsBy (options_of found) task

-- By the parser's definition the words name the task's command, and the task is as they say.
pub record IsAskedBy (words : List (List ℕ)) (task : Task) : Type 0 where
  pub found : Found
  pub rows : subcommand_of linda words ≡ Some (name_of task, rows_of found)
  pub by : IsBy (options_of found) task

-- whether the word asks for the version
abbrev pub is_version : List ℕ → Bool
is_version word =
    bytes_eq word (codes "--version")
    || (bytes_eq word (codes "-V") || bytes_eq word (codes "version"))

-- The words are a program's name and `--version`, `-V` or `version`.
pub record AsksForVersion (words : List (List ℕ)) : Type 0 where
  pub name : List ℕ
  pub word : List ℕ
  pub spelled : words ≡ name ∷ word ∷ []
  pub is_word : is_version word ≡ true

-- whether it asks for what cannot be kept: tags that are counted and no status
abbrev pub is_unkept : Task → Bool
is_unkept (tasks.Serve plan log explain) =
    is_uncounted (is_some plan.status) (length plan.metrics.items)
is_unkept _ = false

-- a run and a call have at least one server, and not more than there may be
abbrev pub HasServers : Task → Type 0
HasServers (tasks.Run n explain) = (1 ≤ n) × (n ≤ MAX_SERVERS)
HasServers (tasks.TracedRun n file explain) = (1 ≤ n) × (n ≤ MAX_SERVERS)
HasServers (tasks.Call client ports again together explain) =
    (1 ≤ length ports) × (length ports ≤ MAX_SERVERS)
HasServers _ = ⊤
