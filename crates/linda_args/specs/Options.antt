-- Options after a command as the parser found them, and the numbers, flags and texts of a task by
-- them.
use Rattle.std.specs.Prelude.{◌≡◌, ◌↔◌, ◌<◌, ◌≤◌, ◌^◌, ◌+◌, ◌-◌, ◌*◌, ◌&&◌, ℕ, Bool, true, false}
use Rattle.std.specs.Prelude.{List, [], ◌∷◌, Option, None, Some, codes, unwrap_or, nat_le}
use Rattle.std.specs.Prelude.{map, option_and_then, if◌then◌else◌}
use Rattle.std.specs.Option.{option_map}
use Rattle.std.specs.String.{string_bytes}
use Rattle.std.specs.Str.Parse.{IsNumeral, digits_value, without_leading_plus}
use Rattle.clap.specs.Matches.{first_value, matched_of, one_text, raw_values}
use Rattle.clap.specs.declared.parser.matches.Found.{Found}
use Rattle.clap.specs.declared.parser.matches.ValueSource.{ValueSource}
use Rattle.clap.specs.declared.parser.matches.ValueSource.TheVariants as sources
use Rattle.linda_serve_plan.specs.declared.plan.ServePlan.{ServePlan}
use Rattle.linda_serve_plan.specs.declared.plan.SocketFile.{SocketFile}
use Rattle.linda_serve_plan.specs.declared.plan.StatusPlace.{StatusPlace}
use Rattle.linda_serve_plan.specs.declared.plan.StatusPlace.TheVariants as places

-- What was found for the argument of each name.
pub record Options : Type 0 where
  -- its first value, as numbers and flags are read from it
  pub one : List ℕ → Option (List ℕ)
  -- its first value, as it was typed
  pub first : List ℕ → Option (List ℕ)
  -- all its values, as they were typed
  pub all : List ℕ → Option (List (List ℕ))
  -- where they came from: the words, or a default
  pub source : List ℕ → Option ValueSource

-- where the value of an argument came from
abbrev pub source_in : Found → List ℕ → Option ValueSource
source_in f id = option_and_then (λ a. a.source) (matched_of f id)

-- the options as the parser's matches have them
abbrev pub options_of : Found → Options
options_of f = record {
  one = one_text f;
  first = first_value f;
  all = λ id. option_map raw_values (matched_of f id);
  source = source_in f;
}

-- The text is a number of so many bits in decimal digits, a plus before them or not.
abbrev pub IsNumeralOf : ℕ → List ℕ → Type 0
IsNumeralOf bits text =
    IsNumeral 10 (without_leading_plus text)
    × (digits_value 10 (without_leading_plus text) < 2 ^ bits)

-- The number is that which the text spells; there is none if there is no text, or if it spells
-- none.
abbrev pub IsNumber : ℕ → Option (List ℕ) → Option ℕ → Type 0
IsNumber bits None number = number ≡ None
IsNumber bits (Some text) (Some n) =
    IsNumeralOf bits text × (n ≡ digits_value 10 (without_leading_plus text))
IsNumber bits (Some text) None = IsNumeralOf bits text → ⊥

-- The flag is as the parser has its text; without one it is not set.
pub record IsFlag (text : Option (List ℕ)) (flag : Bool) : Type 0 where
  pub set : text ≡ Some (codes "true") → flag ≡ true
  pub clear : text ≡ Some (codes "false") → flag ≡ false
  pub none : text ≡ None → flag ≡ false

-- The flag is set if and only if its value came from the words.
abbrev pub IsMark : Option ValueSource → Bool → Type 0
IsMark source flag = (flag ≡ true) ↔ (source ≡ Some sources.CommandLine)

-- the number of an octal digit
abbrev pub octal_digit : ℕ → Option ℕ
octal_digit digit = if nat_le 48 digit && nat_le digit 55 then Some (digit - 48) else None

-- the mode that three octal digits spell; no other text spells one
abbrev pub octal_of : List ℕ → Option ℕ
octal_of (owner ∷ group ∷ others ∷ []) =
    option_and_then
    (λ o. option_and_then (λ g. option_map (λ r. o * 64 + g * 8 + r) (octal_digit others))
    (octal_digit group))
    (octal_digit owner)
octal_of _ = None

-- the mode that the option's text spells; if there is none, the owner may connect: `600`
abbrev pub mode_in : Option (List ℕ) → Option ℕ
mode_in None = Some 384
mode_in (Some text) = octal_of text

-- The socket has the path and the mode that the options say; there is none if and only if there is
-- no path.
abbrev pub IsSocket : Option (List ℕ) → Option (List ℕ) → Option SocketFile → Type 0
IsSocket None mode socket = socket ≡ None
IsSocket (Some path) mode None = ⊥
IsSocket (Some path) mode (Some socket) =
    (string_bytes socket.path ≡ path) × (mode_in mode ≡ Some socket.mode)

-- The status is at the path of the option's text, or on the port from 1 on that it spells; it is
-- nowhere if and only if there is no text.
abbrev pub IsStatus : Option (List ℕ) → Option (List ℕ) → Option StatusPlace → Type 0
IsStatus None port status = status ≡ None
IsStatus (Some text) port None = ⊥
IsStatus (Some text) port (Some (places.Port n)) = (1 ≤ n) × IsNumber 16 port (Some n)
IsStatus (Some text) port (Some (places.Path path)) = string_bytes path ≡ text

-- What is to serve: each number, text and flag as the options say, a port or a socket, and a lease
-- of one second at least.
pub record IsServeBy (o : Options) (plan : ServePlan) (log explain : Bool) : Type 0 where
  pub is_port : IsNumber 16 (o.one (codes "port")) plan.port
  pub is_dir : o.first (codes "dir") ≡ Some (string_bytes plan.folder)
  pub are_sessions : IsNumber 32 (o.one (codes "sessions")) plan.sessions
  pub is_log : IsFlag (o.one (codes "log")) log
  pub is_lease : IsNumber 32 (o.one (codes "lease")) plan.lease
  pub is_status : IsStatus (o.first (codes "status")) (o.one (codes "status")) plan.status
  pub are_metrics : map string_bytes plan.metrics.items ≡ unwrap_or (o.all (codes "metric")) []
  pub is_socket : IsSocket (o.first (codes "socket")) (o.first (codes "mode")) plan.socket
  pub is_wait : IsFlag (o.one (codes "wait")) plan.waits
  pub is_explain : IsMark (o.source (codes "explain")) explain

-- What is to inspect: the folder and each flag as the options say.
pub record IsInspectBy (o : Options) (dir : List ℕ) (tuples clients json explain : Bool)
    : Type 0 where
  pub is_dir : o.first (codes "dir") ≡ Some dir
  pub is_tuples : IsFlag (o.one (codes "tuples")) tuples
  pub is_clients : IsFlag (o.one (codes "clients")) clients
  pub is_json : IsFlag (o.one (codes "json")) json
  pub is_explain : IsMark (o.source (codes "explain")) explain

-- A call, without the places of its servers: the client and each flag as the options say.
pub record IsCallBy (o : Options) (client : ℕ) (again together explain : Bool) : Type 0 where
  pub is_client : IsNumber 32 (o.one (codes "client")) (Some client)
  pub is_again : IsFlag (o.one (codes "again")) again
  pub is_together : IsFlag (o.one (codes "together")) together
  pub is_explain : IsMark (o.source (codes "explain")) explain
