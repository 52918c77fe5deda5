-- Status of a server over HTTP.
use Rattle.std.specs.Prelude.{◌++◌, ◌+◌, ◌-◌, ◌^◌, min, ◌/◌, ◌%◌, ℕ, List, [], ◌∷◌, codes}
use Rattle.std.specs.Prelude.{if◌then◌else◌, Bool}
use Rattle.std.specs.Prelude.{true, false}
use Rattle.std.specs.Prelude.{Option, Some, None}
use Rattle.std.specs.Fmt.{decimal}
use Rattle.std.specs.Str.{bytes_eq}
use Rattle.linda_shared_held.specs.declared.gauge.Gauge.{Gauge}
use Rattle.linda_net_marks.specs.declared.counters.CounterValues.{CounterValues}
use Rattle.linda_status.specs.declared.pages.PageKind.{PageKind}
use Rattle.linda_status.specs.declared.pages.PageKind.TheVariants as forms
use Rattle.linda_status.specs.declared.metric.MetricId.{MetricId}
use Rattle.linda_status.specs.declared.metric.MetricId.TheVariants as figures

-- What is at a path, if anything is.
abbrev pub page_kind_at : List ℕ → Option PageKind
page_kind_at path =
    if bytes_eq path (codes "/") then Some forms.Page
    else (if bytes_eq path (codes "/metrics") then Some forms.Metrics
    else (if bytes_eq path (codes "/status.json") then Some forms.Json
    else (if bytes_eq path (codes "/tuples") then Some forms.Tuples
    else (if bytes_eq path (codes "/clients") then Some forms.Clients
    else (if bytes_eq path (codes "/tags") then Some forms.Tags
    else (if bytes_eq path (codes "/longest") then Some forms.Longest
    else None))))))

-- how many connections were not served: those for which no thread could be had, and those that
-- could not be had
abbrev pub unserved : CounterValues → ℕ
unserved tally = min (tally.closed + tally.missed) (2 ^ 64 - 1)

-- 1 if the server is up, 0 if it is down
abbrev pub is_up : Bool → ℕ
is_up true = 0
is_up false = 1

-- What a number of a server comes to; so many clients are away and took a tuple by their last
-- message.
abbrev pub value_of : MetricId → Gauge → CounterValues → ℕ → ℕ
value_of figures.Up gauge tally absent = is_up gauge.is_down
value_of figures.Tuples gauge tally absent = gauge.tuples
value_of figures.Waits gauge tally absent = gauge.waits
value_of figures.OldestWait gauge tally absent = gauge.oldest_wait
value_of figures.Holds gauge tally absent = gauge.holds
value_of figures.OldestHold gauge tally absent = gauge.oldest_hold
value_of figures.Clients gauge tally absent = gauge.clients
value_of figures.TakenByAbsent gauge tally absent = absent
value_of figures.Connections gauge tally absent = tally.came - tally.over
value_of figures.Came gauge tally absent = tally.came
value_of figures.Deeds gauge tally absent = gauge.deeds
value_of figures.Used gauge tally absent = gauge.used
value_of figures.Limit gauge tally absent = gauge.limit
value_of figures.Records gauge tally absent = gauge.records
value_of figures.Next gauge tally absent = gauge.next
value_of figures.Full gauge tally absent = tally.refused
value_of figures.Busy gauge tally absent = tally.turned.busy
value_of figures.TooMany gauge tally absent = tally.turned.clients
value_of figures.Greetings gauge tally absent = tally.turned.greetings
value_of figures.Malformed gauge tally absent = tally.turned.malformed
value_of figures.Unserved gauge tally absent = unserved tally
value_of figures.Late gauge tally absent = tally.late
value_of figures.Groups gauge tally absent = tally.groups
value_of figures.Messages gauge tally absent = tally.messages
value_of figures.Took gauge tally absent = tally.took

-- A number of a metric, as a line: its name with its label, a blank, and its digits.
abbrev pub sample : List ℕ → List ℕ → ℕ → List ℕ
sample metric label value = metric ++ label ++ codes " " ++ decimal value ++ 10 ∷ []

-- the last three digits of a number
abbrev pub digits : ℕ → List ℕ
digits n = decimal (n / 100 % 10) ++ decimal (n / 10 % 10) ++ decimal (n % 10)

-- So many microseconds in seconds: a point, and six digits after it.
abbrev pub seconds : ℕ → List ℕ
seconds micros =
    decimal (micros / 1_000_000) ++ codes "."
    ++ digits (micros % 1_000_000 / 1_000) ++ digits (micros % 1_000_000 % 1_000)

-- A time, as a line.
abbrev pub time_sample : List ℕ → List ℕ → ℕ → List ℕ
time_sample metric label micros = metric ++ label ++ codes " " ++ seconds micros ++ 10 ∷ []

-- the mark before and after a name in JSON, `"`
abbrev pub quote : ℕ
quote = 34

-- A member of an object of JSON: its name in quotes, a colon, and its digits.
abbrev pub member : List ℕ → ℕ → List ℕ
member key value = quote ∷ key ++ quote ∷ codes ":" ++ decimal value

-- A member whose value is a time.
abbrev pub time_member : List ℕ → ℕ → List ℕ
time_member key micros = quote ∷ key ++ quote ∷ codes ":" ++ seconds micros
