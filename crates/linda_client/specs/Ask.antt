-- Asks of an event to the servers, its alarms, and what is ready at once.
use Rattle.std.specs.Prelude.{ℕ, nat_le, true, false, if◌then◌else◌, List, Option, Some, None}
use Rattle.std.specs.Prelude.{filter_map, find, option_map, slice_get}
use Rattle.std.specs.List.{enumerate_from}
use Rattle.linda_event.specs.Trees.{Tree, Kind, input, read, alarm, always, never}
use Rattle.linda_event.specs.Paths.{bases_of}
use Rattle.linda_client.specs.declared.ask.Ask.{Ask}
use Rattle.linda_client.specs.declared.ask.Alarm.{Alarm}
use Rattle.linda_client.specs.declared.outcome.Got.{Got}
use Rattle.linda_client.specs.declared.outcome.Got.TheVariants as gots

-- what is asked of the servers for a base
abbrev pub ask_of : ℕ → Kind → Option Ask
ask_of base (input template) = Some (record { base = base; remove = true; template = template })
ask_of base (read template) = Some (record { base = base; remove = false; template = template })
ask_of base (alarm time) = None
ask_of base (always value) = None
ask_of base never = None

-- the inputs and reads among bases, with their numbers
abbrev pub asks_among : List Kind → List Ask
asks_among kinds = filter_map (λ b. ask_of b.0 b.1) (enumerate_from 0 kinds)

-- The inputs and reads of an event with their numbers, in tree order.
abbrev pub asks : Tree → List Ask
asks event = asks_among (bases_of event)

-- the alarm of a base
abbrev pub alarm_of : ℕ → Kind → Option Alarm
alarm_of base (input template) = None
alarm_of base (read template) = None
alarm_of base (alarm time) = Some (record { base = base; time = time })
alarm_of base (always value) = None
alarm_of base never = None

-- the alarms among bases, with their numbers
abbrev pub alarms_among : List Kind → List Alarm
alarms_among kinds = filter_map (λ b. alarm_of b.0 b.1) (enumerate_from 0 kinds)

-- The alarms of an event with their numbers, in tree order.
abbrev pub alarms : Tree → List Alarm
alarms event = alarms_among (bases_of event)

-- The first alarm in tree order that is ready at this clock.
abbrev pub first_alarm : ℕ → Tree → Option Alarm
first_alarm clock event = find (λ a. nat_le a.time clock) (alarms event)

-- what a base gives at this clock without a server: an alarm that is ready, or its value
abbrev pub given_by : ℕ → Kind → Option Got
given_by clock (input template) = None
given_by clock (read template) = None
given_by clock (alarm time) = (if nat_le time clock then Some gots.Alarm else None)
given_by clock (always value) = Some (gots.Always value)
given_by clock never = None

-- the base with what it gives at this clock
abbrev pub ready_at : ℕ → ℕ × Kind → Option (ℕ × Got)
ready_at clock b = option_map (λ got. (b.0, got)) (given_by clock b.1)

-- the first among bases that is ready at this clock, with its number, and what it gives
abbrev pub first_among : ℕ → List Kind → Option (ℕ × Got)
first_among clock kinds = slice_get (filter_map (ready_at clock) (enumerate_from 0 kinds)) 0

-- The first base in tree order that is ready at this clock, and what it gives.
abbrev pub first_ready : ℕ → Tree → Option (ℕ × Got)
first_ready clock event = first_among clock (bases_of event)
