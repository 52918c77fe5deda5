-- The bases of an event as the program hands them out, and which are ready.
use Rattle.std.specs.Prelude.{ℕ, nat_le, Bool, true, false}
use Rattle.linda_event.specs.Trees.{Kind, input, read, alarm, always, never}
use Rattle.linda_event.specs.declared.base.Base.{Base}
use Rattle.linda_event.specs.declared.base.Base.TheVariants.{Input, Read, Alarm, Always, Never}

-- What a base waits for.
abbrev pub kind_of : Base → Kind
kind_of (Input template) = input template.now
kind_of (Read template) = read template.now
kind_of (Alarm time) = alarm time
kind_of (Always value) = always value.now
kind_of Never = never

-- whether a base is ready at this clock without a server: an alarm whose time has come, or a value
abbrev pub is_ready : ℕ → Kind → Bool
is_ready clock (input template) = false
is_ready clock (read template) = false
is_ready clock (alarm time) = nat_le time clock
is_ready clock (always value) = true
is_ready clock never = false
