-- The limits of an event.
use Rattle.std.specs.Prelude.{◌≡◌, ◌≤◌, ltb, Bool, true, false, length, count_by}
use Rattle.std.specs.List.{list_any}
use Rattle.linda_event.specs.declared.limits.TheConstants.{MAX_DEPTH, MAX_BASES, MAX_ASKS}
use Rattle.linda_event.specs.Trees.{Kind, input, read, alarm, always, never, Tree}
use Rattle.linda_event.specs.Paths.{leaves, bases_of}

-- whether a base asks servers: an input or a read
abbrev pub is_ask : Kind → Bool
is_ask (input template) = true
is_ask (read template) = true
is_ask (alarm time) = false
is_ask (always value) = false
is_ask never = false

-- Whether an event is nested too deeply: some leaf is under more nodes than the limit.
abbrev pub is_too_deep : Tree → Bool
is_too_deep event = list_any (λ leaf. ltb MAX_DEPTH (length leaf.0)) (leaves event)

-- An event within its limits: no leaf under too many nodes, and not too many bases, nor too many
-- inputs and reads among them.
pub record IsWithinLimits (event : Tree) : Type 0 where
  pub depth : is_too_deep event ≡ false
  pub bases : length (bases_of event) ≤ MAX_BASES
  pub asks : count_by is_ask (bases_of event) ≤ MAX_ASKS
