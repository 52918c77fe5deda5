-- Troubles of a disk in memory: what is to go wrong, and when.
use Rattle.std.specs.Prelude.{ℕ, zero, suc, Option, Some, None}
use Rattle.linda_disk.specs.declared.trouble.Power.{Power}
use Rattle.linda_disk.specs.declared.trouble.Power.TheVariants.{On, OnFor, Off}
use Rattle.linda_disk.specs.declared.trouble.Turn.{Turn}
use Rattle.linda_disk.specs.declared.trouble.Turn.TheVariants.{Works, Stops, Fails}
use Rattle.linda_disk.specs.declared.trouble.Trouble.{Trouble}

-- The turn of a call if the power is on: the one that is to fail once fails, and those before it
-- work.
abbrev pub turn_with : Power → Option ℕ → Turn × Trouble
turn_with power None = (Works, record { power = power; failing = None })
turn_with power (Some zero) = (Fails, record { power = power; failing = None })
turn_with power (Some (suc k)) = (Works, record { power = power; failing = Some k })

-- The turn of a length or a read: it fails if the power is off.
abbrev pub turn_of_read : Trouble → Turn × Trouble
turn_of_read trouble = at_read trouble.power trouble.failing
  where
    at_read : Power → Option ℕ → Turn × Trouble
    at_read On failing = turn_with On failing
    at_read (OnFor k) failing = turn_with (OnFor k) failing
    at_read Off failing = (Fails, record { power = Off; failing = failing })

-- The turn of a write, a cut or a sync: if no more of them pass, the power goes off inside this
-- one.
abbrev pub turn_of_call : Trouble → Turn × Trouble
turn_of_call trouble = at_call trouble.power trouble.failing
  where
    at_call : Power → Option ℕ → Turn × Trouble
    at_call On failing = turn_with On failing
    at_call (OnFor zero) failing = (Stops, record { power = Off; failing = failing })
    at_call (OnFor (suc k)) failing = turn_with (OnFor k) failing
    at_call Off failing = (Fails, record { power = Off; failing = failing })
