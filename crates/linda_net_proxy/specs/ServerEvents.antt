-- Arrivals that wait in an inbox.
use Rattle.std.specs.Prelude.{◌≡◌, ℕ, ◌⊎◌, ◌∷◌, ◌++◌, [], true}
use Rattle.linda_net_proxy.specs.declared.server_events.ServerEvent.{ServerEvent}
use Rattle.linda_net_proxy.specs.declared.server_events.ServerEvents.{ServerEvents}

-- the same waits, and the same is known of what was lost
abbrev pub IsSame : ServerEvents → ServerEvents → Type 0
IsSame old new = (new.waiting.items ≡ old.waiting.items) × (new.has_lost ≡ old.has_lost)

-- it waits after all others, or all is as it was, and that something is lost is known
abbrev pub IsBrought : ServerEvents → ℕ × ServerEvent → ServerEvents → Type 0
IsBrought old came new =
    ((new.waiting.items ≡ old.waiting.items ++ came ∷ []) × (new.has_lost ≡ old.has_lost))
    ⊎ ((new.waiting.items ≡ old.waiting.items) × (new.has_lost ≡ true))
