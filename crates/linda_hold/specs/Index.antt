-- Index of the requests that wait: by themselves, by their client, and by the head of what they ask
-- for.
use Rattle.std.specs.Prelude.{Option, None, Some}
use Rattle.std.specs.Option.{option_map}
use Rattle.linda_bag.specs.Filing.{Rows}
use Rattle.linda_hold.specs.declared.index.Index.{Index}
use Rattle.linda_hold.specs.TicketIndex.{Requests, HasNames}
use Rattle.linda_hold.specs.declared.asked.Asked.{Asked}
use Rattle.linda_hold.specs.TagIndex.{Waiting, HasAsked}

-- the request of the wait under each number
abbrev pub requests_of : Waiting → Requests
requests_of waiting k = option_map (λ w. w.0) (waiting k)

-- what the wait under each number asks
abbrev pub asked_of : Waiting → Rows Asked
asked_of waiting k = option_map (λ w. w.1) (waiting k)

-- The index has these waits: the requests by their names, and the numbers by what they ask for.
abbrev pub HasWaits : Index → Waiting → Type 0
HasWaits index waiting =
    HasNames index.ticket_index (requests_of waiting) × HasAsked index.tag_index (asked_of waiting)

-- what was found first, if something was
abbrev pub or_else : {X : Type 0} → Option X → Option X → Option X
or_else None later = later
or_else (Some found) later = Some found
