-- Code of a pending synchronization, for a model's value that holds one.
use Rattle.std.specs.Prelude.{ℕ, List, Option, refl}
use Rattle.std.specs.Coded.{Coded, code_by, coded×, coded_ℕ, coded_option, coded_list}
use Rattle.linda_tuple.specs.Tuple.{Tuple}
use Rattle.linda_tuple.specs.Codes.{tuple_code}
use Rattle.linda_event.specs.Trees.{Tree}
use Rattle.linda_event.specs.Codes.{tree_code}
use Rattle.linda_client.specs.declared.arrived_tuple.ArrivedTuple.{ArrivedTuple}
use Rattle.linda_client.specs.declared.arrived_tuple.PendingAccept.{PendingAccept}
use Rattle.linda_client.specs.Pending.{Pending}

-- the code of an accepted offer
abbrev pub accepted_code : Coded PendingAccept
accepted_code =
    code_by (ℕ × (ℕ × (ℕ × ℕ))) (coded× coded_ℕ (coded× coded_ℕ (coded× coded_ℕ coded_ℕ)))
    (λ a. (a.server, (a.n, (a.ticket, a.id))))
    (λ p. record { server = p.0; n = p.1.0; ticket = p.1.1.0; id = p.1.1.1 }) (λ _. refl)

-- the code of an arrival
abbrev pub arrival_code : Coded ArrivedTuple
arrival_code =
    code_by (ℕ × (ℕ × (ℕ × Tuple))) (coded× coded_ℕ (coded× coded_ℕ (coded× coded_ℕ tuple_code)))
    (λ a. (a.server, (a.ticket, (a.id, a.tuple))))
    (λ p. record { server = p.0; ticket = p.1.0; id = p.1.1.0; tuple = p.1.1.1 }) (λ _. refl)

-- the code of a pending synchronization
abbrev pub pending_code : Coded Pending
pending_code =
    code_by (Tree × (ℕ × (Option PendingAccept × List ArrivedTuple)))
    (coded× tree_code
    (coded× coded_ℕ (coded× (coded_option accepted_code) (coded_list arrival_code))))
    (λ s. (s.event, (s.first, (s.accepted, s.saved))))
    (λ p. record { event = p.0; first = p.1.0; accepted = p.1.1.0; saved = p.1.1.1 }) (λ _. refl)
