-- Requests: which of them are the same, and how one is stored in the value of a model.
use Rattle.std.specs.Prelude.{ℕ, Bool, ◌==◌, ◌&&◌, refl}
use Rattle.std.specs.Coded.{Coded, code_by, coded×, coded_ℕ}
use Rattle.linda_hold.specs.declared.request.Request.{Request}

-- the request that a client makes with a ticket
abbrev pub request_of : ℕ → ℕ → Request
request_of client ticket = record { client = client; ticket = ticket }

-- whether two requests are the same
abbrev pub same_request : Request → Request → Bool
same_request p q = (p.client == q.client) && (p.ticket == q.ticket)

-- the code of a request
abbrev pub request_code : Coded Request
request_code =
    code_by (ℕ × ℕ) (coded× coded_ℕ coded_ℕ) (λ r. (r.client, r.ticket)) (λ p. request_of p.0 p.1)
    (λ _. refl)
