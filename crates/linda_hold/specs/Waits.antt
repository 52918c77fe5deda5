-- Waits: the requests that no tuple has answered yet, in order of arrival, and what is picked from
-- them.
use Rattle.std.specs.Prelude.{ℕ, ◌==◌, Bool, ◌&&◌, not, List, Option, filter, find}
use Rattle.std.specs.List.{list_any, Contains, IsDistinct}
use Rattle.std.specs.Map.{keys_of}
use Rattle.linda_tuple.specs.Tuple.{Tuple}
use Rattle.linda_tuple.specs.Matching.{is_match}
use Rattle.linda_hold.specs.declared.request.Request.{Request}
use Rattle.linda_hold.specs.Request.{same_request}
use Rattle.linda_hold.specs.declared.asked.Asked.{Asked}
use Rattle.linda_hold.specs.declared.long.LongWait.{LongWait}

-- A wait: a request, and what it asked.
abbrev pub Wait : Type 0
Wait = Request × Asked

-- whether the request waits
abbrev pub is_waiting : Request → List Wait → Bool
is_waiting request waits = list_any (λ w. same_request request w.0) waits

-- whether some wait is answered by the tuple
abbrev pub is_awaited : Tuple → List Wait → Bool
is_awaited row waits = list_any (λ w. is_match w.1.template row) waits

-- whether the wait is a read that the tuple answers
abbrev pub is_reader : Tuple → Wait → Bool
is_reader row w = not w.1.remove && is_match w.1.template row

-- whether the wait is an input that the tuple answers
abbrev pub is_taker : Tuple → Wait → Bool
is_taker row w = w.1.remove && is_match w.1.template row

-- the reads that the tuple answers, in order of arrival
abbrev pub readers : Tuple → List Wait → List Wait
readers row waits = filter (is_reader row) waits

-- the other waits, in order of arrival
abbrev pub without_readers : Tuple → List Wait → List Wait
without_readers row waits = filter (λ w. not (is_reader row w)) waits

-- the first input to arrive that the tuple answers
abbrev pub longest : Tuple → List Wait → Option Wait
longest row waits = find (is_taker row) waits

-- the waits of a client
abbrev pub waits_of : ℕ → List Wait → List Wait
waits_of client waits = filter (λ w. client == w.0.client) waits

-- the waits of the other clients
abbrev pub without_client : ℕ → List Wait → List Wait
without_client client waits = filter (λ w. not (client == w.0.client)) waits

-- the waits but that of one request
abbrev pub without : Request → List Wait → List Wait
without request waits = filter (λ w. not (same_request request w.0)) waits

-- No request waits twice.
abbrev pub AreDistinct : List Wait → Type 0
AreDistinct waits = IsDistinct same_request (keys_of waits)

-- The request waits, and asked this.
abbrev pub IsWait : List Wait → LongWait → Type 0
IsWait waits row = Contains waits (row.request, row.asked)
