-- Heads that were read.
use Rattle.std.proofs.Common.{◌≡◌, ℕ, List, map, take, drop, subst}
use Rattle.httparse.specs.Grammar.{RequestHead, ReadsRequest}
use Rattle.httparse.specs.Spans.{name_and_value, header_bytes, span_bytes, IsRequestAt, IsRequestOf}
use Rattle.httparse.specs.declared.spans.HeaderSpan.{HeaderSpan}
use Rattle.httparse.specs.declared.spans.RequestSpans.{RequestSpans}
use Rattle.linda_net_http.specs.declared.head.HeadResult.{HeadResult}
use Rattle.linda_net_http.specs.declared.head.HeadResult.TheVariants as heads
use Rattle.linda_net_http.specs.Head.{front, Asks, Begins, IsHeadOf}

-- What begins with a head is neither a part of one nor none.
begun : (sent : List ℕ) (head : HeadResult) → Begins sent head → IsHeadOf sent head
begun sent heads.Partly (h, rest, reads, asks) = absurd asks
begun sent heads.Nothing (h, rest, reads, asks) = absurd asks
begun sent heads.Foreign begins = begins
begun sent heads.Other begins = begins
begun sent (heads.Page asked is_whole) begins = begins

-- What the spans ask for is what the head asks for.
asked_at : (buf : List ℕ) (fields : List HeaderSpan) (r : RequestSpans) (h : RequestHead) (head : HeadResult)
    → IsRequestAt buf fields r h
    → Asks (span_bytes buf r.method) (span_bytes buf r.path) (map (header_bytes buf) (take r.headers fields)) head
    → Asks h.method h.target (map name_and_value h.fields) head
asked_at buf fields r h head is asks =
    subst (λ names. Asks h.method h.target names head) is.fields
    (subst (λ target. Asks h.method target (map (header_bytes buf) (take r.headers fields)) head) is.path
    (subst (λ method. Asks method (span_bytes buf r.path) (map (header_bytes buf) (take r.headers fields)) head) is.method asks))

pub read_at : (sent buf : List ℕ) (fields : List HeaderSpan) (r : RequestSpans) (head : HeadResult)
    → buf ≡ front sent → IsRequestOf buf fields r
    → Asks (span_bytes buf r.method) (span_bytes buf r.path) (map (header_bytes buf) (take r.headers fields)) head
    → IsHeadOf sent head
read_at sent buf fields r head is_front (h, is) asks =
    begun sent head
    (h, drop r.len buf, subst (λ b. ReadsRequest b h (drop r.len buf)) is_front is.reads, asked_at buf fields r h head is asks)
