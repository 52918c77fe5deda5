use Rattle.std.proofs.Common.{take, All}
use Rattle.httparse.specs.Spans.{header_bytes}
use Rattle.linda_net_http.specs.Head.{NamesUs}
use Rattle.linda_net_http.proofs.host.name_us.Given as goal

abbrev pub invariant-loop-field : goal.invariant-loop-field
invariant-loop-field l = All (λ f. NamesUs (header_bytes l.head f)) (take l.field-index l.fields)
