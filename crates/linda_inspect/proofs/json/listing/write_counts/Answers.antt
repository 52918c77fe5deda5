use Rattle.std.proofs.Common.{rules, ◌≡◌, ◌∙◌, ap}
use Rattle.std.specs.FinMap.{len}
use Rattle.linda_inspect.specs.Json.{json_counts, json_numbers}
use Rattle.linda_inspect.proofs.JsonLaws.{sent_as}
use Rattle.linda_inspect.proofs.json.listing.write_counts.Goals as goal

pub returns : goal.returns
returns g c =
    let next = c.state.inside.next in
    let written : c.deref.result.now ≡ json_numbers next c.len.result c.len-2.result = search rules in
    let tuples = ap (λ n. json_numbers next n c.len-2.result) c.len.ensures in
    let clients = ap (λ n. json_numbers next (len (g.B.Bag.contents c.state.inside.bag)) n) c.len-2.ensures in
    sent_as _ _ _ _ (written ∙ tuples ∙ clients ∙ ap json_counts c.state.view_is) c.in_ok-write_bytes.ensures
