use Rattle.std.proofs.Common.{rules, ◌≡◌, ◌++◌, ap}
use Rattle.linda_inspect.specs.Json.{json_entry, json_tuples}
use Rattle.linda_inspect.proofs.JsonLaws.{none_yet, one_row}
use Rattle.linda_snap.proofs.RisingLaws.{all_is}
use Rattle.linda_inspect.proofs.json.listing.write_tuples.Goals as goal

pub loop-id-init : goal.loop-id-init
loop-id-init g c = none_yet _ _ _ (ap json_tuples (all_is c.args.state.now.bag))

pub loop-id-preserved : goal.loop-id-preserved
loop-id-preserved g c =
    let written : c.deref.result.now ≡ c.loop-id.mark.now ++ json_entry (c.in-Some.id, c.in-Some.tuple.now) = search rules in
    one_row json_entry _ _ _ c.loop-id.mark.now _ (c.in-Some.id, c.in-Some.tuple.now) _ _ c.deref.result.now c.loop-id.invariant
    (c.in-Some.ensures.found) written c.in_ok-write_bytes.ensures
