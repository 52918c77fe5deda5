use Rattle.std.proofs.Common.{rules, ◌≡◌, ◌++◌, ap}
use Rattle.linda_inspect.specs.Json.{json_client, json_clients}
use Rattle.linda_inspect.proofs.JsonLaws.{none_yet, one_row}
use Rattle.linda_snap.proofs.RisingLaws.{all_is}
use Rattle.linda_inspect.proofs.json.listing.write_clients.Goals as goal

pub loop-client-init : goal.loop-client-init
loop-client-init g c = none_yet _ _ _ (ap json_clients (all_is c.args.book.now))

pub loop-client-preserved : goal.loop-client-preserved
loop-client-preserved g c =
    let written : c.deref.result.now ≡ c.loop-client.mark.now ++ json_client (c.in-Some.client, (c.in-Some.number, c.in-Some.reply.now)) = search rules in
    one_row json_client _ _ _ c.loop-client.mark.now _ (c.in-Some.client, (c.in-Some.number, c.in-Some.reply.now))
    _ _ c.deref.result.now c.loop-client.invariant (c.in-Some.ensures.found) written c.in_ok-write_bytes.ensures
