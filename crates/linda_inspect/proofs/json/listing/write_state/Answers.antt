use Rattle.linda_inspect.proofs.JsonLaws.{sent_twice}
use Rattle.linda_inspect.proofs.json.listing.write_state.Goals as goal

pub returns : goal.returns
returns g c =
    let counts = c.in_ok-write_counts.ensures in
    let tuples = sent_twice _ _ _ _ _ counts c.in_ok-write_tuple_list.ensures in
    let clients = sent_twice _ _ _ _ _ tuples c.in_ok-write_client_list.ensures in
    sent_twice _ _ _ _ _ clients c.in_ok-write_bytes.ensures
