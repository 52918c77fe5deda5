use Rattle.std.proofs.Common.{◌++◌, codes}
use Rattle.linda_inspect.specs.Json.{json_member}
use Rattle.linda_inspect.proofs.JsonLaws.{pushed_on}
use Rattle.linda_inspect.proofs.json.listing.push_counts.Goals as goal

pub returns : goal.returns
returns c =
    let next = json_member (codes ",\n\"next\":") c.args.next in
    let tuples = json_member (codes ",\n\"tuple_count\":") c.args.tuples in
    let clients = json_member (codes ",\n\"client_count\":") c.args.clients in
    let two = pushed_on c.args.out.now.items c.push_member.new.out.items c.push_member-2.new.out.items
    next tuples c.in_ok-push_member.ensures c.in_ok-push_member-2.ensures in
    pushed_on c.args.out.now.items c.push_member-2.new.out.items c.push_member-3.new.out.items (next ++ tuples) clients two c.in_ok-push_member-3.ensures
