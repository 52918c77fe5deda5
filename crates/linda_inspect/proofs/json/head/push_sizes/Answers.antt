use Rattle.std.proofs.Common.{◌++◌, codes}
use Rattle.linda_inspect.specs.Json.{json_member}
use Rattle.linda_inspect.proofs.JsonLaws.{pushed_on}
use Rattle.linda_inspect.proofs.json.head.push_sizes.Goals as goal

pub returns : goal.returns
returns c =
    let records = json_member (codes ",\"records\":") c.args.records in
    let used = json_member (codes ",\"used\":") c.args.used in
    let limit = json_member (codes ",\"limit\":") c.args.limit in
    let two = pushed_on c.args.out.now.items c.push_member.new.out.items c.push_member-2.new.out.items
    records used c.in_ok-push_member.ensures c.in_ok-push_member-2.ensures in
    pushed_on c.args.out.now.items c.push_member-2.new.out.items c.push_member-3.new.out.items (records ++ used) limit two c.in_ok-push_member-3.ensures
