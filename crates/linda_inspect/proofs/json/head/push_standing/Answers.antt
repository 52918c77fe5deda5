use Rattle.std.proofs.Common.{◌++◌, ◌∙◌, ap, codes}
use Rattle.linda_inspect.specs.Object.{json_side, json_why}
use Rattle.linda_inspect.proofs.JsonLaws.{pushed_on}
use Rattle.linda_inspect.proofs.json.head.push_standing.Goals as goal

pub returns : goal.returns
returns c =
    let stands = codes ",\n\"stands\":" ++ json_side c.args.is_right in
    let why = codes ",\n\"why\":" ++ json_why c.args.are_two in
    let one = c.in_ok-push_named.ensures ∙ ap (λ t. c.args.out.now.items ++ (codes ",\n\"stands\":" ++ t)) c.side.ensures in
    let two = c.in_ok-push_named-2.ensures ∙ ap (λ t. c.push_named.new.out.items ++ (codes ",\n\"why\":" ++ t)) c.why.ensures in
    pushed_on c.args.out.now.items c.push_named.new.out.items c.push_named-2.new.out.items stands why one two
