use Rattle.std.proofs.Common.{rules, ◌≡◌, sym, subst, true}
use Rattle.std.specs.Io.KnownBytes.{Appends}
use Rattle.linda_inspect.specs.Json.{json_tuple_list}
use Rattle.linda_inspect.proofs.JsonLaws.{sent_twice}
use Rattle.linda_inspect.proofs.json.listing.write_tuple_list.Goals as goal

pub returns : goal.returns
returns g c =
    let asked : c.args.is_asked ≡ true = search rules in
    let begun = sent_twice _ _ _ _ _ c.in_ok-write_bytes.ensures c.in_ok-write_tuples.ensures in
    let all = sent_twice _ _ _ _ _ begun c.in_ok-write_bytes-2.ensures in
    subst (λ b. Appends (g.W.Write.contents c.args.writer.now) (g.W.Write.contents c.write_bytes-2.new.writer) (json_tuple_list b c.args.state.now))
    (sym asked) all
