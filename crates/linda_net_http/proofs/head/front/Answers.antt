use Rattle.std.proofs.Common.{◌<◌, ◌≤◌, length, take_all, sym, arith}
use Rattle.linda_net_http.specs.declared.head.TheConstants.{MOST_HEAD}
use Rattle.linda_net_http.proofs.head.front.Goals as goal

pub returns-in-None : goal.returns-in-None
returns-in-None c =
    let short : length c.args.sent.now < MOST_HEAD = c.in-None.ensures.cases in
    let fits : length c.args.sent.now ≤ MOST_HEAD = omega (arith, short) in
    sym (take_all MOST_HEAD c.args.sent.now fits)
