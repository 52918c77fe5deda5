use Rattle.std.proofs.Common.{Some, ap}
use Rattle.linda_store.proofs.OffsetLaws.{has_detail}
use Rattle.linda_net_pump.proofs.pumping.detail_of.Goals as goal

pub returns-in-Some-clause-ok : goal.returns-in-Some-clause-ok
returns-in-Some-clause-ok c =
    let known = has_detail c.args.fault c.in-Some.offset c.in-Some.ensures in
    (known.0, ap (λ d. Some d) known.1)
