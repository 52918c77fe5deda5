use Rattle.linda_journal.proofs.PayloadLaws.{deeds_are}
use Rattle.linda_journal.proofs.payload.read_deeds.Goals as goal

pub returns-in-Ok : goal.returns-in-Ok
returns-in-Ok c ds is spelled count_is =
    deeds_are c.args.form ds c.args.count c.args.payload.now (c.in-Ok.deeds.items, c.in-Ok._rest.now) is spelled count_is c.in-Ok.ensures
