use Rattle.linda_event.specs.Bases.{kind_of}
use Rattle.linda_client.specs.Ask.{alarm_of}
use Rattle.linda_client.proofs.ListLaws.{made_next}
use Rattle.linda_client.proofs.ask.alarms_among.Goals as goal

pub loop-number-preserved : goal.loop-number-preserved
loop-number-preserved c =
    made_next (λ b. alarm_of b.0 b.1) kind_of c.loop-number.number c.args.bases.now c.index-bases-number.result
    _ _ _ c.loop-number-test.true c.index-bases-number.is c.in_ok-push_alarm.ensures c.loop-number.invariant
