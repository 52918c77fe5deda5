use Rattle.std.proofs.Common.{◌≡◌, length, ap, ◌∙◌, rules}
use Rattle.linda_shared_accounts.specs.Telling.{told_by}
use Rattle.linda_shared_accounts.proofs.TellingLaws.{told_each, has_told}
use Rattle.linda_shared_accounts.proofs.telling.receipts_of.Goals as goal

pub returns-clause-each : goal.returns-clause-each
returns-clause-each c =
    let served = c.args.served in
    let told : c.in_ok-told.told.items ≡ told_by served.counts.items served.deeds.items served.sends.items = search rules in
    ap length told ∙ told_each served.counts.items served.deeds.items served.sends.items

pub returns-clause-answers : goal.returns-clause-answers
returns-clause-answers c st new soft behind ms is has =
    let served = c.args.served in
    let told : c.in_ok-told.told.items ≡ told_by served.counts.items served.deeds.items served.sends.items = search rules in
    has_told st new soft behind ms served c.in_ok-told.told.items told is has
