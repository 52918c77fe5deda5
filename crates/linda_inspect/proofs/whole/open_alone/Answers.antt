use Rattle.std.proofs.Common.{◌∙◌, List, ℕ, ap, ap₂}
use Rattle.linda_disk.specs.DiskHistory.{DiskHistory, view_of}
use Rattle.linda_disk.specs.MemDisk.{view}
use Rattle.linda_snap.specs.Choice.{chosen}
use Rattle.linda_inspect.proofs.WholeLaws.{alone}
use Rattle.linda_inspect.proofs.whole.open_alone.Goals as goal

abbrev seen_of : DiskHistory → List ℕ
seen_of h = (view_of h).seen

pub returns-in-Ok-clause-stands : goal.returns-in-Ok-clause-stands
returns-in-Ok-clause-stands c =
    let found = c.in-Ok.chosen in
    let sides = c.in-Ok.ensures.sides tt tt in
    alone c.args.bytes.items found.is_right found.bank.form found.bank.generation found.bank.end (view found.bank.disk) found.state (c.in-Ok.ensures.stored tt)
    (sides.0 ∙ ap₂ (chosen found.is_right) (ap seen_of c.in_ok-disk.ensures.history) (ap seen_of c.new.ensures.history))
