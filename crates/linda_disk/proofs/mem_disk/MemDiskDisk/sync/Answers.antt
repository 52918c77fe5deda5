-- The sync went as its turn says.
use Rattle.linda_disk.specs.Trouble.{turn_of_call}
use Rattle.linda_disk.proofs.MemDiskLaws.{sync_goes}
use Rattle.linda_disk.proofs.mem_disk.MemDiskDisk.sync.Goals as goal

pub returns-clause-syncs : goal.returns-clause-syncs
returns-clause-syncs c =
    sync_goes (turn_of_call c.args.self.now.trouble) c.make.result c.args.self.now c.make.new.self c.make.ensures
