-- A file of the operating system, as contracts see it.
use Rattle.std.specs.Prelude.{ℕ}
use Rattle.linda_disk.specs.declared.file_disk.FileDisk.{FileDisk}
use Rattle.linda_disk.specs.View.{View}
use Rattle.linda_disk.specs.DiskHistory.{DiskHistory, view_of}
use Rattle.linda_disk.specs.FileState as known

-- what it held when it was made, and the calls since
abbrev pub history : FileDisk → DiskHistory
history disk = known.history disk.known

-- how often it has failed
abbrev pub failures : FileDisk → ℕ
failures disk = disk.failures

-- the disk at this moment
abbrev pub view : FileDisk → View
view disk = view_of (history disk)
