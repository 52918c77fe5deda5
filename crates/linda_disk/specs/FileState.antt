-- Knowledge of a file, as contracts see it.
use Rattle.linda_disk.specs.declared.file_state.FileState.{FileState}
use Rattle.linda_disk.specs.DiskHistory.{DiskHistory}
use Rattle.linda_disk.specs.Past.{history_of}

-- what it held when it was opened, and the calls since
abbrev pub history : FileState → DiskHistory
history known = history_of known.past.value
