-- Faults of a bank for those of its disk.
use Rattle.linda_disk.specs.declared.fault.DiskFault.{DiskFault}
use Rattle.linda_disk.specs.declared.fault.DiskFault.TheVariants as device
use Rattle.linda_journal.specs.declared.fault.BankFault.{BankFault}
use Rattle.linda_journal.specs.declared.fault.BankFault.TheVariants.{Disk, Memory}

abbrev pub fault_of_disk : DiskFault → BankFault
fault_of_disk device.Device = Disk
fault_of_disk device.Memory = Memory
