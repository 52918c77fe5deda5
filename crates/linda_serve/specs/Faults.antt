-- Faults of a folder that is not served, or not inspected, or served no more.
use Rattle.std.specs.Prelude.{if◌then◌else◌, Bool, true, false, Result, Ok, Err}
use Rattle.linda_disk.specs.declared.fault.DiskFault.{DiskFault}
use Rattle.linda_disk.specs.declared.fault.DiskFault.TheVariants as disks
use Rattle.linda_shared_accounts.specs.declared.fault.SharedFault.{SharedFault}
use Rattle.linda_server.specs.declared.fault.OpenFault.{OpenFault}
use Rattle.linda_server.specs.declared.fault.OpenFault.TheVariants as opens
use Rattle.linda_inspect.specs.declared.fault.InspectFault.{InspectFault}
use Rattle.linda_inspect.specs.declared.fault.InspectFault.TheVariants as reports
use Rattle.linda_serve.specs.declared.serving.fault.ServingFault.{ServingFault}
use Rattle.linda_serve.specs.declared.serving.fault.ServingFault.TheVariants as faults

-- that a bank could not be synced or read when it was opened
abbrev pub fault_of_disk : DiskFault → ServingFault
fault_of_disk disks.Device = faults.Disk
fault_of_disk disks.Memory = faults.Memory

-- that a server was not opened on the two banks
abbrev pub fault_of_open : OpenFault → ServingFault
fault_of_open opens.NotEmpty = faults.Disk
fault_of_open opens.LimitRange = faults.Disk
fault_of_open opens.NoStore = faults.NoStore
fault_of_open (opens.Damaged side offset) = faults.Damaged side offset
fault_of_open opens.Disk = faults.Disk
fault_of_open opens.Memory = faults.Memory

-- that a report on the two banks did not end well
abbrev pub fault_of_report : InspectFault → ServingFault
fault_of_report reports.NoStore = faults.NoStore
fault_of_report (reports.Damaged side offset) = faults.Damaged side offset
fault_of_report reports.Disk = faults.Disk
fault_of_report reports.Memory = faults.Memory
fault_of_report reports.Io = faults.Io

-- How serving ends: each fault of a server that is shared says that it went down.
abbrev pub served_as : {A : Type 0} → Result A SharedFault → Result A ServingFault
served_as (Ok done) = Ok done
served_as (Err fault) = Err faults.Down

-- How an inspection ends: a report that was not flushed failed, even if it was written whole.
abbrev pub inspected_as : {A : Type 0} → Result A InspectFault → Bool → Result A ServingFault
inspected_as report false = Err faults.Io
inspected_as (Ok done) true = Ok done
inspected_as (Err fault) true = Err (fault_of_report fault)
