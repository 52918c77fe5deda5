-- The device's fault is reported as it was counted.
use Rattle.linda_server.specs.declared.fault.OpenFault.TheVariants.{Disk}
use Rattle.linda_server.proofs.CauseLaws.{counted}
use Rattle.linda_server.proofs.empty.expect_no_bytes.Goals as goal

pub returns-in-Err-clause-cause : goal.returns-in-Err-clause-cause
returns-in-Err-clause-cause g c =
    let count = g.D.Disk.failures in
    counted Disk c.of_device.result c.in-Err.fault c.len.result (count c.args.disk.now)
    (count c.len.new.self) c.in-Err.is c.of_device.ensures.device c.len.ensures.cause
