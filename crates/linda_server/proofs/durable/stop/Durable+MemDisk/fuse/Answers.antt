-- Disks whose fuse is set hold what they held.
use Rattle.std.proofs.Common.{sym, subst}
use Rattle.std.proofs.Math.Logic.{∥∥₁_map}
use Rattle.linda_disk.specs.MemDisk.{history}
use Rattle.linda_disk.specs.DiskHistory.{view_of}
use Rattle.linda_journal.specs.Renewal.{IsFilled}
use Rattle.linda_server.proofs.FallenLaws.{kept_same}
use Rattle.linda_server.proofs.NextLaws.{next_as}
use Rattle.linda_server.proofs.durable.stop.Durable+MemDisk.fuse.Goals as goal

pub invariant_of-self-clause-kept : goal.invariant_of-self-clause-kept
invariant_of-self-clause-kept c _ =
    let s = c.args.self.now in
    ∥∥₁_map (s.kept c.requires) (λ k. kept_same (λ b. b.form) (λ b. b.generation) (λ b. b.end)
    (λ b. history b.disk) history view_of (λ b. Unit {0}) (λ d. Unit {0}) (λ b c h. h) (λ d e h. h)
    s.disks c.fuse.new.self s.store.state c.fuse.ensures.same k)

pub invariant_of-self-clause-begun : goal.invariant_of-self-clause-begun
invariant_of-self-clause-begun c _ =
    let s = c.args.self.now in
    ∥∥₁_map (s.begun c.requires) (λ b. next_as history s.next s.disks c.fuse.new.self s.store.state (λ d e same h. h)
    (λ front at d e same filled. subst (λ x. IsFilled front at (view_of x)) (sym same) filled) c.fuse.ensures.same c.fuse.ensures.limit b)
