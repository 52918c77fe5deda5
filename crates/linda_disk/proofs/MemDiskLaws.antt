-- What a sync of a disk in memory does to its view.
use Rattle.std.proofs.Common.{◌≡◌, inl, inr, true, Result, Ok, Err, IsErrOf, refl, sym, subst, rules, arith}
use Rattle.linda_disk.specs.declared.call.DeviceCall.TheVariants.{Sync}
use Rattle.linda_disk.specs.declared.fault.DiskFault.{DiskFault}
use Rattle.linda_disk.specs.declared.fault.DiskFault.TheVariants.{Device, Memory}
use Rattle.linda_disk.specs.declared.trouble.Turn.{Turn}
use Rattle.linda_disk.specs.declared.trouble.Turn.TheVariants.{Works, Stops, Fails}
use Rattle.linda_disk.specs.declared.trouble.Trouble.{Trouble}
use Rattle.linda_disk.specs.declared.mem_disk.MemDisk.{MemDisk}
use Rattle.linda_disk.specs.Disk.{Syncs}
use Rattle.linda_disk.specs.DiskHistory.{DiskHistory, after, fits, Leaves, view_of}
use Rattle.linda_disk.specs.DiskHistoryLaws.{left_kept}
use Rattle.linda_disk.specs.MemDisk.{view, answer_at, history_at, GoesBy}

-- A sync on record.
pub synced : (h : DiskHistory) → fits h ≡ true → Syncs {T = Unit {0}} (Ok tt) (view_of h) (view_of (after Sync h))
synced h fit = record {
  seen = refl;
  durable = λ image is. is;
  crash = λ image is. subst (Leaves h.first h.calls) (sym is) (left_kept h.first h.calls fit);
  time = record {
    later = omega arith;
    nothing_else = λ t image le left. elim left [ inl now ↦ inr now | inr earlier ↦ inl earlier.1 ];
    nothing_lost = λ t image le left. inr (le, left);
  };
  clock = record { ok = omega arith; most = omega arith };
}

-- A sync that reports a failure is not on record.
not_synced : (h : DiskHistory) (fault : DiskFault) → Syncs {T = Unit {0}} (Err fault) (view_of h) (view_of h)
not_synced h fault = record {
  seen = tt;
  durable = tt;
  crash = λ image left. left;
  time =
      record {
        later = omega arith;
        nothing_else = λ t image le left. inl left;
        nothing_lost = λ t image le left. left;
      };
  clock = record { ok = tt; most = omega arith };
}

synced_at : (turn : Turn) (h : DiskHistory) → fits h ≡ true
    → Syncs (answer_at turn) (view_of h) (view_of (history_at turn Sync h))
synced_at Works h fit = synced h fit
synced_at Stops h fit = not_synced h Device
synced_at Fails h fit = not_synced h Device

told_at : (turn : Turn × Trouble) (result : Result (Unit {0}) DiskFault) (old new : MemDisk)
    → GoesBy turn (history_at turn.0 Sync old.history) result old new
    → (IsErrOf result Memory → ⊥) → Syncs result (view old) (view new)
told_at turn result old new goes other =
    let at_turn = synced_at turn.0 old.history old.begun in
    let now = sym (goes.done other) in
    let done = subst (λ (h : DiskHistory). Syncs (answer_at turn.0) (view old) (view_of h)) now at_turn in
    subst (λ (r : Result (Unit {0}) DiskFault). Syncs r (view old) (view new)) (sym (goes.told other)) done

-- A sync at any turn, and if memory runs out.
pub sync_goes : (turn : Turn × Trouble) (result : Result (Unit {0}) DiskFault) (old new : MemDisk)
    → GoesBy turn (history_at turn.0 Sync old.history) result old new
    → Syncs result (view old) (view new)
sync_goes turn (Ok x) old new goes = told_at turn (Ok x) old new goes (λ err. search (rules, err))
sync_goes turn (Err Device) old new goes = told_at turn (Err Device) old new goes (λ err. search (rules, err))
sync_goes turn (Err Memory) old new goes =
    let unchanged = not_synced old.history Memory in
    subst (λ (d : MemDisk). Syncs {T = Unit {0}} (Err Memory) (view old) (view d)) (sym (goes.memory refl)) unchanged
