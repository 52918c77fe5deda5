-- Client numbers that are refused Busy again and again.
use Rattle.std.specs.Prelude.{ℕ, ◌-◌, ◌==◌, nat_le, Bool, true, false, if◌then◌else◌, List, [], ◌∷◌}
use Rattle.std.specs.Prelude.{Option, Some, None, ◌++◌, not, length, drop, filter}
use Rattle.linda_net_marks.specs.declared.busy.BusyRun.{BusyRun}
use Rattle.linda_net_marks.specs.declared.busy.RefusalVerdict.{RefusalVerdict}

-- A run begins with a refusal now, in milliseconds, which counts or does not.
abbrev pub begun : ℕ → ℕ → Bool → RefusalVerdict
begun client now counts = record {
  run = record { client = client; first = now; last = now };
  counts = counts;
}

-- The run goes on with a refusal now, which does not count.
abbrev pub longer : BusyRun → ℕ → RefusalVerdict
longer run now = record { run = record run { last = now }; counts = false }

-- A refusal belongs to the run before it if it comes within a quarter of a second after the last
-- one. It counts if that run spans a second or more, and then the run begins anew.
abbrev pub judged : ℕ → Option BusyRun → ℕ → RefusalVerdict
judged client None now = begun client now false
judged client (Some run) now =
    if nat_le 250 (now - run.last) then begun client now false
    else (if nat_le 1_000 (now - run.first) then begun client now true
    else longer run now)

-- The run of a client, if there is one.
abbrev pub run_of : ℕ → List BusyRun → Option BusyRun
run_of client [] = None
run_of client (run ∷ runs) = if run.client == client then Some run else run_of client runs

-- the runs of other clients
abbrev pub others : ℕ → List BusyRun → List BusyRun
others client runs = filter (λ run. not (run.client == client)) runs

-- the last 63 of them at least
abbrev pub newest : List BusyRun → List BusyRun
newest runs = if nat_le 64 (length runs) then drop 1 runs else runs

-- The runs once this one of the client was the last to be refused: 64 at most.
abbrev pub with_run : ℕ → BusyRun → List BusyRun → List BusyRun
with_run client run runs = newest (others client runs) ++ run ∷ []
