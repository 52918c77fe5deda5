-- Minutes of a log: what the line of each says, and what is kept for the next one.
use Rattle.std.specs.Prelude.{ℕ, ◌-◌}
use Rattle.linda_net_marks.specs.declared.counters.CounterValues.{CounterValues}
use Rattle.linda_net_marks.specs.Counting.{more_than, none_refused}
use Rattle.linda_status.specs.Status.{unserved}
use Rattle.linda_serve.specs.declared.serving.minutes.Counted.{Counted}

-- nothing was counted
abbrev pub none_counted : Counted
none_counted = record { deeds = 0; refused = 0; unserved = 0; turned = none_refused; late = 0 }

-- what there is in all, with so many deeds
abbrev pub counted : ℕ → CounterValues → Counted
counted deeds tally = record {
  deeds = deeds;
  refused = tally.refused;
  unserved = unserved tally;
  turned = tally.turned;
  late = tally.late;
}

-- how much more there is than before
abbrev pub more_counted : Counted → Counted → Counted
more_counted now before = record {
  deeds = now.deeds - before.deeds;
  refused = now.refused - before.refused;
  unserved = now.unserved - before.unserved;
  turned = more_than now.turned before.turned;
  late = now.late - before.late;
}
