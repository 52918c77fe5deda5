-- What was read so far is on record, after what was on it at first.
use Rattle.std.proofs.Common.{◌≡◌, ◌≤◌, ◌-◌, [], length, take}
use Rattle.linda_disk.specs.Past.{history_of}
use Rattle.linda_disk.proofs.file_state.read_rest.Given as goal

abbrev pub invariant-loop-at : goal.invariant-loop-at
invariant-loop-at l = record {
  calls : (history_of l.past.value).calls ≡ [];
  long : length (history_of l.past.value).first ≡ l.at;
  within : (l.from ≤ l.at) × (l.at ≤ l.len);
  front : take l.from (history_of l.past.value).first ≡ (history_of l.initial.past.value).first;
}

abbrev pub decreases-loop-at : goal.decreases-loop-at
decreases-loop-at l = l.len - l.at
