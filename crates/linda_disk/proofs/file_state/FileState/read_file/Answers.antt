-- What is known of a file that was read.
use Rattle.std.proofs.Common.{rules}
use Rattle.linda_disk.specs.Past.{history_of}
use Rattle.linda_disk.proofs.KnownLaws.{as_opened, first_read}
use Rattle.linda_disk.proofs.file_state.FileState.read_file.Goals as goal

pub invariant_of-result : goal.invariant_of-result
invariant_of-result c =
    let h = history_of c.read_rest.new.past.value in
    let rest = c.in_ok-read_rest.ensures in
    let opened = as_opened h rest.calls in
    let front = c.in_ok-front.front.items in
    record {
      begun = opened.1;
      long = search (rules, opened.0, rest.long);
      begins = search (rules, opened.0, first_read front h.first, rest.front, rest.long, c.first_of.ensures);
      kept = search (rules, opened.0, rest.front);
    }
