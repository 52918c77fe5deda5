-- What is known after a write.
use Rattle.std.proofs.Common.{rules}
use Rattle.linda_disk.specs.DiskHistory.{content}
use Rattle.linda_disk.specs.DiskHistoryLaws.{length-overlay}
use Rattle.linda_disk.specs.FileState.{history}
use Rattle.linda_disk.proofs.KnownLaws.{first_written}
use Rattle.linda_disk.proofs.file_state.FileState.write.Goals as goal

pub invariant_of-self : goal.invariant_of-self
invariant_of-self c =
    let known = c.keep.new.self in
    let is = c.note_write.ensures in
    let file = content (history known) in
    let at = c.args.at in
    let bytes = c.args.bytes.now in
    let within = c.requires in
    record {
      begun = search (rules, is, known.begun, within, c.keep.ensures.same);
      long = search (rules, is, known.long, length-overlay at bytes file, within, c.keep.ensures.same);
      begins = search (
        rules,
        is,
        c.first_of-self.ensures,
        first_written known.first at bytes file,
        within,
        known.begins,
        c.keep.ensures.same,
      );
      kept = search (rules, c.keep.ensures.none);
    }
