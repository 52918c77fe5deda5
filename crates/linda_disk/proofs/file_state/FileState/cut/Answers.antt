-- What is known after a cut.
use Rattle.std.proofs.Common.{rules, ap, ◌∙◌, length-take}
use Rattle.linda_disk.specs.DiskHistory.{content, fits}
use Rattle.linda_disk.specs.FileState.{history}
use Rattle.linda_disk.proofs.KnownLaws.{first_cut}
use Rattle.linda_disk.proofs.file_state.FileState.cut.Goals as goal

pub invariant_of-self : goal.invariant_of-self
invariant_of-self c =
    let known = c.keep.new.self in
    let is = c.note_cut.ensures in
    record {
      begun = ap fits is ∙ known.begun;
      long = search (rules, is, known.long, length-take c.args.len (content (history known)));
      begins = search (rules, is, first_cut known.first c.args.len (content (history known)) known.begins);
      kept = search (rules, c.keep.ensures.none);
    }
