use Rattle.std.proofs.Common.{ap}
use Rattle.linda_hold.specs.FirstValueIndex.{is_met}
use Rattle.linda_hold.specs.TagIndex as tag_index
use Rattle.linda_hold.proofs.wait_candidates.next_from.Goals as goal

pub returns-in-Some : goal.returns-in-Some
returns-in-Some c = rw c.in-Some.is (λ asked known. rw c.fields.ensures.value at (c.next_from.ensures (tag_index.alike c.args.tuple.now asked) known.0))

pub returns-in-None : goal.returns-in-None
returns-in-None c = rw c.in-None.is (λ asked bare k above. ap (is_met c.args.tuple.now.fields) (bare k))
