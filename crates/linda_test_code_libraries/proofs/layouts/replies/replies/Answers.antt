use Rattle.std.proofs.Common.{refl}
use Rattle.linda_wire.specs.Frames.{length_field}
use Rattle.linda_test_code_libraries.proofs.layouts.replies.replies.Goals as goal

pub returns-clause-welcome : goal.returns-clause-welcome
unfolding length_field
returns-clause-welcome c = refl

pub returns-clause-stored : goal.returns-clause-stored
unfolding length_field
returns-clause-stored c = refl

pub returns-clause-offer : goal.returns-clause-offer
unfolding length_field
returns-clause-offer c = refl

pub returns-clause-read : goal.returns-clause-read
unfolding length_field
returns-clause-read c = refl

pub returns-clause-taken : goal.returns-clause-taken
unfolding length_field
returns-clause-taken c = refl

pub returns-clause-gone : goal.returns-clause-gone
unfolding length_field
returns-clause-gone c = refl

pub returns-clause-refused : goal.returns-clause-refused
unfolding length_field
returns-clause-refused c = refl

pub returns-clause-left : goal.returns-clause-left
unfolding length_field
returns-clause-left c = refl
