use Rattle.std.proofs.Common.{refl}
use Rattle.linda_wire.specs.Frames.{length_field}
use Rattle.linda_test_code_libraries.proofs.layouts.messages.messages.Goals as goal

pub returns-clause-hello : goal.returns-clause-hello
unfolding length_field
returns-clause-hello c = refl

pub returns-clause-out : goal.returns-clause-out
unfolding length_field
returns-clause-out c = refl

pub returns-clause-ask : goal.returns-clause-ask
unfolding length_field
returns-clause-ask c = refl

pub returns-clause-accept : goal.returns-clause-accept
unfolding length_field
returns-clause-accept c = refl

pub returns-clause-cancel : goal.returns-clause-cancel
unfolding length_field
returns-clause-cancel c = refl

pub returns-clause-leave : goal.returns-clause-leave
unfolding length_field
returns-clause-leave c = refl
