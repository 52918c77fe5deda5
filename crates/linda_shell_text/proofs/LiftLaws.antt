-- What a reading of a text below an event gave.
use Rattle.std.proofs.Common.{◌≡◌, Result, Ok, Err, ap}
use Rattle.linda_text.specs.declared.fault.TextFault.{TextFault}
use Rattle.linda_codec.proofs.TakeLaws.{ok_is}
use Rattle.linda_shell_text.specs.Steps.{lifted}

abbrev text_done : {A : Type 0} → A → Result A TextFault
text_done x = Ok x

-- A result that is no fault once it is lifted was no fault before.
pub lifted_ok : {A : Type 0} (read : Result A TextFault) (x : A) → lifted read ≡ Ok x → read ≡ Ok x
lifted_ok {A = A} (Ok y) x e = let same : y ≡ x = ok_is y x e in ap (text_done {A = A}) same
lifted_ok (Err fault) x e = absurd cc
