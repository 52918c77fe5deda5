-- Code of a wait, for a model's value that holds one.
use Rattle.std.specs.Prelude.{Bool, refl}
use Rattle.std.specs.Coded.{Coded, code_by, coded×, coded_bool}
use Rattle.linda_tuple.specs.Template.{Template}
use Rattle.linda_tuple.specs.Codes.{template_code}
use Rattle.linda_hold.specs.Request.{request_code}
use Rattle.linda_hold.specs.declared.asked.Asked.{Asked}
use Rattle.linda_hold.specs.Waits.{Wait}

-- the code of what is asked
abbrev pub asked_code : Coded Asked
asked_code =
    code_by (Bool × Template) (coded× coded_bool template_code) (λ a. (a.remove, a.template))
    (λ p. record { remove = p.0; template = p.1 }) (λ _. refl)

-- the code of a wait
abbrev pub wait_code : Coded Wait
wait_code = coded× request_code asked_code
