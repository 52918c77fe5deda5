-- Code of holds and waits, for a model's value that holds them.
use Rattle.std.specs.Prelude.{List, refl}
use Rattle.std.specs.Coded.{Coded, code_by, coded×, coded_ℕ, coded_list}
use Rattle.std.specs.FinMap as map
use Rattle.linda_hold.specs.Request.{request_code}
use Rattle.linda_hold.specs.Waits.{Wait}
use Rattle.linda_hold.specs.Holds.{HeldFor}
use Rattle.linda_hold.specs.Codes.{wait_code}
use Rattle.linda_store_step.specs.Soft.{Soft}

-- the code of holds and waits
abbrev pub soft_code : Coded Soft
soft_code =
    code_by (HeldFor × List Wait) (coded× (map.code coded_ℕ request_code) (coded_list wait_code))
    (λ s. (s.holds, s.waits)) (λ p. record { holds = p.0; waits = p.1 }) (λ _. refl)
