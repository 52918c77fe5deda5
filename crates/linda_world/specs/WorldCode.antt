-- Code of a world, for a model's value that holds one.
use Rattle.std.specs.Prelude.{Bool, refl}
use Rattle.std.specs.Coded.{Coded, code_by, coded×, coded_bool}
use Rattle.linda_world_laws.specs.World as run
use Rattle.linda_world.specs.Code.{world_code}
use Rattle.linda_world.specs.World.{World}

abbrev pub whole_code : Coded World
whole_code = code_by (run.World × Bool) (coded× world_code coded_bool)
    (λ w. (w.world, w.is_spent)) (λ p. record { world = p.0; is_spent = p.1 }) (λ _. refl)
