-- The keys of a hash.
use Rattle.std.specs.declared.hash.DefaultHasher.{DefaultHasher}
use Rattle.std.specs.Hash.DefaultHasher.{initial}
use Rattle.std.specs.RandomState.{initial_hasher}
use Rattle.linda_hold.specs.declared.keys.Keys.{Keys}
use Rattle.linda_hold.specs.declared.keys.Keys.TheVariants as keys

-- the state of the hasher before the first byte
abbrev pub first_state : Keys → DefaultHasher
first_state keys.Fixed = initial
first_state (keys.Random chosen) = initial_hasher chosen
