-- The clock of a call.
use Rattle.std.specs.Prelude.{◌≡◌, ℕ, ◌^◌, ◌-◌, ◌/◌, min, Bool, nat_le, refl}
use Rattle.linda_net_proxy.specs.declared.course.TheConstants as course

-- The ticks in so many nanoseconds: a tick is a millisecond, and there are at most 2^64 - 1.
abbrev pub ticks_in : ℕ → ℕ
ticks_in nanos = min (nanos / 1000000) (2 ^ 64 - 1)

-- Whether a server has had its time to answer its first Hello: ten seconds.
abbrev pub is_late : ℕ → Bool
is_late ticks = nat_le 10000 ticks

-- How often a server is greeted whose connection was lost, a millisecond apart: ten seconds too.
tries_after_a_loss : course.MAX_TRIES ≡ 10000
tries_after_a_loss = refl

-- How often one is greeted first for a client that goes on, while it says that the client has
-- another connection.
tries_of_a_client_that_goes_on : course.FIRST_TRIES ≡ 2000
tries_of_a_client_that_goes_on = refl
