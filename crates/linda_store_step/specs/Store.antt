-- A store as contracts see it.
use Rattle.std.specs.Prelude.{◌≡◌, ℕ, Bool, false, refl}
use Rattle.std.specs.Coded.{Coded, code_by, coded×, coded_bool}
use Rattle.linda_store_state.specs.State.{State, IsState}
use Rattle.linda_store_step.specs.Soft.{Soft, IsSoft, OfAsking}
use Rattle.linda_store_step.specs.Looking.{IsAtRest}
use Rattle.linda_store_step.specs.Answer.{has_left}
use Rattle.linda_store_state.specs.Codes.{state_code}
use Rattle.linda_store_step.specs.Codes.{soft_code}

-- The client has not left.
abbrev pub IsHere : State → ℕ → Type 0
IsHere st c = has_left st c ≡ false

-- What every store keeps: its state, its holds and its waits are in their ranges, nobody waits in
-- vain, and no client that left holds anything or waits.
pub record IsOrderly (st : State) (soft : Soft) : Type 0 where
  pub state_is : IsState st
  pub soft_is : IsSoft st.bag soft
  pub rest : IsAtRest st.bag soft
  pub present : OfAsking (IsHere st) soft

-- The state of a server, what it holds and lets wait, and whether memory ran out in the store,
-- after which it does nothing more.
pub record Store : Type 0 where
  pub state : State
  pub soft : Soft
  pub is_spent : Bool

-- the code of a store
abbrev pub store_code : Coded Store
store_code =
    code_by (State × (Soft × Bool)) (coded× state_code (coded× soft_code coded_bool))
    (λ s. (s.state, (s.soft, s.is_spent)))
    (λ p. record { state = p.0; soft = p.1.0; is_spent = p.1.1 }) (λ _. refl)
