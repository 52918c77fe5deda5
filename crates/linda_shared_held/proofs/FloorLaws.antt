-- Numbers that are remembered for clients.
use Rattle.std.proofs.Common.{◌≡◌, ℕ, Bool, ◌==◌, true, false, cond, Option, Some, None, IfSome, sym, ap, subst, ◌∙◌, nat_cmp}
use Rattle.std.specs.BTreeMap as tree
use Rattle.std.specs.FinMap.{empty, get}
use Rattle.linda_map_laws.proofs.MapLaws.{get_empty, get_is_lookup, get_removed}
use Rattle.linda_store_state.specs.State.{State}
use Rattle.linda_store_step.specs.Answer.{last_number}
use Rattle.linda_shared_accounts.specs.Recall.{AreKept}
use Rattle.linda_shared_held.specs.declared.held.recall.Recall.{Recall}
use Rattle.linda_shared_held.specs.Recall.{floors_of, floor_in, floor_of, IsTaken, Remembers}

-- The number that comes out of a removal is the one that was remembered.
pub floor_taken : (recall : Recall) (client number : ℕ) → tree.get nat_cmp recall.floors client ≡ Some number → number ≡ floor_of recall client
floor_taken recall client number there = sym (ap floor_in (get_is_lookup recall.floors client ∙ there))

pub no_floor : (recall : Recall) (client : ℕ) → tree.get nat_cmp recall.floors client ≡ None → 0 ≡ floor_of recall client
no_floor recall client none = sym (ap floor_in (get_is_lookup recall.floors client ∙ none))

-- Nothing is remembered.
pub remembers_none : (st : State) (recall : Recall) → floors_of recall ≡ empty → Remembers st recall
remembers_none st recall none c =
    subst (λ (o : Option ℕ). IfSome o (λ number. number ≡ last_number st c)) (sym (ap (λ m. get m c) none ∙ get_empty c)) tt

-- What the book keeps is remembered.
pub remembers_kept : (st : State) (recall : Recall) → AreKept st recall.floors → Remembers st recall
remembers_kept st recall kept c =
    subst (λ (o : Option ℕ). IfSome o (λ number. number ≡ last_number st c)) (sym (get_is_lookup recall.floors c)) (kept c)

-- Less is remembered.
still_there : (b : Bool) (o : Option ℕ) (P : ℕ → Type 0) → IfSome o P → IfSome (cond b None o) P
still_there true o P all = tt
still_there false o P all = all

pub remembers_less : (st : State) (old new : Recall) (client : ℕ) → IsTaken old client new → Remembers st old → Remembers st new
remembers_less st old new client taken all c =
    let at : get (floors_of new) c ≡ cond (c == client) None (get (floors_of old) c) = ap (λ m. get m c) taken ∙ get_removed (floors_of old) client c in
    subst (λ (o : Option ℕ). IfSome o (λ number. number ≡ last_number st c)) (sym at)
    (still_there (c == client) (get (floors_of old) c) (λ number. number ≡ last_number st c) (all c))
