-- The state of a server that was never used keeps the ranges of states.
use Rattle.std.proofs.Common.{◌<◌, ◌≤◌, IfSome, sym, subst, nat_cmp, arith}
use Rattle.std.specs.FinMap.{len-empty}
use Rattle.linda_wire.specs.declared.limits.TheConstants.{MAX_CLIENTS}
use Rattle.linda_wire.specs.declared.limits.TheConstants.{NUMBER_LIMIT}
use Rattle.linda_tuple.specs.Tuple.{Tuple}
use Rattle.linda_map_laws.proofs.MapLaws.{get_empty}
use Rattle.linda_book.specs.Entries.{Entry}
use Rattle.linda_store_state.specs.State.{IsState, empty_state}

pub empty_is_state : IsState empty_state
empty_is_state =
    record {
      next_low = omega arith;
      next_high = omega arith;
      ids = λ id. subst (λ o. IfSome o (λ (_ : Tuple). (1 ≤ id) × (id < 1))) (sym (get_empty id)) tt;
      numbers = λ c. subst (λ o. IfSome o (λ (e : Entry). (1 ≤ e.0) × (e.0 < NUMBER_LIMIT))) (sym (get_empty c)) tt;
      clients = subst (λ n. n ≤ MAX_CLIENTS) (sym (len-empty nat_cmp Entry)) (omega arith);
    }
