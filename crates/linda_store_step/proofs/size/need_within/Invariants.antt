use Rattle.std.proofs.Common.{◌≡◌, ◌↔◌, ◌+◌, ◌*◌, ◌≤◌, ◌<◌, take, drop, length}
use Rattle.linda_wire.specs.declared.limits.TheConstants.{MAX_CLIENTS}
use Rattle.linda_store_state.specs.declared.limits.TheConstants.{MAX_DEED_BYTES}
use Rattle.linda_wire.specs.declared.limits.TheConstants.{NUMBER_LIMIT}
use Rattle.linda_store_step.specs.Size.{bytes_from, count_from, numbers_of, AllSuit, AreMarked}
use Rattle.linda_store_step.proofs.SizeLaws.{numbers_behind}
use Rattle.linda_store_step.proofs.size.need_within.Given as goal

-- What was counted, together with what the others will spell from these numbers on, is what all spell; and all suit exactly if the others do.
abbrev pub invariant-loop-client : goal.invariant-loop-client
invariant-loop-client g l = record {
  all : bytes_from l.fn.form (numbers_of l.fn.state) l.messages ≡ l.bytes + bytes_from l.fn.form
      (numbers_behind l.fn.state (take l.count l.lasts) l.clients l.next) (drop l.client-index l.messages);
  counted : count_from (numbers_of l.fn.state) l.messages ≡ l.count + count_from
      (numbers_behind l.fn.state (take l.count l.lasts) l.clients l.next) (drop l.client-index l.messages);
  suit : AllSuit l.fn.form (numbers_of l.fn.state) l.messages ↔ AllSuit l.fn.form
      (numbers_behind l.fn.state (take l.count l.lasts) l.clients l.next) (drop l.client-index l.messages);
  count_few : l.count ≤ l.client-index;
  clients_few : l.clients ≤ MAX_CLIENTS;
  next_low : l.next ≤ NUMBER_LIMIT;
  bytes_few : l.bytes ≤ MAX_DEED_BYTES * l.client-index;
  places : 0 < length l.met;
  marked : AreMarked l.met (take l.count l.lasts);
}
