use Rattle.std.proofs.Common.{rules}
use Rattle.std.proofs.lemmas.List.Sorted.{IsNonDecreasingBy-from_sort_by_key}
use Rattle.std.proofs.lemmas.Result.{on_ok_weaker}
use Rattle.linda_status.specs.Tags.{to_go}
use Rattle.linda_status.proofs.tags.put_most_first.Goals as goal

pub returns-clause-sorted : goal.returns-clause-sorted
returns-clause-sorted c =
    on_ok_weaker c.sort_by_key.result (λ sorted. IsNonDecreasingBy-from_sort_by_key to_go _ sorted (λ a r f' called. search rules)) c.sort_by_key.ensures.sorted
