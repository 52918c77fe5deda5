use Rattle.std.proofs.Common.{List, subst}
use Rattle.std.specs.List.Sorted.{IsPermutation}
use Rattle.linda_shared_listing.specs.declared.kinds.ListedKind.{ListedKind}
use Rattle.linda_status.proofs.tags.keep_most.Goals as goal

pub returns-clause-most : goal.returns-clause-most
returns-clause-most c = record {
  sorted = c.put_most_first.new.rows.items;
  same = subst (λ (rs : List ListedKind). IsPermutation rs c.put_most_first.new.rows.items) c.in_ok-append.ensures.items c.in_ok-put_most_first.ensures.same;
  most = c.in_ok-put_most_first.ensures.sorted;
  first = c.truncate.ensures.items;
}
