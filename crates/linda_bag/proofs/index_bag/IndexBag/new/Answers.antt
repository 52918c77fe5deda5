use Rattle.std.proofs.Common.{sym, ap, subst, ◌∙◌}
use Rattle.std.specs.FinMap.{get}
use Rattle.linda_map_laws.proofs.MapLaws.{get_empty}
use Rattle.linda_bag.specs.Bytes.{bytes_of}
use Rattle.linda_bag.proofs.BytesLaws.{no_bytes}
use Rattle.linda_bag.proofs.PlaceLaws.{HasIndex}
use Rattle.linda_bag.proofs.index_bag.IndexBag.new.Goals as goal

pub invariant_of-result : goal.invariant_of-result
invariant_of-result c = (
  subst (HasIndex c.empty.result) (λ j. λ q. sym (ap (λ m. get m q) c.new.ensures ∙ get_empty q) j) c.empty.ensures,
  sym (ap bytes_of c.new.ensures ∙ no_bytes),
)
