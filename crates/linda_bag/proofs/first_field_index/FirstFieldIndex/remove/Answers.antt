use Rattle.std.proofs.Common.{refl}
use Rattle.linda_bag.specs.Ints.{ids_at}
use Rattle.linda_bag.specs.FirstFieldIndex.{int_of, other_of}
use Rattle.linda_bag.proofs.FilingLaws.{refiled_as, refound_as}
use Rattle.linda_bag.proofs.first_field_index.FirstFieldIndex.remove.Goals as goal

pub returns : goal.returns
returns g c = λ rows there known. (
  refound_as _ _ (int_of g.R.Tagged.first_of) (ids_at c.args.self.now.ints)
      (ids_at c.unfile_if_any.new.sets) _ _ _ _ _ c.int_place.ensures refl c.unfile_if_any.ensures rows there known.0,
  refiled_as _ _ (other_of g.R.Tagged.first_of) c.args.self.now.others c.unfile_if_any-2.new.id_indexes
      _ _ _ _ _ c.other_place.ensures refl c.unfile_if_any-2.ensures rows there known.1,
)
