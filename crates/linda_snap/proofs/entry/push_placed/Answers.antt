-- An id and a tuple have no more bytes than any.
use Rattle.std.proofs.Common.{ap, length, length-append, arith}
use Rattle.linda_codec.specs.Values as value
use Rattle.linda_codec.proofs.LengthLaws.{tuple_short}
use Rattle.linda_store_state.specs.DeedFormat.{written}
use Rattle.linda_snap.proofs.entry.push_placed.Goals as goal

pub returns-clause-short : goal.returns-clause-short
returns-clause-short c =
    omega (
      arith,
      ap length c.in_ok-push.ensures.ok,
      length-append c.extend_from_slice.new.self.items ((value.tuple written).spell c.args.tuple.now),
      ap length c.in_ok-extend_from_slice.ensures.items,
      length-append c.args.out.now.items c.to_be_bytes.result,
      ap length c.to_be_bytes.ensures,
      tuple_short written c.args.tuple.now c.fields-fields.ensures.within,
    )
