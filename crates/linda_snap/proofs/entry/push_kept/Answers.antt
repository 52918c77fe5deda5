-- A client with what is kept for it has no more bytes than any.
use Rattle.std.proofs.Common.{ap, length, length-append, arith}
use Rattle.linda_store_state.specs.DeedFormat.{written}
use Rattle.linda_snap.specs.Snapshot.{reply}
use Rattle.linda_snap.proofs.EntryLaws.{reply_short}
use Rattle.linda_snap.proofs.entry.push_kept.Goals as goal

pub returns-clause-short : goal.returns-clause-short
returns-clause-short c =
    omega (
      arith,
      ap length c.in_ok-push_reply.ensures.ok,
      length-append c.extend_from_slice-2.new.self.items ((reply written).spell c.args.reply.now),
      ap length c.in_ok-extend_from_slice-2.ensures.items,
      length-append c.extend_from_slice.new.self.items c.to_be_bytes-2.result,
      ap length c.to_be_bytes-2.ensures,
      ap length c.in_ok-extend_from_slice.ensures.items,
      length-append c.args.out.now.items c.to_be_bytes.result,
      ap length c.to_be_bytes.ensures,
      reply_short c.args.reply.now c.in_ok-push_reply.ensures.fits,
    )
