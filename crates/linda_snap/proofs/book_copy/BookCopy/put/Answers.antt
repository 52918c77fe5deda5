use Rattle.std.proofs.Common.{ap, ◌∙◌, arith}
use Rattle.std.specs.FinMap.{insert}
use Rattle.linda_snap.specs.Snapshot.{clients_bytes}
use Rattle.linda_snap.proofs.BookCopyLaws.{put_bytes}
use Rattle.linda_snap.proofs.book_copy.BookCopy.put.Goals as goal

pub invariant_of-self-2 : goal.invariant_of-self-2
invariant_of-self-2 c =
    let s = c.args.self.now in
    let is = ap clients_bytes (c.in-Ok-keep.ensures.ok ∙ ap (λ r. insert s.book c.args.client (c.args.n, r)) c.in-Ok.ensures.ok) in
    record {
      counted = omega (
        arith,
        is,
        put_bytes s.book c.args.client (c.args.n, c.args.reply.now),
        s.counted,
        c.in_ok-more.ensures,
        c.kept_len.ensures.exact,
        c.len_at.ensures,
      );
    }

pub overflow_sub-bytes : goal.overflow_sub-bytes
overflow_sub-bytes c =
    let s = c.args.self.now in
    omega (arith, put_bytes s.book c.args.client (c.args.n, c.args.reply.now), s.counted, c.in_ok-more.ensures, c.kept_len.ensures.exact, c.len_at.ensures)
