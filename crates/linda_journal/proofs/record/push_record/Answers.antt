-- The payload of a record is short enough for the number before it.
use Rattle.std.proofs.Common.{length, length-append, ap, ◌∙◌, [], ◌∷◌, arith}
use Rattle.linda_journal.specs.Records.{payload}
use Rattle.linda_journal.proofs.SizeLaws.{payload_short}
use Rattle.linda_journal.proofs.record.push_record.Goals as goal

pub set_length-requires-clause-short : goal.set_length-requires-clause-short
set_length-requires-clause-short c =
    let mid = c.extend_from_slice.new.self.items in
    let all = payload c.args.form c.args.deeds.now in
    let long = ap length c.in_ok-push_list.ensures.ok ∙ length-append mid all in
    let head = ap length c.in_ok-extend_from_slice.ensures.items ∙ length-append c.push.new.self.items (0 ∷ 0 ∷ 0 ∷ 0 ∷ []) in
    omega (arith, long, head, payload_short c.args.form c.args.deeds.now c.requires)
