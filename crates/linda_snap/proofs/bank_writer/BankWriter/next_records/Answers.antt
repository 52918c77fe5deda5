use Rattle.std.proofs.Common.{◌++◌, ◌∷◌, [], ◌∙◌, ap}
use Rattle.linda_journal.specs.declared.kinds.TheConstants.{CLOSED}
use Rattle.linda_snap.proofs.BankRecordLaws.{piece_written, completes}
use Rattle.linda_snap.proofs.bank_writer.BankWriter.next_records.Goals as goal

pub returns-then-left-most-clause-next : goal.returns-then-left-most-clause-next
returns-then-left-most-clause-next c front st follows =
    piece_written c.args.self.now c.mark_written.new.self c.one_at_least-most.result c.left-left.result.now c.split_at.result.0.now front
    c.extend_from_slice.new.self.items st c.requires.ended.0 c.requires.ended.1 follows
    c.left-left.ensures.left c.split_at.ensures.front c.split_at.ensures.front_len
    c.mark_written.ensures.0 c.mark_written.ensures.1
    (c.in_ok-extend_from_slice.ensures.items ∙ ap (λ l. l ++ c.split_at.result.0.now) c.new-bytes.ensures.items)

pub returns-clause-next : goal.returns-clause-next
returns-clause-next c front st follows =
    completes c.args.self.now c.left-left.result.now front c.push.new.self.items st c.requires.ended.0 c.requires.ended.1 follows c.left-left.ensures.left
    (c.in_ok-push.ensures.items ∙ ap (λ l. l ++ CLOSED ∷ []) (c.in_ok-extend_from_slice-2.ensures.items
    ∙ ap (λ l. l ++ c.left-left.result.now) c.new-bytes.ensures.items))
