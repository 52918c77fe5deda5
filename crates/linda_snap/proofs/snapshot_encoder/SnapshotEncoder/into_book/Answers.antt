use Rattle.linda_snap.proofs.SnapshotWriterLaws.{all_tuples}
use Rattle.linda_snap.proofs.snapshot_encoder.SnapshotEncoder.into_book.Goals as goal

pub returns-clause-tuples : goal.returns-clause-tuples
returns-clause-tuples c begun bytes now owes through short = all_tuples begun c.args.self bytes now owes through short
