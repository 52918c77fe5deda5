-- Constants of the formats and of their limits, each with the value that no row of text shows.
use Rattle.std.specs.Prelude.{◌≡◌, ◌^◌, refl}
use Rattle.linda_store_state.specs.declared.limits.TheConstants as state
use Rattle.linda_store_step.specs.declared.size.TheConstants as step
use Rattle.linda_journal.specs.declared.limits.TheConstants as journal
use Rattle.linda_server.specs.declared.limits.TheConstants as server
use Rattle.linda_shared_accounts.specs.declared.limits.TheConstants as receipt
use Rattle.linda_shared_held.specs.declared.limits.TheConstants as locked
use Rattle.linda_shared.specs.declared.worker.TheConstants as shared

-- the most deeds of a record
deeds_of_a_record : state.MAX_DEEDS ≡ 64
deeds_of_a_record = refl

-- the most records that come onto a bank at once
records_at_once : journal.MAX_RECORDS ≡ 64
records_at_once = refl

-- the most messages of a batch, and of a group
messages_of_a_batch : step.MAX_BATCH ≡ 64
messages_of_a_batch = refl

messages_of_a_group : step.MAX_GROUP ≡ 1024
messages_of_a_group = refl

-- records, and bytes of them (32 MiB), that ask for a snapshot
records_before_a_snapshot : server.SNAPSHOT_RECORDS ≡ 1024
records_before_a_snapshot = refl

bytes_before_a_snapshot : locked.SNAPSHOT_BYTES ≡ 33554432
bytes_before_a_snapshot = refl

-- the receipts that a session keeps, and its messages that may be on their way at once
receipts_of_a_session : receipt.RING_SIZE ≡ 256
receipts_of_a_session = refl

messages_on_their_way : receipt.MOST_ASKED ≡ 64
messages_on_their_way = refl

-- the parts of the ledger, and those of one account
parts_of_the_ledger : receipt.PARTS ≡ 2 ^ 40
parts_of_the_ledger = refl

parts_of_an_account : receipt.ACCOUNT_PARTS ≡ 65
parts_of_an_account = refl

-- the turns, a millisecond each, after which a worker at a gate that stays shut is stuck
turns_of_a_gate : shared.MOST_TURNS ≡ 10000
turns_of_a_gate = refl
