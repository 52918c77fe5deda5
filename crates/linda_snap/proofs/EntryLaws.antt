-- How many bytes an entry of a snapshot has at most.
use Rattle.std.proofs.Common.{◌≤◌, ℕ, ◌+◌, length, length-append, arith}
use Rattle.linda_tuple.specs.Tuple.{Tuple}
use Rattle.linda_codec.specs.declared.limits.TheConstants.{MAX_TUPLE_BYTES, NUMBER_BYTES, KIND_BYTES}
use Rattle.linda_codec.specs.Formats.{number}
use Rattle.linda_codec.specs.Values as value
use Rattle.linda_codec.proofs.LengthLaws.{tuple_short}
use Rattle.linda_book.specs.declared.kept_reply.KeptReply.{KeptReply}
use Rattle.linda_book.specs.declared.kept_reply.KeptReply.TheVariants.{Stored, Taken, Gone, Left}
use Rattle.linda_store_state.specs.DeedFormat.{written}
use Rattle.linda_snap.specs.declared.entry.TheConstants.{MAX_PLACED_BYTES}
use Rattle.linda_snap.specs.Snapshot.{placed, reply}

pub placed_short : (e : ℕ × Tuple) → (placed written).Fits e → length ((placed written).spell e) ≤ MAX_PLACED_BYTES
placed_short e fits = omega (arith, tuple_short written e.1 fits.1, length-append (number.spell e.0) ((value.tuple written).spell e.1))

pub reply_short : (r : KeptReply) → (reply written).Fits r → length ((reply written).spell r) ≤ KIND_BYTES + (NUMBER_BYTES + MAX_TUPLE_BYTES)
reply_short (Stored id) fits = omega arith
reply_short (Taken id tuple) fits = omega (arith, placed_short (id, tuple) fits)
reply_short Gone fits = omega arith
reply_short Left fits = omega arith
