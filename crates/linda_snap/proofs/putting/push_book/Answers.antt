use Rattle.std.proofs.Common.{◌<◌, ◌^◌, ap, ◌∙◌, subst, sym}
use Rattle.std.specs.FinMap.{len-entries}
use Rattle.linda_store_state.specs.DeedFormat.{written}
use Rattle.linda_codec.specs.Formats.{short_number}
use Rattle.linda_snap.specs.Snapshot as format
use Rattle.linda_snap.proofs.PuttingLaws.{none_put}
use Rattle.linda_snap.proofs.putting.push_book.Goals as goal

pub push_count-requires : goal.push_count-requires
push_count-requires c = subst (λ n. n < 2 ^ 32) (sym (c.len.ensures ∙ len-entries c.args.book.now)) c.requires

pub loop-client-init : goal.loop-client-init
loop-client-init c =
    none_put (format.kept written) c.args.book.now c.args.out.now.items c.push_count.new.out.items (short_number.spell c.len.result)
    (ap short_number.spell (c.len.ensures ∙ len-entries c.args.book.now)) c.in_ok-push_count.ensures
