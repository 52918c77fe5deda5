use Rattle.std.proofs.Common.{◌<◌, ◌^◌, ◌++◌, ap, ◌∙◌, length, subst, sym}
use Rattle.std.specs.FinMap.{entries}
use Rattle.linda_store_state.specs.DeedFormat.{written}
use Rattle.linda_codec.specs.Formats.{number}
use Rattle.linda_store_state.specs.State.{State}
use Rattle.linda_snap.specs.Snapshot as format
use Rattle.linda_snap.specs.Snapshot.{listed}
use Rattle.linda_snap.proofs.PuttingLaws.{few_tuples, few_clients, put_in_row}
use Rattle.linda_snap.proofs.putting.put_state.Goals as goal

pub push_tuples-requires-clause-short : goal.push_tuples-requires-clause-short
push_tuples-requires-clause-short g c = few_tuples c.args.state.now c.requires.short

pub push_book-requires : goal.push_book-requires
push_book-requires g c = subst (λ b. length (entries b) < 2 ^ 32) (sym (ap (λ (s : State). s.book) c.state.view_is))
    (few_clients c.args.state.now c.requires.short)

pub returns-clause-ok : goal.returns-clause-ok
returns-clause-ok g c =
    let st = c.args.state.now in
    let last = c.in_ok-push_book.ensures.ok
    ∙ ap (λ b. c.push_tuples.new.out.items ++ (listed (format.kept written)).spell (entries b)) (ap (λ (s : State). s.book) c.state.view_is) in
    put_in_row c.args.out.now.items (number.spell st.next) ((listed (format.placed written)).spell (entries st.bag))
    ((listed (format.kept written)).spell (entries st.book)) c.extend_from_slice.new.self.items c.push_tuples.new.out.items c.push_book.new.out.items
    (c.in_ok-extend_from_slice.ensures.items
    ∙ ap (λ b. c.args.out.now.items ++ b) (c.to_be_bytes.ensures ∙ ap (λ (s : State). number.spell s.next) c.state.view_is))
    c.in_ok-push_tuples.ensures.ok last
