-- The id from which the next page goes on is written, and then the tuples.
use Rattle.std.proofs.Common.{◌≡◌, ◌++◌, codes, subst, OnOk}
use Rattle.linda_status.specs.Listed.{json_tuple_page, json_begun, json_rows_to_end}
use Rattle.linda_status.proofs.ListedLaws.{then_pushed}
use Rattle.linda_status.proofs.listed.push_tuple_page.Goals as goal

pub returns : goal.returns
unfolding json_tuple_page
returns c =
    let mid = c.push_begin.new.out.items in
    let new = c.push_rows_to_end.new.out.items in
    let page = c.args.page.now in
    then_pushed c.push_rows_to_end.result c.args.out.now.items mid new
    (json_begun page.next (codes ",\n\"tuples\":[")) (json_rows_to_end page.rows.items)
    c.in_ok-push_begin.ensures
    (subst (λ rows. OnOk c.push_rows_to_end.result (new ≡ mid ++ json_rows_to_end rows)) c.deref.ensures.value c.push_rows_to_end.ensures)
