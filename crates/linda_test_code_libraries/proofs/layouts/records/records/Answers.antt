use Rattle.std.proofs.Common.{lit<, refl}
use Rattle.linda_tuple.specs.declared.form.Form.TheVariants.{One, Two}
use Rattle.linda_store_state.specs.declared.deed.Deed.TheVariants as deed
use Rattle.linda_test_code_libraries.specs.Examples.{client, id, later_client, later_id, later_number, number}
use Rattle.linda_test_code_libraries.proofs.OnlyLaws.{only_journal, only_append, one_deed, two_deeds, two_records, closed_journal}
use Rattle.linda_test_code_libraries.proofs.layouts.records.records.Goals as goal

pub returns-clause-journal : goal.returns-clause-journal
returns-clause-journal c =
    let first = one_deed Two (deed.Pass client number id) (lit< tt, (lit< tt, lit< tt)) in
    let second = one_deed Two (deed.Leave later_client later_number) (tt, (lit< tt, lit< tt)) in
    only_journal Two _ _ (closed_journal Two _ (two_records Two _ _ first second))

pub returns-clause-journal_before : goal.returns-clause-journal_before
returns-clause-journal_before c =
    let first = one_deed One (deed.Pass client number id) (lit< tt, (lit< tt, lit< tt)) in
    let second = one_deed One (deed.Take later_client later_number later_id) (lit< tt, (lit< tt, lit< tt)) in
    only_journal One _ _ (closed_journal One _ (two_records One _ _ first second))

pub returns-clause-append : goal.returns-clause-append
returns-clause-append c =
    only_append Two _ refl (two_deeds Two (deed.Pass client number id) (deed.Leave later_client later_number)
    (lit< tt, (lit< tt, lit< tt)) (tt, (lit< tt, lit< tt)))

pub returns-clause-append_before : goal.returns-clause-append_before
returns-clause-append_before c =
    only_append One _ refl (two_deeds One (deed.Pass client number id) (deed.Take later_client later_number later_id)
    (lit< tt, (lit< tt, lit< tt)) (lit< tt, (lit< tt, lit< tt)))
