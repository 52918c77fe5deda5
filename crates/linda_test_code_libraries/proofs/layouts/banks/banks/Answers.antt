use Rattle.std.proofs.Common.{[], lit<, lit≤, refl}
use Rattle.std.proofs.lemmas.List.Elements.{All-nil}
use Rattle.linda_tuple.specs.declared.form.Form.TheVariants.{One, Two}
use Rattle.linda_store_state.specs.declared.deed.Deed.TheVariants as deed
use Rattle.linda_journal.specs.Records.{IsRecord}
use Rattle.linda_test_code_libraries.specs.Examples.{body, generation, later_client, later_id, later_number}
use Rattle.linda_test_code_libraries.proofs.OnlyLaws.{only_bank, one_deed, one_record, closed_journal}
use Rattle.linda_test_code_libraries.proofs.layouts.banks.banks.Goals as goal

pub returns-clause-none : goal.returns-clause-none
returns-clause-none c =
    only_bank Two generation body [] _ record {
      low = lit≤ tt;
      fits = lit< tt;
      short = lit< tt;
      rest =
          _;
      parts = refl;
      journal = closed_journal Two [] (All-nil (IsRecord Two));
    }

pub returns-clause-none_before : goal.returns-clause-none_before
returns-clause-none_before c =
    only_bank One generation body [] _ record {
      low = lit≤ tt;
      fits = lit< tt;
      short = lit< tt;
      rest =
          _;
      parts = refl;
      journal = closed_journal One [] (All-nil (IsRecord One));
    }

pub returns-clause-one : goal.returns-clause-one
returns-clause-one c =
    let leave = one_deed Two (deed.Leave later_client later_number) (tt, (lit< tt, lit< tt)) in
    only_bank Two generation body _ _ record {
      low = lit≤ tt;
      fits = lit< tt;
      short = lit< tt;
      rest =
          _;
      parts = refl;
      journal = closed_journal Two _ (one_record Two _ leave);
    }

pub returns-clause-one_before : goal.returns-clause-one_before
returns-clause-one_before c =
    let take = one_deed One (deed.Take later_client later_number later_id) (lit< tt, (lit< tt, lit< tt)) in
    only_bank One generation body _ _ record {
      low = lit≤ tt;
      fits = lit< tt;
      short = lit< tt;
      rest =
          _;
      parts = refl;
      journal = closed_journal One _ (one_record One _ take);
    }
