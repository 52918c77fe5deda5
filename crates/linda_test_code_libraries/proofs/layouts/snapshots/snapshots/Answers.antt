use Rattle.std.proofs.Common.{[], ◌∷◌, All, pos, codes, lit<, lit≤, rules}
use Rattle.std.proofs.lemmas.List.Elements.{All-nil, All-cons}
use Rattle.std.proofs.lemmas.Str.{IsUtf8-from_ascii, is_utf8-from_IsUtf8}
use Rattle.linda_tuple.specs.declared.atom.Atom.TheVariants.{Int}
use Rattle.linda_tuple.specs.declared.form.Form.{Form}
use Rattle.linda_tuple.specs.declared.form.Form.TheVariants.{One, Two}
use Rattle.linda_tuple.specs.Atom.{IsSoundIn}
use Rattle.linda_tuple.specs.Tuple.{FitsIn}
use Rattle.linda_snap.specs.Snapshot.{kept, listed, placed}
use Rattle.linda_test_code_libraries.specs.Examples.{next_id, row, tag_only}
use Rattle.linda_test_code_libraries.specs.States.{tuples, clients, first_client}
use Rattle.linda_test_code_libraries.proofs.SnapshotLaws.{only_snapshot}
use Rattle.linda_test_code_libraries.proofs.layouts.snapshots.snapshots.Goals as goal

fields_fit : (form : Form) → All (IsSoundIn form) row.fields
fields_fit form = All-cons (IsSoundIn form) (Int (pos 3)) [] (search rules) (All-nil (IsSoundIn form))

row_fits : (form : Form) → FitsIn form row
row_fits One = record { count = lit≤ tt; tag = (lit≤ tt, is_utf8-from_IsUtf8 _ (IsUtf8-from_ascii (codes "a") (search rules))); fields = fields_fit One }
row_fits Two = record { count = lit≤ tt; tag = (lit≤ tt, is_utf8-from_IsUtf8 _ (IsUtf8-from_ascii (codes "a") (search rules))); fields = fields_fit Two }

tag_fits : (form : Form) → FitsIn form tag_only
tag_fits One = record {
  count = lit≤ tt;
  tag = (lit≤ tt, is_utf8-from_IsUtf8 _ (IsUtf8-from_ascii (codes "b") (search rules)));
  fields = All-nil (IsSoundIn One);
}
tag_fits Two = record {
  count = lit≤ tt;
  tag = (lit≤ tt, is_utf8-from_IsUtf8 _ (IsUtf8-from_ascii (codes "b") (search rules)));
  fields = All-nil (IsSoundIn Two);
}

tuples_fit : (form : Form) → (listed (placed form)).Fits tuples
tuples_fit form =
    let Fits = (placed form).Fits in
    (lit< tt, All-cons Fits _ (_ ∷ []) (lit< tt, row_fits form) (All-cons Fits _ [] (lit< tt, tag_fits form) (All-nil Fits)))

pub returns-clause-snapshot : goal.returns-clause-snapshot
returns-clause-snapshot c =
    let Fits = (kept Two).Fits in
    let all : All Fits clients = All-cons Fits _ (_ ∷ _ ∷ []) (lit< tt, (lit< tt, lit< tt))
    (All-cons Fits _ (_ ∷ []) (lit< tt, (lit< tt, tt)) (All-cons Fits _ [] (lit< tt, (lit< tt, tt)) (All-nil Fits))) in
    only_snapshot Two next_id tuples clients record {
      rising = tt;
      clients_rising = tt;
      low = lit≤ tt;
      high = lit≤ tt;
      ids = ((lit≤ tt, lit< tt), ((lit≤ tt, lit< tt), tt));
      numbers = ((lit≤ tt, lit< tt), ((lit≤ tt, lit< tt), ((lit≤ tt, lit< tt), tt)));
      few = lit≤ tt;
    } (lit< tt, (tuples_fit Two, (lit< tt, all)))

pub returns-clause-snapshot_before : goal.returns-clause-snapshot_before
returns-clause-snapshot_before c =
    let Fits = (kept One).Fits in
    let all : All Fits (first_client ∷ []) = All-cons Fits first_client [] (lit< tt, (lit< tt, lit< tt)) (All-nil Fits) in
    only_snapshot One next_id tuples (first_client ∷ []) record {
      rising = tt;
      clients_rising = tt;
      low = lit≤ tt;
      high = lit≤ tt;
      ids = ((lit≤ tt, lit< tt), ((lit≤ tt, lit< tt), tt));
      numbers = ((lit≤ tt, lit< tt), tt);
      few = lit≤ tt;
    } (lit< tt, (tuples_fit One, (lit< tt, all)))
