-- The sizes of the deeds of one record, which fit the length before them.
use Rattle.std.proofs.Common.{◌*◌, ◌^◌, ◌<◌, ◌≤◌, List, [], ◌∷◌, length, arith, length-append}
use Rattle.std.specs.List.{AllByRecursion}
use Rattle.std.proofs.lemmas.List.Elements.{recursion_from_All}
use Rattle.linda_tuple.specs.declared.form.Form.{Form}
use Rattle.linda_store_state.specs.declared.deed.Deed.{Deed}
use Rattle.linda_store_state.specs.declared.limits.TheConstants.{MAX_DEED_BYTES}
use Rattle.linda_store_state.proofs.DeedFormatLaws.{deed_short}
use Rattle.linda_journal.specs.Records.{spell_deed, FitsDeed, payload, IsRecord}

deeds_short : (form : Form) (ds : List Deed) → AllByRecursion (FitsDeed form) ds → length (payload form ds) ≤ MAX_DEED_BYTES * length ds
deeds_short form [] fits = omega arith
deeds_short form (d ∷ ds) fits = omega (arith, deed_short form d fits.0, deeds_short form ds fits.1, length-append (spell_deed form d) (payload form ds))

-- The length of a record's payload is a number of four bytes.
pub payload_short : (form : Form) (ds : List Deed) → IsRecord form ds → length (payload form ds) < 2 ^ 32
payload_short form ds is = omega (arith, deeds_short form ds (recursion_from_All (FitsDeed form) ds is.fits), is.few)
