-- The format of deeds is lawful in each form, and how many bytes a deed spells.
use Rattle.std.proofs.Common.{◌≡◌, ℕ, ◌<◌, ◌≤◌, List, [], ◌∷◌, ◌++◌, length, Ok, refl, arith}
use Rattle.std.specs.Prelude.{IsOk}
use Rattle.linda_codec.specs.Formats.{made_at, no_kind}
use Rattle.linda_codec.specs.Lawful.{IsFormat}
use Rattle.linda_codec.proofs.FormatLaws.{short_number_is, number_is, both_is, body_is, made_again, no_kind_is, AreBodies, choice_is}
use Rattle.linda_codec.proofs.ValueLaws.{tuple_is}
use Rattle.linda_codec.proofs.LengthLaws.{tuple_short}
use Rattle.linda_tuple.specs.declared.form.Form.{Form}
use Rattle.linda_tuple.specs.declared.form.Form.TheVariants.{One, Two}
use Rattle.linda_store_state.specs.declared.deed.Deed.{Deed}
use Rattle.linda_store_state.specs.declared.deed.Deed.TheVariants.{Out, Take, Pass, Leave}
use Rattle.linda_store_state.specs.declared.kinds.TheConstants as kind
use Rattle.linda_store_state.specs.declared.limits.TheConstants.{MAX_DEED_BYTES}
use Rattle.linda_store_state.specs.DeedFormat as format

out_is : (form : Form) → IsFormat (format.out form)
out_is form = both_is short_number_is (both_is number_is (tuple_is form))

reference_is : IsFormat format.reference
reference_is = both_is short_number_is (both_is number_is number_is)

leave_is : IsFormat format.leave
leave_is = both_is short_number_is number_is

leave_bodies : (form : Form) → AreBodies (format.spell_deed form) (format.FitsDeed form) (format.leave_kinds form)
leave_bodies One = tt
leave_bodies Two = (body_is leave_is (format.spell_deed Two) (format.FitsDeed Two) (kind.LEAVE ∷ []) format.leave_of (λ p. refl) (λ p fits. (tt, fits)), tt)

deed_bodies : (form : Form) → AreBodies (format.spell_deed form) (format.FitsDeed form) (format.deed_kinds form)
deed_bodies form = (
  body_is (out_is form) (format.spell_deed form) (format.FitsDeed form) (kind.OUT ∷ []) (λ p. Out p.0 p.1.0 p.1.1) (λ p. refl) (λ p fits. fits),
  (
    body_is reference_is (format.spell_deed form) (format.FitsDeed form) (kind.TAKE ∷ []) (λ p. Take p.0 p.1.0 p.1.1) (λ p. refl) (λ p fits. fits),
    (
      body_is reference_is (format.spell_deed form) (format.FitsDeed form) (kind.PASS ∷ []) (λ p. Pass p.0 p.1.0 p.1.1) (λ p. refl) (λ p fits. fits),
      leave_bodies form,
    ),
  ),
)

deed_again : (form : Form) (d : Deed) (rest : List ℕ) → format.FitsDeed form d → (format.deed form).read (format.spell_deed form d ++ rest) ≡ Ok (d, rest)
deed_again form (Out client n tuple) rest fits = made_again (out_is form) (λ p. Out p.0 p.1.0 p.1.1) (client, (n, tuple)) rest fits
deed_again form (Take client n id) rest fits = made_again reference_is (λ p. Take p.0 p.1.0 p.1.1) (client, (n, id)) rest fits
deed_again form (Pass client n id) rest fits = made_again reference_is (λ p. Pass p.0 p.1.0 p.1.1) (client, (n, id)) rest fits
deed_again One (Leave client n) rest fits = absurd fits.0
deed_again Two (Leave client n) rest fits = made_again leave_is format.leave_of (client, n) rest fits.1

pub deed_is : (form : Form) → IsFormat (format.deed form)
deed_is form = choice_is (format.spell_deed form) (format.FitsDeed form) (format.deed_kinds form) no_kind
    (deed_bodies form) (no_kind_is (format.spell_deed form) (format.FitsDeed form)) (deed_again form)

-- ---- how many bytes

-- A deed spells some bytes,
pub deed_some : (form : Form) (d : Deed) → 0 < length (format.spell_deed form d)
deed_some form (Out client n tuple) = omega arith
deed_some form (Take client n id) = omega arith
deed_some form (Pass client n id) = omega arith
deed_some form (Leave client n) = omega arith

-- and no more than the longest one.
pub deed_short : (form : Form) (d : Deed) → format.FitsDeed form d → length (format.spell_deed form d) ≤ MAX_DEED_BYTES
deed_short form (Out client n tuple) fits = omega (arith, tuple_short form tuple fits.1.1)
deed_short form (Take client n id) fits = omega arith
deed_short form (Pass client n id) fits = omega arith
deed_short form (Leave client n) fits = omega arith

-- ---- a deed is there

-- What is read after each kind byte that both forms have.
module _ (form : Form) (bytes rest : List ℕ) where
  pub out_at : bytes ≡ kind.OUT ∷ rest → (format.deed form).read bytes ≡ made_at (λ p. Out p.0 p.1.0 p.1.1) (format.out form) rest
  out_at e = rw e refl

  pub take_at : bytes ≡ kind.TAKE ∷ rest → (format.deed form).read bytes ≡ made_at (λ p. Take p.0 p.1.0 p.1.1) format.reference rest
  take_at e = rw e refl

  pub pass_at : bytes ≡ kind.PASS ∷ rest → (format.deed form).read bytes ≡ made_at (λ p. Pass p.0 p.1.0 p.1.1) format.reference rest
  pass_at e = rw e refl

-- An Out is there, if its parts are after its kind byte.
pub out_there : (form : Form) (bytes rest : List ℕ) → bytes ≡ kind.OUT ∷ rest
    → IsOk (made_at (λ p. Out p.0 p.1.0 p.1.1) (format.out form) rest) → IsOk ((format.deed form).read bytes)
out_there form bytes rest e there = rw e there
