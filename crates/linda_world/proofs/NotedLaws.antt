-- Each client's last number is noted, deed by deed.
use Rattle.std.proofs.Common.{◌≡◌, ℕ, ◌+◌, ◌-◌, ◌<◌, List, ◌++◌, length, take, get_or, inl, inr, sym, ap, ◌∙◌, subst, arith}
use Rattle.std.proofs.lemmas.Bool.{cases_eq}
use Rattle.std.proofs.lemmas.List.{take-append-le, take_all}
use Rattle.std.specs.FinMap.{empty, get, insert}
use Rattle.linda_map_laws.proofs.MapLaws.{get_same, get_other, get_empty}
use Rattle.linda_store_state.specs.declared.deed.Deed.{Deed}
use Rattle.linda_store_state.specs.Deed.{client_of, number_of}
use Rattle.linda_store_step.specs.Deeds.{last_in}
use Rattle.linda_store_step.proofs.LastLaws.{last_of_own, last_of_other, last_of_none}
use Rattle.linda_world.specs.Noted.{AreNoted, Lasts, noted_number}

-- Of no deed nothing is noted.
pub none_noted : (ds : List Deed) → AreNoted ds 0 empty
none_noted ds = record {
  within = omega arith;
  each = λ c. ap noted_number (get_empty c) ∙ sym (last_of_none ds 0 c (omega arith));
}

-- One deed more is noted.
pub one_noted : (ds : List Deed) (k : ℕ) (lasts : Lasts) (d : Deed) → AreNoted ds k lasts → k < length ds
    → d ≡ get_or ds k d → AreNoted ds (k + 1) (insert lasts (client_of d) (number_of d))
one_noted ds k lasts d was low is = record { within = omega (arith, low); each = at }
  where
    back : k ≡ k + 1 - 1
    back = omega arith

    here : d ≡ get_or ds (k + 1 - 1) d
    here = subst (λ j. d ≡ get_or ds j d) back is

    at : (c : ℕ) → noted_number (get (insert lasts (client_of d) (number_of d)) c) ≡ last_in (take (k + 1) ds) c
    at c = elim (cases_eq (client_of d) c) [
      | inl mine ↦ (ap (λ q. noted_number (get (insert lasts (client_of d) (number_of d)) q)) (sym mine)
          ∙ ap noted_number (get_same lasts (client_of d) (number_of d))
          ∙ sym (last_of_own ds (k + 1) d c (omega arith) (omega (arith, low)) here mine))
      | inr other ↦ (ap noted_number (get_other lasts (client_of d) (number_of d) c (λ same. other (sym same)))
          ∙ was.each c ∙ ap (λ j. last_in (take j ds) c) back
          ∙ sym (last_of_other ds (k + 1) d c (omega arith) (omega (arith, low)) here other))
    ]

-- More deeds after them are not noted yet.
pub still_noted : (ds more : List Deed) (k : ℕ) (lasts : Lasts) → AreNoted ds k lasts → AreNoted (ds ++ more) k lasts
still_noted ds more k lasts was =
    let within = was.within in
    let longer = Rattle.std.proofs.lemmas.List.length-append ds more in
    record {
      within = omega (arith, within, longer);
      each = λ c. was.each c ∙ ap (λ l. last_in l c) (sym (take-append-le k ds more within));
    }

-- If all are noted, each client's last number is.
pub all_noted : (ds : List Deed) (k : ℕ) (lasts : Lasts) → AreNoted ds k lasts → k ≡ length ds → (c : ℕ) → noted_number (get lasts c) ≡ last_in ds c
all_noted ds k lasts was whole c = was.each c ∙ ap (λ l. last_in l c) (take_all k ds (omega (arith, whole)))
