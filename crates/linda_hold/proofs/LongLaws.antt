-- What a look-up in the map of the waits finds is among the waits.
use Rattle.std.proofs.Common.{◌≡◌, ℕ, arith, Bool, true, false, cond, List, [], ◌∷◌, Some, sym, ap, ◌∙◌}
use Rattle.std.specs.Option.{is_some, unwrap_or}
use Rattle.std.specs.List.{Contains}
use Rattle.std.specs.Map.{lookup, values_of}
use Rattle.std.proofs.lemmas.Bool.{true≢false}
use Rattle.std.proofs.lemmas.List.Elements.{Contains-append_right}
use Rattle.linda_hold.specs.Waits.{Wait}
use Rattle.linda_hold.specs.Numbered.{in_order, wait_at}
use Rattle.linda_hold.proofs.NumberedLaws.{found}

same_some : {A : Type 0} {x y : A} → Some x ≡ Some y → x ≡ y
same_some {x = x} e = ap (λ o. unwrap_or o x) e

hit : (test : ℕ → Bool) (es : List (ℕ × Wait)) (w : Wait) → lookup test es ≡ Some w → Contains (values_of es) w
hit test [] w is = absurd (true≢false (sym (ap is_some is)))
hit test (e ∷ es) w is = by (test e.0) is (λ later. hit test es w later)
  where
    by : (b : Bool) → cond b (Some e.1) (lookup test es) ≡ Some w → (lookup test es ≡ Some w → Contains (values_of es) w) → Contains (e.1 ∷ values_of es) w
    by true is later = (0, omega arith, same_some is)
    by false is later = Contains-append_right (e.1 ∷ []) (values_of es) w (later is)

-- The wait under a number is one of the waits.
pub there : (es : List (ℕ × Wait)) (k : ℕ) (w : Wait) → wait_at es k ≡ Some w → Contains (values_of (in_order es)) w
there es k w is = hit _ (in_order es) w (sym (found es k) ∙ is)
