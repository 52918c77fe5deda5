use Rattle.std.proofs.Common.{◌≡◌, ◌⊎◌, None, inl, inr, List, [], ◌∷◌, ◌++◌, refl, sym, ap, ◌∙◌, append-nil}
use Rattle.std.proofs.lemmas.Slice.Zip.{either_empty_from_Zip}
use Rattle.linda_tuple.specs.declared.atom.Atom.{Atom}
use Rattle.linda_tuple.specs.declared.pattern.Pattern.{Pattern}
use Rattle.linda_tuple.specs.Matching.{bound_at}
use Rattle.linda_tuple.proofs.matching.bindings.Goals as goal

-- If the patterns or the atoms have ended, nothing is bound.
none_bound : (patterns : List Pattern) (atoms : List Atom) → (patterns ≡ []) ⊎ (atoms ≡ []) → bound_at patterns atoms ≡ []
none_bound patterns atoms (inl ended) = ap (λ p. bound_at p atoms) ended
none_bound [] atoms (inr ended) = refl
none_bound (pattern ∷ patterns) atoms (inr ended) = ap (bound_at (pattern ∷ patterns)) ended

pub returns : goal.returns
returns c =
    let ended = none_bound _ _ (either_empty_from_Zip c.loop-pattern.pattern-iterator c.next.new.self None refl c.in-None.ensures.steps) in
    sym (append-nil _) ∙ ap (λ rest. c.loop-pattern.bound.items ++ rest) (sym ended) ∙ c.loop-pattern.invariant
