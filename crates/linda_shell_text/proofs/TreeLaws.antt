-- The trees of events, and what a node reads.
use Rattle.std.proofs.Common.{◌≡◌, ℕ, zero, suc, ◌-◌, ◌<◌, List, [], ◌∷◌, ◌++◌, map, Ok, refl, arith}
use Rattle.std.proofs.lemmas.List.{map-append}
use Rattle.linda_event.specs.declared.event.Event.{Event}
use Rattle.linda_event.specs.Trees.{tree_of}
use Rattle.linda_shell_text.specs.declared.keyword.Keyword.{Keyword}
use Rattle.linda_shell_text.specs.Words.{keyword_at}
use Rattle.linda_shell_text.specs.Reading.{node_at, event_at}

-- One member more was made.
pub trees_more : (old new : List Event) (e : Event) → new ≡ old ++ e ∷ [] → map tree_of new ≡ map tree_of old ++ tree_of e ∷ []
trees_more old new e is = rw is (map-append tree_of old (e ∷ []))

-- An event is read as its keyword says, with room for one node less.
pub node_is : (room : ℕ) (bytes : List ℕ) (keyword : Keyword) (rest : List ℕ) (kind : Keyword) → 0 < room → keyword ≡ kind
    → keyword_at bytes ≡ Ok (keyword, rest) → event_at room bytes ≡ node_at (event_at (room - 1)) kind rest
unfolding event_at
node_is zero bytes keyword rest kind some is word = absurd (omega (arith, some))
node_is (suc room) bytes keyword rest kind some is word =
    let k : suc room - 1 ≡ room = omega arith in
    rw (k, word, is) refl
