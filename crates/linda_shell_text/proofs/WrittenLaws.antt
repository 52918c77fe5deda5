-- What is written of an event is a text of it; and the members that are still to be written.
use Rattle.std.proofs.Common.{ℕ, true, false, List, [], ◌∷◌, ◌++◌, drop, map, refl, sym, ap, append_assoc}
use Rattle.std.specs.Fmt.{decimal}
use Rattle.std.proofs.lemmas.List.{append-nil}
use Rattle.linda_text.specs.Grammar.{IsAlone}
use Rattle.linda_text.proofs.WrittenLaws.{atom_written, template_written}
use Rattle.linda_event.specs.declared.event.Event.{Event}
use Rattle.linda_event.specs.Trees.{Kind, input, read, alarm, always, never, Tree, leaf, choose, wrap, nack, Trees, no_trees, and_tree, members_of, tree_of}
use Rattle.linda_text.specs.declared.marks.TheConstants.{COMMA, SPACE}
use Rattle.linda_shell_text.specs.declared.marks.TheConstants.{OPENING_BRACKET, CLOSING_BRACKET}
use Rattle.linda_shell_text.specs.declared.keyword.Keyword.{Keyword}
use Rattle.linda_shell_text.specs.declared.keyword.Keyword.TheVariants as keywords
use Rattle.linda_shell_text.specs.Words.{keyword_text}
use Rattle.linda_shell_text.specs.EventTexts.{Begins, IsBaseText, IsEventText, IsListText, AreMore}
use Rattle.linda_shell_text.specs.Written.{written_behind, written_base, written_event, written_members}

-- ---- what is written is a text of its event

behind : (k : Keyword) (IsRest : List ℕ → Type 0) (rest : List ℕ) → IsRest rest → Begins (keyword_text k) IsRest (written_behind k rest)
behind k IsRest rest is = (SPACE ∷ [], rest, (refl, tt), refl, is, refl)

base_written : (kind : Kind) → IsBaseText kind (written_base kind)
base_written (input t) = behind keywords.In _ _ (template_written t)
base_written (read t) = behind keywords.Rd _ _ (template_written t)
base_written (alarm time) = behind keywords.Alarm _ _ refl
base_written (always a) = behind keywords.Always _ _ (atom_written a)
base_written never = refl

mutual
  event_written : (t : Tree) → IsEventText t (written_event t)
  event_written (leaf kind) = base_written kind
  event_written (choose members) =
      (SPACE ∷ [], OPENING_BRACKET ∷ (written_members true members ++ CLOSING_BRACKET ∷ []), (refl, tt), refl, list_written members, refl)
  event_written (wrap n t) = (
    SPACE ∷ [],
    decimal n ++ SPACE ∷ written_event t,
    (refl, tt),
    refl,
    (SPACE ∷ [], written_event t, (refl, tt), refl, event_written t, refl),
    refl,
  )
  event_written (nack n t) = (
    SPACE ∷ [],
    decimal n ++ SPACE ∷ written_event t,
    (refl, tt),
    refl,
    (SPACE ∷ [], written_event t, (refl, tt), refl, event_written t, refl),
    refl,
  )

  list_written : (ts : Trees) → IsListText ts (OPENING_BRACKET ∷ (written_members true ts ++ CLOSING_BRACKET ∷ []))
  list_written no_trees = ([], tt, refl)
  list_written (and_tree t ts) = (
    [],
    written_event t,
    written_members false ts ++ CLOSING_BRACKET ∷ [],
    tt,
    event_written t,
    more_written ts,
    ap (λ (w : List ℕ). OPENING_BRACKET ∷ w) (append_assoc (written_event t) (written_members false ts) (CLOSING_BRACKET ∷ [])),
  )

  more_written : (ts : Trees) → AreMore ts (written_members false ts ++ CLOSING_BRACKET ∷ [])
  more_written no_trees = ([], tt, refl)
  more_written (and_tree t ts) = (
    [],
    SPACE ∷ [],
    written_event t,
    written_members false ts ++ CLOSING_BRACKET ∷ [],
    tt,
    (refl, tt),
    event_written t,
    more_written ts,
    ap (λ (w : List ℕ). COMMA ∷ SPACE ∷ w) (append_assoc (written_event t) (written_members false ts) (CLOSING_BRACKET ∷ [])),
  )

pub event_alone : (t : Tree) → IsAlone IsEventText t (written_event t)
event_alone t = ([], tt, ([], written_event t, tt, event_written t, sym (append-nil (written_event t))))

-- ---- how it is written

-- The members from this number on.
abbrev pub rest_of : ℕ → List Event → Trees
rest_of i items = members_of (map tree_of (drop i items))
