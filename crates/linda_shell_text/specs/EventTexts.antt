-- The grammar: which texts represent an event. Texts are lists of bytes.
use Rattle.std.specs.Prelude.{◌≡◌, ℕ, List, [], ◌∷◌, ◌++◌}
use Rattle.std.specs.Fmt.{decimal}
use Rattle.linda_event.specs.Trees.{Kind, input, read, alarm, always, never}
use Rattle.linda_event.specs.Trees.{Tree, leaf, choose, wrap, nack, Trees, no_trees, and_tree}
use Rattle.linda_text.specs.Grammar.{AreBlanks, IsAtomText, IsTemplateText, IsAlone}
use Rattle.linda_text.specs.declared.marks.TheConstants.{COMMA}
use Rattle.linda_shell_text.specs.declared.marks.TheConstants.{OPENING_BRACKET, CLOSING_BRACKET}
use Rattle.linda_shell_text.specs.declared.keyword.Keyword.TheVariants as keywords
use Rattle.linda_shell_text.specs.Words.{keyword_text, EndsWord}
use Rattle.linda_shell_text.specs.Limits.{IsWithinEvent}

-- A word and what comes after it, with blanks between them or none; at least one blank if a letter
-- or digit would follow.
abbrev pub Begins : List ℕ → (List ℕ → Type 0) → List ℕ → Type 0
Begins word IsRest text =
    (blanks rest : List ℕ) × AreBlanks blanks × EndsWord (blanks ++ rest) × IsRest rest
    × (text ≡ word ++ (blanks ++ rest))

-- A text of a base.
abbrev pub IsBaseText : Kind → List ℕ → Type 0
IsBaseText (input t) text = Begins (keyword_text keywords.In) (λ rest. IsTemplateText t rest) text
IsBaseText (read t) text = Begins (keyword_text keywords.Rd) (λ rest. IsTemplateText t rest) text
IsBaseText (alarm time) text =
    Begins (keyword_text keywords.Alarm) (λ rest. rest ≡ decimal time) text
IsBaseText (always a) text = Begins (keyword_text keywords.Always) (λ rest. IsAtomText a rest) text
IsBaseText never text = text ≡ keyword_text keywords.Never

abbrev mutual
  -- A text of the event.
  pub IsEventText : Tree → List ℕ → Type 0
  IsEventText (leaf kind) text = IsBaseText kind text
  IsEventText (choose members) text =
      Begins (keyword_text keywords.Choose) (λ list. IsListText members list) text
  IsEventText (wrap label below) text =
      Begins (keyword_text keywords.Wrap)
      (λ rest. Begins (decimal label) (λ event. IsEventText below event) rest) text
  IsEventText (nack number below) text =
      Begins (keyword_text keywords.Nack)
      (λ rest. Begins (decimal number) (λ event. IsEventText below event) rest) text

  -- The members of a choice between brackets.
  pub IsListText : Trees → List ℕ → Type 0
  IsListText no_trees text =
      (blanks : List ℕ) × AreBlanks blanks
      × (text ≡ OPENING_BRACKET ∷ (blanks ++ CLOSING_BRACKET ∷ []))
  IsListText (and_tree member others) text =
      (blanks first rest : List ℕ) × AreBlanks blanks
      × IsEventText member first × AreMore others rest
      × (text ≡ OPENING_BRACKET ∷ (blanks ++ (first ++ rest)))

  -- What comes after a member: a comma and the next one, or the closing bracket.
  pub AreMore : Trees → List ℕ → Type 0
  AreMore no_trees text =
      (blanks : List ℕ) × AreBlanks blanks × (text ≡ blanks ++ CLOSING_BRACKET ∷ [])
  AreMore (and_tree member others) text =
      (before between next rest : List ℕ) × AreBlanks before × AreBlanks between
      × IsEventText member next × AreMore others rest
      × (text ≡ before ++ COMMA ∷ (between ++ (next ++ rest)))

-- An event within its limits is all there is, but for blanks.
abbrev pub IsEventAlone : List ℕ → Tree → Type 0
IsEventAlone bytes event = IsWithinEvent event × IsAlone IsEventText event bytes
