-- The one text in which an event is written: one blank after each keyword and number, `, ` between
-- the members of a choice, and no other blanks.
use Rattle.std.specs.Prelude.{ℕ, Bool, true, false, List, [], ◌∷◌, ◌++◌}
use Rattle.std.specs.Fmt.{decimal}
use Rattle.linda_text.specs.Written.{written_atom, written_template}
use Rattle.linda_event.specs.Trees.{Kind, input, read, alarm, always, never}
use Rattle.linda_event.specs.Trees.{Tree, leaf, choose, wrap, nack, Trees, no_trees, and_tree}
use Rattle.linda_text.specs.declared.marks.TheConstants.{COMMA, SPACE}
use Rattle.linda_shell_text.specs.declared.marks.TheConstants.{OPENING_BRACKET, CLOSING_BRACKET}
use Rattle.linda_shell_text.specs.declared.keyword.Keyword.{Keyword}
use Rattle.linda_shell_text.specs.declared.keyword.Keyword.TheVariants as keywords
use Rattle.linda_shell_text.specs.Words.{keyword_text}

-- A keyword, a blank, and what follows.
abbrev pub written_behind : Keyword → List ℕ → List ℕ
written_behind keyword rest = keyword_text keyword ++ SPACE ∷ rest

abbrev pub written_base : Kind → List ℕ
written_base (input template) = written_behind keywords.In (written_template template)
written_base (read template) = written_behind keywords.Rd (written_template template)
written_base (alarm time) = written_behind keywords.Alarm (decimal time)
written_base (always value) = written_behind keywords.Always (written_atom value)
written_base never = keyword_text keywords.Never

-- What comes between two members; nothing before the first one.
abbrev pub written_comma : Bool → List ℕ
written_comma true = []
written_comma false = COMMA ∷ SPACE ∷ []

abbrev mutual
  pub written_event : Tree → List ℕ
  written_event (leaf kind) = written_base kind
  written_event (choose members) =
      written_behind keywords.Choose
      (OPENING_BRACKET ∷ (written_members true members ++ CLOSING_BRACKET ∷ []))
  written_event (wrap label below) =
      written_behind keywords.Wrap (decimal label ++ SPACE ∷ written_event below)
  written_event (nack number below) =
      written_behind keywords.Nack (decimal number ++ SPACE ∷ written_event below)

  -- The members, of which the first one is the first of the choice or not.
  pub written_members : Bool → Trees → List ℕ
  written_members first no_trees = []
  written_members first (and_tree member others) =
      written_comma first ++ (written_event member ++ written_members false others)
