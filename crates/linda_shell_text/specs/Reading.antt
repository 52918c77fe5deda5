-- Reading of an event: the event, or the first fault from the left.
use Rattle.std.specs.Prelude.{ℕ, zero, suc, if◌then◌else◌}
use Rattle.std.specs.Prelude.{List, [], ◌∷◌, length, Result, Ok, Err}
use Rattle.linda_text.specs.Reading.{wrong, after_blanks, natural_at}
use Rattle.linda_text.specs.Reading.{template_at, spaced_atom_at, ended}
use Rattle.linda_event.specs.Trees.{Tree, leaf, choose, wrap, nack, members_of}
use Rattle.linda_event.specs.Trees.{input, read, alarm, always, never}
use Rattle.linda_shell_text.specs.declared.fault.EventTextFault.{EventTextFault}
use Rattle.linda_shell_text.specs.declared.fault.EventTextFault.TheVariants.{TooManyNested}
use Rattle.linda_shell_text.specs.declared.keyword.Keyword.{Keyword}
use Rattle.linda_shell_text.specs.declared.keyword.Keyword.TheVariants as keywords
use Rattle.linda_shell_text.specs.declared.limits.TheConstants.{MAX_NESTED}
use Rattle.linda_codec.specs.Steps.{◌>>=◌}
use Rattle.linda_text.specs.Reading.{made}
use Rattle.linda_shell_text.specs.Steps.{Reader, lifted}
use Rattle.linda_shell_text.specs.Words.{keyword_at, label_at, open_at, mark_at}

-- The members of a choice, of which there is one at least and so many at most, and the closing
-- bracket.
unfoldable pub some_members_at : Reader Tree → ℕ → Reader (List Tree)
some_members_at member zero bytes = lifted (wrong bytes)
some_members_at member (suc most) bytes = do
  first ← member (after_blanks bytes)
  more ← lifted (mark_at (after_blanks first.1))
  others ← if more.0 then some_members_at member most more.1 else Ok ([], more.1)
  Ok (first.0 ∷ others.0, others.1)

-- The members of a choice between brackets; each takes one byte at least.
unfoldable pub members_at : Reader Tree → Reader (List Tree)
members_at member bytes = do
  some ← lifted (open_at bytes)
  if some.0 then some_members_at member (length some.1) some.1 else Ok ([], some.1)

-- A number, and the event under it.
unfoldable pub under_at : (ℕ → Tree → Tree) → Reader Tree → Reader Tree
under_at make below bytes = do
  label ← lifted (label_at bytes)
  event ← below (after_blanks label.1)
  Ok (make label.0 event.0, event.1)

-- What comes after a keyword, with the reader of the events below it.
abbrev pub node_at : Reader Tree → Keyword → Reader Tree
node_at below keywords.In bytes = made (λ t. leaf (input t)) (lifted (template_at bytes))
node_at below keywords.Rd bytes = made (λ t. leaf (read t)) (lifted (template_at bytes))
node_at below keywords.Alarm bytes =
    made (λ time. leaf (alarm time)) (lifted (natural_at (after_blanks bytes)))
node_at below keywords.Always bytes = made (λ a. leaf (always a)) (lifted (spaced_atom_at bytes))
node_at below keywords.Never bytes = Ok (leaf never, bytes)
node_at below keywords.Choose bytes =
    made (λ members. choose (members_of members)) (members_at below bytes)
node_at below keywords.Wrap bytes = under_at (λ label event. wrap label event) below bytes
node_at below keywords.Nack bytes = under_at (λ number event. nack number event) below bytes

-- An event of at most so many nested nodes.
unfoldable pub event_at : ℕ → Reader Tree
event_at zero bytes = Err TooManyNested
event_at (suc room) bytes = do
  keyword ← lifted (keyword_at bytes)
  node_at (event_at room) keyword.0 keyword.1

-- An event that is all there is, but for blanks.
unfoldable pub only_event : List ℕ → Result Tree EventTextFault
only_event bytes = do
  event ← event_at MAX_NESTED (after_blanks bytes)
  lifted (ended event.0 (after_blanks event.1))
