-- A template as contracts see it, and the limits that every template keeps.
use Rattle.std.specs.Prelude.{◌≤◌, List, length, All}
use Rattle.linda_tuple.specs.declared.atom.Atom.{Atom}
use Rattle.linda_tuple.specs.declared.pattern.Pattern.{Pattern}
use Rattle.linda_tuple.specs.declared.pattern.Pattern.TheVariants as patterns
use Rattle.linda_tuple.specs.declared.form.Form.{Form}
use Rattle.linda_tuple.specs.declared.form.Form.TheVariants.{Two}
use Rattle.linda_tuple.specs.Form.{most_fields}
use Rattle.linda_tuple.specs.Atom.{IsSoundIn}

-- A tag and the patterns that follow it.
pub record Template : Type 0 where
  pub tag : Atom
  pub fields : List Pattern

-- A pattern that has a spelling in the form: of a value, the value has one.
abbrev pub IsSoundPatternIn : Form → Pattern → Type 0
IsSoundPatternIn form (patterns.Value v) = IsSoundIn form v
IsSoundPatternIn form patterns.IntFormal = Unit {0}
IsSoundPatternIn form patterns.TextFormal = Unit {0}
IsSoundPatternIn form patterns.BoolFormal = Unit {0}
IsSoundPatternIn form patterns.Any = Unit {0}

-- A pattern that may be in a template: the second form has a spelling for it.
abbrev pub IsSoundPattern : Pattern → Type 0
IsSoundPattern pattern = IsSoundPatternIn Two pattern

-- A template that has a spelling in the form: no more patterns than there may be, and a spelling
-- for its tag and for each pattern.
pub record FitsTemplateIn (form : Form) (template : Template) : Type 0 where
  pub count : length template.fields ≤ most_fields form
  pub tag : IsSoundIn form template.tag
  pub fields : All (IsSoundPatternIn form) template.fields

-- What every template keeps: the second form has a spelling for it.
abbrev pub IsWithinTemplate : Template → Type 0
IsWithinTemplate template = FitsTemplateIn Two template
