-- The two forms in which values are spelled: how long a text and how many fields each has.
use Rattle.std.specs.Prelude.{ℕ}
use Rattle.linda_tuple.specs.declared.form.Form.{Form}
use Rattle.linda_tuple.specs.declared.form.Form.TheVariants.{One, Two}
use Rattle.linda_tuple.specs.declared.limits.TheConstants.{MAX_TEXT, MAX_FIELDS, ONE_MAX_TEXT}
use Rattle.linda_tuple.specs.declared.limits.TheConstants.{ONE_MAX_FIELDS}

-- the longest text that has a spelling, in bytes
abbrev pub longest_text : Form → ℕ
longest_text One = ONE_MAX_TEXT
longest_text Two = MAX_TEXT

-- the most fields, or patterns, that may follow a tag
abbrev pub most_fields : Form → ℕ
most_fields One = ONE_MAX_FIELDS
most_fields Two = MAX_FIELDS
