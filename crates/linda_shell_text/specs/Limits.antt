-- The limits of an event that has a text.
use Rattle.std.specs.Prelude.{ℕ, suc, ◌^◌, ◌<◌, ◌≤◌, max}
use Rattle.linda_tuple.specs.Atom.{IsSound}
use Rattle.linda_tuple.specs.Template.{IsWithinTemplate}
use Rattle.linda_event.specs.Trees.{Kind, input, read, alarm, always, never}
use Rattle.linda_event.specs.Trees.{Tree, leaf, choose, wrap, nack, Trees, no_trees, and_tree}
use Rattle.linda_shell_text.specs.declared.limits.TheConstants.{MAX_NESTED}

-- A base whose template or value is within its limits, and whose time has 64 bits.
abbrev pub IsSoundBase : Kind → Type 0
IsSoundBase (input template) = IsWithinTemplate template
IsSoundBase (read template) = IsWithinTemplate template
IsSoundBase (alarm time) = time < 2 ^ 64
IsSoundBase (always value) = IsSound value
IsSoundBase never = Unit {0}

abbrev mutual
  -- Each base is sound, and each label and nack number has 64 bits.
  pub IsSoundEvent : Tree → Type 0
  IsSoundEvent (leaf kind) = IsSoundBase kind
  IsSoundEvent (choose members) = AreSoundEvents members
  IsSoundEvent (wrap label below) = (label < 2 ^ 64) × IsSoundEvent below
  IsSoundEvent (nack number below) = (number < 2 ^ 64) × IsSoundEvent below

  pub AreSoundEvents : Trees → Type 0
  AreSoundEvents no_trees = Unit {0}
  AreSoundEvents (and_tree member others) = IsSoundEvent member × AreSoundEvents others

abbrev mutual
  -- How many nodes are nested in an event, itself and the innermost one counted.
  pub height : Tree → ℕ
  height (leaf kind) = 1
  height (choose members) = suc (height_of_all members)
  height (wrap label below) = suc (height below)
  height (nack number below) = suc (height below)

  -- The greatest height of the members; 0 of none.
  pub height_of_all : Trees → ℕ
  height_of_all no_trees = 0
  height_of_all (and_tree member others) = max (height member) (height_of_all others)

-- An event that has a text: sound, and with no more nested nodes than there may be.
abbrev pub IsWithinEvent : Tree → Type 0
IsWithinEvent event = IsSoundEvent event × (height event ≤ MAX_NESTED)
