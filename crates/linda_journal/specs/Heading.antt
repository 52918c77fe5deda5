-- Headings, the first bytes of a bank.
use Rattle.std.specs.Prelude.{◌≡◌, ℕ, ◌<◌, ◌≤◌, ◌^◌, List, length}
use Rattle.linda_tuple.specs.declared.form.Form.{Form}
use Rattle.linda_journal.specs.declared.limits.TheConstants.{MIN_BYTES}
use Rattle.linda_journal.specs.declared.heading.Heading.{Heading}
use Rattle.linda_journal.specs.declared.heading.Heading.TheVariants.{NoBank, Foreign, Bank}
use Rattle.linda_journal.specs.Bank.{IsCandidate, headed}

-- It is no candidate; or one, but with other letters or no generation; or one in this form with
-- this generation.
abbrev pub IsHeading : List ℕ → Heading → Type 0
IsHeading file NoBank = IsCandidate file → ⊥
IsHeading file Foreign = IsCandidate file
    × ((form : Form) (generation : ℕ) (rest : List ℕ)
    → 1 ≤ generation → generation < 2 ^ 64 → file ≡ headed form generation rest → ⊥)
IsHeading file (Bank form generation) =
    (1 ≤ generation) × (generation < 2 ^ 64) × (MIN_BYTES ≤ length file)
    × ((rest : List ℕ) × (file ≡ headed form generation rest))
