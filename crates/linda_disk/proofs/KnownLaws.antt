-- What is known of a file when it is opened, and after a write and a cut.
use Rattle.std.proofs.Common.{◌≡◌, ℕ, zero, suc, ◌<◌, ◌≤◌, true, List, [], ◌∷◌, length, take}
use Rattle.std.proofs.Common.{refl, ap, arith}
use Rattle.linda_disk.specs.Image.{overlay}
use Rattle.linda_disk.specs.DiskHistory.{DiskHistory, content, content_from, fits, fits_from}
use Rattle.linda_disk.specs.Past.{first_or, first_after}

-- A file of which no call is on record reads as it did when it was opened.
pub as_opened : (h : DiskHistory) → h.calls ≡ [] → (content h ≡ h.first) × (fits h ≡ true)
as_opened h none = (ap (content_from h.first) none, ap (fits_from h.first) none)

-- If a front of the bytes was read, with one byte at least if there are any, their first byte is that of the front.
pub first_read : (front bytes : List ℕ) → take (length front) bytes ≡ front
    → (0 < length bytes → 0 < length front) → first_or (first_or 0 front) bytes ≡ first_or 0 front
first_read front [] is some = refl
first_read [] (b ∷ bytes) is some = let no : ⊥ = omega (arith, some (omega arith)) in elim no [ ]
first_read (c ∷ front) (b ∷ bytes) is some = ap (first_or 0) is

-- The first byte after a write, and after a cut.
pub first_written : (first at : ℕ) (bytes file : List ℕ) → at ≤ length file → first_or first file ≡ first
    → first_or (first_after first at bytes) (overlay at bytes file) ≡ first_after first at bytes
first_written first zero [] file le is = is
first_written first zero (b ∷ bytes) file le is = refl
first_written first (suc at) bytes [] le is = let no : ⊥ = omega (arith, le) in elim no [ ]
first_written first (suc at) bytes (b ∷ file) le is = is

pub first_cut : (first n : ℕ) (file : List ℕ) → first_or first file ≡ first → first_or first (take n file) ≡ first
first_cut first zero file is = refl
first_cut first (suc n) [] is = refl
first_cut first (suc n) (b ∷ file) is = is
