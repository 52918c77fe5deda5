-- Laws of histories: what a read gives, and what the crashes of a disk in memory leave, are
-- outcomes of a crash; and moments are its calls.
use Rattle.std.proofs.Common.{◌≡◌, ℕ, zero, suc, ◌+◌, ◌≤◌, inl, inr, true, max, List, [], ◌∷◌, ◌++◌}
use Rattle.std.proofs.Common.{length, take, drop, replicate, refl, ap, subst, ◌∙◌, arith}
use Rattle.std.proofs.Common.{length-append, append_assoc, length-take, length-drop}
use Rattle.std.proofs.lemmas.Bool.Decides.{leb_tells}
use Rattle.std.proofs.lemmas.List.{take_at, take_all, drop_at, length-replicate}
use Rattle.linda_disk.specs.declared.call.DeviceCall.{DeviceCall}
use Rattle.linda_disk.specs.declared.call.DeviceCall.TheVariants.{Write, Cut, Sync}
use Rattle.linda_disk.specs.declared.torn.Torn.{Torn}
use Rattle.linda_disk.specs.declared.torn.Torn.TheVariants.{Kept, Lost, Filled}
use Rattle.linda_disk.specs.View.{IsTimed}
use Rattle.linda_disk.specs.Image.{overlay, TornWrite, TornCut}
use Rattle.linda_disk.specs.DiskHistory.{DiskHistory, content_from, synced_from, filled_from}
use Rattle.linda_disk.specs.DiskHistory.{Leaves}
use Rattle.linda_disk.specs.DiskHistory.{LeftSince, fits_from, fits, left, view_of}

-- A write that is not done is a torn one.
pub not_written : (at n : ℕ) (file : List ℕ) → TornWrite at n file file
not_written at n file =
    record { before = refl; after = refl; no_shorter = omega arith; no_longer = grind arith }

-- The file then ends where the write ends or where it ended before, whichever is later.
pub length-overlay : (at : ℕ) (bytes file : List ℕ) → at ≤ length file
    → length (overlay at bytes file) ≡ max (length file) (at + length bytes)
length-overlay at bytes file le =
    let front = length-append (take at file ++ bytes) (drop (at + length bytes) file) in
    let middle = length-append (take at file) bytes in
    let taken = length-take at file in
    let rest = length-drop (at + length bytes) file in
    grind (arith, front, middle, taken, rest)

-- A write that is done is a torn one, too.
pub written : (at : ℕ) (bytes file : List ℕ) → at ≤ length file
    → TornWrite at (length bytes) file (overlay at bytes file)
written at bytes file le =
    let front : length (take at file) ≡ at = grind (arith, length-take at file) in
    let long = length-overlay at bytes file le in
    let rest = drop (at + length bytes) file in
    let start = take at file in
    let so_far : length (start ++ bytes)
    ≡ at + length bytes = omega (arith, front, length-append start bytes) in
    record {
      before =
          ap (take at) (append_assoc start bytes rest) ∙ take_at start (bytes ++ rest) at front;
      after = drop_at (start ++ bytes) rest (at + length bytes) so_far;
      no_shorter = grind (arith, long);
      no_longer = omega (arith, long);
    }

-- A cut that has not happened, and one that has.
pub not_cut : (n : ℕ) (file : List ℕ) → TornCut n file file
not_cut n file =
    record { no_shorter = grind arith; front = take_all (length file) file (omega arith) }

take-length-take : (n : ℕ) (file : List ℕ) → take (length (take n file)) file ≡ take n file
take-length-take zero file = refl
take-length-take (suc n) [] = refl
take-length-take (suc n) (b ∷ file) = ap (λ (l : List ℕ). b ∷ l) (take-length-take n file)

pub is_cut : (n : ℕ) (file : List ℕ) → TornCut n file (take n file)
is_cut n file =
    record { no_shorter = grind (arith, length-take n file); front = take-length-take n file }

-- What a fitting history says of its last write, and of the calls before.
fits_at : (first : List ℕ) (at : ℕ) (bytes : List ℕ) (calls : List DeviceCall)
    → fits_from first (Write at bytes ∷ calls) ≡ true
    → (at ≤ length (content_from first calls)) × (fits_from first calls ≡ true)
fits_at first at bytes calls fit = grind (arith, leb_tells, fit)

-- A crash may leave what a read gives.
pub left_kept : (first : List ℕ) (calls : List DeviceCall) → fits_from first calls ≡ true
    → Leaves first calls (content_from first calls)
left_kept first [] fit = refl
left_kept first (Write at bytes ∷ calls) fit =
    let parts = fits_at first at bytes calls fit in (
      content_from first calls,
      left_kept first calls parts.1,
      written at bytes (content_from first calls) parts.0,
    )
left_kept first (Cut n ∷ calls) fit =
    (content_from first calls, left_kept first calls fit, is_cut n (content_from first calls))
left_kept first (Sync ∷ calls) fit = refl

-- It may leave what was there at the last sync.
pub left_lost : (first : List ℕ) (calls : List DeviceCall)
    → Leaves first calls (synced_from first calls)
left_lost first [] = refl
left_lost first (Write at bytes ∷ calls) = (
  synced_from first calls,
  left_lost first calls,
  not_written at (length bytes) (synced_from first calls),
)
left_lost first (Cut n ∷ calls) =
    (synced_from first calls, left_lost first calls, not_cut n (synced_from first calls))
left_lost first (Sync ∷ calls) = refl

-- No length since the last sync was greater than that of the filled file.
pub content_within_filled : (b : ℕ) (first : List ℕ) (calls : List DeviceCall)
    → fits_from first calls ≡ true
    → length (content_from first calls) ≤ length (filled_from b first calls)
content_within_filled b first [] fit = omega arith
content_within_filled b first (Write at bytes ∷ calls) fit =
    let parts = fits_at first at bytes calls fit in
    let within = content_within_filled b first calls parts.1 in
    let long = length-overlay at bytes (content_from first calls) parts.0 in
    let copies = length-replicate (length bytes) b in
    let starts : at ≤ length (filled_from b first calls) = omega (arith, within, parts.0) in
    let long_filled =
    length-overlay at (replicate (length bytes) b) (filled_from b first calls) starts in
    grind (arith, within, long, long_filled, copies)
content_within_filled b first (Cut n ∷ calls) fit =
    let within = content_within_filled b first calls fit in
    grind (arith, within, length-take n (content_from first calls))
content_within_filled b first (Sync ∷ calls) fit = omega arith

-- It may leave b in each byte that was written since, and the greatest length.
pub left_filled : (b : ℕ) (first : List ℕ) (calls : List DeviceCall) → fits_from first calls ≡ true
    → Leaves first calls (filled_from b first calls)
left_filled b first [] fit = refl
left_filled b first (Write at bytes ∷ calls) fit =
    let parts = fits_at first at bytes calls fit in
    let within = content_within_filled b first calls parts.1 in
    let copies = replicate (length bytes) b in
    let file = filled_from b first calls in
    let torn = written at copies file (omega (arith, within, parts.0)) in
    let step =
    subst (λ n. TornWrite at n file (overlay at copies file))
    (length-replicate (length bytes) b) torn in
    (file, left_filled b first calls parts.1, step)
left_filled b first (Cut n ∷ calls) fit = (
  filled_from b first calls,
  left_filled b first calls fit,
  not_cut n (filled_from b first calls),
)
left_filled b first (Sync ∷ calls) fit = refl

-- Each way to come out of a crash is an outcome of one.
pub left_torn : (torn : Torn) (h : DiskHistory) → fits h ≡ true
    → Leaves h.first h.calls (left torn h)
left_torn Kept h fit = left_kept h.first h.calls fit
left_torn Lost h fit = left_lost h.first h.calls
left_torn (Filled b) h fit = left_filled b h.first h.calls fit

-- This moment counts as one of those since an earlier one, and since it there is no other.
counts_now : (first : List ℕ) (calls : List DeviceCall) (t : ℕ) (image : List ℕ)
    → Leaves first calls image
    → LeftSince first calls t image
counts_now first [] t image left = left
counts_now first (call ∷ calls) t image left = inl left

only_now : (first : List ℕ) (calls : List DeviceCall) (image : List ℕ)
    → LeftSince first calls (length calls) image
    → Leaves first calls image
only_now first [] image left = left
only_now first (call ∷ calls) image (inl left) = left
only_now first (call ∷ calls) image (inr earlier) =
    absurd (let late = earlier.0 in omega (arith, late))

pub timed : (h : DiskHistory) → fits h ≡ true → IsTimed (view_of h)
timed h fit = record {
  counts_now = λ t image le left. counts_now h.first h.calls t image left;
  only_now = only_now h.first h.calls;
  stays = left_kept h.first h.calls fit;
}
