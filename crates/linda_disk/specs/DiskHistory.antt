-- History of a disk in memory: what it held at first and each call since, the newest first, and
-- what follows from it.
use Rattle.std.specs.Prelude.{◌≡◌, ℕ, ◌≤◌, ◌⊎◌, Bool, true, nat_le, ◌&&◌, List, [], ◌∷◌, length}
use Rattle.std.specs.Prelude.{take, replicate}
use Rattle.linda_disk.specs.declared.call.DeviceCall.{DeviceCall}
use Rattle.linda_disk.specs.declared.call.DeviceCall.TheVariants.{Write, Cut, Sync}
use Rattle.linda_disk.specs.declared.torn.Torn.{Torn}
use Rattle.linda_disk.specs.declared.torn.Torn.TheVariants.{Kept, Lost, Filled}
use Rattle.linda_disk.specs.View.{View}
use Rattle.linda_disk.specs.Image.{overlay, TornWrite, TornCut}

-- The bytes at first, all of them synced, and the calls that were done since.
pub record DiskHistory : Type 0 where
  pub first : List ℕ
  pub calls : List DeviceCall

-- The history with one call more.
abbrev pub after : DeviceCall → DiskHistory → DiskHistory
after call h = record { first = h.first; calls = call ∷ h.calls }

-- What a call does to a file if it is done in full.
abbrev pub done : DeviceCall → List ℕ → List ℕ
done (Write at bytes) file = overlay at bytes file
done (Cut n) file = take n file
done Sync file = file

-- What a call leaves of a file in which all that is not synced is b: a cut has not happened.
abbrev pub fill : ℕ → DeviceCall → List ℕ → List ℕ
fill b (Write at bytes) file = overlay at (replicate (length bytes) b) file
fill b (Cut n) file = file
fill b Sync file = file

-- What a read gives: each call was done in full.
abbrev pub content_from : List ℕ → List DeviceCall → List ℕ
content_from first [] = first
content_from first (call ∷ calls) = done call (content_from first calls)

-- The bytes at the last sync.
abbrev pub synced_from : List ℕ → List DeviceCall → List ℕ
synced_from first [] = first
synced_from first (Write at bytes ∷ calls) = synced_from first calls
synced_from first (Cut n ∷ calls) = synced_from first calls
synced_from first (Sync ∷ calls) = content_from first calls

-- The bytes at the last sync with b in each byte that was written since: cuts since then have not
-- happened.
abbrev pub filled_from : ℕ → List ℕ → List DeviceCall → List ℕ
filled_from b first [] = first
filled_from b first (Write at bytes ∷ calls) = fill b (Write at bytes) (filled_from b first calls)
filled_from b first (Cut n ∷ calls) = filled_from b first calls
filled_from b first (Sync ∷ calls) = content_from first calls

-- A crash may leave this: each write and each cut since the last sync was done, or torn.
abbrev pub Leaves : List ℕ → List DeviceCall → List ℕ → Type 0
Leaves first [] image = image ≡ first
Leaves first (Write at bytes ∷ calls) image =
    (before : List ℕ) × Leaves first calls before × TornWrite at (length bytes) before image
Leaves first (Cut n ∷ calls) image =
    (before : List ℕ) × Leaves first calls before × TornCut n before image
Leaves first (Sync ∷ calls) image = image ≡ content_from first calls

-- A crash after t calls or more might have left this.
abbrev pub LeftSince : List ℕ → List DeviceCall → ℕ → List ℕ → Type 0
LeftSince first [] t image = Leaves first [] image
LeftSince first (call ∷ calls) t image =
    Leaves first (call ∷ calls) image ⊎ ((t ≤ length calls) × LeftSince first calls t image)

-- Each write began within the file or at its end.
abbrev pub fits_from : List ℕ → List DeviceCall → Bool
fits_from first [] = true
fits_from first (Write at bytes ∷ calls) =
    nat_le at (length (content_from first calls)) && fits_from first calls
fits_from first (Cut n ∷ calls) = fits_from first calls
fits_from first (Sync ∷ calls) = fits_from first calls

-- The calls, the first of them first, on a file that is filled so.
abbrev pub fill_all : ℕ → List DeviceCall → List ℕ → List ℕ
fill_all b [] file = file
fill_all b (call ∷ calls) file = fill_all b calls (fill b call file)

-- Of a history: what a read gives, the bytes at the last sync, those with b in each byte that was
-- written since, and whether its writes fit.
abbrev pub content : DiskHistory → List ℕ
content h = content_from h.first h.calls

abbrev pub synced : DiskHistory → List ℕ
synced h = synced_from h.first h.calls

abbrev pub filled : ℕ → DiskHistory → List ℕ
filled b h = filled_from b h.first h.calls

abbrev pub fits : DiskHistory → Bool
fits h = fits_from h.first h.calls

-- What a crash leaves that comes out so.
abbrev pub left : Torn → DiskHistory → List ℕ
left Kept h = content h
left Lost h = synced h
left (Filled b) h = filled b h

-- A disk of this history, as contracts see it.
abbrev pub view_of : DiskHistory → View
view_of h = record {
  seen = content h;
  may_leave = Leaves h.first h.calls;
  moment = length h.calls;
  left_since = LeftSince h.first h.calls;
}
