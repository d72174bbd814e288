-- What a window over an image answers to a write, and what it leaves in the image.
use Rattle.std.specs.Prelude.{◌≡◌, ℕ, ◌+◌, ◌/◌, ◌<◌, ◌≤◌, ◌≢◌, List, length, Ok, Err, Result, slice_set}
use Rattle.device.specs.Faults.{fault}
use Rattle.device.specs.declared.faults.Fault.{Fault}
use Rattle.device.specs.declared.faults.Cause.TheVariants.{Length, Range}
use Rattle.device.specs.declared.faults.Act.TheVariants.{Write}
use Rattle.device.specs.Meaning.{Sectors}
use Rattle.stores.specs.Image.{ImageLength, image_count, sectors_in}
use Rattle.layers.specs.Window.{IsWindow, window_count}

-- the sectors of a window of `count` sectors from `first` on over an image of k bytes: `count` of them where k is the
-- length of an image and all of them are in it, and otherwise none
abbrev pub pile_count : (k first count : ℕ) → ℕ
pile_count k first count = window_count (image_count k) first count

-- an image of k bytes, a window on it, and a sector of the window, all as they should be
pub record InImage (k first count n : ℕ) : Type 0 where
  pub image : ImageLength k
  pub window : IsWindow (k / 512) first count
  pub sector : n < count

-- b written to sector n of s sectors and read back: only a wrong length and a sector that is not there are refused
pub record ReadsBack (s n : ℕ) (b : List ℕ) (r : Result (List ℕ) Fault) : Type 0 where
  pub wrong_length : length b ≢ 512 → r ≡ Err (fault Length Write n)
  pub out_of_range : length b ≡ 512 → s ≤ n → r ≡ Err (fault Range Write n)
  pub otherwise : length b ≡ 512 → n < s → r ≡ Ok b

-- the sectors of an image
abbrev pub image_sectors : List ℕ → Sectors
image_sectors bs = sectors_in (image_count (length bs)) bs

-- b written to sector n of a window of s sectors from `first` on, over an image of the bytes bs before and bs' after:
-- in the image sector first + n is b, and every other as it was
pub record WritesThrough (first s n : ℕ) (b bs bs' : List ℕ) (r : Result (Unit {0}) Fault) : Type 0 where
  pub wrong_length : length b ≢ 512 → (r ≡ Err (fault Length Write n)) × (image_sectors bs' ≡ image_sectors bs)
  pub out_of_range : length b ≡ 512 → s ≤ n → (r ≡ Err (fault Range Write n)) × (image_sectors bs' ≡ image_sectors bs)
  pub otherwise : length b ≡ 512 → n < s → (r ≡ Ok tt) × (image_sectors bs' ≡ slice_set (image_sectors bs) (first + n) b)
