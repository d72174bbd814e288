-- The image: its sectors lie one after the other in the caller's bytes.
use Rattle.std.specs.Prelude.{◌≡◌, ℕ, zero, suc, ◌*◌, ◌/◌, ◌%◌, ◌≤◌, cond, List, [], ◌∷◌, length, take, drop, ◌==◌, nat_le}
use Rattle.device.specs.Meaning.{Meaning, Sectors, steady}
use Rattle.device.specs.declared.faults.Geometry.{Geometry}

-- a lawful length: 512 bytes for each of 1 to 268,435,456 sectors
abbrev pub ImageLength : ℕ → Type 0
ImageLength k = (n : ℕ) × (1 ≤ n) × (n ≤ 268435456) × (k ≡ 512 * n)

-- the number of sectors in k bytes, 0 where k is not lawful
abbrev pub image_count : ℕ → ℕ
image_count k = cond (k % 512 == 0) (cond (nat_le (k / 512) 268435456) (k / 512) 0) 0

-- the first n sectors of a run of bytes
unfoldable pub sectors_in : ℕ → List ℕ → Sectors
sectors_in zero bs = []
sectors_in (suc n) bs = take 512 bs ∷ sectors_in n (drop 512 bs)

abbrev pub image_of : List ℕ → Geometry → Meaning
image_of bs g = record { sectors = sectors_in (image_count (length bs)) bs; geometry = g; condition = steady }
