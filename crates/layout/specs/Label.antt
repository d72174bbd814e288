-- The label of a card, and the master sector that holds it.
use Rattle.std.specs.Prelude.{◌≡◌, ℕ, ◌<◌, ◌≤◌, Bool, cond, ◌&&◌, List, [], ◌∷◌, ◌++◌, Some, None, Ok, Err, codes, Option, Result, ◌==◌, nat_le, nat_lt}
use Rattle.device.specs.Meaning.{zeros}
use Rattle.std.specs.Str.{bytes_eq}
use Rattle.layout.specs.Bytes.{part}
use Rattle.layout.specs.Words.{word_at, double_at, word_bytes, double_bytes}
use Rattle.layout.specs.Sizes.{entries_of, area_of, slots_of, layout_of}
use Rattle.layout.specs.declared.label.Label.{Label}

abbrev pub dos_name : List ℕ
dos_name = codes "LM80C DOS"

abbrev pub dos_version : List ℕ
dos_version = codes "1.06"

abbrev pub signature : List ℕ
signature = codes "80"

-- the fields up to $01F: what stands between them is zero, and the directory starts at sector 1
unfoldable pub label_front : Label → List ℕ
label_front l =
    dos_name ++ (0 ∷ (dos_version ++ (0 ∷ (double_bytes l.layout.sectors
    ++ (word_bytes l.geometry.cylinders ++ (word_bytes l.geometry.sectors_per_track ++ (word_bytes l.geometry.heads
    ++ (word_bytes l.layout.entries ++ (word_bytes 1 ++ (word_bytes l.layout.area ++ (0 ∷ [])))))))))))

-- and up to $033: disk name and disk id
abbrev pub label_head : Label → List ℕ
label_head l = label_front l ++ (l.name ++ l.id)

-- the whole sector: zeros up to the signature at $1FE
unfoldable pub label_sector : Label → List ℕ
label_sector l = label_head l ++ (zeros 458 ++ signature)

-- a field that is checked: its offset, and whether it holds what it must
pub record Field : Type 0 where
  pub offset : ℕ
  pub holds : Bool

abbrev pub field : ℕ → Bool → Field
field k h = record { offset = k; holds = h }

-- the checks of the master sector b of a card of s sectors on a device of n, in order: $000, $00A, $00F, $019, $01B,
-- $01D, $1FE. A device of no sectors has no name to show. Geometry, disk name and disk id are not checked
abbrev pub checks_of : (n s : ℕ) → List ℕ → List Field
checks_of n s b =
    field 0 (nat_lt 0 n && bytes_eq (part b 0 9) dos_name)
    ∷ field 10 (bytes_eq (part b 10 4) dos_version)
    ∷ field 15 (nat_le s n && nat_lt 0 (slots_of s))
    ∷ field 25 (word_at b 25 == entries_of s)
    ∷ field 27 (word_at b 27 == 1)
    ∷ field 29 (word_at b 29 == area_of s)
    ∷ field 510 (bytes_eq (part b 510 2) signature)
    ∷ []

abbrev pub first_failing : List Field → Option ℕ
first_failing [] = None
first_failing (f ∷ fs) = cond f.holds (first_failing fs) (Some f.offset)

-- the first field of the master sector b that does not hold
unfoldable pub bad_field : ℕ → List ℕ → Option ℕ
bad_field n b = first_failing (checks_of n (double_at b 15) b)

-- what the sector says, checked or not
unfoldable pub label_in : List ℕ → Label
label_in b = record {
  layout = layout_of (double_at b 15);
  geometry = record { cylinders = word_at b 19; sectors_per_track = word_at b 21; heads = word_at b 23 };
  name = part b 32 16;
  id = part b 48 4;
}

abbrev pub answered : Option ℕ → Label → Result Label ℕ
answered None l = Ok l
answered (Some k) l = Err k

-- the label of a card whose master sector is b on a device of n sectors, or the offset of the field at fault
abbrev pub read_label : ℕ → List ℕ → Result Label ℕ
read_label n b = answered (bad_field n b) (label_in b)

-- a label that a card on a device of n sectors can have: the layout of its sectors, which lie there and leave room for
-- a file
pub record LawfulLabel (l : Label) (n : ℕ) : Type 0 where
  pub layout : l.layout ≡ layout_of l.layout.sectors
  pub sectors : l.layout.sectors ≤ n
  pub slots : 0 < slots_of l.layout.sectors
