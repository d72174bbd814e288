-- What format does to a device m, in order; what it leaves, wherever it is broken off; and what a label read back says.
use Rattle.std.specs.Prelude.{◌≡◌, ℕ, ◌<◌, ◌≤◌, cond, ◌⊎◌, List, [], ◌∷◌, ◌++◌, length, Some, Ok, Err, Result, nat_lt, slice_index_or}
use Rattle.device.specs.Faults.{Faults}
use Rattle.device.specs.Meaning.{Meaning, Sectors, MayAccept, MayRefuse, now_failed, sector, zeros}
use Rattle.device.specs.declared.faults.Fault.{Fault}
use Rattle.device.specs.declared.faults.Act.TheVariants.{Read}
use Rattle.device.specs.declared.faults.Geometry.{Geometry}
use Rattle.layout.specs.DiskIds.{lawful_id}
use Rattle.layout.specs.Label.{label_sector, bad_field, read_label}
use Rattle.layout.specs.Names.{lawful_name, padded}
use Rattle.layout.specs.Sizes.{layout_of, slots_of}
use Rattle.layout.specs.declared.label.Label.{Label}
use Rattle.layout.specs.declared.sizes.Layout.{Layout}
use Rattle.refusals.specs.Refusals.{IsByDevice}
use Rattle.refusals.specs.declared.Refusal.{Refusal}
use Rattle.refusals.specs.declared.Refusal.TheVariants.{Name, DiskId, TooSmall, Field, Device}
use Rattle.runs.specs.Writes.{SectorWrite, write_of, zeroing, Completed, Interrupted}

-- the label of a new card of all n sectors of a device
abbrev pub new_label : ℕ → Geometry → (name id : List ℕ) → Label
new_label n g name id = record { layout = layout_of n; geometry = g; name = padded name; id = id }

-- zeros over sector 0 and the directory, upwards; then sector 0, which is the commit point
unfoldable pub format_writes : Label → List SectorWrite
format_writes l = zeroing 0 l.layout.area ++ (write_of 0 (label_sector l) ∷ [])

pub data Plan : Type 0 where
  -- refuse at once
  refuse : Refusal → Plan
  -- write all this, and answer the layout
  write : List SectorWrite → Layout → Plan

abbrev pub format_plan : ℕ → Geometry → (name id : List ℕ) → Plan
format_plan n g name id =
    cond (lawful_name name)
    (cond (lawful_id id)
    (cond (nat_lt 0 (slots_of n)) (write (format_writes (new_label n g name id)) (layout_of n)) (refuse TooSmall))
    (refuse DiskId))
    (refuse Name)

-- carried out as planned, or interrupted by the device
abbrev pub Follows : Faults → (m m' : Meaning) → Plan → Result Layout Refusal → Type 0
Follows t m m' (refuse x) r = (r ≡ Err x) × (m' ≡ m)
Follows t m m' (write ws l) (Ok v) = (v ≡ l) × Completed m m' ws
Follows t m m' (write ws l) (Err x) = IsByDevice (Interrupted t m m' ws) x

abbrev pub Formats : Faults → (m m' : Meaning) → (name id : List ℕ) → Result Layout Refusal → Type 0
Formats t m m' name id r = Follows t m m' (format_plan (length m.sectors) m.geometry name id) r

-- s' is the new card with the label l: its master sector is read as l, its directory is empty, and the data area is
-- as it was in s
pub record NewCard (s s' : Sectors) (l : Label) : Type 0 where
  pub label : read_label (length s') (slice_index_or s' 0 []) ≡ Ok l
  pub directory : (k : ℕ) → 1 ≤ k → k < l.layout.area → slice_index_or s' k [] ≡ zeros 512
  pub others : (k : ℕ) → l.layout.area ≤ k → slice_index_or s' k [] ≡ slice_index_or s k []

-- no card: the master sector is refused at its first field
abbrev pub NoCard : Sectors → Type 0
NoCard s = bad_field (length s) (slice_index_or s 0 []) ≡ Some 0

-- accepted, format leaves the new card; broken off anywhere by the device, the old card, no card or the new card
abbrev pub Leaves : (m m' : Meaning) → Label → Result Layout Refusal → Type 0
Leaves m m' l (Ok v) = NewCard m.sectors m'.sectors l
Leaves m m' l (Err x) = (m'.sectors ≡ m.sectors) ⊎ (NoCard m'.sectors ⊎ NewCard m.sectors m'.sectors l)

abbrev pub labelled : Result Label ℕ → Result Label Refusal
labelled (Ok l) = Ok l
labelled (Err k) = Err (Field k)

-- the label is read from sector 0, unless there is none or the device refuses
pub record ReadsLabel (t : Faults) (m m' : Meaning) (r : Result Label Refusal) : Type 0 where
  pub no_sectors : length m.sectors ≡ 0 → (r ≡ Err (Field 0)) × (m' ≡ m)
  pub otherwise : 0 < length m.sectors →
      (MayAccept m.condition × (r ≡ labelled (read_label (length m.sectors) (sector m 0))) × (m' ≡ m))
      ⊎ ((f : Fault) × (r ≡ Err (Device f)) × MayRefuse m.condition × t Read 0 f × (m' ≡ now_failed m))
