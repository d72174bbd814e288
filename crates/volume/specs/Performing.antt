-- Writes to slots carried out on a device: all of them, or cut off at a write or at a read. A write that is found on
-- the card persists, accepted or not; after a refused transfer none follows.
use Rattle.std.specs.Prelude.{◌≡◌, ℕ, zero, suc, ◌+◌, ◌<◌, ◌≤◌, ◌⊎◌, List, [], ◌∷◌, length, take, Ok, Err, Result, slice_index_or}
use Rattle.device.specs.Faults.{Faults}
use Rattle.device.specs.Meaning.{Meaning, MayAccept, MayRefuse, well}
use Rattle.device.specs.declared.faults.Act.TheVariants.{Read, Write}
use Rattle.device.specs.declared.faults.Fault.{Fault}
use Rattle.layout.specs.declared.sizes.Layout.{Layout}
use Rattle.runs.specs.Writes.{with_sectors, failed_with}
use Rattle.places.specs.SlotWrites.{SlotAct, SlotWrite, enter, fill, sector_write, all_written}
use Rattle.plans.specs.Plans.{Reads, never, for_entries, at_first, between}

-- all of the writes are accepted
pub record Performed (c : Layout) (m m' : Meaning) (ws : List SlotWrite) : Type 0 where
  pub leaves : m' ≡ with_sectors m (all_written c m.sectors ws)
  pub accepted : 0 < length ws → MayAccept m.condition

-- the sector that a write concerns
abbrev pub sector_of : Layout → SlotWrite → ℕ
sector_of c w = (sector_write c [] w.slot w.act).at

abbrev pub no_write : SlotWrite
no_write = record { slot = 0; act = enter [] }

-- write number `which` is refused with the fault f: those before it persist, and it does itself only if the device was
-- well
pub record CutAtWrite (t : Faults) (c : Layout) (m m' : Meaning) (ws : List SlotWrite) (f : Fault) : Type 0 where
  pub which : ℕ
  pub is_one : which < length ws
  pub accepted : 0 < which → MayAccept m.condition
  pub refusable : MayRefuse m.condition
  pub names : t Write (sector_of c (slice_index_or ws which no_write)) f
  pub leaves : (m' ≡ failed_with m (all_written c m.sectors (take which ws)))
      ⊎ ((m.condition ≡ well) × (m' ≡ failed_with m (all_written c m.sectors (take (which + 1) ws))))

-- write number j is that of an entry
abbrev pub IsEntry : SlotAct → Type 0
IsEntry (enter e) = Unit {0}
IsEntry (fill i x) = ⊥

abbrev pub Enters : List SlotWrite → ℕ → Type 0
Enters [] j = ⊥
Enters (w ∷ ws) zero = IsEntry w.act
Enters (w ∷ ws) (suc j) = Enters ws j

-- after the first j of its writes a call reads
abbrev pub Looks : Reads → List SlotWrite → ℕ → Type 0
Looks never ws j = ⊥
Looks for_entries ws j = Enters ws j
Looks at_first ws j = (j ≡ 0) ⊎ Enters ws j
Looks between ws j = (j ≡ 0) ⊎ (Enters ws j ⊎ ((i : ℕ) × (j ≡ suc i) × Enters ws i))

-- a read of some sector is refused with the fault f after the first writes, which persist
pub record CutAtRead (t : Faults) (c : Layout) (rs : Reads) (m m' : Meaning) (ws : List SlotWrite) (f : Fault) : Type 0 where
  pub after : ℕ
  pub are_some : after ≤ length ws
  pub looks : Looks rs ws after
  pub accepted : 0 < after → MayAccept m.condition
  pub refusable : MayRefuse m.condition
  pub sector : ℕ
  pub names : t Read sector f
  pub leaves : m' ≡ failed_with m (all_written c m.sectors (take after ws))

pub data Cut (t : Faults) (c : Layout) (rs : Reads) (m m' : Meaning) (ws : List SlotWrite) (f : Fault) : Type 0 where
  at_write : CutAtWrite t c m m' ws f → Cut t c rs m m' ws f
  at_read : CutAtRead t c rs m m' ws f → Cut t c rs m m' ws f

-- what a step of a call answers and leaves
abbrev pub Runs : {A : Type 0} → Faults → Layout → Reads → (m m' : Meaning) → List SlotWrite → Result A Fault → Type 0
Runs t c rs m m' ws (Ok a) = Performed c m m' ws
Runs t c rs m m' ws (Err f) = Cut t c rs m m' ws f
