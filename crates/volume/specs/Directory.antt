-- Passes over the directory, each of whose sectors is read once, and what they find.
use Rattle.std.specs.Prelude.{◌≡◌, ℕ, ◌+◌, ◌<◌, List, [], length, Some, None, Ok, Err, Option, Result, ◌≢◌, slice_index_or}
use Rattle.device.specs.Calls.{OfSound}
use Rattle.device.specs.Faults.{Faults}
use Rattle.device.specs.Meaning.{Meaning, Sectors, MayAccept, MayRefuse, now_failed}
use Rattle.device.specs.declared.faults.Act.TheVariants.{Read}
use Rattle.device.specs.declared.faults.Fault.{Fault}
use Rattle.device.specs.declared.sector_device.SectorDevice.{Ghosts}
use Rattle.layout.specs.Sizes.{place_of, block_of}
use Rattle.layout.specs.declared.sizes.Layout.{Layout}
use Rattle.entries.specs.declared.entry.Entry.{Entry}
use Rattle.places.specs.Places.{Place, places}
use Rattle.plans.specs.Slots.{slots_in, named, usable, lowest}
use Rattle.plans.specs.Plans.{place_in, entry_of}
use Rattle.volume.specs.declared.found.Found.{Found}
use Rattle.volume.specs.declared.found.Scan.{Scan}

-- every slot of the layout has its entry and its block on the device
pub record Room (c : Layout) (m : Meaning) : Type 0 where
  pub listed : (k : ℕ) → k < c.slots → (place_of k).sector < length m.sectors
  pub blocks : (k i : ℕ) → k < c.slots → i < 128 → block_of c k + i < length m.sectors

-- of a device on which the card of the layout c lies
abbrev pub OfCard : {D : Type 0} → Ghosts D → Layout → D → D → (Faults → Meaning → Meaning → Type 0) → Type 0
OfCard g c d d' P = OfSound g d d' (λ t m m'. Room c m → P t m m')

-- the same, and of one of its slots
abbrev pub OfSlot : {D : Type 0} → Ghosts D → Layout → ℕ → D → D → (Faults → Meaning → Meaning → Type 0) → Type 0
OfSlot g c k d d' P = OfSound g d d' (λ t m m'. k < c.slots → Room c m → P t m m')

-- of a device that has the directory sector of slot k
abbrev pub OfEntry : {D : Type 0} → Ghosts D → ℕ → D → D → (Faults → Meaning → Meaning → Type 0) → Type 0
OfEntry g k d d' P = OfSound g d d' (λ t m m'. (place_of k).sector < length m.sectors → P t m m')

-- the directory sector of slot k
abbrev pub directory_sector : Sectors → ℕ → List ℕ
directory_sector s k = slice_index_or s (place_of k).sector []

-- the read of sector n is refused with the fault f: the device is failed, its sectors as they were
pub record ReadRefused (t : Faults) (m m' : Meaning) (n : ℕ) (f : Fault) : Type 0 where
  pub refusable : MayRefuse m.condition
  pub names : t Read n f
  pub leaves : m' ≡ now_failed m

-- a buffer turned to slot k: its directory sector is read where slot k is the first in it
pub record Turned (m m' : Meaning) (k : ℕ) (b b' : List ℕ) : Type 0 where
  pub same : m' ≡ m
  pub first_there : (place_of k).offset ≡ 0 → MayAccept m.condition × (b' ≡ directory_sector m.sectors k)
  pub further : (place_of k).offset ≢ 0 → b' ≡ b

abbrev pub Turns : Faults → (m m' : Meaning) (k : ℕ) (b b' : List ℕ) → Result (Unit {0}) Fault → Type 0
Turns t m m' k b b' (Ok u) = Turned m m' k b b'
Turns t m m' k b b' (Err f) = ((place_of k).offset ≡ 0) × ReadRefused t m m' (place_of k).sector f

-- where it was written, a buffer holds the directory sector of slot k as it lies on the device
abbrev pub Holds : (m' : Meaning) (k : ℕ) (b' : List ℕ) → Result (Unit {0}) Fault → Type 0
Holds m' k b' (Ok u) = b' ≡ directory_sector m'.sectors k
Holds m' k b' (Err f) = Unit {0}

-- the entry of slot k
pub record ReadEntry (c : Layout) (m m' : Meaning) (k : ℕ) (e : Entry) : Type 0 where
  pub same : m' ≡ m
  pub accepted : MayAccept m.condition
  pub value : e ≡ entry_of (place_in (places c m.sectors) k)

abbrev pub ReadsEntry : Faults → Layout → (m m' : Meaning) (k : ℕ) → Result Entry Fault → Type 0
ReadsEntry t c m m' k (Ok e) = ReadEntry c m m' k e
ReadsEntry t c m m' k (Err f) = ReadRefused t m m' (place_of k).sector f

-- a slot that a search answers, with its entry
abbrev pub found_in : List Place → Option ℕ → Option Found
found_in ps None = None
found_in ps (Some k) = Some (record { slot = k; entry = entry_of (place_in ps k) })

-- a pass that was not refused read the directory, where there is a slot
pub record Passed (c : Layout) (m m' : Meaning) : Type 0 where
  pub same : m' ≡ m
  pub was_read : 0 < c.slots → MayAccept m.condition

-- both names and the lowest usable slot, in one pass
pub record Scanned (c : Layout) (m m' : Meaning) (first second : List ℕ) (v : Scan) : Type 0 where
  pub passed : Passed c m m'
  pub one : v.one ≡ found_in (places c m.sectors) (lowest (named first) (slots_in (places c m.sectors)))
  pub other : v.other ≡ found_in (places c m.sectors) (lowest (named second) (slots_in (places c m.sectors)))
  pub room : v.room ≡ found_in (places c m.sectors) (lowest usable (slots_in (places c m.sectors)))

abbrev pub Scans : Faults → Layout → (m m' : Meaning) (one other : List ℕ) → Result Scan Fault → Type 0
Scans t c m m' one other (Ok v) = Scanned c m m' one other v
Scans t c m m' one other (Err f) = (n : ℕ) × ReadRefused t m m' n f

-- one name, up to its slot
pub record Sought (c : Layout) (m m' : Meaning) (name : List ℕ) (v : Option Found) : Type 0 where
  pub passed : Passed c m m'
  pub value : v ≡ found_in (places c m.sectors) (lowest (named name) (slots_in (places c m.sectors)))

abbrev pub Seeks : Faults → Layout → (m m' : Meaning) (name : List ℕ) → Result (Option Found) Fault → Type 0
Seeks t c m m' name (Ok v) = Sought c m m' name v
Seeks t c m m' name (Err f) = (n : ℕ) × ReadRefused t m m' n f

-- told of any device, whatever card lies on it: a slot that is found is one of the card's
abbrev pub InSlots : ℕ → Option Found → Type 0
InSlots n None = Unit {0}
InSlots n (Some v) = v.slot < n

abbrev pub FoundIn : ℕ → Result (Option Found) Fault → Type 0
FoundIn n (Ok o) = InSlots n o
FoundIn n (Err f) = Unit {0}

abbrev pub ScanIn : ℕ → Result Scan Fault → Type 0
ScanIn n (Ok v) = InSlots n v.one × InSlots n v.other × InSlots n v.room
ScanIn n (Err f) = Unit {0}
