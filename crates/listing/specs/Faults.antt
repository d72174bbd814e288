-- The faults of entries, and names that are live in a lower slot already.
use Rattle.std.specs.Prelude.{◌≡◌, ℕ, ◌+◌, ◌<◌, Bool, false, List, take, is_some, Ok, Err, Option, Result, slice_index_or}
use Rattle.device.specs.Faults.{Faults}
use Rattle.device.specs.Meaning.{Meaning}
use Rattle.device.specs.declared.faults.Fault.{Fault}
use Rattle.layout.specs.Bytes.{part}
use Rattle.layout.specs.Sizes.{place_of, block_of}
use Rattle.layout.specs.declared.sizes.Layout.{Layout}
use Rattle.entries.specs.Entry.{entry_in}
use Rattle.entries.specs.declared.entry.Entry.{Entry}
use Rattle.places.specs.Places.{places, counted_up}
use Rattle.rows.specs.declared.finding.Finding.{Finding}
use Rattle.plans.specs.Rows.{fault_in, finding, kept}
use Rattle.plans.specs.Slots.{Slot, slots_in, named, lowest}
use Rattle.volume.specs.Directory.{ReadRefused}

-- entry k, in its directory sector b
abbrev pub entry_at : List ℕ → ℕ → Entry
entry_at b k = entry_in (part b (place_of k).offset 32)

-- its row
abbrev pub finding_in : Layout → (b : List ℕ) (taken : Bool) → ℕ → Option Finding
finding_in c b taken k = finding k (fault_in c.slots taken k (block_of c k) (entry_at b k))

-- the rows of the n entries from number k on, whose directory sector is b
unfoldable pub findings_in : Layout → (b : List ℕ) (taken : List Bool) → (k n : ℕ) → List Finding
findings_in c b taken k n = kept (counted_up (λ i. finding_in c b (slice_index_or taken i false) (k + i)) 0 n)

-- whether the name n is live in one of the first k of some slots
abbrev pub taken_below : List Slot → (n : List ℕ) → ℕ → Bool
taken_below xs n k = is_some (lowest (named n) (take k xs))

-- of the sixteen entries from number k on, whose directory sector is b: which of them have a name that is live in a
-- lower slot
pub record TakenNames (c : Layout) (m m' : Meaning) (k : ℕ) (b : List ℕ) (taken : List Bool) : Type 0 where
  pub same : m' ≡ m
  pub each : (i : ℕ) → i < 16 → slice_index_or taken i false ≡ taken_below (slots_in (places c m.sectors)) (entry_at b (k + i)).name (k + i)

abbrev pub TellsTaken : Faults → Layout → (m m' : Meaning) (k : ℕ) (b : List ℕ) → Result (List Bool) Fault → Type 0
TellsTaken t c m m' k b (Ok taken) = TakenNames c m m' k b taken
TellsTaken t c m m' k b (Err f) = (n : ℕ) × ReadRefused t m m' n f
