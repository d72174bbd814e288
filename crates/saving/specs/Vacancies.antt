-- A slot for a new job.
use Rattle.std.specs.Prelude.{◌≡◌, ℕ, ◌<◌, List, [], ◌∷◌, ◌++◌, length, Ok, Err, Result}
use Rattle.device.specs.Faults.{Faults}
use Rattle.device.specs.Meaning.{Meaning}
use Rattle.layout.specs.Extents.{extent_of}
use Rattle.entries.specs.declared.entry.Entry.{Entry}
use Rattle.refusals.specs.declared.Refusal.{Refusal}
use Rattle.refusals.specs.declared.Refusal.TheVariants.{NoSlot}
use Rattle.places.specs.Places.{Place}
use Rattle.places.specs.SlotWrites.{SlotWrite}
use Rattle.plans.specs.Memory.{Memory, card_layout}
use Rattle.plans.specs.Plans.{Plan, found, vacant, filling, chunk, entering, card_places, place_in, entry_of}
use Rattle.plans.specs.Slots.{named, usable, slots_in, lowest}
use Rattle.volume.specs.Directory.{Passed}
use Rattle.volume.specs.Outcomes.{RefusedBy}
use Rattle.volume.specs.declared.found.Found.{Found}
use Rattle.naming.specs.Named.{ReadsFirst}

-- the plan of a call that makes a job of the padded name n, which goes on by g with the slot that it takes
abbrev pub room_plan : List Place → List ℕ → (ℕ → Plan) → Plan
room_plan ps n g = vacant (lowest (named n) (slots_in ps)) (found (lowest usable (slots_in ps)) NoSlot g)

-- the name is new and there is room: the slot with its entry, and where the plan goes on
pub record FoundRoom (m m' : Meaning) (q : Memory) (n : List ℕ) (v : Found) : Type 0 where
  pub passed : Passed (card_layout q) m m'
  pub inside : v.slot < (card_layout q).slots
  pub entry : v.entry ≡ entry_of (place_in (card_places q m.sectors) v.slot)
  pub goes_on : (g : ℕ → Plan) → room_plan (card_places q m.sectors) n g ≡ g v.slot

-- refused as every such plan refuses there
abbrev pub FindsRoom : Faults → (m m' : Meaning) (q : Memory) (n : List ℕ) → Result Found Refusal → Type 0
FindsRoom t m m' q n (Ok v) = FoundRoom m m' q n v
FindsRoom t m m' q n (Err r) =
    (g : ℕ → Plan) → ((k : ℕ) → ReadsFirst (g k)) → RefusedBy t (card_layout q) (room_plan (card_places q m.sectors) n g) r m m' q q

-- the data of a job, upwards, and then its entry
abbrev pub job_writes : ℕ → Entry → List ℕ → List SlotWrite
job_writes k e b = filling k 0 (chunk b) (extent_of (length b)).0 ++ (entering k e ∷ [])
