-- What a card holds, slot by slot. Rules: docs/FORMAT.md, "Entries and slots".
use Rattle.std.specs.Prelude.{ℕ, suc, Bool, true, false, cond, List, [], ◌∷◌, ◌++◌, map, take, Some, None, Option}
use Rattle.std.specs.Str.{bytes_eq}
use Rattle.device.specs.Meaning.{Sectors}
use Rattle.entries.specs.Entry.{entry_in}
use Rattle.entries.specs.State.{lawful_fields, state_by}
use Rattle.entries.specs.declared.entry.Entry.{Entry}
use Rattle.entries.specs.declared.state.EntryState.{EntryState}
use Rattle.entries.specs.declared.state.EntryState.TheVariants.{Empty, Held, Erased, Live, Damaged}
use Rattle.places.specs.Places.{Place}

-- a job: its name, padded, its type, its start address and its bytes
pub record Job : Type 0 where
  pub name : List ℕ
  pub kind : ℕ
  pub address : ℕ
  pub bytes : List ℕ

pub data Slot : Type 0 where
  empty : Slot
  -- a wipe was cut off: so many sectors are still to be zeroed
  held : ℕ → Slot
  live : Job → Slot
  erased : Job → Slot
  -- an entry that is none of these
  damaged : Slot

-- the bytes of some sectors, one sector behind the other
abbrev pub bytes_in : Sectors → List ℕ
bytes_in [] = []
bytes_in (x ∷ xs) = x ++ bytes_in xs

-- the job of an entry over the sectors of its block
unfoldable pub job_in : Entry → Sectors → Job
job_in e s = record { name = e.name; kind = e.kind; address = e.address; bytes = take e.size (bytes_in s) }

abbrev pub as_slot : EntryState → Job → Slot
as_slot Empty j = empty
as_slot (Held n) j = held n
as_slot Erased j = erased j
as_slot Live j = live j
as_slot Damaged j = damaged

-- what the entry e says of slot k, whose block begins at sector a and has the sectors s
unfoldable pub slot_by : (k a : ℕ) → Entry → Sectors → Slot
slot_by k a e s = as_slot (state_by (lawful_fields k a e) e) (job_in e s)

-- what stands in a place, and in several
unfoldable pub decoded : Place → Slot
decoded p = slot_by p.slot p.first (entry_in p.entry) p.sectors

abbrev pub slots_in : List Place → List Slot
slots_in ps = map decoded ps

-- a slot that a new job can take
abbrev pub usable : Slot → Bool
usable empty = true
usable (held n) = false
usable (live j) = false
usable (erased j) = true
usable damaged = false

-- a slot with a live job of the padded name n
abbrev pub named : List ℕ → Slot → Bool
named n empty = false
named n (held k) = false
named n (live j) = bytes_eq n j.name
named n (erased j) = false
named n damaged = false

abbrev pub is_live : Slot → Bool
is_live empty = false
is_live (held k) = false
is_live (live j) = true
is_live (erased j) = false
is_live damaged = false

abbrev pub is_erased : Slot → Bool
is_erased empty = false
is_erased (held k) = false
is_erased (live j) = false
is_erased (erased j) = true
is_erased damaged = false

-- the job in a slot, live or erased
abbrev pub job_of : Slot → Job
job_of empty = record { name = []; kind = 0; address = 0; bytes = [] }
job_of (held n) = record { name = []; kind = 0; address = 0; bytes = [] }
job_of (live j) = j
job_of (erased j) = j
job_of damaged = record { name = []; kind = 0; address = 0; bytes = [] }

abbrev pub one_up : Option ℕ → Option ℕ
one_up None = None
one_up (Some k) = Some (suc k)

-- the lowest place in a list of what passes a test, if anything does
abbrev pub lowest : {X : Type 0} → (X → Bool) → List X → Option ℕ
lowest p [] = None
lowest p (x ∷ xs) = cond (p x) (Some 0) (one_up (lowest p xs))
