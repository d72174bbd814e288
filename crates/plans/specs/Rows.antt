-- The rows that list and check give.
use Rattle.std.specs.Prelude.{ℕ, suc, Bool, cond, not, ◌||◌, List, [], ◌∷◌, length, take, is_some, Some, None, Option, ◌==◌, nat_lt, slice_index}
use Rattle.device.specs.Meaning.{Sectors}
use Rattle.layout.specs.Extents.{extent_of}
use Rattle.layout.specs.Names.{lawful_name}
use Rattle.layout.specs.declared.sizes.Layout.{Layout}
use Rattle.entries.specs.Entry.{entry_in}
use Rattle.entries.specs.declared.entry.Entry.{Entry}
use Rattle.places.specs.Places.{place, places, counted_up, entries_listed}
use Rattle.rows.specs.declared.finding.Finding.{Finding}
use Rattle.rows.specs.declared.finding.FindingKind.{FindingKind}
use Rattle.rows.specs.declared.finding.FindingKind.TheVariants.{Name, Slot as SlotField, FirstSector, Sectors as SectorCount, NameTaken, NoBlock, Held, FileType}
use Rattle.rows.specs.declared.job_row.JobRow.{JobRow}
use Rattle.plans.specs.Slots.{Job, Slot, empty, held, live, erased, damaged, slots_in, named, lowest}

-- those of some rows that are there
abbrev pub kept : {R : Type 0} → List (Option R) → List R
kept [] = []
kept (None ∷ rs) = kept rs
kept (Some r ∷ rs) = r ∷ kept rs

abbrev pub job_row : ℕ → Job → JobRow
job_row k j = record { slot = k; name = j.name; kind = j.kind; address = j.address; size = length j.bytes }

-- the row of slot k: a live or an erased job has one
abbrev pub row_of : ℕ → Slot → Option JobRow
row_of k empty = None
row_of k (held n) = None
row_of k (live j) = Some (job_row k j)
row_of k (erased j) = Some (job_row k j)
row_of k damaged = None

-- the rows of slots, the first of them slot k
abbrev pub rows_from : ℕ → List Slot → List (Option JobRow)
rows_from k [] = []
rows_from k (x ∷ xs) = row_of k x ∷ rows_from (suc k) xs

unfoldable pub job_rows : List Slot → List JobRow
job_rows xs = kept (rows_from 0 xs)

-- the types BAS, BIN and SEQ
abbrev pub known_kind : ℕ → Bool
known_kind t = t == 0x80 || (t == 0x81 || t == 0x82)

-- the first fault of the entry e of slot k on a card of u slots, whose block would begin at sector a; `taken` says
-- whether its name is live in a lower slot
unfoldable pub fault_in : (u : ℕ) (taken : Bool) (k a : ℕ) → Entry → Option FindingKind
fault_in u taken k a e =
    cond (slice_index e.name 0 == 0) (cond (e.sectors == 0) None (Some (cond (nat_lt k u) Held NoBlock)))
    (cond (slice_index e.name 0 == 127) (cond (nat_lt k u) None (Some NoBlock))
    (cond (not (lawful_name e.name)) (Some Name)
    (cond (not (e.slot == k)) (Some SlotField)
    (cond (not (e.first == a)) (Some FirstSector)
    (cond (not (e.sectors == (extent_of e.size).0)) (Some SectorCount)
    (cond taken (Some NameTaken)
    (cond (not (nat_lt k u)) (Some NoBlock)
    (cond (not (known_kind e.kind)) (Some FileType) None))))))))

abbrev pub finding : ℕ → Option FindingKind → Option Finding
finding k None = None
finding k (Some f) = Some (record { slot = k; kind = f })

-- the finding of entry k of the directory; only slots below U have live jobs
abbrev pub finding_at : Layout → Sectors → ℕ → Option Finding
finding_at c s k =
    let p = place c s k in
    let e = entry_in p.entry in
    finding k (fault_in c.slots (is_some (lowest (named e.name) (take k (slots_in (places c s))))) k p.first e)

-- all entries of the directory sectors are looked at
unfoldable pub findings : Layout → Sectors → List Finding
findings c s = kept (counted_up (finding_at c s) 0 (entries_listed c))
