-- What the model, the card's sectors and the program's memory have to do with one another.
use Rattle.std.specs.Prelude.{◌≡◌, ℕ, ◌*◌, ◌<◌, ◌≤◌, Bool, true, false, List, [], ◌++◌, map, length, take, Some, None, Ok, Option, slice_index_or, slice_set}
use Rattle.device.specs.Meaning.{Sectors, Bytes}
use Rattle.layout.specs.Label.{read_label}
use Rattle.layout.specs.Sizes.{layout_of}
use Rattle.layout.specs.declared.label.Label.{Label}
use Rattle.places.specs.Places.{Place, places, Shaped}
use Rattle.plans.specs.Slots.{Job, Slot, empty, held, live, erased, damaged, bytes_in, slots_in}
use Rattle.plans.specs.Memory.{OpenJob, Memory, unmounted, job_length}
use Rattle.plans.specs.Plans.{place_in}
use Rattle.history.specs.Model.{Waiting, Model, with_name}

-- a slot of the model as the card shows it: an erased job has lost the first letter of its name
abbrev pub seen : Slot → Slot
seen empty = empty
seen (held n) = held n
seen (live j) = live j
seen (erased j) = erased (with_name j (slice_set j.name 0 0x7F))
seen damaged = damaged

-- no two slots have live jobs of one name
abbrev pub Unique : List Slot → Type 0
Unique xs = (i k : ℕ) (a b : Job) → slice_index_or xs i empty ≡ live a → slice_index_or xs k empty ≡ live b → a.name ≡ b.name → i ≡ k

-- the open job o, the bytes w that wait there, its slot x of the model and its place p: full sectors and gathered bytes
-- are what is committed and what waits
pub record OpenAgrees (o : OpenJob) (w : Waiting) (x : Slot) (p : Place) : Type 0 where
  pub slot : o.slot ≡ w.slot
  pub job : Job
  pub lives : x ≡ live job
  pub name : o.name ≡ job.name
  pub lies : take (512 * o.full) (bytes_in p.sectors) ++ o.gathered ≡ job.bytes ++ w.bytes
  pub few : job_length o ≤ 65535
  pub short : length o.gathered < 512
  pub bytes : Bytes o.gathered
  pub none_waits : o.waiting ≡ 0 → w.bytes ≡ []

abbrev pub Opens : Option OpenJob → Option Waiting → List Slot → List Place → Type 0
Opens None None xs ps = Unit {0}
Opens None (Some w) xs ps = ⊥
Opens (Some o) None xs ps = ⊥
Opens (Some o) (Some w) xs ps = OpenAgrees o w (slice_index_or xs w.slot empty) (place_in ps w.slot)

-- the model's slots are those of the card, and its waiting bytes those of the open job
pub record Agrees (xs : List Slot) (w : Option Waiting) (ps : List Place) (o : Option OpenJob) : Type 0 where
  pub same : slots_in ps ≡ map seen xs
  pub unique : Unique xs
  pub open' : Opens o w xs ps

-- the program knows the card's size from the first accepted mount on; until then no job is open
abbrev pub Knows : Bool → (size : ℕ) → Memory → Type 0
Knows true size q = q.size ≡ size
Knows false size q = q ≡ unmounted

-- a card of `size` sectors, whose label is still the one that its format wrote, agrees with the model m; the program
-- keeps q
pub record Holds (size : ℕ) (m : Model) (s : Sectors) (q : Memory) : Type 0 where
  pub shaped : Shaped (layout_of size) s
  pub label : (l : Label) × (read_label (length s) (slice_index_or s 0 []) ≡ Ok l) × (l.layout ≡ layout_of size)
  pub agrees : Agrees m.slots m.waiting (places (layout_of size) s) q.job
  pub knows : Knows m.mounted size q
