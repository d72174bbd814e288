-- That every call keeps the model, whatever first part of its writes persists.
use Rattle.std.specs.Prelude.{◌≡◌, ℕ, suc, ◌<◌, true, List, [], ◌∷◌, length, take, Some, slice_index_or}
use Rattle.device.specs.Meaning.{Sectors, Bytes, zeros}
use Rattle.layout.specs.Extents.{extent_of}
use Rattle.layout.specs.Sizes.{layout_of}
use Rattle.places.specs.SlotWrites.{SlotWrite, SlotAct, enter, fill, all_written}
use Rattle.places.specs.Places.{Fits, places}
use Rattle.plans.specs.Calls.{Call, mount, save, open', put, commit, finish, rename, erase, wipe, sweep, undelete, load, read, list, same, check, Answer}
use Rattle.plans.specs.Slots.{empty, job_of}
use Rattle.plans.specs.Memory.{Memory}
use Rattle.plans.specs.Plans.{Plan, tell, decline, refuse, go, Reads, plan, place_in}
use Rattle.history.specs.Model.{Model, counted, done, slot_of}
use Rattle.history.specs.Agreement.{Holds}

-- the directory writes among some writes
abbrev pub entries_act : SlotAct → ℕ → ℕ
entries_act (enter e) n = suc n
entries_act (fill i x) n = n

abbrev pub entries_written : List SlotWrite → ℕ
entries_written [] = 0
entries_written (w ∷ ws) = entries_act w.act (entries_written ws)

-- arguments of the widths that calls take: addresses are words, pieces and letters are bytes
abbrev pub Typed : Call → Type 0
Typed mount = Unit {0}
Typed (save n t a b) = (a < 65536) × Bytes b
Typed (open' n) = Unit {0}
Typed (put h x) = Bytes x
Typed (commit h) = Unit {0}
Typed (finish h) = Unit {0}
Typed (rename o n) = Unit {0}
Typed (erase n) = Unit {0}
Typed (wipe n) = Unit {0}
Typed sweep = Unit {0}
Typed (undelete k l) = Unit {0}
Typed (load n r) = Unit {0}
Typed (read n i r) = Unit {0}
Typed list = Unit {0}
Typed (same o n) = Unit {0}
Typed check = Unit {0}

-- every first part of the writes leaves the model true as the persisted directory writes count it, with memory as it
-- was; and all of them as the accepted call does, with what is kept then
pub record Preserved (size : ℕ) (m : Model) (s : Sectors) (q : Memory) (call : Call) (ws : List SlotWrite) (q' : Memory) : Type 0 where
  pub fits : Fits (layout_of size) ws
  pub part : (j : ℕ) → Holds size (counted m call (entries_written (take j ws))) (all_written (layout_of size) s (take j ws)) q
  pub whole : Holds size (done m call) (all_written (layout_of size) s ws) q'

-- by the plan of the call; a refusal changes nothing
abbrev pub Preserves : (size : ℕ) (m : Model) (s : Sectors) (q : Memory) → Call → Plan → Type 0
Preserves size m s q call (tell a q') = Holds size (done m call) s q'
Preserves size m s q call (decline r) = Unit {0}
Preserves size m s q call (refuse r) = counted m call 0 ≡ m
Preserves size m s q call (go r ws a q') = Preserved size m s q call ws q'

abbrev pub CallsPreserve : Type 0
CallsPreserve =
    (size : ℕ) (m : Model) (s : Sectors) (q : Memory) → Holds size m s q → (call : Call) → Typed call →
    Preserves size m s q call (plan s q call)

-- after an accepted wipe every sector of the job is zero: no prefix of the rule above says so, since an empty slot shows
-- nothing of its block
abbrev pub WipeZeroes : Type 0
WipeZeroes =
    (size : ℕ) (m : Model) (s : Sectors) (q : Memory) → Holds size m s q → m.mounted ≡ true →
    (n : List ℕ) (r : Reads) (ws : List SlotWrite) (a : Answer) (q' : Memory) → plan s q (wipe n) ≡ go r ws a q' →
    (k : ℕ) → slot_of m n ≡ Some k → (i : ℕ) → i < (extent_of (length (job_of (slice_index_or m.slots k empty)).bytes)).0 →
    slice_index_or (place_in (places (layout_of size) (all_written (layout_of size) s ws)) k).sectors i [] ≡ zeros 512
