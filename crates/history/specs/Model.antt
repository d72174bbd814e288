-- The model of a card: what each slot has and what waits to be committed, told by calls, their arguments and their
-- outcomes alone.
use Rattle.std.specs.Prelude.{ℕ, zero, suc, Bool, true, false, cond, List, [], ◌∷◌, ◌++◌, length, replicate, Some, None, Option, ◌==◌, slice_index_or, slice_set}
use Rattle.layout.specs.Extents.{extent_of}
use Rattle.layout.specs.Names.{padded}
use Rattle.plans.specs.Slots.{Job, Slot, empty, held, live, erased, damaged, usable, named, job_of, lowest}
use Rattle.plans.specs.Calls.{Call, mount, save, open', put, commit, finish, rename, erase, wipe, sweep, undelete, load, read, list, same, check}
use Rattle.plans.specs.Plans.{job_saved, new_job}

-- the open job's slot, and the bytes put there that no commit has counted
pub record Waiting : Type 0 where
  pub slot : ℕ
  pub bytes : List ℕ

-- a card is mounted once a mount was accepted; until then its calls see no slot
pub record Model : Type 0 where
  pub mounted : Bool
  pub slots : List Slot
  pub waiting : Option Waiting

-- a new card with u slots
abbrev pub new_model : ℕ → Model
new_model u = record { mounted = false; slots = replicate u empty; waiting = None }

-- CHANGES OF SLOTS

-- the slots with the one at k changed by f, if there is one
abbrev pub changed : List Slot → Option ℕ → (Slot → Slot) → List Slot
changed xs None f = xs
changed xs (Some k) f = slice_set xs k (f (slice_index_or xs k empty))

abbrev pub with_name : Job → List ℕ → Job
with_name j n = record { name = n; kind = j.kind; address = j.address; bytes = j.bytes }

abbrev pub with_more : Job → List ℕ → Job
with_more j w = record { name = j.name; kind = j.kind; address = j.address; bytes = j.bytes ++ w }

-- a slot once d of a save's entries are written: one that was erased is emptied first
abbrev pub saved : Job → ℕ → Slot → Slot
saved j zero x = x
saved j (suc d) empty = live j
saved j (suc d) (held n) = live j
saved j (suc d) (live i) = live j
saved j (suc zero) (erased i) = empty
saved j (suc (suc d)) (erased i) = live j
saved j (suc d) damaged = live j

-- a slot once d of a wipe's entries are written: held while sectors are left to zero
abbrev pub held_or_empty : ℕ → Slot
held_or_empty zero = empty
held_or_empty (suc n) = held (suc n)

abbrev pub wiped : ℕ → Slot → Slot
wiped zero x = x
wiped (suc zero) x = held_or_empty (extent_of (length (job_of x).bytes)).0
wiped (suc (suc d)) x = empty

-- a slot once a call's only entry is written, or not yet
abbrev pub once : (Slot → Slot) → ℕ → Slot → Slot
once f zero x = x
once f (suc d) x = f x

-- the first d held slots emptied, upwards
abbrev pub swept : ℕ → List Slot → List Slot
swept d [] = []
swept d (empty ∷ xs) = empty ∷ swept d xs
swept zero (held n ∷ xs) = held n ∷ swept zero xs
swept (suc d) (held n ∷ xs) = empty ∷ swept d xs
swept d (live j ∷ xs) = live j ∷ swept d xs
swept d (erased j ∷ xs) = erased j ∷ swept d xs
swept d (damaged ∷ xs) = damaged ∷ swept d xs

-- bytes that waited join the job that they were put to
abbrev pub committed : List Slot → Option Waiting → List Slot
committed xs None = xs
committed xs (Some w) = changed xs (Some w.slot) (λ x. live (with_more (job_of x) w.bytes))

abbrev pub opened : List Slot → List ℕ → Option ℕ → List Slot
opened xs n None = changed xs (lowest usable xs) (λ x. live (new_job n))
opened xs n (Some k) = xs

-- CHANGES OF WHAT WAITS

abbrev pub waiting_at : ℕ → List ℕ → Option Waiting
waiting_at k x = Some (record { slot = k; bytes = x })

-- the slot that open answers
abbrev pub open_slot : List Slot → Option ℕ → Option ℕ
open_slot xs None = lowest usable xs
open_slot xs (Some k) = Some k

abbrev pub none_yet : Option ℕ → Option Waiting
none_yet None = None
none_yet (Some k) = waiting_at k []

abbrev pub more_waiting : Option Waiting → List ℕ → Option Waiting
more_waiting None x = None
more_waiting (Some w) x = waiting_at w.slot (w.bytes ++ x)

-- a counted commit leaves nothing waiting
abbrev pub all_counted : Option Waiting → Option Waiting
all_counted None = None
all_counted (Some w) = waiting_at w.slot []

-- a finish of that slot drops what waits
abbrev pub finished : Option Waiting → ℕ → Option Waiting
finished None h = None
finished (Some w) h = cond (w.slot == h) None (Some w)

-- CALLS

abbrev pub with_slots : Model → List Slot → Model
with_slots m xs = record { mounted = m.mounted; slots = xs; waiting = m.waiting }

abbrev pub with_waiting : Model → Option Waiting → Model
with_waiting m w = record { mounted = m.mounted; slots = m.slots; waiting = w }

-- the first slot with a live job of the name n
abbrev pub slot_of : Model → List ℕ → Option ℕ
slot_of m n = lowest (named (padded n)) m.slots

-- a call that was broken off, d of whose entries are found on the card
abbrev pub counted : Model → Call → ℕ → Model
counted m mount d = m
counted m (save n t a b) d = with_slots m (changed m.slots (lowest usable m.slots) (saved (job_saved n t a b) d))
counted m (open' n) zero = m
counted m (open' n) (suc d) = with_slots m (opened m.slots n (slot_of m n))
counted m (put h x) d = m
counted m (commit h) zero = m
counted m (commit h) (suc d) = with_waiting (with_slots m (committed m.slots m.waiting)) (all_counted m.waiting)
counted m (finish h) d = m
counted m (rename o n) d = with_slots m (changed m.slots (slot_of m o) (once (λ x. live (with_name (job_of x) (padded n))) d))
counted m (erase n) d = with_slots m (changed m.slots (slot_of m n) (once (λ x. erased (job_of x)) d))
counted m (wipe n) d = with_slots m (changed m.slots (slot_of m n) (wiped d))
counted m sweep d = with_slots m (swept d m.slots)
counted m (undelete k l) d = with_slots m (changed m.slots (Some k) (once (λ x. live (with_name (job_of x) (slice_set (job_of x).name 0 l))) d))
counted m (load n r) d = m
counted m (read n i r) d = m
counted m list d = m
counted m (same o n) d = m
counted m check d = m

-- an accepted call: all of its entries are written
abbrev pub done : Model → Call → Model
done m mount = record { mounted = true; slots = m.slots; waiting = None }
done m (save n t a b) = counted m (save n t a b) 2
done m (open' n) = with_waiting (counted m (open' n) 1) (none_yet (open_slot m.slots (slot_of m n)))
done m (put h x) = with_waiting m (more_waiting m.waiting x)
done m (commit h) = counted m (commit h) 1
done m (finish h) = with_waiting m (finished m.waiting h)
done m (rename o n) = counted m (rename o n) 1
done m (erase n) = counted m (erase n) 1
done m (wipe n) = counted m (wipe n) 2
-- a card that is not mounted shows no slot to sweep
done m sweep = counted m sweep (cond m.mounted (length m.slots) 0)
done m (undelete k l) = counted m (undelete k l) 1
done m (load n r) = m
done m (read n i r) = m
done m list = m
done m (same o n) = m
done m check = m
