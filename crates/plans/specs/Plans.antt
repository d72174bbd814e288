-- Each call's plan: its refusals in the order of their numbers, its writes in order, its answer and what the program
-- keeps then. Rules: docs/CALLS.md.
use Rattle.std.specs.Prelude.{ℕ, zero, suc, ◌+◌, ◌*◌, ◌/◌, Bool, true, false, cond, ◌&&◌, leb, List, [], ◌∷◌, ◌++◌, length, take, drop, Some, None, Option, ◌==◌, nat_le, nat_lt, slice_index_or}
use Rattle.std.specs.Str.{bytes_eq}
use Rattle.device.specs.Meaning.{Sectors, zeros}
use Rattle.layout.specs.Extents.{extent_of}
use Rattle.layout.specs.Label.{bad_field}
use Rattle.layout.specs.Names.{lawful_name, name_char, padded}
use Rattle.layout.specs.Words.{double_at}
use Rattle.refusals.specs.declared.Refusal.{Refusal}
use Rattle.refusals.specs.declared.Refusal.TheVariants.{Name, FileType, NotOpen, TooLong, Field, Open, NoJob, NotSequential, NotErased, NameTaken, NoSlot, OutOfBounds}
use Rattle.entries.specs.Entry.{entry_in, entry_bytes, new_entry, hold_entry, renamed, first_set, resized}
use Rattle.entries.specs.declared.entry.Entry.{Entry}
use Rattle.places.specs.Places.{Place, places, no_place, acted, counted_up}
use Rattle.places.specs.SlotWrites.{SlotAct, SlotWrite, enter, fill}
use Rattle.plans.specs.Slots.{Job, Slot, empty, held, live, erased, damaged, decoded, slots_in, usable, named, is_live, is_erased, job_of, lowest}
use Rattle.plans.specs.Rows.{known_kind, job_rows, findings}
use Rattle.plans.specs.Memory.{OpenJob, Memory, mounted, with_job, card_layout, job_length}
use Rattle.plans.specs.Calls.{Call, mount, save, open', put, commit, finish, rename, erase, wipe, sweep, undelete, load, read, list, same, check, Answer, done, handle, uncommitted, loaded, bytes, jobs, equal, faults}

-- when a call reads, so that it may be refused by a read only there
pub data Reads : Type 0 where
  -- nowhere
  never : Reads
  -- a directory sector, just before an entry is written into it
  for_entries : Reads
  -- there, and before the first write
  at_first : Reads
  -- there, and once a slot's writes are done
  between : Reads

pub data Plan : Type 0 where
  -- from memory alone, so on a failed device too: the answer, and what is kept then
  tell : Answer → Memory → Plan
  -- refuse from memory alone
  decline : Refusal → Plan
  -- refuse after reading, with nothing changed
  refuse : Refusal → Plan
  -- write all this, then answer and keep
  go : Reads → List SlotWrite → Answer → Memory → Plan

-- WRITES

abbrev pub to_slot : ℕ → SlotAct → SlotWrite
to_slot k a = record { slot = k; act = a }

-- the entry e written for slot k
abbrev pub entering : ℕ → Entry → SlotWrite
entering k e = to_slot k (enter (entry_bytes e))

-- x 0, x 1 and so on written as the sectors of slot k from number f on, upwards, n of them
unfoldable pub filling : (k f : ℕ) → (ℕ → List ℕ) → ℕ → List SlotWrite
filling k f x n = counted_up (λ i. to_slot k (fill (f + i) (x i))) 0 n

-- sector i of the bytes b, zeros past their end
unfoldable pub chunk : List ℕ → ℕ → List ℕ
chunk b i = take 512 (drop (512 * i) b ++ zeros 512)

abbrev pub zero_chunk : ℕ → List ℕ
zero_chunk i = zeros 512

abbrev pub no_entry : Entry
no_entry = hold_entry 0

-- the place of slot k, and its entry
abbrev pub place_in : List Place → ℕ → Place
place_in ps k = slice_index_or ps k no_place

abbrev pub entry_of : Place → Entry
entry_of p = entry_in p.entry

-- an erased job's entry is zeroed before its block is written over: undelete finds no mixture
abbrev pub clearing : ℕ → Slot → List SlotWrite
clearing k empty = []
clearing k (held n) = []
clearing k (live j) = []
clearing k (erased j) = entering k no_entry ∷ []
clearing k damaged = []

abbrev pub saved_entry : Place → Job → Entry
saved_entry p j = new_entry j.name j.kind p.slot p.first (length j.bytes) j.address

-- the data, upwards, and then the entry
unfoldable pub save_writes : ℕ → Place → Job → List SlotWrite
save_writes k p j =
    clearing k (decoded p)
    ++ (filling k 0 (chunk j.bytes) (extent_of (length j.bytes)).0 ++ (entering k (saved_entry p j) ∷ []))

-- a sector each time that 512 bytes are gathered
abbrev pub sectors_full : OpenJob → List ℕ → ℕ
sectors_full o x = (length o.gathered + length x) / 512

unfoldable pub put_writes : OpenJob → List ℕ → List SlotWrite
put_writes o x = filling o.slot o.full (chunk (o.gathered ++ x)) (sectors_full o x)

-- the part-filled sector, if there is one
abbrev pub part_writes : OpenJob → List ℕ → List SlotWrite
part_writes o [] = []
part_writes o (x ∷ xs) = to_slot o.slot (fill o.full (chunk (x ∷ xs) 0)) ∷ []

unfoldable pub commit_writes : OpenJob → Entry → List SlotWrite
commit_writes o e = part_writes o o.gathered ++ (entering o.slot (resized e (job_length o)) ∷ [])

-- zeros over the first n sectors of slot k, and then the empty entry
unfoldable pub emptying : ℕ → ℕ → List SlotWrite
emptying k n = filling k 0 zero_chunk n ++ (entering k no_entry ∷ [])

-- the held mark comes first, so that a cut leaves no half-zero job; without sectors it is the empty entry already
abbrev pub wipe_writes : ℕ → ℕ → List SlotWrite
wipe_writes k zero = entering k (hold_entry 0) ∷ []
wipe_writes k (suc n) = entering k (hold_entry (suc n)) ∷ emptying k (suc n)

abbrev pub sweep_slot : ℕ → Slot → List SlotWrite
sweep_slot k empty = []
sweep_slot k (held n) = emptying k n
sweep_slot k (live j) = []
sweep_slot k (erased j) = []
sweep_slot k damaged = []

-- every held slot, upwards from slot k on
abbrev pub sweep_writes : ℕ → List Slot → List SlotWrite
sweep_writes k [] = []
sweep_writes k (x ∷ xs) = sweep_slot k x ++ sweep_writes (suc k) xs

-- TESTS

abbrev pub unless : Bool → Refusal → Plan → Plan
unless true r p = p
unless false r p = decline r

-- a slot that was looked for is there
abbrev pub found : Option ℕ → Refusal → (ℕ → Plan) → Plan
found None r f = refuse r
found (Some k) r f = f k

-- no slot of a name that is to be new
abbrev pub vacant : Option ℕ → Plan → Plan
vacant None p = p
vacant (Some k) p = refuse NameTaken

-- no job is open
abbrev pub all_shut : Option OpenJob → Plan → Plan
all_shut None p = p
all_shut (Some o) p = decline Open

-- the named job is not open
abbrev pub named_shut : Option OpenJob → List ℕ → Plan → Plan
named_shut None n p = p
named_shut (Some o) n p = cond (bytes_eq n o.name) (decline Open) p

-- the open job is in the handle's slot
abbrev pub held_open : Option OpenJob → ℕ → (OpenJob → Plan) → Plan
held_open None h f = decline NotOpen
held_open (Some o) h f = cond (o.slot == h) (f o) (decline NotOpen)

-- the first slot with a live job of the name n
abbrev pub slot_named : List Place → List ℕ → Option ℕ
slot_named ps n = lowest (named (padded n)) (slots_in ps)

-- THE CALLS

-- a device without sectors is refused without a read
abbrev pub mount_by : Option ℕ → ℕ → Plan
mount_by None s = go at_first [] done (mounted s)
mount_by (Some k) s = refuse (Field k)

unfoldable pub mount_plan : Sectors → Plan
mount_plan [] = decline (Field 0)
mount_plan (x ∷ xs) = mount_by (bad_field (suc (length xs)) x) (double_at x 15)

unfoldable pub save_plan : List Place → Memory → Job → (name : List ℕ) → Plan
save_plan ps q j name =
    unless (lawful_name name) Name
    (unless (known_kind j.kind) FileType
    (unless (nat_le (length j.bytes) 65535) TooLong
    (vacant (slot_named ps name)
    (found (lowest usable (slots_in ps)) NoSlot λ k. go at_first (save_writes k (place_in ps k) j) done q))))

-- a new job of no bytes, of type SEQ at address 0
abbrev pub new_job : List ℕ → Job
new_job name = record { name = padded name; kind = 0x82; address = 0; bytes = [] }

abbrev pub opened_new : ℕ → List ℕ → OpenJob
opened_new k name = record { slot = k; name = padded name; full = 0; gathered = []; waiting = 0 }

-- a job that is continued begins with its part-filled last sector gathered
abbrev pub continued : ℕ → Job → OpenJob
continued k j = record {
  slot = k;
  name = j.name;
  full = length j.bytes / 512;
  gathered = drop (512 * (length j.bytes / 512)) j.bytes;
  waiting = 0;
}

abbrev pub open_at : List Place → Memory → (name : List ℕ) → Option ℕ → Plan
open_at ps q name None =
    found (lowest usable (slots_in ps)) NoSlot λ k.
    go at_first (entering k (saved_entry (place_in ps k) (new_job name)) ∷ []) (handle k) (with_job q (Some (opened_new k name)))
open_at ps q name (Some k) =
    let j = job_of (decoded (place_in ps k)) in
    cond (j.kind == 0x82) (go at_first [] (handle k) (with_job q (Some (continued k j)))) (refuse NotSequential)

unfoldable pub open_plan : List Place → Memory → (name : List ℕ) → Plan
open_plan ps q name = unless (lawful_name name) Name (all_shut q.job (open_at ps q name (slot_named ps name)))

-- an open job after a piece was put
abbrev pub after_put : OpenJob → List ℕ → OpenJob
after_put o x = record {
  slot = o.slot;
  name = o.name;
  full = o.full + sectors_full o x;
  gathered = drop (512 * sectors_full o x) (o.gathered ++ x);
  waiting = o.waiting + length x;
}

abbrev pub put_by : ℕ → List SlotWrite → Memory → Plan
put_by zero ws q = tell done q
put_by (suc n) ws q = go never ws done q

unfoldable pub put_plan : Memory → (h : ℕ) → List ℕ → Plan
put_plan q h x =
    held_open q.job h λ o.
    unless (nat_le (job_length o + length x) 65535) TooLong
    (put_by (sectors_full o x) (put_writes o x) (with_job q (Some (after_put o x))))

abbrev pub after_commit : OpenJob → OpenJob
after_commit o = record { slot = o.slot; name = o.name; full = o.full; gathered = o.gathered; waiting = 0 }

unfoldable pub commit_plan : List Place → Memory → (h : ℕ) → Plan
commit_plan ps q h =
    held_open q.job h λ o.
    cond (o.waiting == 0) (tell done q)
    (go for_entries (commit_writes o (entry_of (place_in ps o.slot))) done (with_job q (Some (after_commit o))))

-- a handle that is not the open job's ends nothing
abbrev pub finish_by : Memory → ℕ → Option OpenJob → Plan
finish_by q h None = tell (uncommitted 0) q
finish_by q h (Some o) = cond (o.slot == h) (tell (uncommitted o.waiting) (with_job q None)) (tell (uncommitted 0) q)

unfoldable pub rename_plan : List Place → Memory → (old new : List ℕ) → Plan
rename_plan ps q old new =
    unless (lawful_name old && lawful_name new) Name
    (named_shut q.job (padded old)
    (found (slot_named ps old) NoJob λ k.
    vacant (slot_named ps new)
    (go at_first (entering k (renamed (entry_of (place_in ps k)) (padded new)) ∷ []) done q)))

unfoldable pub erase_plan : List Place → Memory → (name : List ℕ) → Plan
erase_plan ps q name =
    unless (lawful_name name) Name
    (named_shut q.job (padded name)
    (found (slot_named ps name) NoJob λ k.
    go at_first (entering k (first_set (entry_of (place_in ps k)) 0x7F) ∷ []) done q))

unfoldable pub wipe_plan : List Place → Memory → (name : List ℕ) → Plan
wipe_plan ps q name =
    unless (lawful_name name) Name
    (named_shut q.job (padded name)
    (found (slot_named ps name) NoJob λ k.
    go at_first (wipe_writes k (entry_of (place_in ps k)).sectors) done q))

-- the entry of an erased job with the letter first in its name, and what it makes of its slot
abbrev pub restored : Place → ℕ → Entry
restored p letter = first_set (entry_of p) letter

abbrev pub restored_slot : Place → ℕ → Slot
restored_slot p letter = decoded (acted p (enter (entry_bytes (restored p letter))))

-- a slot past the last is refused without a read
unfoldable pub undelete_plan : List Place → Memory → (k letter : ℕ) → Plan
undelete_plan ps q k letter =
    let p = place_in ps k in
    unless (name_char letter) Name
    (unless (nat_lt k (length ps)) NotErased
    (cond (is_erased (decoded p) && is_live (restored_slot p letter))
    (vacant (lowest (named (restored p letter).name) (slots_in ps)) (go at_first (entering k (restored p letter) ∷ []) done q))
    (refuse NotErased)))

-- the live job of a name, where its buffer or place is within bounds
abbrev pub reading : List Place → Memory → (name : List ℕ) → (Job → Bool) → (Job → Answer) → Plan
reading ps q name fits answer =
    unless (lawful_name name) Name
    (found (slot_named ps name) NoJob λ k.
    let j = job_of (decoded (place_in ps k)) in
    cond (fits j) (go at_first [] (answer j) q) (refuse OutOfBounds))

unfoldable pub load_plan : List Place → Memory → (name : List ℕ) (room : ℕ) → Plan
load_plan ps q name room = reading ps q name (λ j. leb (length j.bytes) room) loaded

unfoldable pub read_plan : List Place → Memory → (name : List ℕ) (place room : ℕ) → Plan
read_plan ps q name place room =
    reading ps q name (λ j. leb place (length j.bytes)) (λ j. bytes (take room (drop place j.bytes)))

unfoldable pub same_plan : List Place → Memory → (one other : List ℕ) → Plan
same_plan ps q one other =
    unless (lawful_name one && lawful_name other) Name
    (found (slot_named ps one) NoJob λ i.
    found (slot_named ps other) NoJob λ k.
    go at_first [] (equal (bytes_eq (job_of (decoded (place_in ps i))).bytes (job_of (decoded (place_in ps k))).bytes)) q)

-- the job that save makes
abbrev pub job_saved : (name : List ℕ) (kind address : ℕ) (bytes : List ℕ) → Job
job_saved name kind address b = record { name = padded name; kind = kind; address = address; bytes = b }

-- the slots of the mounted card
abbrev pub card_places : Memory → Sectors → List Place
card_places q s = places (card_layout q) s

-- a call on a card that keeps q in memory, on a device with the sectors s
abbrev pub plan : Sectors → Memory → Call → Plan
plan s q mount = mount_plan s
plan s q (save n t a b) = save_plan (card_places q s) q (job_saved n t a b) n
plan s q (open' n) = open_plan (card_places q s) q n
plan s q (put h x) = put_plan q h x
plan s q (commit h) = commit_plan (card_places q s) q h
plan s q (finish h) = finish_by q h q.job
plan s q (rename m n) = rename_plan (card_places q s) q m n
plan s q (erase n) = erase_plan (card_places q s) q n
plan s q (wipe n) = wipe_plan (card_places q s) q n
plan s q sweep = go between (sweep_writes 0 (slots_in (card_places q s))) done q
plan s q (undelete k l) = undelete_plan (card_places q s) q k l
plan s q (load n r) = load_plan (card_places q s) q n r
plan s q (read n i r) = read_plan (card_places q s) q n i r
plan s q list = go at_first [] (jobs (job_rows (slots_in (card_places q s)))) q
plan s q (same m n) = same_plan (card_places q s) q m n
plan s q check = go at_first [] (faults (findings (card_layout q) s)) q
