-- Calls that make a job in a usable slot: save, and open of a name that is not live.
use Rattle.std.proofs.Common.{◌≡◌, ℕ, zero, suc, ◌+◌, ◌-◌, ◌*◌, ◌<◌, ◌≤◌, true, eqb, ◌⊎◌, List, [], ◌∷◌, ◌++◌, length, get_or, take, drop, set, Some, None, Option, sym, refl, ap, ◌∙◌, subst, ap₂, inl, inr, append_assoc, arith}
use Rattle.std.proofs.lemmas.List.{get_or-set_same, take_at, append-nil}
use Rattle.std.proofs.lemmas.Bool.{and_from, eq-eqb}
use Rattle.device.specs.Meaning.{Sectors, Bytes, zeros}
use Rattle.device.proofs.ByteLists.{no_bytes}
use Rattle.layout.specs.Extents.{extent_of}
use Rattle.layout.specs.Names.{lawful_name, padded}
use Rattle.layout.specs.declared.sizes.Layout.{Layout}
use Rattle.entries.specs.Entry.{entry_bytes, new_entry}
use Rattle.entries.specs.State.{lawful_fields}
use Rattle.entries.specs.declared.entry.Entry.{Entry}
use Rattle.places.specs.Places.{Place, no_place, acted, all_moved, Fits}
use Rattle.places.specs.SlotWrites.{SlotWrite, enter}
use Rattle.places.proofs.Frames.{Full}
use Rattle.plans.specs.Slots.{Job, Slot, empty, held, live, erased, damaged, bytes_in, job_in, slot_by, decoded, slots_in, usable, named, is_live, lowest}
use Rattle.plans.specs.Memory.{OpenJob}
use Rattle.plans.specs.Calls.{save, open'}
use Rattle.plans.specs.Plans.{place_in, entry_of, entering, filling, chunk, no_entry, clearing, saved_entry, save_writes, new_job, opened_new, job_saved}
use Rattle.plans.proofs.Blocks.{ran, ran_append, ran_filling, laid, with_sectors, take-filling, length-filling, bytes_in_laid, chunks_hold, length-chunk, chunk_bytes}
use Rattle.plans.proofs.Entries.{FitsEntry, new_fits, hold_fits, entered_fits, entered, lawful_short, lawful_bytes, live_by, emptied_by, empty_none, quiet}
use Rattle.history.specs.Model.{Waiting, Model, changed, saved, with_slots, opened, counted, slot_of, none_yet, open_slot}
use Rattle.history.specs.Agreement.{seen, Unique, OpenAgrees, Agrees}
use Rattle.history.specs.Preserved.{entries_written}
use Rattle.history.proofs.Writing.{ToSlot, to_slot_append, to_slot_filling, parts_append, parts_one, entries_append, entries_filling, fits_append, fits_filling}
use Rattle.history.proofs.Agreeing.{Hit, unique_set, agrees_set, not_live_apart, usable_not_live, not_named}
use Rattle.history.proofs.Carried.{LaidOut, Carried, full_wide}
use Rattle.history.proofs.OneSlot.{one_slot, length-padded, padded_lawful, unique_named}

-- the entry of a new job over sectors that begin with its bytes
saved_lawful : (p : Place) (j : Job) → lawful_name j.name ≡ true → lawful_fields p.slot p.first (saved_entry p j) ≡ true
unfolding lawful_fields new_entry
saved_lawful p j h =
    and_from (lawful_name j.name) _ h
    (and_from (eqb p.slot p.slot) _ (eq-eqb p.slot p.slot refl)
    (and_from (eqb p.first p.first) _ (eq-eqb p.first p.first refl) (eq-eqb _ _ refl)))

saved_job : (p : Place) (j : Job) (s : Sectors) → take (length j.bytes) (bytes_in s) ≡ j.bytes → job_in (saved_entry p j) s ≡ j
unfolding job_in new_entry
saved_job p j s h = ap (λ (z : List ℕ). record { name = j.name; kind = j.kind; address = j.address; bytes = z }) h

saved_live : (p : Place) (j : Job) (s : Sectors) → lawful_name j.name ≡ true → take (length j.bytes) (bytes_in s) ≡ j.bytes →
    slot_by p.slot p.first (saved_entry p j) s ≡ live j
saved_live p j s h e = live_by p.slot p.first (saved_entry p j) s (saved_lawful p j h) ∙ ap live (saved_job p j s e)

-- the arguments of a save, and of an open, once they are found lawful
pub record Saves (j : Job) : Type 0 where
  pub name : lawful_name j.name ≡ true
  pub long : length j.name ≡ 16
  pub kind : j.kind < 256
  pub address : j.address < 65536
  pub few : length j.bytes ≤ 65535
  pub bytes : Bytes j.bytes

saved_fits : (c : Layout) (ps : List Place) (k : ℕ) (j : Job) → LaidOut c ps → k < length ps → Saves j → FitsEntry (saved_entry (place_in ps k) j)
saved_fits c ps k j l h s =
    let few = s.few in
    new_fits j.name j.kind _ _ (length j.bytes) j.address s.long (lawful_bytes j.name s.name) s.kind (l.slot k h) (l.first k h) (omega arith) s.address

-- the data and then the entry, over a slot that is empty
abbrev data_writes : ℕ → Place → Job → List SlotWrite
data_writes k p j = filling k 0 (chunk j.bytes) (extent_of (length j.bytes)).0 ++ (entering k (saved_entry p j) ∷ [])

-- the slot stays empty until the entry is written
data_parts : (p t : Place) (k : ℕ) (j : Job) → Full p → Saves j → FitsEntry (saved_entry t j) → t.slot ≡ p.slot → t.first ≡ p.first → decoded p ≡ empty → (i : ℕ) →
    let ws = take i (data_writes k t j) in
    ((entries_written ws ≡ 0) × (decoded (ran p ws) ≡ empty)) ⊎ ((entries_written ws ≡ 1) × (decoded (ran p ws) ≡ live j))
unfolding decoded
data_parts p t k j v s w es ef d i =
    let n : ℕ = (extent_of (length j.bytes)).0 in
    let x : ℕ → List ℕ = chunk j.bytes in
    let room : n ≤ 128 = let few = s.few in omega arith in
    let quiet_at : (b : ℕ) → b ≤ n → decoded (ran p (filling k 0 x b)) ≡ empty =
    λ b h. ap decoded (ran_filling p k 0 x b (omega (arith, v.many))) ∙ quiet p.slot p.first (entry_of p) p.sectors (laid p.sectors 0 x b) empty empty_none d in
    let P : List SlotWrite → Type 0 = λ ws. ((entries_written ws ≡ 0) × (decoded (ran p ws) ≡ empty)) ⊎ ((entries_written ws ≡ 1) × (decoded (ran p ws) ≡ live j)) in
    let q : Place = with_sectors p (laid p.sectors 0 x n) in
    let e1 : ran p (filling k 0 x n) ≡ q = ran_filling p k 0 x n (omega (arith, v.many)) in
    let enough : length j.bytes ≤ 512 * n = omega arith in
    let holds : take (length j.bytes) (bytes_in q.sectors) ≡ j.bytes =
    ap (take (length j.bytes)) (bytes_in_laid p.sectors 0 x n (full_wide p v) (omega (arith, v.many))
    ∙ (ap (λ (z : List ℕ). z ++ bytes_in (drop (0 + n) p.sectors)) (chunks_hold j.bytes n enough)))
    ∙ (ap (take (length j.bytes)) (append_assoc j.bytes (zeros (512 * n - length j.bytes)) (bytes_in (drop (0 + n) p.sectors)))
    ∙ take_at j.bytes _ (length j.bytes) refl) in
    let shown : decoded (acted q (enter (entry_bytes (saved_entry t j)))) ≡ live j =
    entered q (saved_entry t j) w
    ∙ (ap₂ (λ (a b : ℕ). slot_by a b (saved_entry t j) q.sectors) (sym es) (sym ef) ∙ saved_live t j q.sectors s.name holds) in
    parts_append P (filling k 0 x n) (entering k (saved_entry t j) ∷ [])
    (λ b h.
    let hn : b ≤ n = omega (arith, length-filling k 0 x n) in
    let e : take b (filling k 0 x n) ≡ filling k 0 x b = take-filling k 0 x n b hn in
    subst P (sym e) (inl (entries_filling k 0 x b, quiet_at b hn)))
    (λ b. parts_one (λ (ws : List SlotWrite). P (filling k 0 x n ++ ws)) (entering k (saved_entry t j))
    (subst P (sym (append-nil (filling k 0 x n))) (inl (entries_filling k 0 x n, quiet_at n (omega arith))))
    (inr (
      entries_append (filling k 0 x n) (entering k (saved_entry t j) ∷ []) ∙ ap (λ (z : ℕ). z + 1) (entries_filling k 0 x n),
      ap decoded (ran_append p (filling k 0 x n) (entering k (saved_entry t j) ∷ []) ∙ ap (λ (z : Place). acted z (enter (entry_bytes (saved_entry t j)))) e1) ∙ shown,
    ))
    b)
    i

-- SAVE

empty_parts : (p : Place) (k : ℕ) (j : Job) → Full p → Saves j → FitsEntry (saved_entry p j) → decoded p ≡ empty → (i : ℕ) →
    decoded (ran p (take i (data_writes k p j))) ≡ seen (saved j (entries_written (take i (data_writes k p j))) empty)
empty_parts p k j v s w d i = elim (data_parts p p k j v s w refl refl d i) [ inl h ↦ rw h.0 h.1 | inr h ↦ rw h.0 h.1 ]

-- an erased job's entry is zeroed first
erased_parts : (p : Place) (k : ℕ) (j a : Job) → Full p → Saves j → FitsEntry (saved_entry p j) → decoded p ≡ seen (erased a) → (i : ℕ) →
    decoded (ran p (take i (entering k no_entry ∷ data_writes k p j))) ≡ seen (saved j (entries_written (take i (entering k no_entry ∷ data_writes k p j))) (erased a))
erased_parts p k j a v s w d zero = d
erased_parts p k j a v s w d (suc i) =
    let f = hold_fits 0 (omega arith) in
    let e : FitsEntry no_entry = f in
    let q : Place = acted p (enter (entry_bytes no_entry)) in
    let g = entered_fits no_entry e in
    let full : Full q = record { entry_long = g.0; entry_bytes = g.1; many = v.many; whole = v.whole; bytes = v.bytes } in
    let z : decoded q ≡ empty = entered p no_entry e ∙ emptied_by p.slot p.first p.sectors in
    elim (data_parts q p k j full s w refl refl z i) [ inl h ↦ rw h.0 h.1 | inr h ↦ rw h.0 h.1 ]

-- the parts of a save, by what stood in the slot
save_parts : (p : Place) (k : ℕ) (j : Job) (y : Slot) → Full p → Saves j → FitsEntry (saved_entry p j) → decoded p ≡ seen y → usable y ≡ true → (i : ℕ) →
    decoded (ran p (take i (clearing k (seen y) ++ data_writes k p j))) ≡ seen (saved j (entries_written (take i (clearing k (seen y) ++ data_writes k p j))) y)
save_parts p k j empty v s w d u i = empty_parts p k j v s w d i
save_parts p k j (held n) v s w d u i = cc
save_parts p k j (live a) v s w d u i = cc
save_parts p k j (erased a) v s w d u i = erased_parts p k j a v s w d i
save_parts p k j damaged v s w d u i = cc

data_entries : (p : Place) (k : ℕ) (j : Job) → entries_written (data_writes k p j) ≡ 1
data_entries p k j =
    entries_append (filling k 0 (chunk j.bytes) (extent_of (length j.bytes)).0) (entering k (saved_entry p j) ∷ [])
    ∙ ap (λ (z : ℕ). z + 1) (entries_filling k 0 (chunk j.bytes) (extent_of (length j.bytes)).0)

save_whole : (p : Place) (k : ℕ) (j : Job) (y : Slot) → usable y ≡ true → saved j 2 y ≡ saved j (entries_written (clearing k (seen y) ++ data_writes k p j)) y
save_whole p k j empty u = rw (data_entries p k j)
save_whole p k j (held n) u = cc
save_whole p k j (live a) u = cc
save_whole p k j (erased a) u = rw (data_entries p k j)
save_whole p k j damaged u = cc

-- a live job that a save leaves is the saved one
saved_new : (j : Job) (d : ℕ) (y : Slot) (i : Job) → usable y ≡ true → saved j d y ≡ live i → i ≡ j
saved_new j zero y i u e = let z = sym (usable_not_live y u) ∙ ap is_live e in cc
saved_new j (suc d) empty i u e = cc
saved_new j (suc d) (held n) i u e = cc
saved_new j (suc d) (live a) i u e = cc
saved_new j (suc zero) (erased a) i u e = let z = ap is_live e in cc
saved_new j (suc (suc d)) (erased a) i u e = cc
saved_new j (suc d) damaged i u e = cc

to_slot_data : (k : ℕ) (p : Place) (j : Job) (y : Slot) → ToSlot k (clearing k y ++ data_writes k p j)
to_slot_data k p j y =
    to_slot_append k (clearing k y) (data_writes k p j) (by y)
    (to_slot_append k (filling k 0 (chunk j.bytes) (extent_of (length j.bytes)).0) (entering k (saved_entry p j) ∷ []) (to_slot_filling k 0 _ _) (refl, tt))
  where
    by : (y : Slot) → ToSlot k (clearing k y)
    by empty = tt
    by (held n) = tt
    by (live j) = tt
    by (erased j) = (refl, tt)
    by damaged = tt

fits_data : (c : Layout) (k : ℕ) (p : Place) (j : Job) (y : Slot) → k < c.slots → Saves j → FitsEntry (saved_entry p j) → Fits c (clearing k y ++ data_writes k p j)
fits_data c k p j y h s w =
    let few = s.few in
    fits_append c (clearing k y) (data_writes k p j) (by y)
    (fits_append c (filling k 0 (chunk j.bytes) (extent_of (length j.bytes)).0) (entering k (saved_entry p j) ∷ [])
    (fits_filling c k 0 (chunk j.bytes) (extent_of (length j.bytes)).0 h (omega arith) (λ i. (length-chunk j.bytes i, chunk_bytes j.bytes i s.bytes)))
    (h, entered_fits (saved_entry p j) w, tt))
  where
    by : (y : Slot) → Fits c (clearing k y)
    by empty = tt
    by (held n) = tt
    by (live j) = tt
    by (erased j) = (h, entered_fits no_entry (hold_fits 0 (omega arith)), tt)
    by damaged = tt

pub save_carried : (c : Layout) (m : Model) (ps : List Place) (o : Option OpenJob) → LaidOut c ps → Agrees m.slots m.waiting ps o → (n : List ℕ) (t a : ℕ) (b : List ℕ) →
    Saves (job_saved n t a b) → lowest (named (padded n)) (slots_in ps) ≡ None → (k : ℕ) → Hit m.slots ps usable k →
    Carried c m ps o (save n t a b) (save_writes k (place_in ps k) (job_saved n t a b)) o
unfolding save_writes
save_carried c m ps o l g n t a b s v k h =
    let j : Job = job_saved n t a b in
    let p : Place = place_in ps k in
    let y : Slot = get_or m.slots k empty in
    let w = saved_fits c ps k j l h.inside s in
    let i : k < c.slots = omega (arith, l.count, h.inside) in
    subst (λ (z : Slot). Carried c m ps o (save n t a b) (clearing k z ++ data_writes k p j) o) (sym h.shows)
    (one_slot c m ps o (save n t a b) k (λ d. saved j d y) (clearing k (seen y) ++ data_writes k p j) g h.inside (to_slot_data k p j (seen y)) (fits_data c k p j (seen y) i s w)
    (λ d. ap (λ (z : Option ℕ). with_slots m (changed m.slots z (saved j d))) h.at)
    (save_parts p k j y (l.full k h.inside) s w h.shows h.passes)
    (λ d. unique_set m.slots g.unique k (saved j d y) (λ x e r z q f u. not_named g (padded n) v r z f (u ∙ ap (λ (y : Job). y.name) (saved_new j d y x h.passes e))))
    (not_live_apart o m.waiting m.slots ps k (usable_not_live y h.passes) g.open')
    (ap (λ (z : Option ℕ). with_slots m (changed m.slots z (saved j 2))) h.at ∙ ap (λ (z : Slot). with_slots m (set m.slots k z)) (save_whole p k j y h.passes)))

-- OPEN

new_saves : (n : List ℕ) → lawful_name n ≡ true → Saves (new_job n)
new_saves n h = record {
  name = padded_lawful n h;
  long = length-padded n (lawful_short n h);
  kind = omega arith;
  address = omega arith;
  few = omega arith;
  bytes = no_bytes;
}

pub open_carried : (c : Layout) (m : Model) (ps : List Place) → LaidOut c ps → Agrees m.slots m.waiting ps None → (n : List ℕ) → lawful_name n ≡ true →
    lowest (named (padded n)) (slots_in ps) ≡ None → slot_of m n ≡ None → (k : ℕ) → Hit m.slots ps usable k →
    Carried c m ps None (open' n) (entering k (saved_entry (place_in ps k) (new_job n)) ∷ []) (Some (opened_new k n))
open_carried c m ps l a n g v v' k h =
    let j : Job = new_job n in
    let p : Place = place_in ps k in
    let e : Entry = saved_entry p j in
    let xs : List Slot = m.slots in
    let s = new_saves n g in
    let w = saved_fits c ps k j l h.inside s in
    let i : k < c.slots = omega (arith, l.count, h.inside) in
    let q : Place = acted p (enter (entry_bytes e)) in
    let d : decoded q ≡ live j = entered p e w ∙ saved_live p j p.sectors s.name refl in
    let u : Unique (set xs k (live j)) = unique_named xs a.unique k j (λ r z _ f. not_named a (padded n) v r z f) in
    let apart = not_live_apart None m.waiting xs ps k (usable_not_live (get_or xs k empty) h.passes) a.open' in
    let stays : Agrees (set xs k (live j)) m.waiting (set ps k q) None = agrees_set a k (live j) q d u apart in
    let slots : opened xs n (slot_of m n) ≡ set xs k (live j) =
    ap (opened xs n) v' ∙ ap (λ (z : Option ℕ). changed xs z (λ x. live j)) h.at in
    let o : OpenAgrees (opened_new k n) (record { slot = k; bytes = [] }) (get_or (set xs k (live j)) k empty) (get_or (set ps k q) k no_place) =
    rw (get_or-set_same xs k (live j) empty h.within, get_or-set_same ps k q no_place h.inside)
    record { slot = refl; job = j; lives = refl; name = refl; lies = refl; few = omega arith; short = omega arith; bytes = no_bytes; none_waits = λ _. refl } in
    record {
      fits = (i, entered_fits e w, tt);
      part = parts_one (λ (ws : List SlotWrite). let m' = counted m (open' n) (entries_written ws) in Agrees m'.slots m'.waiting (all_moved ps ws) None) (entering k e) a
          (subst (λ (z : List Slot). Agrees z m.waiting (set ps k q) None) (sym slots) stays);
      whole = subst (λ (z : List Slot). Agrees z (none_yet (open_slot xs (slot_of m n))) (set ps k q) (Some (opened_new k n))) (sym slots)
          (subst (λ (z : Option Waiting). Agrees (set xs k (live j)) z (set ps k q) (Some (opened_new k n)))
          (sym (ap (λ (z : Option ℕ). none_yet (open_slot xs z)) v' ∙ ap none_yet h.at))
          record { same = stays.same; unique = u; open' = o });
    }
