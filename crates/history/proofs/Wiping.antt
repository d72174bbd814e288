-- Wipe: the live job's slot is held while its sectors are zeroed, and empty in the end.
use Rattle.std.proofs.Common.{◌≡◌, ℕ, zero, suc, ◌+◌, ◌<◌, ◌≤◌, min, eqb, List, [], ◌∷◌, ◌++◌, length, get_or, take, set, Option, sym, refl, ap, ◌∙◌, subst, arith}
use Rattle.std.proofs.Math.Seq.{take-nil}
use Rattle.std.proofs.lemmas.List.{length-take-le, set-get_or, append-nil}
use Rattle.std.proofs.lemmas.Bool.{and_parts, eqb-true}
use Rattle.device.proofs.Zeros.{length-zeros}
use Rattle.layout.specs.Extents.{extent_of}
use Rattle.layout.specs.Names.{lawful_name, padded}
use Rattle.layout.specs.declared.sizes.Layout.{Layout}
use Rattle.entries.specs.Entry.{entry_bytes, hold_entry}
use Rattle.entries.specs.State.{lawful_fields}
use Rattle.entries.specs.declared.entry.Entry.{Entry}
use Rattle.places.specs.Places.{Place, acted, Fits, counted_up}
use Rattle.places.specs.SlotWrites.{SlotWrite, enter, fill}
use Rattle.places.proofs.Frames.{Full}
use Rattle.plans.specs.Slots.{Job, Slot, empty, held, live, bytes_in, job_in, decoded}
use Rattle.plans.specs.Memory.{OpenJob}
use Rattle.plans.specs.Calls.{wipe}
use Rattle.plans.specs.Plans.{place_in, entry_of, to_slot, entering, filling, zero_chunk, no_entry, emptying, wipe_writes}
use Rattle.plans.proofs.Blocks.{ran, ran_append, take-filling, length-filling, length-bytes_in}
use Rattle.plans.proofs.Entries.{entered_fits, hold_fits, entered, is_live_by, HasNoJob, held_none, quiet, held_by, emptied_by, zeros_bytes}
use Rattle.history.specs.Model.{Model, once, wiped, held_or_empty, with_slots, changed, counted}
use Rattle.history.specs.Agreement.{seen, Unique, Agrees}
use Rattle.history.specs.Preserved.{entries_written}
use Rattle.history.proofs.Writing.{parts_append, parts_one, entries_append, entries_filling, ToSlot, to_slot_append, to_slot_filling, fits_append, fits_filling}
use Rattle.history.proofs.Agreeing.{Named, unique_set, Apart}
use Rattle.history.proofs.Carried.{LaidOut, Carried, full_wide, entry_fits}
use Rattle.history.proofs.OneSlot.{one_slot}

-- A SLOT EMPTIED

-- sectors written leave a slot without a job as it is
fills_quiet : (p : Place) (k f : ℕ) (x : ℕ → List ℕ) (i n : ℕ) (y : Slot) → HasNoJob y → decoded p ≡ y →
    decoded (ran p (counted_up (λ i. to_slot k (fill (f + i) (x i))) i n)) ≡ y
unfolding decoded
fills_quiet p k f x i zero y q h = h
fills_quiet p k f x i (suc n) y q h =
    let r : Place = acted p (fill (f + i) (x i)) in
    fills_quiet r k f x (suc i) n y q (quiet p.slot p.first (entry_of p) p.sectors r.sectors y q h)

filling_quiet : (p : Place) (k f : ℕ) (x : ℕ → List ℕ) (n : ℕ) (y : Slot) → HasNoJob y → decoded p ≡ y → decoded (ran p (filling k f x n)) ≡ y
unfolding filling
filling_quiet p k f x n y q h = fills_quiet p k f x 0 n y q h

entered_empty : (p : Place) (k : ℕ) → decoded (ran p (entering k no_entry ∷ [])) ≡ empty
entered_empty p k = entered p no_entry (hold_fits 0 (omega arith)) ∙ emptied_by p.slot p.first p.sectors

pub to_slot_emptying : (k n : ℕ) → ToSlot k (emptying k n)
unfolding emptying
to_slot_emptying k n = to_slot_append k (filling k 0 zero_chunk n) (entering k no_entry ∷ []) (to_slot_filling k 0 zero_chunk n) (refl, tt)

pub fits_emptying : (c : Layout) (k n : ℕ) → k < c.slots → n ≤ 128 → Fits c (emptying k n)
unfolding emptying
fits_emptying c k n h l =
    fits_append c (filling k 0 zero_chunk n) (entering k no_entry ∷ [])
    (fits_filling c k 0 zero_chunk n h (omega arith) (λ i. (length-zeros 512, zeros_bytes 512)))
    (h, entered_fits no_entry (hold_fits 0 (omega arith)), tt)

pub entries_emptying : (k n : ℕ) → entries_written (emptying k n) ≡ 1
unfolding emptying
entries_emptying k n = entries_append (filling k 0 zero_chunk n) (entering k no_entry ∷ []) ∙ omega (arith, entries_filling k 0 zero_chunk n)

pub emptying_whole : (p : Place) (k n : ℕ) → decoded (ran p (emptying k n)) ≡ empty
unfolding emptying
emptying_whole p k n =
    let ws : List SlotWrite = filling k 0 zero_chunk n in
    ap decoded (ran_append p ws (entering k no_entry ∷ [])) ∙ entered_empty (ran p ws) k

-- a slot without a job is as it was until the entry is written, and empty then
pub emptying_part : (p : Place) (k n : ℕ) (y : Slot) → HasNoJob y → decoded p ≡ y → (j : ℕ) →
    decoded (ran p (take j (emptying k n))) ≡ once (λ x. empty) (entries_written (take j (emptying k n))) y
unfolding emptying
emptying_part p k n y q h =
    let at : List SlotWrite → Type 0 = λ ws. decoded (ran p ws) ≡ once (λ x. empty) (entries_written ws) y in
    let ws : List SlotWrite = filling k 0 zero_chunk n in
    let still : (i : ℕ) → at (filling k 0 zero_chunk i) =
    λ i. subst (λ (d : ℕ). decoded (ran p (filling k 0 zero_chunk i)) ≡ once (λ x. empty) d y) (sym (entries_filling k 0 zero_chunk i))
    (filling_quiet p k 0 zero_chunk i y q h) in
    let before : (j : ℕ) → j ≤ length ws → at (take j ws) =
    λ j l. subst at (sym (take-filling k 0 zero_chunk n j (omega (arith, length-filling k 0 zero_chunk n)))) (still j) in
    let whole : at (ws ++ (entering k no_entry ∷ [])) =
    emptying_whole p k n ∙ sym (ap (λ (d : ℕ). once (λ x. empty) d y) (entries_emptying k n)) in
    let after : (j : ℕ) → at (ws ++ take j (entering k no_entry ∷ [])) =
    parts_one (λ zs. at (ws ++ zs)) (entering k no_entry) (subst at (sym (append-nil ws)) (still n)) whole in
    parts_append at ws (entering k no_entry ∷ []) before after

-- WIPE

-- the entry of a live job names the sectors that its bytes take, and its block has them
pub live_sectors : (p : Place) → Full p → (j : Job) → decoded p ≡ live j → ((entry_of p).sectors ≡ (extent_of (length j.bytes)).0) × ((entry_of p).sectors ≤ 128)
unfolding decoded job_in lawful_fields
live_sectors p f j h =
    let e : Entry = entry_of p in
    let g = is_live_by p.slot p.first e p.sectors j h in
    let l1 = and_parts (lawful_name e.name) _ g.lawful in
    let l2 = and_parts (eqb e.slot p.slot) _ l1.1 in
    let l3 = and_parts (eqb e.first p.first) _ l2.1 in
    let s : e.sectors ≡ (extent_of e.size).0 = eqb-true e.sectors (extent_of e.size).0 l3.1 in
    let few : e.size < 65536 = (entry_fits p f).size in
    let all : length (bytes_in p.sectors) ≡ 65536 = length-bytes_in p.sectors (full_wide p f) ∙ omega (arith, f.many) in
    let n : length j.bytes ≡ e.size =
    ap (λ (i : Job). length i.bytes) (sym g.job) ∙ length-take-le e.size (bytes_in p.sectors) (omega arith) in
    (omega arith, omega arith)

wiped_part : (p : Place) (k n : ℕ) (j : Job) → decoded p ≡ live j → (extent_of (length j.bytes)).0 ≡ n → n ≤ 128 → (i : ℕ) →
    decoded (ran p (take i (wipe_writes k n))) ≡ seen (wiped (entries_written (take i (wipe_writes k n))) (live j))
wiped_part p k n j h e l zero = h
wiped_part p k zero j h e l (suc i) =
    subst (λ (zs : List SlotWrite). decoded (ran p (entering k no_entry ∷ zs)) ≡ seen (wiped (suc (entries_written zs)) (live j))) (sym (take-nil i))
    (entered_empty p k ∙ ap (λ (z : ℕ). seen (held_or_empty z)) (sym e))
wiped_part p k (suc n) j h e l (suc i) =
    let g : Entry = hold_entry (suc n) in
    let m : min 128 (suc n) ≡ suc n = omega arith in
    let q : Place = acted p (enter (entry_bytes g)) in
    let x : decoded q ≡ held (suc n) =
    entered p g (hold_fits (suc n) (omega arith)) ∙ (held_by p.slot p.first n p.sectors ∙ ap held m) in
    emptying_part q k (suc n) (held (suc n)) held_none x i ∙ by (entries_written (take i (emptying k (suc n))))
  where
    by : (d : ℕ) → once (λ x. empty) d (held (suc n)) ≡ seen (wiped (suc d) (live j))
    by zero = ap (λ (z : ℕ). seen (held_or_empty z)) (sym e)
    by (suc d) = refl

pub to_slot_wipe : (k n : ℕ) → ToSlot k (wipe_writes k n)
to_slot_wipe k zero = (refl, tt)
to_slot_wipe k (suc n) = (refl, to_slot_emptying k (suc n))

fits_wipe : (c : Layout) (k n : ℕ) → k < c.slots → n ≤ 128 → Fits c (wipe_writes k n)
fits_wipe c k zero h l = (h, entered_fits (hold_entry 0) (hold_fits 0 (omega arith)), tt)
fits_wipe c k (suc n) h l = (h, entered_fits (hold_entry (suc n)) (hold_fits (suc n) (omega arith)), fits_emptying c k (suc n) h l)

-- all of them leave it empty
wiped_whole : (k n : ℕ) (j : Job) → (extent_of (length j.bytes)).0 ≡ n → wiped (entries_written (wipe_writes k n)) (live j) ≡ empty
wiped_whole k zero j e = ap held_or_empty e
wiped_whole k (suc n) j e = ap (λ (d : ℕ). wiped (suc d) (live j)) (entries_emptying k (suc n))

-- none of the slots on the way is live, but the one that is as it was
wiped_unique : (xs : List Slot) → Unique xs → (k : ℕ) (j : Job) → get_or xs k empty ≡ live j → (d : ℕ) → Unique (set xs k (wiped d (live j)))
wiped_unique xs u k j h zero = subst Unique (sym (ap (set xs k) (sym h) ∙ set-get_or xs k empty)) u
wiped_unique xs u k j h (suc zero) = unique_set xs u k (wiped 1 (live j)) (λ i e. by (extent_of (length j.bytes)).0 i e)
  where
    by : {A : Type 0} (n : ℕ) (i : Job) → held_or_empty n ≡ live i → A
    by zero i e = cc
    by (suc n) i e = cc
wiped_unique xs u k j h (suc (suc d)) = unique_set xs u k empty (λ i e. cc)

pub wipe_carried : (c : Layout) (m : Model) (ps : List Place) (o : Option OpenJob) → LaidOut c ps → Agrees m.slots m.waiting ps o → (n : List ℕ) (k : ℕ) (j : Job) →
    Named m.slots ps (padded n) k j → Apart m.waiting k → Carried c m ps o (wipe n) (wipe_writes k (entry_of (place_in ps k)).sectors) o
wipe_carried c m ps o v a n k j h f =
    let p : Place = place_in ps k in
    let s : ℕ = (entry_of p).sectors in
    let g = live_sectors p (v.full k h.inside) j h.shows in
    let cs : (d : ℕ) → counted m (wipe n) d ≡ with_slots m (set m.slots k (wiped d (live j))) =
    λ d. ap (λ (i : Option ℕ). with_slots m (changed m.slots i (wiped d))) h.at
    ∙ ap (λ (x : Slot). with_slots m (set m.slots k (wiped d x))) h.slot in
    one_slot c m ps o (wipe n) k (λ d. wiped d (live j)) (wipe_writes k s) a h.inside (to_slot_wipe k s)
    (fits_wipe c k s (omega (arith, h.inside, v.count)) g.1)
    cs
    (wiped_part p k s j h.shows (sym g.0) g.1)
    (wiped_unique m.slots a.unique k j h.slot)
    f
    (cs 2 ∙ ap (λ (x : Slot). with_slots m (set m.slots k x)) (sym (wiped_whole k s j (sym g.0))))
