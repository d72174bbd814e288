-- Sweep: the held slots are emptied one after another, upwards.
use Rattle.std.proofs.Common.{◌≡◌, ℕ, zero, suc, ◌+◌, ◌<◌, ◌≤◌, min, Bool, true, false, cond, eqb, ◌≢◌, List, [], ◌∷◌, ◌++◌, map, length, get_or, take, set, Some, None, Option, sym, refl, ap, ◌∙◌, subst, append_assoc, le_refl, zero-add, arith}
use Rattle.std.proofs.Math.Seq.{take-nil}
use Rattle.std.proofs.lemmas.List.{append-nil, length-append, length_push, length-map, take_all, get_or_at, set_at, get_or-set_other, map-append}
use Rattle.layout.specs.declared.sizes.Layout.{Layout}
use Rattle.entries.specs.State.{lawful_fields, state_by}
use Rattle.entries.specs.declared.entry.Entry.{Entry}
use Rattle.entries.specs.declared.state.EntryState.TheVariants.{Empty, Held, Erased, Live, Damaged}
use Rattle.places.specs.Places.{Place, no_place, acted, moved, all_moved, Fits}
use Rattle.places.specs.SlotWrites.{SlotAct, SlotWrite, enter, fill}
use Rattle.plans.specs.Slots.{Job, Slot, empty, held, live, erased, damaged, as_slot, job_in, slot_by, decoded, slots_in}
use Rattle.plans.specs.Memory.{OpenJob}
use Rattle.plans.specs.Calls.{sweep}
use Rattle.plans.specs.Plans.{place_in, entry_of, emptying, sweep_slot, sweep_writes}
use Rattle.plans.proofs.Blocks.{ran}
use Rattle.plans.proofs.Entries.{held_none}
use Rattle.history.specs.Model.{Waiting, Model, once, swept}
use Rattle.history.specs.Agreement.{seen, Unique, Opens, Agrees}
use Rattle.history.specs.Preserved.{entries_written, entries_act}
use Rattle.history.proofs.Writing.{parts_append, entries_append, ToSlot, to_slot_take, moved_one, moved_append, fits_append}
use Rattle.history.proofs.Agreeing.{get_or-seen, same_length}
use Rattle.history.proofs.Carried.{LaidOut, Carried}
use Rattle.history.proofs.Wiping.{to_slot_emptying, fits_emptying, entries_emptying, emptying_whole, emptying_part}

-- SLOTS SWEPT

pub swept_none : (xs : List Slot) → swept 0 xs ≡ xs
swept_none [] = refl
swept_none (empty ∷ xs) = ap (λ (z : List Slot). empty ∷ z) (swept_none xs)
swept_none (held n ∷ xs) = ap (λ (z : List Slot). held n ∷ z) (swept_none xs)
swept_none (live j ∷ xs) = ap (λ (z : List Slot). live j ∷ z) (swept_none xs)
swept_none (erased j ∷ xs) = ap (λ (z : List Slot). erased j ∷ z) (swept_none xs)
swept_none (damaged ∷ xs) = ap (λ (z : List Slot). damaged ∷ z) (swept_none xs)

swept_seen : (d : ℕ) (xs : List Slot) → swept d (map seen xs) ≡ map seen (swept d xs)
swept_seen d [] = refl
swept_seen d (empty ∷ xs) = ap (λ (z : List Slot). empty ∷ z) (swept_seen d xs)
swept_seen zero (held n ∷ xs) = ap (λ (z : List Slot). held n ∷ z) (swept_seen zero xs)
swept_seen (suc d) (held n ∷ xs) = ap (λ (z : List Slot). empty ∷ z) (swept_seen d xs)
swept_seen d (live j ∷ xs) = ap (λ (z : List Slot). live j ∷ z) (swept_seen d xs)
swept_seen d (erased j ∷ xs) = ap (λ (z : List Slot). seen (erased j) ∷ z) (swept_seen d xs)
swept_seen d (damaged ∷ xs) = ap (λ (z : List Slot). damaged ∷ z) (swept_seen d xs)

-- live slots stay, and no other becomes one
abbrev SameLive : Slot → Slot → Type 0
SameLive x y = (j : Job) → (x ≡ live j → y ≡ live j) × (y ≡ live j → x ≡ live j)

same_live : (x : Slot) → SameLive x x
same_live x j = (λ e. e, λ e. e)

swept_first : (d : ℕ) (x : Slot) (xs : List Slot) → (e : ℕ) × (y : Slot) × (swept d (x ∷ xs) ≡ y ∷ swept e xs) × SameLive y x
swept_first d empty xs = (d, empty, refl, same_live empty)
swept_first zero (held n) xs = (zero, held n, refl, same_live (held n))
swept_first (suc d) (held n) xs = (d, empty, refl, λ j. (λ e. cc, λ e. cc))
swept_first d (live j) xs = (d, live j, refl, same_live (live j))
swept_first d (erased j) xs = (d, erased j, refl, same_live (erased j))
swept_first d damaged xs = (d, damaged, refl, same_live damaged)

swept_live : (d : ℕ) (xs : List Slot) (i : ℕ) → SameLive (get_or (swept d xs) i empty) (get_or xs i empty)
swept_live d [] i = same_live empty
swept_live d (x ∷ xs) zero =
    let s = swept_first d x xs in subst (λ (z : List Slot). SameLive (get_or z 0 empty) x) (sym s.2) s.3
swept_live d (x ∷ xs) (suc i) =
    let s = swept_first d x xs in subst (λ (z : List Slot). SameLive (get_or z (suc i) empty) (get_or xs i empty)) (sym s.2) (swept_live s.0 xs i)

swept_unique : (d : ℕ) (xs : List Slot) → Unique xs → Unique (swept d xs)
swept_unique d xs u i k a b p q = u i k a b ((swept_live d xs i a).0 p) ((swept_live d xs k b).0 q)

-- as many entries as there are slots are enough for the held ones
swept_all : (k : ℕ) (ys : List Slot) (d : ℕ) → length ys ≤ d → swept d ys ≡ swept (entries_written (sweep_writes k ys)) ys
swept_all k [] d h = refl
swept_all k (empty ∷ ys) d h = ap (λ (z : List Slot). empty ∷ z) (swept_all (suc k) ys d (omega arith))
swept_all k (held n ∷ ys) zero h = absurd (omega arith)
swept_all k (held n ∷ ys) (suc d) h =
    let e : entries_written (sweep_writes k (held n ∷ ys)) ≡ suc (entries_written (sweep_writes (suc k) ys)) =
    entries_append (emptying k n) (sweep_writes (suc k) ys) ∙ omega (arith, entries_emptying k n) in
    ap (λ (z : List Slot). empty ∷ z) (swept_all (suc k) ys d (omega arith)) ∙ ap (λ (i : ℕ). swept i (held n ∷ ys)) (sym e)
swept_all k (live j ∷ ys) d h = ap (λ (z : List Slot). live j ∷ z) (swept_all (suc k) ys d (omega arith))
swept_all k (erased j ∷ ys) d h = ap (λ (z : List Slot). erased j ∷ z) (swept_all (suc k) ys d (omega arith))
swept_all k (damaged ∷ ys) d h = ap (λ (z : List Slot). damaged ∷ z) (swept_all (suc k) ys d (omega arith))

-- WRITES ELSEWHERE

-- none of the writes is to slot i
abbrev Spares : ℕ → List SlotWrite → Type 0
Spares i [] = Unit {0}
Spares i (w ∷ ws) = (i ≢ w.slot) × Spares i ws

spared : (ps : List Place) (i : ℕ) (ws : List SlotWrite) → Spares i ws → place_in (all_moved ps ws) i ≡ place_in ps i
spared ps i [] f = refl
spared ps i (w ∷ ws) f = spared (moved ps w) i ws f.1 ∙ get_or-set_other ps w.slot i (acted (get_or ps w.slot no_place) w.act) no_place f.0

spares_append : (i : ℕ) (xs ys : List SlotWrite) → Spares i xs → Spares i ys → Spares i (xs ++ ys)
spares_append i [] ys f g = g
spares_append i (x ∷ xs) ys f g = (f.0, spares_append i xs ys f.1 g)

spares_take : (i j : ℕ) (xs : List SlotWrite) → Spares i xs → Spares i (take j xs)
spares_take i zero xs f = tt
spares_take i (suc j) [] f = tt
spares_take i (suc j) (x ∷ xs) f = (f.0, spares_take i j xs f.1)

spares_other : (i k : ℕ) (xs : List SlotWrite) → ToSlot k xs → i ≢ k → Spares i xs
spares_other i k [] f h = tt
spares_other i k (x ∷ xs) f h = ((λ e. h (e ∙ f.0)), spares_other i k xs f.1 h)

to_slot_sweep : (k : ℕ) (y : Slot) → ToSlot k (sweep_slot k y)
to_slot_sweep k empty = tt
to_slot_sweep k (held n) = to_slot_emptying k n
to_slot_sweep k (live j) = tt
to_slot_sweep k (erased j) = tt
to_slot_sweep k damaged = tt

sweep_spares_below : (i k : ℕ) (ys : List Slot) → i < k → Spares i (sweep_writes k ys)
sweep_spares_below i k [] h = tt
sweep_spares_below i k (y ∷ ys) h =
    spares_append i (sweep_slot k y) (sweep_writes (suc k) ys) (spares_other i k (sweep_slot k y) (to_slot_sweep k y) (λ e. omega arith))
    (sweep_spares_below i (suc k) ys (omega arith))

-- a live slot is not written to
sweep_spares : (i k : ℕ) (ys : List Slot) (j : Job) → get_or ys i empty ≡ live j → Spares (k + i) (sweep_writes k ys)
sweep_spares i k [] j e = tt
sweep_spares zero k (y ∷ ys) j e =
    subst (λ (z : Slot). Spares (k + 0) (sweep_writes k (z ∷ ys))) (sym e) (sweep_spares_below (k + 0) (suc k) ys (omega arith))
sweep_spares (suc i) k (y ∷ ys) j e =
    let n : suc k + i ≡ k + suc i = omega arith in
    spares_append (k + suc i) (sweep_slot k y) (sweep_writes (suc k) ys)
    (spares_other (k + suc i) k (sweep_slot k y) (to_slot_sweep k y) (λ q. omega arith))
    (subst (λ (l : ℕ). Spares l (sweep_writes (suc k) ys)) n (sweep_spares i (suc k) ys j e))

-- WHAT THE WRITES LEAVE

held_cases : (z n x l : Bool) (m : ℕ) (i : Job) (k : ℕ) → as_slot (cond z (cond n Empty (Held m)) (cond x Erased (cond l Live Damaged))) i ≡ held k → m ≡ k
held_cases true true x l m i k e = cc
held_cases true false x l m i k e = cc
held_cases false n true l m i k e = cc
held_cases false n false true m i k e = cc
held_cases false n false false m i k e = cc

-- a held slot of a card has no more sectors to zero than its block has
held_few : (p : Place) (n : ℕ) → decoded p ≡ held n → n ≤ 128
unfolding decoded slot_by state_by
held_few p n h =
    let e : Entry = entry_of p in
    let m : min 128 e.sectors ≡ n =
    held_cases (eqb (get_or e.name 0 0) 0) (eqb e.sectors 0) (eqb (get_or e.name 0 0) 127) (lawful_fields p.slot p.first e)
    (min 128 e.sectors) (job_in e p.sectors) n h in
    omega arith

fits_sweep_slot : (c : Layout) (k : ℕ) (y : Slot) → k < c.slots → ((n : ℕ) → y ≡ held n → n ≤ 128) → Fits c (sweep_slot k y)
fits_sweep_slot c k empty h f = tt
fits_sweep_slot c k (held n) h f = fits_emptying c k n h (f n refl)
fits_sweep_slot c k (live j) h f = tt
fits_sweep_slot c k (erased j) h f = tt
fits_sweep_slot c k damaged h f = tt

fits_sweep : (c : Layout) (k : ℕ) (ps : List Place) → k + length ps ≤ c.slots → Fits c (sweep_writes k (slots_in ps))
fits_sweep c k [] h = tt
fits_sweep c k (p ∷ ps) h =
    fits_append c (sweep_slot k (decoded p)) (sweep_writes (suc k) (slots_in ps)) (fits_sweep_slot c k (decoded p) (omega arith) (held_few p))
    (fits_sweep c (suc k) ps (omega arith))

entries_take : (j : ℕ) (ws : List SlotWrite) → entries_written (take j ws) ≤ entries_written ws
entries_take zero ws = omega arith
entries_take (suc j) [] = omega arith
entries_take (suc j) (w ∷ ws) = by w.act (entries_take j ws)
  where
    by : (a : SlotAct) → entries_written (take j ws) ≤ entries_written ws → entries_act a (entries_written (take j ws)) ≤ entries_act a (entries_written ws)
    by (enter e) h = omega arith
    by (fill i x) h = h

-- one slot of a sweep: a first part of its writes while nothing behind is swept, and all of them
slot_part : (p : Place) (k : ℕ) (y : Slot) → decoded p ≡ y → (j : ℕ) (ys : List Slot) →
    decoded (ran p (take j (sweep_slot k y))) ∷ ys ≡ swept (entries_written (take j (sweep_slot k y))) (y ∷ ys)
slot_part p k empty h j ys = rw (take-nil {A = SlotWrite} j, h, swept_none ys)
slot_part p k (held n) h j ys =
    ap (λ (z : Slot). z ∷ ys) (emptying_part p k n (held n) held_none h j)
    ∙ by (entries_written (take j (emptying k n))) (omega (arith, entries_take j (emptying k n), entries_emptying k n))
  where
    by : (d : ℕ) → d ≤ 1 → once (λ x. empty) d (held n) ∷ ys ≡ swept d (held n ∷ ys)
    by zero l = ap (λ (z : List Slot). held n ∷ z) (sym (swept_none ys))
    by (suc zero) l = ap (λ (z : List Slot). empty ∷ z) (sym (swept_none ys))
    by (suc (suc d)) l = absurd (omega arith)
slot_part p k (live i) h j ys = rw (take-nil {A = SlotWrite} j, h, swept_none ys)
slot_part p k (erased i) h j ys = rw (take-nil {A = SlotWrite} j, h, swept_none ys)
slot_part p k damaged h j ys = rw (take-nil {A = SlotWrite} j, h, swept_none ys)

slot_whole : (p : Place) (k : ℕ) (y : Slot) → decoded p ≡ y → (e : ℕ) (ys : List Slot) →
    decoded (ran p (sweep_slot k y)) ∷ swept e ys ≡ swept (entries_written (sweep_slot k y) + e) (y ∷ ys)
slot_whole p k empty h e ys = rw (h, zero-add)
slot_whole p k (held n) h e ys =
    let d : entries_written (emptying k n) + e ≡ suc e = omega (arith, entries_emptying k n) in
    rw (emptying_whole p k n, d)
slot_whole p k (live i) h e ys = rw (h, zero-add)
slot_whole p k (erased i) h e ys = rw (h, zero-add)
slot_whole p k damaged h e ys = rw (h, zero-add)

slot_moved : (pre ps : List Place) (p : Place) (k : ℕ) → length pre ≡ k → (ws : List SlotWrite) → ToSlot k ws → all_moved (pre ++ p ∷ ps) ws ≡ pre ++ ran p ws ∷ ps
slot_moved pre ps p k h ws t =
    moved_one (pre ++ p ∷ ps) k ws (omega (arith, length-append pre (p ∷ ps))) t
    ∙ (ap (λ (z : Place). set (pre ++ p ∷ ps) k (ran z ws)) (get_or_at pre p ps no_place k h) ∙ set_at pre p ps (ran p ws) k h)

-- writes that leave the slots of pre, which are passed already, and sweep those behind
abbrev Sweeps : (pre ps : List Place) → List SlotWrite → Type 0
Sweeps pre ps ws = slots_in (all_moved (pre ++ ps) ws) ≡ slots_in pre ++ swept (entries_written ws) (slots_in ps)

sweeps_part : (pre ps : List Place) (p : Place) (k : ℕ) → length pre ≡ k → (j : ℕ) → Sweeps pre (p ∷ ps) (take j (sweep_slot k (decoded p)))
sweeps_part pre ps p k h j =
    let ws : List SlotWrite = take j (sweep_slot k (decoded p)) in
    ap slots_in (slot_moved pre ps p k h ws (to_slot_take k j (sweep_slot k (decoded p)) (to_slot_sweep k (decoded p))))
    ∙ (map-append decoded pre (ran p ws ∷ ps) ∙ ap (λ (z : List Slot). slots_in pre ++ z) (slot_part p k (decoded p) refl j (slots_in ps)))

sweeps_next : (pre ps : List Place) (p : Place) (k : ℕ) → length pre ≡ k → (ws : List SlotWrite) → Sweeps (pre ++ ran p (sweep_slot k (decoded p)) ∷ []) ps ws →
    Sweeps pre (p ∷ ps) (sweep_slot k (decoded p) ++ ws)
sweeps_next pre ps p k h ws s =
    let xs : List SlotWrite = sweep_slot k (decoded p) in
    let q : Place = ran p xs in
    let ys : List Slot = swept (entries_written ws) (slots_in ps) in
    let m : all_moved (pre ++ p ∷ ps) (xs ++ ws) ≡ all_moved ((pre ++ q ∷ []) ++ ps) ws =
    moved_append (pre ++ p ∷ ps) xs ws
    ∙ ap (λ (z : List Place). all_moved z ws) (slot_moved pre ps p k h xs (to_slot_sweep k (decoded p)) ∙ sym (append_assoc pre (q ∷ []) ps)) in
    let f : slots_in (pre ++ q ∷ []) ++ ys ≡ slots_in pre ++ (decoded q ∷ ys) =
    ap (λ (z : List Slot). z ++ ys) (map-append decoded pre (q ∷ [])) ∙ append_assoc (slots_in pre) (decoded q ∷ []) ys in
    let g : decoded q ∷ ys ≡ swept (entries_written (xs ++ ws)) (slots_in (p ∷ ps)) =
    slot_whole p k (decoded p) refl (entries_written ws) (slots_in ps)
    ∙ ap (λ (d : ℕ). swept d (slots_in (p ∷ ps))) (sym (entries_append xs ws)) in
    ap slots_in m ∙ (s ∙ (f ∙ ap (λ (z : List Slot). slots_in pre ++ z) g))

sweep_part : (pre ps : List Place) (k : ℕ) → length pre ≡ k → (j : ℕ) → Sweeps pre ps (take j (sweep_writes k (slots_in ps)))
sweep_part pre [] k h j = rw (take-nil {A = SlotWrite} j, append-nil pre) (sym (append-nil (slots_in pre)))
sweep_part pre (p ∷ ps) k h j =
    let xs : List SlotWrite = sweep_slot k (decoded p) in
    let rest : List SlotWrite = sweep_writes (suc k) (slots_in ps) in
    let q : Place = ran p xs in
    parts_append (Sweeps pre (p ∷ ps)) xs rest (λ i _. sweeps_part pre ps p k h i)
    (λ i. sweeps_next pre ps p k h (take i rest) (sweep_part (pre ++ q ∷ []) ps (suc k) (length_push pre q ∙ omega arith) i))
    j

-- the open job's slot is live, so that it stays
opens_swept : (o : Option OpenJob) (w : Option Waiting) (xs : List Slot) (ps qs : List Place) (d : ℕ) → Opens o w xs ps →
    ((i : ℕ) (j : Job) → get_or xs i empty ≡ live j → place_in qs i ≡ place_in ps i) → Opens o w (swept d xs) qs
opens_swept None None xs ps qs d g f = tt
opens_swept None (Some w) xs ps qs d g f = absurd g
opens_swept (Some o) None xs ps qs d g f = absurd g
opens_swept (Some o) (Some w) xs ps qs d g f =
    let e : get_or (swept d xs) w.slot empty ≡ get_or xs w.slot empty = (swept_live d xs w.slot g.job).1 g.lives ∙ sym g.lives in
    rw (e, f w.slot g.job g.lives) g

pub sweep_carried : (c : Layout) (m : Model) (ps : List Place) (o : Option OpenJob) → LaidOut c ps → Agrees m.slots m.waiting ps o → m.mounted ≡ true →
    Carried c m ps o sweep (sweep_writes 0 (slots_in ps)) o
sweep_carried c m ps o v a h =
    let xs : List Slot = m.slots in
    let ws : List SlotWrite = sweep_writes 0 (slots_in ps) in
    let shown : (i : ℕ) (j : Job) → get_or xs i empty ≡ live j → get_or (slots_in ps) i empty ≡ live j =
    λ i j e. ap (λ (z : List Slot). get_or z i empty) a.same ∙ (get_or-seen xs i ∙ ap seen e) in
    let at : (d j : ℕ) → slots_in (all_moved ps (take j ws)) ≡ swept d (slots_in ps) → Agrees (swept d xs) m.waiting (all_moved ps (take j ws)) o =
    λ d j e. record {
      same = e ∙ (ap (swept d) a.same ∙ swept_seen d xs);
      unique = swept_unique d xs a.unique;
      open' = opens_swept o m.waiting xs ps (all_moved ps (take j ws)) d a.open'
          (λ i l e. spared ps i (take j ws) (spares_take i j ws (subst (λ (z : ℕ). Spares z ws) (zero-add i) (sweep_spares i 0 (slots_in ps) l (shown i l e)))));
    } in
    let all : take (length ws) ws ≡ ws = take_all (length ws) ws (le_refl (length ws)) in
    let enough : swept (entries_written (take (length ws) ws)) (slots_in ps) ≡ swept (length xs) (slots_in ps) =
    ap (λ (zs : List SlotWrite). swept (entries_written zs) (slots_in ps)) all
    ∙ sym (swept_all 0 (slots_in ps) (length xs) (omega (arith, length-map ps decoded, same_length a))) in
    let end : Agrees (swept (length xs) xs) m.waiting (all_moved ps ws) o =
    subst (λ (zs : List SlotWrite). Agrees (swept (length xs) xs) m.waiting (all_moved ps zs) o) all
    (at (length xs) (length ws) (sweep_part [] ps 0 refl (length ws) ∙ enough)) in
    record {
      fits = fits_sweep c 0 ps (omega (arith, v.count));
      part = λ j. at (entries_written (take j ws)) j (sweep_part [] ps 0 refl j);
      whole = subst (λ (b : Bool). Agrees (swept (cond b (length xs) 0) xs) m.waiting (all_moved ps ws) o) (sym h) end;
    }
