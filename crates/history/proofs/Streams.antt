-- What the writes of put and of commit owe the model.
use Rattle.std.proofs.Common.{◌≡◌, ℕ, ◌+◌, ◌*◌, ◌/◌, ◌<◌, ◌≤◌, Bool, List, [], ◌∷◌, ◌++◌, length, get_or, take, drop, set, Some, None, Option, sym, refl, ap, ◌∙◌, subst, ap₂, inl, inr, le_refl, add-zero, arith}
use Rattle.std.proofs.lemmas.List.{set-get_or, get_or-set_same, get_or_past, length-append, length-drop, take_all, append-nil, nil_from_length}
use Rattle.std.proofs.lemmas.Bool.{cases_lt}
use Rattle.device.specs.Meaning.{Bytes}
use Rattle.device.proofs.ByteLists.{drop-bytes, append-bytes}
use Rattle.layout.specs.Extents.{extent_of}
use Rattle.layout.specs.declared.sizes.Layout.{Layout}
use Rattle.entries.specs.Entry.{resized}
use Rattle.entries.specs.declared.entry.Entry.{Entry}
use Rattle.places.specs.Places.{Place, no_place, all_moved}
use Rattle.places.specs.SlotWrites.{SlotWrite}
use Rattle.places.proofs.Frames.{Full}
use Rattle.plans.specs.Slots.{Job, Slot, empty, live, decoded, job_of}
use Rattle.plans.specs.Calls.{put, commit}
use Rattle.plans.specs.Memory.{OpenJob, job_length}
use Rattle.plans.specs.Plans.{filling, chunk, entering, place_in, entry_of, sectors_full, put_writes, part_writes, commit_writes, after_put, after_commit}
use Rattle.plans.proofs.Blocks.{ran, ran_append, length-filling, take-filling, part_sectors, chunk_bytes, length-chunk}
use Rattle.plans.proofs.Entries.{resized_fits, entered_fits}
use Rattle.plans.proofs.Named.{live_same}
use Rattle.history.specs.Model.{Waiting, Model, with_more, waiting_at, all_counted, committed, counted, done}
use Rattle.history.specs.Agreement.{seen, OpenAgrees, Agrees}
use Rattle.history.specs.Preserved.{entries_written}
use Rattle.history.proofs.Writing.{parts_append, parts_one, entries_append, entries_filling, to_slot_append, to_slot_filling, moved_one, fits_append, fits_filling}
use Rattle.history.proofs.Agreeing.{slot_shown, same_length, same_set, unique_set}
use Rattle.history.proofs.Carried.{LaidOut, entry_fits, Carried}
use Rattle.history.proofs.OpenPlaces.{Lies, filling_keeps, filling_more, entry_counts}

-- THE OPEN SLOT

-- the slot of the open job, in the model and on the card
record Found (xs : List Slot) (ps : List Place) (o : OpenJob) (w : Waiting) (j : Job) : Type 0 where
  pub inside : o.slot < length ps
  pub within : o.slot < length xs
  pub here : w.slot ≡ o.slot
  pub slot : get_or xs o.slot empty ≡ live j
  pub name : o.name ≡ j.name
  pub lies : Lies (place_in ps o.slot) o.full o.gathered j w.bytes

live_within : (xs : List Slot) (k : ℕ) (j : Job) → get_or xs k empty ≡ live j → k < length xs
live_within xs k j e = elim (cases_lt k (length xs)) [
  | inl h ↦ h
  | inr h ↦ let z : get_or xs k empty ≡ empty = get_or_past xs k empty h in cc
]

found_open : (xs : List Slot) (w : Waiting) (ps : List Place) (o : OpenJob) → Agrees xs (Some w) ps (Some o) → (j : Job) × Found xs ps o w j
found_open xs w ps o a =
    let g : OpenAgrees o w (get_or xs o.slot empty) (place_in ps o.slot) =
    subst (λ (k : ℕ). OpenAgrees o w (get_or xs k empty) (place_in ps k)) (sym a.open'.slot) a.open' in
    let t : o.slot < length xs = live_within xs o.slot g.job g.lives in
    let i : o.slot < length ps = omega (arith, same_length a) in (
      g.job,
      record {
        inside = i;
        within = t;
        here = sym g.slot;
        slot = g.lives;
        name = g.name;
        lies = record { shows = slot_shown a o.slot i ∙ ap seen g.lives; lies = g.lies };
      },
    )

-- the open slot with another job of its name, in the model and on the card
agrees_open : (xs : List Slot) (w : Waiting) (ps : List Place) (o : OpenJob) → Agrees xs (Some w) ps (Some o) → (j : Job) → Found xs ps o w j →
    (i : Job) → i.name ≡ j.name → (p : Place) → decoded p ≡ live i → (o' : OpenJob) (w' : Waiting) → w'.slot ≡ o.slot → OpenAgrees o' w' (live i) p →
    Agrees (set xs o.slot (live i)) (Some w') (set ps o.slot p) (Some o')
agrees_open xs w ps o a j f i n p d o' w' e g =
    record {
      same = same_set xs ps a.same o.slot (live i) p d;
      unique = unique_set xs a.unique o.slot (live i)
          (λ b q l c r s t. r (a.unique l o.slot c j s f.slot (t ∙ (ap (λ (z : Job). z.name) (live_same (sym q)) ∙ n))));
      open' = subst (λ (k : ℕ). OpenAgrees o' w' (get_or (set xs o.slot (live i)) k empty) (place_in (set ps o.slot p) k)) (sym e)
          (rw (get_or-set_same xs o.slot (live i) empty f.within, get_or-set_same ps o.slot p no_place f.inside) g);
    }

-- the same job, over other sectors
agrees_kept : (xs : List Slot) (w : Waiting) (ps : List Place) (o : OpenJob) → Agrees xs (Some w) ps (Some o) → (j : Job) → Found xs ps o w j →
    (p : Place) → decoded p ≡ live j → (o' : OpenJob) (w' : Waiting) → w'.slot ≡ o.slot → OpenAgrees o' w' (live j) p →
    Agrees xs (Some w') (set ps o.slot p) (Some o')
agrees_kept xs w ps o a j f p d o' w' e g =
    subst (λ (z : List Slot). Agrees z (Some w') (set ps o.slot p) (Some o')) (ap (set xs o.slot) (sym f.slot) ∙ set-get_or xs o.slot empty)
    (agrees_open xs w ps o a j f j refl p d o' w' e g)

-- nothing put or counted yet: other sectors alone
agrees_still : (xs : List Slot) (w : Waiting) (ps : List Place) (o : OpenJob) → Agrees xs (Some w) ps (Some o) → (j : Job) → Found xs ps o w j →
    (p : Place) → Lies p o.full o.gathered j w.bytes → Agrees xs (Some w) (set ps o.slot p) (Some o)
agrees_still xs w ps o a j f p r =
    agrees_kept xs w ps o a j f p r.shows o w f.here record {
      slot = sym f.here;
      job = j;
      lives = refl;
      name = f.name;
      lies = r.lies;
      few = a.open'.few;
      short = a.open'.short;
      bytes = a.open'.bytes;
      none_waits = a.open'.none_waits;
    }

-- PUT

-- a first part of a run of sectors is a run of sectors
part_filling : (k f : ℕ) (x : ℕ → List ℕ) (n j : ℕ) → (i : ℕ) × (i ≤ n) × (take j (filling k f x n) ≡ filling k f x i)
part_filling k f x n j = elim (cases_lt n j) [
  | inr h ↦ (j, h, take-filling k f x n j h)
  | inl h ↦ (n, le_refl n, take_all j (filling k f x n) (omega (arith, length-filling k f x n)))
]

put_at : (c : Layout) (t : Bool) (xs : List Slot) (w : Option Waiting) (ps : List Place) (o : OpenJob) → LaidOut c ps → Agrees xs w ps (Some o) →
    (h : ℕ) (x : List ℕ) → job_length o + length x ≤ 65535 → Bytes x →
    Carried c (record { mounted = t; slots = xs; waiting = w }) ps (Some o) (put h x) (put_writes o x) (Some (after_put o x))
unfolding put_writes
put_at c t xs None ps o v a h x l b = absurd a.open'
put_at c t xs (Some w) ps o v a h x l b =
    let f : (j : Job) × Found xs ps o w j = found_open xs w ps o a in
    let j : Job = f.0 in
    let s : Found xs ps o w j = f.1 in
    let k : ℕ = o.slot in
    let p : Place = place_in ps k in
    let u : Full p = v.full k s.inside in
    let g : List ℕ = o.gathered in
    let n : ℕ = sectors_full o x in
    let run : ℕ → List SlotWrite = λ i. filling k o.full (chunk (g ++ x)) i in
    let few = a.open'.few in
    let short = a.open'.short in
    let long : length (g ++ x) ≡ length g + length x = length-append g x in
    let to : (i : ℕ) → all_moved ps (run i) ≡ set ps k (ran p (run i)) =
    λ i. moved_one ps k (run i) s.inside (to_slot_filling k o.full (chunk (g ++ x)) i) in
    let part : (i : ℕ) → i ≤ n → Agrees xs (Some w) (all_moved ps (run i)) (Some o) =
    λ i q.
    rw (to i) (agrees_still xs w ps o a j s (ran p (run i)) (filling_keeps p u o.full g j w.bytes s.lies short x k i (omega arith))) in
    let r : Lies (ran p (run n)) (o.full + n) (drop (512 * n) (g ++ x)) j (w.bytes ++ x) =
    filling_more p u o.full g j w.bytes s.lies short x k n (omega arith) (omega arith) in
    record {
      fits = fits_filling c k o.full (chunk (g ++ x)) n (omega (arith, s.inside, v.count)) (omega arith)
          (λ i. (length-chunk (g ++ x) i, chunk_bytes (g ++ x) i (append-bytes g x a.open'.bytes b)));
      part = λ i. let q = part_filling k o.full (chunk (g ++ x)) n i in rw q.2 (part q.0 q.1);
      whole = rw (to n) (agrees_kept xs w ps o a j s (ran p (run n)) r.shows (after_put o x) (record { slot = w.slot; bytes = w.bytes ++ x }) s.here record {
        slot = sym s.here;
        job = j;
        lives = refl;
        name = s.name;
        lies = r.lies;
        few = simp length-drop (omega arith);
        short = simp length-drop (omega arith);
        bytes = drop-bytes (512 * n) (g ++ x) (append-bytes g x a.open'.bytes b);
        none_waits = λ e. ap₂ ◌++◌ (a.open'.none_waits (omega arith)) (nil_from_length x (omega arith));
      });
    }

pub put_carried : (c : Layout) (m : Model) (ps : List Place) (o : OpenJob) → LaidOut c ps → Agrees m.slots m.waiting ps (Some o) →
    (h : ℕ) (x : List ℕ) → job_length o + length x ≤ 65535 → Bytes x →
    Carried c m ps (Some o) (put h x) (put_writes o x) (Some (after_put o x))
put_carried c m ps o v a h x l b = put_at c m.mounted m.slots m.waiting ps o v a h x l b

-- COMMIT

-- the slots once a commit is counted
committed_is : (xs : List Slot) (ps : List Place) (o : OpenJob) (w : Waiting) (j : Job) → Found xs ps o w j →
    committed xs (Some w) ≡ set xs o.slot (live (with_more j w.bytes))
committed_is xs ps o w j f =
    ap (λ (k : ℕ). set xs k (live (with_more (job_of (get_or xs k empty)) w.bytes))) f.here
    ∙ ap (λ (y : Slot). set xs o.slot (live (with_more (job_of y) w.bytes))) f.slot

commit_at : (c : Layout) (t : Bool) (xs : List Slot) (w : Option Waiting) (ps : List Place) (o : OpenJob) → LaidOut c ps → Agrees xs w ps (Some o) → (h : ℕ) →
    Carried c (record { mounted = t; slots = xs; waiting = w }) ps (Some o) (commit h) (commit_writes o (entry_of (place_in ps o.slot))) (Some (after_commit o))
unfolding commit_writes
commit_at c t xs None ps o v a h = absurd a.open'
commit_at c t xs (Some w) ps o v a h =
    let f : (j : Job) × Found xs ps o w j = found_open xs w ps o a in
    let j : Job = f.0 in
    let s : Found xs ps o w j = f.1 in
    let k : ℕ = o.slot in
    let p : Place = place_in ps k in
    let u : Full p = v.full k s.inside in
    let g : List ℕ = o.gathered in
    let few = a.open'.few in
    let short = a.open'.short in
    let n : ℕ = (extent_of (length g)).0 in
    let e : Entry = resized (entry_of p) (job_length o) in
    let run : ℕ → List SlotWrite = λ i. filling k o.full (chunk g) i in
    let all : List SlotWrite = run n ++ (entering k e ∷ []) in
    let P : List SlotWrite → Type 0 = λ ws.
    let m = counted (record { mounted = t; slots = xs; waiting = Some w }) (commit h) (entries_written ws) in
    Agrees m.slots m.waiting (all_moved ps ws) (Some o) in
    let one : entries_written all ≡ 1 = entries_append (run n) (entering k e ∷ []) ∙ ap (λ (z : ℕ). z + 1) (entries_filling k o.full (chunk g) n) in
    let part : (i : ℕ) → i ≤ n → P (run i) =
    λ i q.
    let r : Lies (ran p (run i)) o.full g j w.bytes = rw (append-nil g) at (filling_keeps p u o.full g j w.bytes s.lies short [] k i (omega arith)) in
    rw (entries_filling k o.full (chunk g) i, moved_one ps k (run i) s.inside (to_slot_filling k o.full (chunk g) i))
    (agrees_still xs w ps o a j s (ran p (run i)) r) in
    let r : Lies (ran p all) o.full g (with_more j w.bytes) [] =
    rw (ran_append p (run n) (entering k e ∷ [])) (entry_counts p u o.full g j w.bytes s.lies few k n (omega arith) (omega arith)) in
    let put-since : ℕ → OpenJob = λ z. record { slot = k; name = o.name; full = o.full; gathered = g; waiting = z } in
    let count : (z : ℕ) → Agrees (committed xs (Some w)) (waiting_at w.slot []) (all_moved ps all) (Some (put-since z)) =
    λ z. rw (committed_is xs ps o w j s, moved_one ps k all s.inside (to_slot_append k (run n) (entering k e ∷ []) (to_slot_filling k o.full (chunk g) n) (refl, tt)))
    (agrees_open xs w ps o a j s (with_more j w.bytes) refl (ran p all) r.shows (put-since z) (record { slot = w.slot; bytes = [] }) s.here record {
      slot = sym s.here;
      job = with_more j w.bytes;
      lives = refl;
      name = s.name;
      lies = r.lies;
      few = few;
      short = short;
      bytes = a.open'.bytes;
      none_waits = λ _. refl;
    }) in
    rw (part_sectors o g short)
    record {
      fits = fits_append c (run n) (entering k e ∷ [])
          (fits_filling c k o.full (chunk g) n (omega (arith, s.inside, v.count)) (omega arith) (λ i. (length-chunk g i, chunk_bytes g i a.open'.bytes)))
          (omega (arith, s.inside, v.count), entered_fits e (resized_fits (entry_of p) (entry_fits p u) (job_length o) (omega arith)), tt);
      part = parts_append P (run n) (entering k e ∷ [])
          (λ i q. let l : i ≤ n = omega (arith, length-filling k o.full (chunk g) n) in subst P (sym (take-filling k o.full (chunk g) n i l)) (part i l))
          (parts_one (λ (ws : List SlotWrite). P (run n ++ ws)) (entering k e) (subst P (sym (append-nil (run n))) (part n (le_refl n))) (rw one (count o.waiting)));
      whole = count 0;
    }

pub commit_carried : (c : Layout) (m : Model) (ps : List Place) (o : OpenJob) → LaidOut c ps → Agrees m.slots m.waiting ps (Some o) → (h : ℕ) →
    Carried c m ps (Some o) (commit h) (commit_writes o (entry_of (place_in ps o.slot))) (Some (after_commit o))
commit_carried c m ps o v a h = commit_at c m.mounted m.slots m.waiting ps o v a h

-- a commit where nothing was put
nothing_counted : (xs : List Slot) (w : Option Waiting) (ps : List Place) (o : OpenJob) → Agrees xs w ps (Some o) → o.waiting ≡ 0 →
    Agrees (committed xs w) (all_counted w) ps (Some o)
nothing_counted xs None ps o a e = absurd a.open'
nothing_counted xs (Some w) ps o a e =
    let f : (j : Job) × Found xs ps o w j = found_open xs w ps o a in
    let j : Job = f.0 in
    let n : w.bytes ≡ [] = a.open'.none_waits e in
    let y : committed xs (Some w) ≡ xs =
    committed_is xs ps o w j f.1
    ∙ (ap (λ (z : List ℕ). set xs o.slot (live (record { name = j.name; kind = j.kind; address = j.address; bytes = z })))
    (ap (λ (z : List ℕ). j.bytes ++ z) n ∙ append-nil j.bytes)
    ∙ (ap (set xs o.slot) (sym f.1.slot) ∙ set-get_or xs o.slot empty)) in
    let v : waiting_at w.slot [] ≡ Some w = ap (λ (z : List ℕ). waiting_at w.slot z) (sym n) in
    rw (y, v) a

pub commit_nothing : (c : Layout) (m : Model) (ps : List Place) (o : OpenJob) → LaidOut c ps → Agrees m.slots m.waiting ps (Some o) → (h : ℕ) → o.waiting ≡ 0 →
    Agrees (done m (commit h)).slots (done m (commit h)).waiting ps (Some o)
commit_nothing c m ps o v a h e = nothing_counted m.slots m.waiting ps o a e
