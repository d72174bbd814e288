-- Calls that change one slot, which is not the open one: erase, rename, undelete and open of a new job.
use Rattle.std.proofs.Common.{◌≡◌, ℕ, zero, suc, ◌-◌, ◌<◌, ◌≤◌, true, false, not, ◌&&◌, eqb, leb, ◌≢◌, List, [], ◌∷◌, ◌++◌, length, get_or, take, set, replicate, None, Option, sym, refl, ap, ◌∙◌, subst, ap₂, inl, inr, le_refl, arith}
use Rattle.std.proofs.lemmas.List.{take_all, get_or-set_same, set-set, set-get_or, length-append, length-replicate}
use Rattle.std.proofs.lemmas.Bool.{and_parts, and_from, le-leb, or_cases, or_right, or_left}
use Rattle.device.specs.Meaning.{Sectors}
use Rattle.layout.specs.Names.{lawful_name, name_char, name_chars, some_shown, padded}
use Rattle.layout.specs.declared.sizes.Layout.{Layout}
use Rattle.entries.specs.Entry.{renamed, first_set}
use Rattle.entries.specs.State.{lawful_fields}
use Rattle.entries.specs.declared.entry.Entry.{Entry}
use Rattle.places.specs.Places.{Place, all_moved, Fits}
use Rattle.places.specs.SlotWrites.{SlotWrite}
use Rattle.plans.specs.Slots.{Job, Slot, empty, held, live, erased, damaged, job_in, slot_by, decoded, slots_in, named, is_live, is_erased, job_of, lowest}
use Rattle.plans.specs.Memory.{OpenJob}
use Rattle.plans.specs.Calls.{Call, rename, erase, undelete}
use Rattle.plans.specs.Plans.{place_in, entry_of, entering, restored, restored_slot}
use Rattle.plans.proofs.Blocks.{ran}
use Rattle.plans.proofs.Entries.{FitsEntry, renamed_fits, first_fits, entered_fits, entered, lawful_short, lawful_bytes, live_by, erased_by, is_live_by, is_erased_by}
use Rattle.plans.proofs.Lowest.{live_is}
use Rattle.history.specs.Model.{Model, changed, with_name, with_slots, once, counted, done}
use Rattle.history.specs.Agreement.{seen, Unique, Agrees}
use Rattle.history.specs.Preserved.{entries_written}
use Rattle.history.proofs.Writing.{ToSlot, to_slot_take, moved_one, parts_one}
use Rattle.history.proofs.Agreeing.{Named, unique_set, Apart, agrees_set, not_live_apart, slot_shown, not_named}
use Rattle.history.proofs.Carried.{LaidOut, Carried, entry_fits, live_entry_of}

-- NAMES PADDED

spaces_chars : (n : ℕ) → name_chars (replicate n 32) ≡ true
spaces_chars zero = refl
spaces_chars (suc n) = spaces_chars n

chars_append : (xs ys : List ℕ) → name_chars xs ≡ true → name_chars ys ≡ true → name_chars (xs ++ ys) ≡ true
chars_append [] ys e f = f
chars_append (x ∷ xs) ys e f =
    let p = and_parts (name_char x) (name_chars xs) e in
    and_from (name_char x) (name_chars (xs ++ ys)) p.0 (chars_append xs ys p.1 f)

shown_append : (xs ys : List ℕ) → some_shown xs ≡ true → some_shown (xs ++ ys) ≡ true
shown_append [] ys e = cc
shown_append (x ∷ xs) ys e = elim (or_cases (not (eqb x 32)) (some_shown xs) e) [
  | inl h ↦ or_left (not (eqb x 32)) (some_shown (xs ++ ys)) h
  | inr h ↦ or_right (not (eqb x 32)) (some_shown (xs ++ ys)) (shown_append xs ys h)
]

pub length-padded : (n : List ℕ) → length n ≤ 16 → length (padded n) ≡ 16
unfolding padded
length-padded n h = length-append n (replicate (16 - length n) 32) ∙ omega (arith, length-replicate {A = ℕ} (16 - length n) 32)

pub padded_lawful : (n : List ℕ) → lawful_name n ≡ true → lawful_name (padded n) ≡ true
unfolding padded
padded_lawful n e =
    let sp : List ℕ = replicate (16 - length n) 32 in
    let p = and_parts (leb (length n) 16) (name_chars n && some_shown n) e in
    let q = and_parts (name_chars n) (some_shown n) p.1 in
    let l : length (n ++ sp) ≤ 16 = omega (arith, length-padded n (lawful_short n e)) in
    and_from (leb (length (n ++ sp)) 16) (name_chars (n ++ sp) && some_shown (n ++ sp)) (le-leb (length (n ++ sp)) 16 l)
    (and_from (name_chars (n ++ sp)) (some_shown (n ++ sp)) (chars_append n sp q.0 (spaces_chars (16 - length n))) (shown_append n sp q.1))

-- ONE SLOT

-- writes to slot k alone, after d of whose entries it is F d
pub one_slot : (c : Layout) (m : Model) (ps : List Place) (o : Option OpenJob) (call : Call) (k : ℕ) (F : ℕ → Slot) (ws : List SlotWrite) →
    Agrees m.slots m.waiting ps o → k < length ps → ToSlot k ws → Fits c ws →
    ((d : ℕ) → counted m call d ≡ with_slots m (set m.slots k (F d))) →
    ((j : ℕ) → decoded (ran (place_in ps k) (take j ws)) ≡ seen (F (entries_written (take j ws)))) →
    ((d : ℕ) → Unique (set m.slots k (F d))) → Apart m.waiting k →
    done m call ≡ with_slots m (set m.slots k (F (entries_written ws))) → Carried c m ps o call ws o
one_slot c m ps o call k F ws a h t f cs ds us ap' e =
    let at : (xs : List SlotWrite) → ToSlot k xs → decoded (ran (place_in ps k) xs) ≡ seen (F (entries_written xs)) →
    Agrees (set m.slots k (F (entries_written xs))) m.waiting (all_moved ps xs) o =
    λ xs g d. subst (λ (z : List Place). Agrees (set m.slots k (F (entries_written xs))) m.waiting z o) (sym (moved_one ps k xs h g))
    (agrees_set a k (F (entries_written xs)) (ran (place_in ps k) xs) d (us (entries_written xs)) ap') in
    let all : take (length ws) ws ≡ ws = take_all (length ws) ws (le_refl (length ws)) in
    record {
      fits = f;
      part = λ j. subst (λ (z : Model). Agrees z.slots z.waiting (all_moved ps (take j ws)) o) (sym (cs (entries_written (take j ws))))
          (at (take j ws) (to_slot_take k j ws t) (ds j));
      whole = subst (λ (z : Model). Agrees z.slots z.waiting (all_moved ps ws) o) (sym e)
          (at ws t (subst (λ (z : List SlotWrite). decoded (ran (place_in ps k) z) ≡ seen (F (entries_written z))) all (ds (length ws))));
    }

-- ERASE, RENAME, UNDELETE

-- a job with another name
named_job : (e : Entry) (s : Sectors) (n : List ℕ) → job_in (renamed e n) s ≡ with_name (job_in e s) n
unfolding job_in
named_job e s n = refl

job_name : (e : Entry) (s : Sectors) (j : Job) → job_in e s ≡ j → e.name ≡ j.name
unfolding job_in
job_name e s j h = ap (λ (i : Job). i.name) h

-- the first parts of one entry
entry_parts : (p : Place) (k : ℕ) (e : Entry) (f : Slot → Slot) (x : Slot) → FitsEntry e → decoded p ≡ seen x → slot_by p.slot p.first e p.sectors ≡ seen (f x) → (j : ℕ) →
    decoded (ran p (take j (entering k e ∷ []))) ≡ seen (once f (entries_written (take j (entering k e ∷ []))) x)
entry_parts p k e f x w a b j =
    parts_one (λ (ws : List SlotWrite). decoded (ran p ws) ≡ seen (once f (entries_written ws) x)) (entering k e) a (entered p e w ∙ b) j

-- a slot changed or not
unique_once : (xs : List Slot) (k : ℕ) (f : Slot → Slot) → Unique xs → Unique (set xs k (f (get_or xs k empty))) → (d : ℕ) → Unique (set xs k (once f d (get_or xs k empty)))
unique_once xs k f u v zero = subst Unique (sym (set-get_or xs k empty)) u
unique_once xs k f u v (suc d) = v

-- a live job that gets another name keeps the names apart, if no other slot has that name
pub unique_named : (xs : List Slot) → Unique xs → (k : ℕ) (j : Job) → ((i : ℕ) (a : Job) → i ≢ k → get_or xs i empty ≡ live a → a.name ≢ j.name) → Unique (set xs k (live j))
unique_named xs u k j h = unique_set xs u k (live j) (λ i e l a n g q. h l a n g (q ∙ ap (λ (z : Job). z.name) (same e)))
  where
    same : {i : Job} → live j ≡ live i → i ≡ j
    same e = cc

-- a slot that gets no live job
unique_none : (xs : List Slot) → Unique xs → (k : ℕ) (y : Slot) → is_live y ≡ false → Unique (set xs k y)
unique_none xs u k y h = unique_set xs u k y (λ i e. let z = sym h ∙ ap is_live e in cc)

one_entry : (c : Layout) (m : Model) (ps : List Place) (o : Option OpenJob) (call : Call) (k : ℕ) (f : Slot → Slot) (e : Entry) → LaidOut c ps →
    Agrees m.slots m.waiting ps o → k < length ps → FitsEntry e →
    slot_by (place_in ps k).slot (place_in ps k).first e (place_in ps k).sectors ≡ seen (f (get_or m.slots k empty)) →
    Unique (set m.slots k (f (get_or m.slots k empty))) → Apart m.waiting k →
    ((d : ℕ) → counted m call d ≡ with_slots m (set m.slots k (once f d (get_or m.slots k empty)))) →
    done m call ≡ with_slots m (set m.slots k (f (get_or m.slots k empty))) →
    Carried c m ps o call (entering k e ∷ []) o
one_entry c m ps o call k f e l a h w b u ap' cs ds =
    let i : k < c.slots = omega (arith, l.count) in
    one_slot c m ps o call k (λ d. once f d (get_or m.slots k empty)) (entering k e ∷ []) a h (refl, tt) (i, entered_fits e w, tt) cs
    (entry_parts (place_in ps k) k e f (get_or m.slots k empty) w (slot_shown a k h) b)
    (unique_once m.slots k f a.unique u) ap' ds

pub erase_carried : (c : Layout) (m : Model) (ps : List Place) (o : Option OpenJob) → LaidOut c ps → Agrees m.slots m.waiting ps o → (n : List ℕ) (k : ℕ) (j : Job) →
    Named m.slots ps (padded n) k j → Apart m.waiting k → Carried c m ps o (erase n) (entering k (first_set (entry_of (place_in ps k)) 0x7F) ∷ []) o
erase_carried c m ps o l a n k j h ap' =
    let p : Place = place_in ps k in
    let e : Entry = entry_of p in
    let fe : FitsEntry e = entry_fits p (l.full k h.inside) in
    let s = live_entry_of p j h.shows in
    let first : get_or (set e.name 0 0x7F) 0 0 ≡ 127 = get_or-set_same e.name 0 0x7F 0 (omega (arith, fe.name_long)) in
    let job : job_in (first_set e 0x7F) p.sectors ≡ with_name j (set j.name 0 0x7F) =
    named_job e p.sectors (set e.name 0 0x7F) ∙ ap₂ with_name s.job (ap (λ (z : List ℕ). set z 0 0x7F) (job_name e p.sectors j s.job)) in
    let b : slot_by p.slot p.first (first_set e 0x7F) p.sectors ≡ seen (erased (job_of (get_or m.slots k empty))) =
    erased_by p.slot p.first (first_set e 0x7F) p.sectors first ∙ (ap erased job ∙ ap (λ (z : Slot). seen (erased (job_of z))) (sym h.slot)) in
    one_entry c m ps o (erase n) k (λ x. erased (job_of x)) (first_set e 0x7F) l a h.inside (first_fits e fe 0x7F (omega arith)) b
    (unique_none m.slots a.unique k (erased (job_of (get_or m.slots k empty))) refl) ap'
    (λ d. ap (λ (z : Option ℕ). with_slots m (changed m.slots z (once (λ x. erased (job_of x)) d))) h.at)
    (ap (λ (z : Option ℕ). with_slots m (changed m.slots z (once (λ x. erased (job_of x)) 1))) h.at)

-- an entry with another lawful name is as lawful as before
renamed_lawful : (k a : ℕ) (e : Entry) (n : List ℕ) → lawful_fields k a e ≡ true → lawful_name n ≡ true → lawful_fields k a (renamed e n) ≡ true
unfolding lawful_fields
renamed_lawful k a e n h g = and_from (lawful_name n) _ g (and_parts (lawful_name e.name) _ h).1

pub rename_carried : (c : Layout) (m : Model) (ps : List Place) (o : Option OpenJob) → LaidOut c ps → Agrees m.slots m.waiting ps o → (old new : List ℕ) → lawful_name new ≡ true →
    (k : ℕ) (j : Job) → Named m.slots ps (padded old) k j → Apart m.waiting k → lowest (named (padded new)) (slots_in ps) ≡ None →
    Carried c m ps o (rename old new) (entering k (renamed (entry_of (place_in ps k)) (padded new)) ∷ []) o
rename_carried c m ps o l a old new g k j h ap' v =
    let p : Place = place_in ps k in
    let e : Entry = entry_of p in
    let fe : FitsEntry e = entry_fits p (l.full k h.inside) in
    let s = live_entry_of p j h.shows in
    let pl = padded_lawful new g in
    let job : job_in (renamed e (padded new)) p.sectors ≡ with_name j (padded new) =
    named_job e p.sectors (padded new) ∙ ap (λ (z : Job). with_name z (padded new)) s.job in
    let f : Slot → Slot = λ x. live (with_name (job_of x) (padded new)) in
    let b : slot_by p.slot p.first (renamed e (padded new)) p.sectors ≡ seen (f (get_or m.slots k empty)) =
    live_by p.slot p.first (renamed e (padded new)) p.sectors (renamed_lawful p.slot p.first e (padded new) s.lawful pl)
    ∙ (ap live job ∙ ap (λ (z : Slot). seen (f z)) (sym h.slot)) in
    one_entry c m ps o (rename old new) k f (renamed e (padded new)) l a h.inside
    (renamed_fits e fe (padded new) (length-padded new (lawful_short new g)) (lawful_bytes (padded new) pl)) b
    (unique_named m.slots a.unique k (with_name (job_of (get_or m.slots k empty)) (padded new)) (λ i x n q. not_named a (padded new) v i x q)) ap'
    (λ d. ap (λ (z : Option ℕ). with_slots m (changed m.slots z (once f d))) h.at)
    (ap (λ (z : Option ℕ). with_slots m (changed m.slots z (once f 1))) h.at)

-- what is shown as erased is so
pub seen_erased : (x : Slot) → is_erased (seen x) ≡ true → (j : Job) × (x ≡ erased j)
seen_erased empty e = cc
seen_erased (held n) e = cc
seen_erased (live j) e = cc
seen_erased (erased j) e = (j, refl)
seen_erased damaged e = cc

erased_entry : (p : Place) (j : Job) → decoded p ≡ erased j → (get_or (entry_of p).name 0 0 ≡ 127) × (job_in (entry_of p) p.sectors ≡ j)
unfolding decoded
erased_entry p j d = is_erased_by p.slot p.first (entry_of p) p.sectors j d

pub undelete_carried : (c : Layout) (m : Model) (ps : List Place) (o : Option OpenJob) → LaidOut c ps → Agrees m.slots m.waiting ps o → (k letter : ℕ) → letter < 256 →
    k < length ps → is_erased (decoded (place_in ps k)) ≡ true → is_live (restored_slot (place_in ps k) letter) ≡ true →
    lowest (named (restored (place_in ps k) letter).name) (slots_in ps) ≡ None →
    Carried c m ps o (undelete k letter) (entering k (restored (place_in ps k) letter) ∷ []) o
undelete_carried c m ps o l a k letter lt h er li v =
    let p : Place = place_in ps k in
    let e : Entry = entry_of p in
    let y : Slot = get_or m.slots k empty in
    let fe : FitsEntry e = entry_fits p (l.full k h) in
    let fr : FitsEntry (restored p letter) = first_fits e fe letter lt in
    let d : decoded p ≡ seen y = slot_shown a k h in
    let r = seen_erased y (ap is_erased (sym d) ∙ er) in
    let i : Job = r.0 in
    let s = erased_entry p (with_name i (set i.name 0 0x7F)) (d ∙ ap seen r.1) in
    let name : set e.name 0 letter ≡ set i.name 0 letter =
    ap (λ (z : List ℕ). set z 0 letter) (job_name e p.sectors (with_name i (set i.name 0 0x7F)) s.1) ∙ set-set i.name 0 0x7F letter in
    let job : job_in (restored p letter) p.sectors ≡ with_name i (set i.name 0 letter) =
    named_job e p.sectors (set e.name 0 letter) ∙ ap₂ with_name s.1 name in
    let f : Slot → Slot = λ x. live (with_name (job_of x) (set (job_of x).name 0 letter)) in
    let w = live_is (restored_slot p letter) li in
    let n = is_live_by p.slot p.first (restored p letter) p.sectors w.0 (sym (entered p (restored p letter) fr) ∙ w.1) in
    let b : slot_by p.slot p.first (restored p letter) p.sectors ≡ seen (f y) =
    live_by p.slot p.first (restored p letter) p.sectors n.lawful ∙ (ap live job ∙ ap (λ (z : Slot). seen (f z)) (sym r.1)) in
    let not_live : is_live y ≡ false = ap is_live r.1 in
    let same_name : (job_of y).name ≡ i.name = ap (λ (z : Slot). (job_of z).name) r.1 in
    one_entry c m ps o (undelete k letter) k f (restored p letter) l a h fr b
    (unique_named m.slots a.unique k (with_name (job_of y) (set (job_of y).name 0 letter))
    (λ t x q g z. not_named a (restored p letter).name v t x g (z ∙ (ap (λ (u : List ℕ). set u 0 letter) same_name ∙ sym name))))
    (not_live_apart o m.waiting m.slots ps k not_live a.open')
    (λ d. refl) refl
