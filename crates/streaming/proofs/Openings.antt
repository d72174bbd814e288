-- How open ends, exit by exit.
use Rattle.std.proofs.Common.{◌≡◌, ℕ, ◌-◌, ◌*◌, ◌/◌, ◌%◌, ◌<◌, ◌≤◌, Bool, true, false, cond, List, [], ◌∷◌, ◌++◌, length, take, drop, Some, None, Ok, Err, Option, Result, is_some, ok_or, ◌==◌, sym, refl, ap, ◌∙◌, subst, ap₂, inl, inr, arith}
use Rattle.std.proofs.lemmas.List.{length-map, length-take-le, take_at, drop_at}
use Rattle.device.specs.Faults.{Faults, Within}
use Rattle.device.specs.Meaning.{Meaning, Sectors, Lawful}
use Rattle.device.specs.declared.faults.Fault.{Fault}
use Rattle.layout.specs.Bytes.{part}
use Rattle.layout.specs.Names.{lawful_name, padded, name_of}
use Rattle.layout.specs.Sizes.{layout_of, block_of}
use Rattle.layout.specs.declared.names.Name.{Name as LawfulName}
use Rattle.layout.specs.declared.sizes.Layout.{Layout}
use Rattle.refusals.specs.declared.Refusal.{Refusal}
use Rattle.refusals.specs.declared.Refusal.TheVariants.{Name, Open, NotSequential, NoSlot, Device}
use Rattle.entries.specs.Entry.{new_entry}
use Rattle.entries.specs.declared.entry.Entry.{Entry}
use Rattle.places.specs.Places.{Place, places}
use Rattle.places.specs.SlotWrites.{SlotWrite}
use Rattle.places.proofs.Frames.{place_slot, place_first, length-places}
use Rattle.plans.specs.Calls.{open', handle}
use Rattle.plans.specs.Memory as plans
use Rattle.plans.specs.Memory.{with_job, card_layout}
use Rattle.plans.specs.Plans.{Plan, go, refuse, found, for_entries, at_first, entering, open_plan, open_at, slot_named, saved_entry, new_job, opened_new, continued, card_places, place_in, entry_of}
use Rattle.plans.specs.Slots.{Job, empty, decoded, slots_in, named, usable, lowest, job_in, job_of}
use Rattle.plans.proofs.Lowest.{lowest_some}
use Rattle.volume.specs.Directory.{Room, ReadRefused, Passed, Scanned, found_in}
use Rattle.volume.specs.Kept.{open_job}
use Rattle.volume.specs.Outcomes.{AcceptedBy, RefusedBy, Performs}
use Rattle.volume.specs.Performing.{Performed, Cut}
use Rattle.volume.specs.declared.found.Found.{Found}
use Rattle.volume.specs.declared.open_job.OpenJob.{OpenJob}
use Rattle.volume.specs.declared.found.Scan.{Scan}
use Rattle.volume.proofs.Glue.{room, room_same, read_cut, performed_none}
use Rattle.naming.proofs.Naming.{named_lives}
use Rattle.naming.proofs.Endings.{found_reads, cond_reads, read_ends, go_cut}
use Rattle.naming.specs.Named.{ReadsFirst}
use Rattle.reading.specs.Blocks.{block_bytes}
use Rattle.reading.proofs.BlockReads.{length-block, length-part}
use Rattle.reading.proofs.Parts.{take_split}
use Rattle.streaming.specs.Opened.{Opened, opened}
use Rattle.streaming.proofs.Pieces.{same_job}
use Rattle.streaming.proofs.Endings.{memory}

-- A JOB CONTINUED

-- the bytes of a job behind its full sectors
behind : (b : List ℕ) (size : ℕ) → size ≤ length b → drop (512 * (size / 512)) (take size b) ≡ part b (512 * (size / 512)) (size % 512)
behind b size h =
    let o : ℕ = 512 * (size / 512) in
    let l : o ≤ size = omega arith in
    let r : size - o ≡ size % 512 = omega arith in
    ap (drop o) (take_split o size b l) ∙ drop_at (take o b) (take (size - o) (drop o b)) o (length-take-le o b (omega arith)) ∙ ap (λ (n : ℕ). take n (drop o b)) r

pub continued_is : (c : Layout) (m : Meaning) (k : ℕ) (e : Entry) {z : ℕ} {p : List ℕ} (rest : List ℕ) → Room c m → Lawful m → k < c.slots → z ≡ e.size → e.size ≤ 65535 →
    p ≡ part (block_bytes c m.sectors k) (512 * (z / 512)) (z % 512) →
    ◌≡◌ {A = plans.OpenJob} (record { slot = k; name = e.name; full = z / 512; gathered = take (z % 512) (p ++ rest); waiting = 0 }) (continued k (job_in e (place_in (places c m.sectors) k).sectors))
unfolding job_in
continued_is c m k e {z = z} {p = p} rest h w i d s x =
    let b : List ℕ = block_bytes c m.sectors k in
    let all : length b ≡ 65536 = length-block c m k h w i in
    let n : length (take e.size b) ≡ z = length-take-le e.size b (omega (arith, all)) ∙ sym d in
    let full : z / 512 ≡ length (take e.size b) / 512 = ap (λ (y : ℕ). y / 512) (sym n) in
    let long : length p ≡ z % 512 = ap length x ∙ length-part c m k (512 * (z / 512)) (z % 512) h w i (omega arith) in
    let tail : take (z % 512) (p ++ rest) ≡ drop (512 * (length (take e.size b) / 512)) (take e.size b) =
    take_at p rest (z % 512) long ∙ x ∙ sym (behind b z (omega (arith, all, d, s)))
    ∙ ap₂ (λ (q y : ℕ). drop (512 * q) (take y b)) full d in
    same_job refl refl full tail refl

-- A NEW JOB

pub made_entry : (c : Layout) (s : Sectors) (i : ℕ) (n : List ℕ) {y : List ℕ} {f : ℕ} {e : Entry} → i < c.slots → y ≡ padded n → f ≡ block_of c i → e ≡ new_entry y 130 i f 0 0 →
    (entering i e ∷ []) ≡ (entering i (saved_entry (place_in (places c s) i) (new_job n)) ∷ [])
made_entry c s i n l w h x =
    ap (λ (z : Entry). entering i z ∷ [])
    (x ∙ ap₂ (λ (z : List ℕ) (d : ℕ). new_entry z 130 i d 0 0) w (h ∙ sym (place_first c s i l)) ∙ ap (λ (d : ℕ). new_entry (padded n) 130 d (place_in (places c s) i).first 0 0) (sym (place_slot c s i l)))

-- THE PLAN

-- what the code has found when it has looked over the directory
pub record Looked (m m₁ : Meaning) (q : plans.Memory) (n : List ℕ) (v : Scan) : Type 0 where
  pub passed : Passed (card_layout q) m m₁
  pub goes : open_plan (card_places q m.sectors) q n ≡ open_at (card_places q m.sectors) q n (slot_named (card_places q m.sectors) n)
  pub one : v.one ≡ found_in (card_places q m.sectors) (slot_named (card_places q m.sectors) n)
  pub room : v.room ≡ found_in (card_places q m.sectors) (lowest usable (slots_in (card_places q m.sectors)))

abbrev pub kept_shut : ℕ → plans.Memory
kept_shut s = record { size = s; job = None }

lawful : (n : List ℕ) {r : Option LawfulName} {v : LawfulName} → r ≡ name_of n → r ≡ Some v → (lawful_name n ≡ true) × (v.bytes ≡ padded n)
lawful n {v = v} e f = by (lawful_name n) refl (sym e ∙ f)
  where
    by : (b : Bool) → lawful_name n ≡ b → cond {A = Option LawfulName} b (Some (record { bytes = padded n })) None ≡ Some v → (lawful_name n ≡ true) × (v.bytes ≡ padded n)
    by true h g = (h, let z : record { bytes = padded n } ≡ v = cc in ap (λ (w : LawfulName). w.bytes) (sym z))
    by false h g = cc

goes_on : (s : Sectors) (k : ℕ) (n : List ℕ) {r : Option LawfulName} {v : LawfulName} → r ≡ name_of n → r ≡ Some v →
    open_plan (card_places (kept_shut k) s) (kept_shut k) n ≡ open_at (card_places (kept_shut k) s) (kept_shut k) n (slot_named (card_places (kept_shut k) s) n)
unfolding open_plan
goes_on s k n e f = rw (lawful n e f).0 refl

pub looked : (m m₁ : Meaning) (s : ℕ) (n : List ℕ) {r : Option LawfulName} {v : LawfulName} {p : List ℕ} {c : Layout} {w : Scan} → r ≡ name_of n → r ≡ Some v → p ≡ v.bytes → c ≡ layout_of s → s ≤ length m.sectors →
    (Room c m → Scanned c m m₁ p p w) → Looked m m₁ (kept_shut s) n w
looked m m₁ s n {p = p} {w = w} e f g d h x =
    let y = subst (λ (c : Layout). Room c m → Scanned c m m₁ p p w) d x (room s m h) in
    let same : p ≡ padded n = g ∙ (lawful n e f).1 in
    record {
      passed = y.passed;
      goes = goes_on m.sectors s n e f;
      one = y.one ∙ ap (λ (z : List ℕ). found_in (card_places (kept_shut s) m.sectors) (lowest (named z) (slots_in (card_places (kept_shut s) m.sectors)))) same;
      room = y.room;
    }

at_reads : (ps : List Place) (q : plans.Memory) (n : List ℕ) (o : Option ℕ) → ReadsFirst (open_at ps q n o)
at_reads ps q n None =
    found_reads (lowest usable (slots_in ps)) NoSlot
    (λ k. go at_first (entering k (saved_entry (place_in ps k) (new_job n)) ∷ []) (handle k) (with_job q (Some (opened_new k n)))) (λ k. tt)
at_reads ps q n (Some k) =
    let j = job_of (decoded (place_in ps k)) in
    cond_reads (j.kind == 0x82) (go at_first [] (handle k) (with_job q (Some (continued k j)))) (refuse NotSequential) tt tt

found_none : (ps : List Place) (o : Option ℕ) → None ≡ found_in ps o → o ≡ None
found_none ps None e = refl
found_none ps (Some k) e = cc

found_some : (ps : List Place) (o : Option ℕ) (v : Found) → Some v ≡ found_in ps o → (o ≡ Some v.slot) × (v.entry ≡ entry_of (place_in ps v.slot))
found_some ps None v e = cc
found_some ps (Some k) v e = let z : record { slot = k; entry = entry_of (place_in ps k) } ≡ v = cc in (ap (λ (w : Found). Some w.slot) z, ap (λ (w : Found). w.entry) (sym z) ∙ ap (λ (w : Found). entry_of (place_in ps w.slot)) z)

-- REFUSED BEFORE THE DIRECTORY IS LOOKED OVER

pub open_unlawful : (t : Faults) (m : Meaning) (q : plans.Memory) (n : List ℕ) {r : Option LawfulName} {y : Refusal} → r ≡ name_of n → Err y ≡ ok_or r Name → Performs {A = OpenJob} t Opened (open' n) m m q q (Err y)
unfolding open_plan
open_unlawful t m q n {y = y} e f = by (lawful_name n) refl (f ∙ ap (λ (o : Option LawfulName). ok_or o Name) e)
  where
    by : (b : Bool) → lawful_name n ≡ b → Err y ≡ ok_or (cond {A = Option LawfulName} b (Some (record { bytes = padded n })) None) Name → Performs {A = OpenJob} t Opened (open' n) m m q q (Err y)
    by true h g = cc
    by false h g = record { ends = λ _. rw h (let z : y ≡ Name = cc in z, record { device = refl; memory = refl }) }

pub open_twice : (t : Faults) (m : Meaning) (s : ℕ) (o : Option OpenJob) (n : List ℕ) {r : Option LawfulName} {v : LawfulName} (j : OpenJob) → r ≡ name_of n → r ≡ Some v → o ≡ Some j →
    Performs {A = OpenJob} t Opened (open' n) m m (memory s o) (memory s o) (Err Open)
unfolding open_plan
open_twice t m s o n j e f g = record { ends = λ _. rw ((lawful n e f).0, g) (refl, record { device = refl; memory = refl }) }

pub open_unread : (t : Faults) (m m' : Meaning) (s : ℕ) (n : List ℕ) {r : Option LawfulName} {v : LawfulName} {c : Layout} (f : Fault) → r ≡ name_of n → r ≡ Some v → c ≡ layout_of s → (Room c m → (k : ℕ) × ReadRefused t m m' k f) →
    Performs {A = OpenJob} t Opened (open' n) m m' (kept_shut s) (kept_shut s) (Err (Device f))
open_unread t m m' s n f e g d x = record {
  ends = λ h.
      let ps = card_places (kept_shut s) m.sectors in
      let z = x (subst (λ (c : Layout). Room c m) (sym d) (room s m h)) in
      subst (λ (p : Plan). RefusedBy t (layout_of s) p (Device f) m m' (kept_shut s) (kept_shut s)) (sym (goes_on m.sectors s n e g))
      (read_ends t (layout_of s) (open_at ps (kept_shut s) n (slot_named ps n)) m m' (kept_shut s) z.0 f (at_reads ps (kept_shut s) n (slot_named ps n)) z.1);
}

-- A JOB THAT IS THERE

-- its plan
there : (m : Meaning) (s : ℕ) (n : List ℕ) {m₁ : Meaning} {w : Scan} (v : Found) → Looked m m₁ (kept_shut s) n w → w.one ≡ Some v →
    let q = kept_shut s in
    let j = job_in v.entry (place_in (card_places q m.sectors) v.slot).sectors in
    (open_plan (card_places q m.sectors) q n ≡ cond (v.entry.kind == 0x82) (go at_first [] (handle v.slot) (with_job q (Some (continued v.slot j)))) (refuse NotSequential)) × (v.slot < (layout_of s).slots)
unfolding job_in
there m s n v x e =
    let q = kept_shut s in
    let ps = card_places q m.sectors in
    let f = found_some ps (slot_named ps n) v (sym e ∙ x.one) in
    let l = named_lives (layout_of s) m.sectors (padded n) v.slot f.0 in
    let job : job_of (decoded (place_in ps v.slot)) ≡ job_in v.entry (place_in ps v.slot).sectors =
    ap job_of l.1 ∙ ap (λ (y : Entry). job_in y (place_in ps v.slot).sectors) (sym f.1) in (
      x.goes ∙ ap (open_at ps q n) f.0
          ∙ ap (λ (j : Job). cond (j.kind == 0x82) (go at_first [] (handle v.slot) (with_job q (Some (continued v.slot j)))) (refuse NotSequential)) job,
      l.0,
    )

pub open_other_kind : (t : Faults) (m m₁ : Meaning) (s : ℕ) (n : List ℕ) {w : Scan} (v : Found) → (s ≤ length m.sectors → Looked m m₁ (kept_shut s) n w) → w.one ≡ Some v → (v.entry.kind == 0x82) ≡ false →
    Performs {A = OpenJob} t Opened (open' n) m m₁ (kept_shut s) (kept_shut s) (Err NotSequential)
open_other_kind t m m₁ s n v f e k = record {
  ends = λ h.
      let x = f h in
      let q = kept_shut s in
      let j = job_in v.entry (place_in (card_places q m.sectors) v.slot).sectors in
      let p = (there m s n v x e).0 ∙ ap (λ (b : Bool). cond b (go at_first [] (handle v.slot) (with_job q (Some (continued v.slot j)))) (refuse NotSequential)) k in
      subst (λ (z : Plan). RefusedBy t (layout_of s) z NotSequential m m₁ q q) (sym p)
      (inl (record { with_it = refl; was_read = x.passed.was_read; device = x.passed.same; memory = refl }));
}

continuing : (m : Meaning) (s : ℕ) (n : List ℕ) {m₁ : Meaning} {w : Scan} (v : Found) → Looked m m₁ (kept_shut s) n w → w.one ≡ Some v → (v.entry.kind == 0x82) ≡ true →
    let q = kept_shut s in
    open_plan (card_places q m.sectors) q n ≡ go at_first [] (handle v.slot) (with_job q (Some (continued v.slot (job_in v.entry (place_in (card_places q m.sectors) v.slot).sectors))))
continuing m s n v x e k =
    let q = kept_shut s in
    let j = job_in v.entry (place_in (card_places q m.sectors) v.slot).sectors in
    (there m s n v x e).0 ∙ ap (λ (b : Bool). cond b (go at_first [] (handle v.slot) (with_job q (Some (continued v.slot j)))) (refuse NotSequential)) k

-- what the step that continues it says, on the device as it was before the search
on_card : (m m₁ : Meaning) (s : ℕ) (n : List ℕ) {w : Scan} {c : Layout} (v : Found) (P : Layout → Meaning → Type 0) → Looked m m₁ (kept_shut s) n w → w.one ≡ Some v → c ≡ layout_of s → s ≤ length m.sectors →
    (v.slot < c.slots → Room c m₁ → P c m₁) → P (layout_of s) m
on_card m m₁ s n {c = c} v P x e d h f =
    let l : v.slot < c.slots = subst (λ (y : Layout). v.slot < y.slots) (sym d) (there m s n v x e).1 in
    let r : Room c m₁ = room_same x.passed.same (subst (λ (y : Layout). Room y m) (sym d) (room s m h)) in
    subst (λ (y : Layout). P y m) d (subst (P c) x.passed.same (f l r))

pub open_continued : (t : Faults) (m m₁ m' : Meaning) (s : ℕ) (n : List ℕ) {w : Scan} {c : Layout} (v : Found) (o : OpenJob) → (s ≤ length m.sectors → Looked m m₁ (kept_shut s) n w) → w.one ≡ Some v → (v.entry.kind == 0x82) ≡ true →
    c ≡ layout_of s → o.slot ≡ v.slot →
    (v.slot < c.slots → Room c m₁ → (m' ≡ m₁) × (open_job o ≡ continued v.slot (job_in v.entry (place_in (places c m₁.sectors) v.slot).sectors))) →
    Performs t Opened (open' n) m m' (kept_shut s) (with_job (kept_shut s) (Some (open_job o))) (Ok o)
open_continued t m m₁ m' s n v o f e k d i g = record {
  ends = λ h.
      let x = f h in
      let q = kept_shut s in
      let z = on_card m m₁ s n v (λ c y. (m' ≡ y) × (open_job o ≡ continued v.slot (job_in v.entry (place_in (places c y.sectors) v.slot).sectors))) x e d h g in
      subst (λ (p : Plan). AcceptedBy (layout_of s) Opened p o m m' (with_job q (Some (open_job o)))) (sym (continuing m s n v x e k))
      (record { answer = ap handle (sym i); writes = subst (λ (y : Meaning). Performed (layout_of s) m y []) (sym z.0) (performed_none (layout_of s) m); was_read = x.passed.was_read; memory = ap (λ (y : plans.OpenJob). with_job q (Some y)) z.1 });
}

pub open_continue_cut : (t u : Faults) (m m₁ m' : Meaning) (s : ℕ) (n : List ℕ) {w : Scan} {c : Layout} (v : Found) (y : Fault) → (s ≤ length m.sectors → Looked m m₁ (kept_shut s) n w) → w.one ≡ Some v → (v.entry.kind == 0x82) ≡ true →
    c ≡ layout_of s → Within u t → (v.slot < c.slots → Room c m₁ → (k : ℕ) × ReadRefused u m₁ m' k y) →
    Performs {A = OpenJob} t Opened (open' n) m m' (kept_shut s) (kept_shut s) (Err (Device y))
open_continue_cut t u m m₁ m' s n v y f e k d i g = record {
  ends = λ h.
      let x = f h in
      let q = kept_shut s in
      let z = on_card m m₁ s n v (λ c b. (k : ℕ) × ReadRefused u b m' k y) x e d h g in
      let j = job_in v.entry (place_in (card_places q m.sectors) v.slot).sectors in
      subst (λ (p : Plan). RefusedBy t (layout_of s) p (Device y) m m' q q) (sym (continuing m s n v x e k))
      (go_cut t u (layout_of s) at_first [] (handle v.slot) (with_job q (Some (continued v.slot j))) m m m' q y refl i (λ j l. l) (read_cut z.1));
}

-- A NEW JOB

making : (m : Meaning) (s : ℕ) (n : List ℕ) {m₁ : Meaning} {w : Scan} → Looked m m₁ (kept_shut s) n w → w.one ≡ None →
    let q = kept_shut s in
    let ps = card_places q m.sectors in
    open_plan ps q n ≡ found (lowest usable (slots_in ps)) NoSlot (λ k. go at_first (entering k (saved_entry (place_in ps k) (new_job n)) ∷ []) (handle k) (with_job q (Some (opened_new k n))))
making m s n x e =
    let q = kept_shut s in
    let ps = card_places q m.sectors in
    x.goes ∙ ap (open_at ps q n) (found_none ps (slot_named ps n) (sym e ∙ x.one))

no_room : {r : Option Found} {y : Refusal} → Err y ≡ ok_or r NoSlot → (r ≡ None) × (y ≡ NoSlot)
no_room {r = None} e = (refl, cc)
no_room {r = Some v} e = cc

pub open_full : (t : Faults) (m m₁ : Meaning) (s : ℕ) (n : List ℕ) {w : Scan} {y : Refusal} → (s ≤ length m.sectors → Looked m m₁ (kept_shut s) n w) → w.one ≡ None → Err y ≡ ok_or w.room NoSlot →
    Performs {A = OpenJob} t Opened (open' n) m m₁ (kept_shut s) (kept_shut s) (Err y)
open_full t m m₁ s n {y = y} f e g = record {
  ends = λ h.
      let x = f h in
      let q = kept_shut s in
      let ps = card_places q m.sectors in
      let z = no_room g in
      let new : ℕ → Plan = λ k. go at_first (entering k (saved_entry (place_in ps k) (new_job n)) ∷ []) (handle k) (with_job q (Some (opened_new k n))) in
      let p = making m s n x e ∙ ap (λ (o : Option ℕ). found o NoSlot new) (found_none ps (lowest usable (slots_in ps)) (sym z.0 ∙ x.room)) in
      subst (λ (b : Plan). RefusedBy t (layout_of s) b y m m₁ q q) (sym p)
      (inl (record { with_it = z.1; was_read = x.passed.was_read; device = x.passed.same; memory = refl }));
}

abbrev pub makes : Layout → Sectors → ℕ → List ℕ → List SlotWrite
makes c s k n = entering k (saved_entry (place_in (places c s) k) (new_job n)) ∷ []

made_plan : (m : Meaning) (s : ℕ) (n : List ℕ) {m₁ : Meaning} {w : Scan} (v : Found) → Looked m m₁ (kept_shut s) n w → w.one ≡ None → w.room ≡ Some v →
    (open_plan (card_places (kept_shut s) m.sectors) (kept_shut s) n ≡ go at_first (makes (layout_of s) m.sectors v.slot n) (handle v.slot) (with_job (kept_shut s) (Some (opened_new v.slot n)))) × (v.slot < (layout_of s).slots)
made_plan m s n v x e g =
    let q = kept_shut s in
    let ps = card_places q m.sectors in
    let new : ℕ → Plan = λ k. go at_first (entering k (saved_entry (place_in ps k) (new_job n)) ∷ []) (handle k) (with_job q (Some (opened_new k n))) in
    let f = found_some ps (lowest usable (slots_in ps)) v (sym g ∙ x.room) in
    let i : v.slot < (layout_of s).slots =
    omega (arith, (lowest_some usable (slots_in ps) empty v.slot f.0).inside, length-map ps decoded, length-places (layout_of s) m.sectors) in
    (making m s n x e ∙ ap (λ (o : Option ℕ). found o NoSlot new) f.0, i)

made_there : (m m₁ : Meaning) (s : ℕ) (n : List ℕ) {w : Scan} {c : Layout} (v : Found) (P : Layout → Meaning → Type 0) → Looked m m₁ (kept_shut s) n w → w.one ≡ None → w.room ≡ Some v → c ≡ layout_of s → s ≤ length m.sectors →
    (v.slot < c.slots → Room c m₁ → P c m₁) → P (layout_of s) m
made_there m m₁ s n {c = c} v P x e g d h f =
    let l : v.slot < c.slots = subst (λ (y : Layout). v.slot < y.slots) (sym d) (made_plan m s n v x e g).1 in
    let r : Room c m₁ = room_same x.passed.same (subst (λ (y : Layout). Room y m) (sym d) (room s m h)) in
    subst (λ (y : Layout). P y m) d (subst (P c) x.passed.same (f l r))

pub open_made : (t : Faults) (m m₁ m' : Meaning) (s : ℕ) (n : List ℕ) {w : Scan} {c : Layout} (v : Found) (o : OpenJob) → (s ≤ length m.sectors → Looked m m₁ (kept_shut s) n w) → w.one ≡ None → w.room ≡ Some v →
    c ≡ layout_of s → open_job o ≡ opened_new v.slot n → (v.slot < c.slots → Room c m₁ → Performed c m₁ m' (makes c m₁.sectors v.slot n)) →
    Performs t Opened (open' n) m m' (kept_shut s) (with_job (kept_shut s) (Some (open_job o))) (Ok o)
open_made t m m₁ m' s n v o f e g d i r = record {
  ends = λ h.
      let x = f h in
      let q = kept_shut s in
      let z = made_there m m₁ s n v (λ c y. Performed c y m' (makes c y.sectors v.slot n)) x e g d h r in
      subst (λ (p : Plan). AcceptedBy (layout_of s) Opened p o m m' (with_job q (Some (open_job o)))) (sym (made_plan m s n v x e g).0)
      (record { answer = ap (λ (y : plans.OpenJob). handle y.slot) (sym i); writes = z; was_read = x.passed.was_read; memory = ap (λ (y : plans.OpenJob). with_job q (Some y)) i });
}

pub open_make_cut : (t u : Faults) (m m₁ m' : Meaning) (s : ℕ) (n : List ℕ) {w : Scan} {c : Layout} (v : Found) (y : Fault) → (s ≤ length m.sectors → Looked m m₁ (kept_shut s) n w) → w.one ≡ None → w.room ≡ Some v →
    c ≡ layout_of s → Within u t → (v.slot < c.slots → Room c m₁ → Cut u c for_entries m₁ m' (makes c m₁.sectors v.slot n) y) →
    Performs {A = OpenJob} t Opened (open' n) m m' (kept_shut s) (kept_shut s) (Err (Device y))
open_make_cut t u m m₁ m' s n v y f e g d i r = record {
  ends = λ h.
      let x = f h in
      let q = kept_shut s in
      let z = made_there m m₁ s n v (λ c b. Cut u c for_entries b m' (makes c b.sectors v.slot n) y) x e g d h r in
      subst (λ (p : Plan). RefusedBy t (layout_of s) p (Device y) m m' q q) (sym (made_plan m s n v x e g).0)
      (go_cut t u (layout_of s) for_entries (makes (layout_of s) m.sectors v.slot n) (handle v.slot) (with_job q (Some (opened_new v.slot n))) m m m' q y refl i (λ j l. inr l) z);
}

-- no job is open
pub not_open : {o : Option OpenJob} → is_some o ≡ false → o ≡ None
not_open {o = None} e = refl
not_open {o = Some j} e = cc

pub is_open : {o : Option OpenJob} → is_some o ≡ true → (j : OpenJob) × (o ≡ Some j)
is_open {o = None} e = cc
is_open {o = Some j} e = (j, refl)

pub shut : (t : Faults) (s : ℕ) (o : Option OpenJob) (n : List ℕ) (m m' : Meaning) (r : Result OpenJob Refusal) → o ≡ None → Performs t Opened (open' n) m m' (kept_shut s) (opened (kept_shut s) r) r →
    Performs t Opened (open' n) m m' (memory s o) (opened (memory s o) r) r
shut t s o n m m' r e p = subst (λ (x : Option OpenJob). Performs t Opened (open' n) m m' (memory s x) (opened (memory s x) r) r) (sym e) p

pub name_bytes : (n : List ℕ) {r : Option LawfulName} {v : LawfulName} → r ≡ name_of n → r ≡ Some v → v.bytes ≡ padded n
name_bytes n e f = (lawful n e f).1

pub none_left : {o : Option Found} → ((v : Found) → o ≡ Some v → ⊥) → o ≡ None
none_left {o = None} h = refl
none_left {o = Some v} h = absurd (h v refl)
