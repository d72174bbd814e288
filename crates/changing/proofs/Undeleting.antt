-- How an undelete ends, test by test.
use Rattle.std.proofs.Common.{◌≡◌, ℕ, ◌<◌, ◌≤◌, Bool, true, false, cond, ◌&&◌, ltb, List, [], ◌∷◌, length, Some, None, Option, Result, is_some, sym, refl, ap, ap₂, ◌∙◌, subst, inl, inr, arith}
use Rattle.std.proofs.lemmas.Bool.{lt-ltb, le-ltb}
use Rattle.device.specs.Faults.{Faults, Within}
use Rattle.device.specs.Meaning.{Meaning, Sectors, MayAccept}
use Rattle.device.specs.declared.faults.Fault.{Fault}
use Rattle.layout.specs.Names.{name_char}
use Rattle.layout.specs.Sizes.{layout_of, place_of, block_of}
use Rattle.layout.specs.declared.sizes.Layout.{Layout}
use Rattle.entries.specs.Entry.{entry_bytes, first_set}
use Rattle.entries.specs.State.{lawful_fields, live_entry, state_by, state_of}
use Rattle.entries.specs.declared.entry.Entry.{Entry}
use Rattle.entries.proofs.Entries.{entry_back}
use Rattle.refusals.specs.declared.Refusal.{Refusal}
use Rattle.refusals.specs.declared.Refusal.TheVariants.{Name, NotErased, NameTaken, Device}
use Rattle.places.specs.Places.{Place, places, acted}
use Rattle.places.specs.SlotWrites.{enter}
use Rattle.places.proofs.Frames.{length-places, place_slot, place_first}
use Rattle.plans.specs.Calls.{undelete, done}
use Rattle.plans.specs.Memory.{Memory}
use Rattle.plans.specs.Plans.{Plan, refuse, go, for_entries, at_first, vacant, undelete_plan, restored, restored_slot, entering, place_in}
use Rattle.plans.specs.Slots.{Job, Slot, as_slot, slot_by, job_in, decoded, slots_in, named, is_live, is_erased, lowest}
use Rattle.volume.specs.Directory.{Room, ReadRefused, ReadEntry, Sought, found_in}
use Rattle.volume.specs.Outcomes.{AcceptedBy, RefusedBy, Ended, Performs, Plain}
use Rattle.volume.specs.Performing.{Performed, Cut}
use Rattle.volume.specs.declared.found.Found.{Found}
use Rattle.volume.proofs.Glue.{room, room_same, decoded_at}
use Rattle.naming.proofs.Endings.{cond_reads, vacant_reads, read_ends, go_ends, go_cut}

-- ON THE CARD

pub ended_on : (t : Faults) (m m' : Meaning) (q : Memory) {l : Layout} (k letter : ℕ) (r : Result (Unit {0}) Refusal) → l ≡ layout_of q.size →
    (q.size ≤ length m.sectors → Ended t l Plain (undelete_plan (places l m.sectors) q k letter) m m' q q r) → Performs t Plain (undelete k letter) m m' q q r
ended_on t m m' q k letter r e x =
    record { ends = λ h. subst (λ (c : Layout). Ended t c Plain (undelete_plan (places c m.sectors) q k letter) m m' q q r) e (x h) }

pub on_card : {l : Layout} {m : Meaning} (q : Memory) → l ≡ layout_of q.size → q.size ≤ length m.sectors → Room l m
on_card {m = m} q e h = subst (λ (c : Layout). Room c m) (sym e) (room q.size m h)

-- BEFORE ANY READ

pub unlawful : (t : Faults) (l : Layout) (m : Meaning) (q : Memory) (k letter : ℕ) → name_char letter ≡ false → RefusedBy t l (undelete_plan (places l m.sectors) q k letter) Name m m q q
unfolding undelete_plan
unlawful t l m q k letter e = rw e (refl, record { device = refl; memory = refl })

pub past : (t : Faults) (l : Layout) (m : Meaning) (q : Memory) (k letter : ℕ) → name_char letter ≡ true → l.slots ≤ k → RefusedBy t l (undelete_plan (places l m.sectors) q k letter) NotErased m m q q
unfolding undelete_plan
past t l m q k letter e h =
    let i : ltb k (length (places l m.sectors)) ≡ false = le-ltb k (length (places l m.sectors)) (omega (arith, h, length-places l m.sectors)) in
    rw (e, i) (refl, record { device = refl; memory = refl })

-- THE SLOT

-- what is left of the plan then
abbrev rest : List Place → Memory → (k letter : ℕ) → Plan
rest ps q k letter =
    vacant (lowest (named (restored (place_in ps k) letter).name) (slots_in ps)) (go at_first (entering k (restored (place_in ps k) letter) ∷ []) done q)

abbrev test : List Place → (k letter : ℕ) → Bool
test ps k letter = is_erased (decoded (place_in ps k)) && is_live (restored_slot (place_in ps k) letter)

pub record Goes (l : Layout) (m : Meaning) (q : Memory) (k letter : ℕ) : Type 0 where
  pub same : undelete_plan (places l m.sectors) q k letter ≡ cond (test (places l m.sectors) k letter) (rest (places l m.sectors) q k letter) (refuse NotErased)

pub goes : (l : Layout) (m : Meaning) (q : Memory) (k letter : ℕ) → name_char letter ≡ true → k < l.slots → Goes l m q k letter
unfolding undelete_plan
goes l m q k letter e h =
    let i : ltb k (length (places l m.sectors)) ≡ true = lt-ltb k (length (places l m.sectors)) (omega (arith, h, length-places l m.sectors)) in
    record { same = rw (e, i) refl }

pub unread : {t : Faults} {l : Layout} {m m' : Meaning} {q : Memory} {k letter n : ℕ} {f : Fault} → Goes l m q k letter → ReadRefused t m m' n f → RefusedBy t l (undelete_plan (places l m.sectors) q k letter) (Device f) m m' q q
unread {t = t} {l = l} {m = m} {m' = m'} {q = q} {k = k} {letter = letter} {n = n} {f = f} g r =
    let ps = places l m.sectors in
    subst (λ (p : Plan). RefusedBy t l p (Device f) m m' q q) (sym g.same)
    (read_ends t l (cond (test ps k letter) (rest ps q k letter) (refuse NotErased)) m m' q n f (cond_reads (test ps k letter) (rest ps q k letter) (refuse NotErased)
    (vacant_reads (lowest (named (restored (place_in ps k) letter).name) (slots_in ps)) (go at_first (entering k (restored (place_in ps k) letter) ∷ []) done q) tt) tt) r)

-- what stands in slot k of a card, by its entry
slot_by_at : (c : Layout) (s : Sectors) (k : ℕ) (e : Entry) → k < c.slots →
    slot_by (place_in (places c s) k).slot (place_in (places c s) k).first e (place_in (places c s) k).sectors ≡ as_slot (state_of c k e) (job_in e (place_in (places c s) k).sectors)
unfolding slot_by live_entry lawful_fields state_of state_by
slot_by_at c s k e h =
    let p = place_in (places c s) k in
    let i : (ltb k c.slots && lawful_fields k (block_of c k) e) ≡ lawful_fields k (block_of c k) e = ap (λ (b : Bool). b && lawful_fields k (block_of c k) e) (lt-ltb k c.slots h) in
    ap (λ (b : Bool). as_slot (state_by b e) (job_in e p.sectors)) (ap₂ (λ (j a : ℕ). lawful_fields j a e) (place_slot c s k h) (place_first c s k h) ∙ sym i)

-- the entry was read, and r is it with the letter
pub record Restored (l : Layout) (m m₁ : Meaning) (k letter : ℕ) (e r : Entry) : Type 0 where
  pub inside : k < l.slots
  pub read : ReadEntry l m m₁ k e
  pub made : r ≡ first_set e letter
  pub name : length r.name ≡ 16
  pub reserved : length r.reserved ≡ 3

same_entry : {l : Layout} {m m₁ : Meaning} {k letter : ℕ} {e r : Entry} → Restored l m m₁ k letter e r → r ≡ restored (place_in (places l m.sectors) k) letter
same_entry {letter = letter} x = x.made ∙ ap (λ (y : Entry). first_set y letter) x.read.value

-- so the code's test is the plan's
tested : {l : Layout} {m m₁ : Meaning} {k letter : ℕ} {e r : Entry} {b : Bool} → Restored l m m₁ k letter e r → ((i j : Job) → b ≡ (is_erased (as_slot (state_of l k e) i) && is_live (as_slot (state_of l k r) j))) →
    test (places l m.sectors) k letter ≡ b
unfolding decoded
tested {l = l} {m = m} {k = k} {letter = letter} {e = e} {r = r} x f =
    let p = place_in (places l m.sectors) k in
    let one = decoded_at l m.sectors k x.inside ∙ ap (λ (y : Entry). as_slot (state_of l k y) (job_in y p.sectors)) (sym x.read.value) in
    let two : restored_slot p letter ≡ as_slot (state_of l k r) (job_in r p.sectors) =
    ap (λ (y : Entry). restored_by p y) (sym (same_entry x)) ∙ ap (λ (y : Entry). slot_by p.slot p.first y p.sectors) (entry_back r x.name x.reserved) ∙ slot_by_at l m.sectors k r x.inside in
    ap₂ (λ (y z : Slot). is_erased y && is_live z) one two ∙ sym (f (job_in e p.sectors) (job_in r p.sectors))
  where
    restored_by : Place → Entry → Slot
    restored_by p y = decoded (acted p (enter (entry_bytes y)))

pub not_erased : (t : Faults) {l : Layout} {m m₁ : Meaning} {q : Memory} {k letter : ℕ} {e r : Entry} {b : Bool} → Goes l m q k letter → Restored l m m₁ k letter e r →
    ((i j : Job) → b ≡ (is_erased (as_slot (state_of l k e) i) && is_live (as_slot (state_of l k r) j))) → b ≡ false → RefusedBy t l (undelete_plan (places l m.sectors) q k letter) NotErased m m₁ q q
not_erased t {l = l} {m = m} {q = q} {k = k} {letter = letter} g x f z =
    let i = tested x f ∙ z in
    rw (g.same, i) (inl (record { with_it = refl; was_read = λ _. x.read.accepted; device = x.read.same; memory = refl }))

-- THE NAME

-- it can be brought back: the plan goes on with its name
pub record Back (l : Layout) (m m₁ : Meaning) (q : Memory) (k letter : ℕ) (r : Entry) : Type 0 where
  pub goes_on : undelete_plan (places l m.sectors) q k letter ≡ vacant (lowest (named r.name) (slots_in (places l m.sectors))) (go at_first (entering k r ∷ []) done q)
  pub same : m₁ ≡ m
  pub was_read : 0 < l.slots → MayAccept m.condition

pub back : {l : Layout} {m m₁ : Meaning} {q : Memory} {k letter : ℕ} {e r : Entry} {b : Bool} → Goes l m q k letter → Restored l m m₁ k letter e r →
    ((i j : Job) → b ≡ (is_erased (as_slot (state_of l k e) i) && is_live (as_slot (state_of l k r) j))) → b ≡ true → Back l m m₁ q k letter r
back {l = l} {m = m} {q = q} {k = k} g x f z =
    let i = tested x f ∙ z in
    record {
      goes_on = g.same ∙ rw i (ap (λ (y : Entry). vacant (lowest (named y.name) (slots_in (places l m.sectors))) (go at_first (entering k y ∷ []) done q)) (sym (same_entry x)));
      same = x.read.same;
      was_read = λ _. x.read.accepted;
    }

pub unsearched : {t u : Faults} {l : Layout} {m m₁ m' : Meaning} {q : Memory} {k letter : ℕ} {r : Entry} {f : Fault} → Room l m → Within u t → Back l m m₁ q k letter r → (Room l m₁ → (n : ℕ) × ReadRefused u m₁ m' n f) →
    RefusedBy t l (undelete_plan (places l m.sectors) q k letter) (Device f) m m' q q
unsearched {t = t} {u = u} {l = l} {m = m} {m₁ = m₁} {m' = m'} {q = q} {k = k} {r = r} {f = f} h w x y =
    let z = y (room_same x.same h) in
    let a : ReadRefused t m m' z.0 f = refused_within w (subst (λ (s : Meaning). ReadRefused u s m' z.0 f) x.same z.1) in
    subst (λ (p : Plan). RefusedBy t l p (Device f) m m' q q) (sym x.goes_on)
    (read_ends t l (vacant (lowest (named r.name) (slots_in (places l m.sectors))) (go at_first (entering k r ∷ []) done q)) m m' q z.0 f
    (vacant_reads (lowest (named r.name) (slots_in (places l m.sectors))) (go at_first (entering k r ∷ []) done q) tt) a)
  where
    refused_within : {t u : Faults} {m m' : Meaning} {n : ℕ} {f : Fault} → Within u t → ReadRefused u m m' n f → ReadRefused t m m' n f
    refused_within w x = record { refusable = x.refusable; names = w _ _ _ x.names; leaves = x.leaves }

-- the search for its name
searched : {l : Layout} {m m₁ m₂ : Meaning} {q : Memory} {k letter : ℕ} {r : Entry} {v : Option Found} → Room l m → Back l m m₁ q k letter r → (Room l m₁ → Sought l m₁ m₂ r.name v) → Sought l m m₂ r.name v
searched {l = l} {m₂ = m₂} {r = r} {v = v} h x y = subst (λ (s : Meaning). Sought l s m₂ r.name v) x.same (y (room_same x.same h))

pub taken : (t : Faults) {l : Layout} {m m₁ m₂ : Meaning} {q : Memory} {k letter : ℕ} {r : Entry} {v : Option Found} → Room l m → Back l m m₁ q k letter r → (Room l m₁ → Sought l m₁ m₂ r.name v) → is_some v ≡ true →
    RefusedBy t l (undelete_plan (places l m.sectors) q k letter) NameTaken m m₂ q q
taken t {l = l} {m = m} {m₂ = m₂} {q = q} {k = k} {r = r} {v = v} h x y s =
    let z = searched h x y in
    rw x.goes_on (by (lowest (named r.name) (slots_in (places l m.sectors))) (ap is_some (sym z.value) ∙ s) _ z.passed.same)
  where
    by : (o : Option ℕ) → is_some (found_in (places l m.sectors) o) ≡ true → (g : Plan) → m₂ ≡ m → RefusedBy t l (vacant o g) NameTaken m m₂ q q
    by None h g e = cc
    by (Some k) h g e = inl (record { with_it = refl; was_read = x.was_read; device = e; memory = refl })

-- no other has it
pub record Free (l : Layout) (m m₂ : Meaning) (q : Memory) (k letter : ℕ) (r : Entry) : Type 0 where
  pub goes_on : undelete_plan (places l m.sectors) q k letter ≡ go at_first (entering k r ∷ []) done q
  pub same : m₂ ≡ m
  pub was_read : 0 < l.slots → MayAccept m.condition
  pub listed : (place_of k).sector < length m₂.sectors

pub free : {l : Layout} {m m₁ m₂ : Meaning} {q : Memory} {k letter : ℕ} {r : Entry} {v : Option Found} → k < l.slots → Room l m → Back l m m₁ q k letter r → (Room l m₁ → Sought l m₁ m₂ r.name v) → is_some v ≡ false → Free l m m₂ q k letter r
free {l = l} {m = m} {q = q} {k = k} {r = r} {v = v} i h x y s =
    let z = searched h x y in
    let e : lowest (named r.name) (slots_in (places l m.sectors)) ≡ None = by (lowest (named r.name) (slots_in (places l m.sectors))) (ap is_some (sym z.value) ∙ s) in
    record {
      goes_on = x.goes_on ∙ ap (λ (o : Option ℕ). vacant o (go at_first (entering k r ∷ []) done q)) e;
      same = z.passed.same;
      was_read = x.was_read;
      listed = (room_same {c = l} z.passed.same h).listed k i;
    }
  where
    by : (o : Option ℕ) → is_some (found_in (places l m.sectors) o) ≡ false → o ≡ None
    by None h = refl
    by (Some k) h = cc

pub back_cut : {t u : Faults} {l : Layout} {m m₂ m' : Meaning} {q : Memory} {k letter : ℕ} {r : Entry} {f : Fault} → Free l m m₂ q k letter r → Within u t →
    ((place_of k).sector < length m₂.sectors → (c : Layout) → Cut u c for_entries m₂ m' (entering k r ∷ []) f) → RefusedBy t l (undelete_plan (places l m.sectors) q k letter) (Device f) m m' q q
back_cut {t = t} {u = u} {l = l} {m = m} {m₂ = m₂} {m' = m'} {q = q} {k = k} {r = r} {f = f} x w y =
    subst (λ (p : Plan). RefusedBy t l p (Device f) m m' q q) (sym x.goes_on)
    (go_cut t u l for_entries (entering k r ∷ []) done q m m₂ m' q f x.same w (λ j l. inr l) (y x.listed l))

pub back_all : {l : Layout} {m m₂ m' : Meaning} {q : Memory} {k letter : ℕ} {r : Entry} → Free l m m₂ q k letter r → ((place_of k).sector < length m₂.sectors → (c : Layout) → Performed c m₂ m' (entering k r ∷ [])) →
    AcceptedBy l Plain (undelete_plan (places l m.sectors) q k letter) tt m m' q
back_all {l = l} {m = m} {m₂ = m₂} {m' = m'} {q = q} {k = k} {r = r} x y =
    subst (λ (p : Plan). AcceptedBy l Plain p tt m m' q) (sym x.goes_on)
    (go_ends l Plain (entering k r ∷ []) done q m m₂ m' tt refl x.same x.was_read (y x.listed l))
