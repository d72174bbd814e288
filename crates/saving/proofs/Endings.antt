-- How save ends, exit by exit.
use Rattle.std.proofs.Common.{◌≡◌, ℕ, ◌<◌, ◌≤◌, Bool, true, false, cond, List, ◌++◌, length, Some, None, Ok, Err, Option, ok_or, nat_le, sym, refl, ap, ◌∙◌, subst, ap₂, inr}
use Rattle.device.specs.Faults.{Faults, Within}
use Rattle.device.specs.Meaning.{Meaning, Sectors}
use Rattle.device.specs.declared.faults.Fault.{Fault}
use Rattle.layout.specs.Extents.{size_of}
use Rattle.layout.specs.Names.{lawful_name, padded, name_of}
use Rattle.layout.specs.Sizes.{layout_of, block_of}
use Rattle.layout.specs.declared.names.Name.{Name as LawfulName}
use Rattle.layout.specs.declared.sizes.Layout.{Layout}
use Rattle.refusals.specs.declared.Refusal.{Refusal}
use Rattle.refusals.specs.declared.Refusal.TheVariants.{Name, FileType, TooLong, Device}
use Rattle.entries.specs.Entry.{new_entry}
use Rattle.entries.specs.declared.entry.Entry.{Entry}
use Rattle.places.specs.Places.{Place, places}
use Rattle.places.proofs.Frames.{place_slot, place_first}
use Rattle.plans.specs.Calls.{save, done}
use Rattle.plans.specs.Memory.{Memory, card_layout}
use Rattle.plans.specs.Plans.{Plan, go, for_entries, at_first, clearing, save_plan, save_writes, saved_entry, job_saved, card_places, place_in, entry_of}
use Rattle.plans.specs.Rows.{known_kind}
use Rattle.plans.specs.Slots.{Job, decoded}
use Rattle.volume.specs.Directory.{Room}
use Rattle.volume.specs.Outcomes.{WasRead, AcceptedBy, RefusedBy, Performs, Plain}
use Rattle.volume.specs.Performing.{Performed, Cut}
use Rattle.volume.specs.declared.found.Found.{Found}
use Rattle.volume.proofs.Filling.{performed_as, cut_of}
use Rattle.volume.proofs.Glue.{room, room_same}
use Rattle.naming.proofs.Endings.{go_ends, go_cut}
use Rattle.saving.specs.Vacancies.{room_plan, FoundRoom, job_writes}

-- WHAT IS REFUSED FROM MEMORY ALONE

unlawful : (n : List ℕ) {r : Option LawfulName} {x y : Refusal} → r ≡ name_of n → Err y ≡ ok_or r x → (lawful_name n ≡ false) × (y ≡ x)
unlawful n {x = x} {y = y} e f = by (lawful_name n) refl (f ∙ ap (λ (o : Option LawfulName). ok_or o x) e)
  where
    by : (b : Bool) → lawful_name n ≡ b → Err y ≡ ok_or (cond {A = Option LawfulName} b (Some (record { bytes = padded n })) None) x → (lawful_name n ≡ false) × (y ≡ x)
    by true h g = cc
    by false h g = (h, cc)

lawful : (n : List ℕ) {r : Option LawfulName} {v : LawfulName} → r ≡ name_of n → r ≡ Some v → (lawful_name n ≡ true) × (v.bytes ≡ padded n)
lawful n {v = v} e f = by (lawful_name n) refl (sym e ∙ f)
  where
    by : (b : Bool) → lawful_name n ≡ b → cond {A = Option LawfulName} b (Some (record { bytes = padded n })) None ≡ Some v → (lawful_name n ≡ true) × (v.bytes ≡ padded n)
    by true h g = (h, let z : record { bytes = padded n } ≡ v = cc in ap (λ (w : LawfulName). w.bytes) (sym z))
    by false h g = cc

too_long : (l : ℕ) {r : Option ℕ} {x y : Refusal} → r ≡ size_of l → Err y ≡ ok_or r x → (nat_le l 65535 ≡ false) × (y ≡ x)
too_long l {x = x} {y = y} e f = by (nat_le l 65535) refl (f ∙ ap (λ (o : Option ℕ). ok_or o x) e)
  where
    by : (b : Bool) → nat_le l 65535 ≡ b → Err y ≡ ok_or (cond {A = Option ℕ} b (Some l) None) x → (nat_le l 65535 ≡ false) × (y ≡ x)
    by true h g = cc
    by false h g = (h, cc)

fits : (l : ℕ) {r : Option ℕ} {v : ℕ} → r ≡ size_of l → r ≡ Some v → (nat_le l 65535 ≡ true) × (v ≡ l)
fits l {v = v} e f = by (nat_le l 65535) refl (sym e ∙ f)
  where
    by : (b : Bool) → nat_le l 65535 ≡ b → cond {A = Option ℕ} b (Some l) None ≡ Some v → (nat_le l 65535 ≡ true) × (v ≡ l)
    by true h g = (h, cc)
    by false h g = cc

pub save_unlawful : (t : Faults) (m : Meaning) (q : Memory) (n b : List ℕ) (k a : ℕ) {r : Option LawfulName} {y : Refusal} → r ≡ name_of n → Err y ≡ ok_or r Name →
    Performs {A = Unit {0}} t Plain (save n k a b) m m q q (Err y)
unfolding save_plan
save_unlawful t m q n b k a e f = let u = unlawful n e f in record { ends = λ _. rw (u.0) (u.1, record { device = refl; memory = refl }) }

pub save_unknown : (t : Faults) (m : Meaning) (q : Memory) (n b : List ℕ) (k a : ℕ) {r : Option LawfulName} {v : LawfulName} → r ≡ name_of n → r ≡ Some v → known_kind k ≡ false →
    Performs {A = Unit {0}} t Plain (save n k a b) m m q q (Err FileType)
unfolding save_plan
save_unknown t m q n b k a e f h = let l = lawful n e f in record { ends = λ _. rw (l.0, h) (refl, record { device = refl; memory = refl }) }

pub save_too_long : (t : Faults) (m : Meaning) (q : Memory) (n b : List ℕ) (k a : ℕ) {r : Option LawfulName} {v : LawfulName} {s : Option ℕ} {y : Refusal} → r ≡ name_of n → r ≡ Some v → known_kind k ≡ true →
    s ≡ size_of (length b) → Err y ≡ ok_or s TooLong → Performs {A = Unit {0}} t Plain (save n k a b) m m q q (Err y)
unfolding save_plan
save_too_long t m q n b k a e f h g i =
    let l = lawful n e f in
    let u = too_long (length b) g i in
    record { ends = λ _. rw (l.0, h, u.0) (u.1, record { device = refl; memory = refl }) }

-- WHAT IS ANSWERED ONCE THE DIRECTORY WAS READ

abbrev pub writing : List Place → Memory → Job → ℕ → Plan
writing ps q j k = go at_first (save_writes k (place_in ps k) j) done q

save_rest : (ps : List Place) (q : Memory) (n b : List ℕ) (k a : ℕ) {r : Option LawfulName} {v : LawfulName} {p : List ℕ} {s : Option ℕ} {z : ℕ} → r ≡ name_of n → r ≡ Some v → p ≡ v.bytes → known_kind k ≡ true →
    s ≡ size_of (length b) → s ≡ Some z → save_plan ps q (job_saved n k a b) n ≡ room_plan ps p (writing ps q (job_saved n k a b))
unfolding save_plan
save_rest ps q n b k a e f w h g i =
    let l = lawful n e f in
    let u = fits (length b) g i in
    rw (l.0, h, u.0) (ap (λ (x : List ℕ). room_plan ps x (writing ps q (job_saved n k a b))) (sym (w ∙ l.1)))

pub save_no_room : (t : Faults) (m m' : Meaning) (q : Memory) (n b : List ℕ) (k a : ℕ) {r : Option LawfulName} {v : LawfulName} {p : List ℕ} {s : Option ℕ} {z : ℕ} {y : Refusal} → r ≡ name_of n → r ≡ Some v → p ≡ v.bytes →
    known_kind k ≡ true → s ≡ size_of (length b) → s ≡ Some z →
    (q.size ≤ length m.sectors → RefusedBy t (card_layout q) (room_plan (card_places q m.sectors) p (writing (card_places q m.sectors) q (job_saved n k a b))) y m m' q q) →
    Performs {A = Unit {0}} t Plain (save n k a b) m m' q q (Err y)
save_no_room t m m' q n b k a {y = y} e f w h g i x =
    record { ends = λ j. subst (λ (p : Plan). RefusedBy t (card_layout q) p y m m' q q) (sym (save_rest (card_places q m.sectors) q n b k a e f w h g i)) (x j) }

-- the code writes what the plan has
saved_writes : (c : Layout) (s : Sectors) (n b : List ℕ) (k a i : ℕ) {y : LawfulName} {e : Entry} {f z : ℕ} → i < c.slots → y.bytes ≡ padded n → z ≡ length b → f ≡ block_of c i → e ≡ new_entry y.bytes k i f z a →
    clearing i (decoded (place_in (places c s) i)) ++ job_writes i e b ≡ save_writes i (place_in (places c s) i) (job_saved n k a b)
unfolding save_writes
saved_writes c s n b k a i {y = y} {e = e} {f = f} {z = z} l w g h x =
    let p = place_in (places c s) i in
    let same : new_entry y.bytes k i f z a ≡ saved_entry p (job_saved n k a b) =
    ap₂ (λ (q : List ℕ) (d : ℕ). new_entry q k i f d a) w g
    ∙ ap₂ (λ (d o : ℕ). new_entry (padded n) k d o (length b) a) (sym (place_slot c s i l)) (h ∙ sym (place_first c s i l)) in
    ap (λ (o : Entry). clearing i (decoded p) ++ job_writes i o b) (x ∙ same)

-- a slot was found
there : {m m₁ : Meaning} {q : Memory} {p : List ℕ} {v : Found} {c : Layout} → FoundRoom m m₁ q p v → c ≡ layout_of q.size → q.size ≤ length m.sectors → Room c m₁
there {m = m} {q = q} x e h = room_same x.passed.same (subst (λ (y : Layout). Room y m) (sym e) (room q.size m h))

-- what the code has tested when it begins to write
pub record Ready (m m₁ : Meaning) (q : Memory) (n b : List ℕ) (k a : ℕ) (c : Layout) (v : Found) (e : Entry) : Type 0 where
  pub goes : save_plan (card_places q m.sectors) q (job_saved n k a b) n ≡ writing (card_places q m.sectors) q (job_saved n k a b) v.slot
  pub same : m₁ ≡ m
  pub was_read : WasRead (card_layout q) m
  pub inside : v.slot < c.slots
  pub there : Room c m₁
  pub entry : v.entry ≡ entry_of (place_in (places c m₁.sectors) v.slot)
  pub layout : c ≡ card_layout q
  pub writes : clearing v.slot (decoded (place_in (places c m₁.sectors) v.slot)) ++ job_writes v.slot e b ≡ save_writes v.slot (place_in (card_places q m.sectors) v.slot) (job_saved n k a b)

pub ready : (m m₁ : Meaning) (q : Memory) (n b : List ℕ) (k a : ℕ) {r : Option LawfulName} {y : LawfulName} {p : List ℕ} {s : Option ℕ} {z f : ℕ} {c : Layout} {v : Found} {e : Entry} → r ≡ name_of n → r ≡ Some y → p ≡ y.bytes →
    known_kind k ≡ true → s ≡ size_of (length b) → s ≡ Some z → q.size ≤ length m.sectors → FoundRoom m m₁ q p v → c ≡ layout_of q.size → f ≡ block_of c v.slot → e ≡ new_entry y.bytes k v.slot f z a →
    Ready m m₁ q n b k a c v e
ready m m₁ q n b k a {z = z} {f = f} {c = c} {v = v} e g w h i j l x d o u =
    let inside : v.slot < c.slots = subst (λ (y : Layout). v.slot < y.slots) (sym d) x.inside in
    let at : place_in (places c m₁.sectors) v.slot ≡ place_in (card_places q m.sectors) v.slot =
    ap₂ (λ (y : Layout) (g : Meaning). place_in (places y g.sectors) v.slot) d x.passed.same in
    let to : clearing v.slot (decoded (place_in (places c m₁.sectors) v.slot)) ++ job_writes v.slot _ b ≡ save_writes v.slot (place_in (places c m₁.sectors) v.slot) (job_saved n k a b) =
    saved_writes c m₁.sectors n b k a v.slot inside (lawful n e g).1 (fits (length b) i j).1 o u in
    record {
      goes = save_rest (card_places q m.sectors) q n b k a e g w h i j ∙ x.goes_on (writing (card_places q m.sectors) q (job_saved n k a b));
      same = x.passed.same;
      was_read = x.passed.was_read;
      inside = inside;
      there = there x d l;
      entry = x.entry ∙ ap entry_of (sym at);
      layout = d;
      writes = to ∙ ap (λ (y : Place). save_writes v.slot y (job_saved n k a b)) at;
    }

pub save_cut : (t u : Faults) (m m₁ m' : Meaning) (q : Memory) (n b : List ℕ) (k a : ℕ) {c : Layout} {v : Found} {e : Entry} (y : Fault) → (q.size ≤ length m.sectors → Ready m m₁ q n b k a c v e) → Within u t →
    (v.slot < c.slots → Room c m₁ → v.entry ≡ entry_of (place_in (places c m₁.sectors) v.slot) → Cut u c for_entries m₁ m' (clearing v.slot (decoded (place_in (places c m₁.sectors) v.slot)) ++ job_writes v.slot e b) y) →
    Performs {A = Unit {0}} t Plain (save n k a b) m m' q q (Err (Device y))
save_cut t u m m₁ m' q n b k a {c = c} {v = v} y f w p = record {
  ends = λ h.
      let x = f h in
      let j = job_saved n k a b in
      let ws = save_writes v.slot (place_in (card_places q m.sectors) v.slot) j in
      let r : Cut u c for_entries m₁ m' ws y = cut_of x.writes (p x.inside x.there x.entry) in
      subst (λ (z : Plan). RefusedBy t (card_layout q) z (Device y) m m' q q) (sym x.goes)
      (go_cut t u (card_layout q) for_entries ws done q m m₁ m' q y x.same w (λ i l. inr l) (subst (λ (z : Layout). Cut u z for_entries m₁ m' ws y) x.layout r));
}

pub save_ends : (t : Faults) (m m₁ m' : Meaning) (q : Memory) (n b : List ℕ) (k a : ℕ) {c : Layout} {v : Found} {e : Entry} → (q.size ≤ length m.sectors → Ready m m₁ q n b k a c v e) →
    (v.slot < c.slots → Room c m₁ → v.entry ≡ entry_of (place_in (places c m₁.sectors) v.slot) → Performed c m₁ m' (clearing v.slot (decoded (place_in (places c m₁.sectors) v.slot)) ++ job_writes v.slot e b)) →
    Performs t Plain (save n k a b) m m' q q (Ok tt)
save_ends t m m₁ m' q n b k a {c = c} {v = v} f p = record {
  ends = λ h.
      let x = f h in
      let j = job_saved n k a b in
      let ws = save_writes v.slot (place_in (card_places q m.sectors) v.slot) j in
      let r : Performed c m₁ m' ws = performed_as x.writes (p x.inside x.there x.entry) in
      subst (λ (z : Plan). AcceptedBy (card_layout q) Plain z tt m m' q) (sym x.goes)
      (go_ends (card_layout q) Plain ws done q m m₁ m' tt refl x.same x.was_read (subst (λ (z : Layout). Performed z m₁ m' ws) x.layout r));
}
