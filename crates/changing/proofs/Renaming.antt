-- How a rename ends, once both names are lawful and the job is not open.
use Rattle.std.proofs.Common.{◌≡◌, ℕ, ◌<◌, ◌≤◌, true, false, List, [], ◌∷◌, length, Some, None, Ok, Err, Option, ok_or, is_some, sym, refl, ap, ◌∙◌, subst, inl, inr}
use Rattle.device.specs.Faults.{Faults, Within}
use Rattle.device.specs.Meaning.{Meaning, MayAccept}
use Rattle.device.specs.declared.faults.Fault.{Fault}
use Rattle.layout.specs.Names.{lawful_name, padded, name_of}
use Rattle.layout.specs.Sizes.{layout_of, place_of}
use Rattle.layout.specs.declared.names.Name.{Name as LawfulName}
use Rattle.layout.specs.declared.sizes.Layout.{Layout}
use Rattle.entries.specs.Entry.{renamed}
use Rattle.entries.specs.declared.entry.Entry.{Entry}
use Rattle.refusals.specs.declared.Refusal.{Refusal}
use Rattle.refusals.specs.declared.Refusal.TheVariants.{NoJob, NameTaken, Device}
use Rattle.places.specs.Places.{Place}
use Rattle.plans.specs.Calls.{done}
use Rattle.plans.specs.Memory.{Memory, card_layout}
use Rattle.plans.specs.Plans.{Plan, go, for_entries, at_first, found, vacant, rename_plan, entering, entry_of, place_in, card_places}
use Rattle.plans.specs.Slots.{slots_in, named, lowest}
use Rattle.volume.specs.Directory.{Room, ReadRefused, Scanned, found_in, InSlots}
use Rattle.volume.specs.Outcomes.{AcceptedBy, RefusedBy, Plain}
use Rattle.volume.specs.Performing.{Performed, Cut}
use Rattle.volume.specs.declared.found.Found.{Found}
use Rattle.volume.specs.declared.found.Scan.{Scan}
use Rattle.volume.proofs.Filling.{performed_as, cut_of}
use Rattle.volume.proofs.Glue.{room, room_same}
use Rattle.naming.specs.Named.{open_named, padded_name}
use Rattle.naming.proofs.Endings.{lawful_some, named_shut_not, found_reads, vacant_reads, read_ends, go_ends, go_cut}
use Rattle.naming.proofs.Naming.{padded_ok}

-- the plan by the padded names m and n
abbrev pub renaming : List Place → Memory → (m n : List ℕ) → Plan
renaming ps q m n =
    found (lowest (named m) (slots_in ps)) NoJob λ k.
    vacant (lowest (named n) (slots_in ps)) (go at_first (entering k (renamed (entry_of (place_in ps k)) n) ∷ []) done q)

-- that is what is left of the plan of a rename
pub record Rest (q : Memory) (m : Meaning) (old new : List ℕ) (y n : List ℕ) : Type 0 where
  pub same : rename_plan (card_places q m.sectors) q old new ≡ renaming (card_places q m.sectors) q y n

pub rest : (q : Memory) (m : Meaning) (old new : List ℕ) {y n : List ℕ} {z : LawfulName} → padded_name old ≡ Ok y → name_of new ≡ Some z → n ≡ z.bytes → open_named q.job y ≡ false → Rest q m old new y n
unfolding rename_plan
rest q m old new {y = y} {n = n} {z = z} e f i o =
    let a = padded_ok old (lawful_name old) refl e in
    let b = lawful_some new z f in
    let j : padded old ≡ y = sym a.1 in
    let k : padded new ≡ n = sym (i ∙ b.1) in
    record { same = rw (a.0, b.0, j, k) (named_shut_not q.job y (renaming (card_places q m.sectors) q y n) o) }

-- WHAT THE PASS FOUND

pub scanned : {m m' : Meaning} (q : Memory) {l : Layout} {y n : List ℕ} {v : Scan} → l ≡ layout_of q.size → q.size ≤ length m.sectors → (Room l m → Scanned l m m' y n v) → Scanned (card_layout q) m m' y n v
scanned {m = m} {m' = m'} q {y = y} {n = n} {v = v} i h x =
    subst (λ (c : Layout). Room c m → Scanned c m m' y n v) i x (room q.size m h)

none_found : (ps : List Place) (o : Option ℕ) → None ≡ found_in ps o → o ≡ None
none_found ps None e = refl
none_found ps (Some k) e = cc

same_some : {A : Type 0} {x y : A} → Some x ≡ Some y → x ≡ y
same_some e = cc

-- the slot, and its entry
pub record At (ps : List Place) (o : Option ℕ) (v : Found) : Type 0 where
  pub slot : o ≡ Some v.slot
  pub entry : v.entry ≡ entry_of (place_in ps v.slot)

one_found : (ps : List Place) (o : Option ℕ) (v : Found) → Some v ≡ found_in ps o → At ps o v
one_found ps None v e = cc
one_found ps (Some k) v e =
    let i = same_some e in
    let j : v.slot ≡ k = ap (λ (w : Found). w.slot) i in
    record { slot = ap Some (sym j); entry = ap (λ (w : Found). w.entry) i ∙ ap (λ (a : ℕ). entry_of (place_in ps a)) (sym j) }

is_none : {A : Type 0} (o : Option A) → is_some o ≡ false → o ≡ None
is_none None e = refl
is_none (Some x) e = cc

-- EXITS

pub unread : {t : Faults} {m m' : Meaning} (q : Memory) {old new y n : List ℕ} {l : Layout} {f : Fault} → Rest q m old new y n → l ≡ layout_of q.size → q.size ≤ length m.sectors → (Room l m → (k : ℕ) × ReadRefused t m m' k f) →
    RefusedBy t (card_layout q) (rename_plan (card_places q m.sectors) q old new) (Device f) m m' q q
unread {t = t} {m = m} {m' = m'} q {y = y} {n = n} {f = f} p i h r =
    let ps = card_places q m.sectors in
    let z = r (subst (λ (c : Layout). Room c m) (sym i) (room q.size m h)) in
    subst (λ (x : Plan). RefusedBy t (card_layout q) x (Device f) m m' q q) (sym p.same)
    (read_ends t (card_layout q) (renaming ps q y n) m m' q z.0 f
    (found_reads (lowest (named y) (slots_in ps)) NoJob _ (λ k. vacant_reads (lowest (named n) (slots_in ps)) _ tt)) z.1)

no_job : (o : Option Found) {r : Refusal} → Err r ≡ ok_or o NoJob → (o ≡ None) × (r ≡ NoJob)
no_job None e = (refl, cc)
no_job (Some v) e = cc

pub not_there : (t : Faults) {m m' : Meaning} (q : Memory) {old new y n : List ℕ} {v : Scan} {r : Refusal} → Rest q m old new y n → Scanned (card_layout q) m m' y n v → Err r ≡ ok_or v.one NoJob →
    RefusedBy t (card_layout q) (rename_plan (card_places q m.sectors) q old new) r m m' q q
not_there t {m = m} q {y = y} {v = v} p x e =
    let ps = card_places q m.sectors in
    let j = no_job v.one e in
    let i = none_found ps (lowest (named y) (slots_in ps)) (sym j.0 ∙ x.one) in
    rw (p.same, i) (inl (record { with_it = j.1; was_read = x.passed.was_read; device = x.passed.same; memory = refl }))

pub taken : (t : Faults) {m m' : Meaning} (q : Memory) {old new y n : List ℕ} {v : Scan} {w : Found} → Rest q m old new y n → Scanned (card_layout q) m m' y n v → v.one ≡ Some w → is_some v.other ≡ true →
    RefusedBy t (card_layout q) (rename_plan (card_places q m.sectors) q old new) NameTaken m m' q q
taken t {m = m} {m' = m'} q {y = y} {n = n} {v = v} {w = w} p x e s =
    let ps = card_places q m.sectors in
    let i = (one_found ps (lowest (named y) (slots_in ps)) w (sym e ∙ x.one)).slot in
    rw (p.same, i) (by (lowest (named n) (slots_in ps)) (ap is_some (sym x.other) ∙ s) _)
  where
    by : (o : Option ℕ) → is_some (found_in (card_places q m.sectors) o) ≡ true → (g : Plan) → RefusedBy t (card_layout q) (vacant o g) NameTaken m m' q q
    by None h g = cc
    by (Some k) h g = inl (record { with_it = refl; was_read = x.passed.was_read; device = x.passed.same; memory = refl })

-- the job is there and its new name is free
pub record Free (q : Memory) (m m' : Meaning) (old new : List ℕ) (n : List ℕ) (w : Found) : Type 0 where
  pub goes_on : rename_plan (card_places q m.sectors) q old new ≡ go at_first (entering w.slot (renamed w.entry n) ∷ []) done q
  pub same : m' ≡ m
  pub was_read : 0 < (card_layout q).slots → MayAccept m.condition
  pub listed : (place_of w.slot).sector < length m'.sectors

pub free : {m m' : Meaning} (q : Memory) {old new y n : List ℕ} {l : Layout} {v : Scan} {w : Found} → q.size ≤ length m.sectors → l ≡ layout_of q.size → Rest q m old new y n → Scanned (card_layout q) m m' y n v →
    InSlots l.slots v.one → v.one ≡ Some w → is_some v.other ≡ false → Free q m m' old new n w
free {m = m} {m' = m'} q {y = y} {n = n} {v = v} {w = w} h k p x s e z =
    let ps = card_places q m.sectors in
    let i = one_found ps (lowest (named y) (slots_in ps)) w (sym e ∙ x.one) in
    let j = none_found ps (lowest (named n) (slots_in ps)) (sym (is_none v.other z) ∙ x.other) in
    record {
      goes_on = p.same ∙ rw (i.slot, j, ← i.entry) refl;
      same = x.passed.same;
      was_read = x.passed.was_read;
      listed = (room_same {c = card_layout q} x.passed.same (room q.size m h)).listed w.slot
          (subst (InSlots (card_layout q).slots) e (subst (λ (c : Layout). InSlots c.slots v.one) k s));
    }

pub rename_cut : {t u : Faults} {m m₁ m' : Meaning} (q : Memory) {old new n b : List ℕ} {w : Found} {e : Entry} {f : Fault} → Free q m m₁ old new n w → e ≡ renamed w.entry b → n ≡ b → Within u t →
    ((place_of w.slot).sector < length m₁.sectors → (c : Layout) → Cut u c for_entries m₁ m' (entering w.slot e ∷ []) f) →
    RefusedBy t (card_layout q) (rename_plan (card_places q m.sectors) q old new) (Device f) m m' q q
rename_cut {t = t} {u = u} {m = m} {m₁ = m₁} {m' = m'} q {n = n} {w = w} {f = f} x i z k r =
    subst (λ (p : Plan). RefusedBy t (card_layout q) p (Device f) m m' q q) (sym x.goes_on)
    (go_cut t u (card_layout q) for_entries (entering w.slot (renamed w.entry n) ∷ []) done q m m₁ m' q f x.same k (λ j l. inr l)
    (cut_of (ap (λ (y : Entry). entering w.slot y ∷ []) (i ∙ ap (renamed w.entry) (sym z))) (r x.listed (card_layout q))))

pub rename_all : {m m₁ m' : Meaning} (q : Memory) {old new n b : List ℕ} {w : Found} {e : Entry} → Free q m m₁ old new n w → e ≡ renamed w.entry b → n ≡ b →
    ((place_of w.slot).sector < length m₁.sectors → (c : Layout) → Performed c m₁ m' (entering w.slot e ∷ [])) →
    AcceptedBy (card_layout q) Plain (rename_plan (card_places q m.sectors) q old new) tt m m' q
rename_all {m = m} {m₁ = m₁} {m' = m'} q {n = n} {w = w} x i z r =
    subst (λ (p : Plan). AcceptedBy (card_layout q) Plain p tt m m' q) (sym x.goes_on)
    (go_ends (card_layout q) Plain (entering w.slot (renamed w.entry n) ∷ []) done q m m₁ m' tt refl x.same x.was_read
    (performed_as (ap (λ (y : Entry). entering w.slot y ∷ []) (i ∙ ap (renamed w.entry) (sym z))) (r x.listed (card_layout q))))
