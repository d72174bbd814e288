-- Two jobs found by their names and compared, as the end of same.
use Rattle.std.proofs.Common.{◌≡◌, ℕ, ◌<◌, ◌≤◌, ◌≢◌, Bool, false, List, [], length, take, Ok, Err, Result, ok_or, sym, refl, ap, ◌∙◌, ap₂, subst}
use Rattle.std.specs.Str.{bytes_eq}
use Rattle.device.specs.Faults.{Faults}
use Rattle.device.specs.Meaning.{Meaning, Lawful}
use Rattle.device.specs.declared.faults.Fault.{Fault}
use Rattle.layout.specs.Sizes.{layout_of}
use Rattle.layout.specs.declared.sizes.Layout.{Layout}
use Rattle.refusals.specs.declared.Refusal.{Refusal}
use Rattle.refusals.specs.declared.Refusal.TheVariants.{NoJob}
use Rattle.places.specs.Places.{Place}
use Rattle.plans.specs.Calls.{equal}
use Rattle.plans.specs.Memory.{Memory, card_layout}
use Rattle.plans.specs.Plans.{Plan, decline, go, at_first, same_plan, place_in, card_places}
use Rattle.plans.specs.Slots.{Slot, named, lowest, slots_in, job_of, decoded}
use Rattle.volume.specs.Directory.{Room, Scanned, ReadRefused}
use Rattle.volume.specs.Outcomes.{RefusedBy}
use Rattle.volume.specs.declared.found.Found.{Found}
use Rattle.volume.specs.declared.found.Scan.{Scan}
use Rattle.naming.specs.Named.{FoundJob, Finds, padded_name, padded_plan}
use Rattle.naming.proofs.Endings.{found_reads}
use Rattle.naming.proofs.Naming.{search_found, padded_lawful, padded_unlawful}
use Rattle.reading.specs.Blocks.{block_bytes}
use Rattle.reading.proofs.JobReads.{job_at, bytes_at, length-job, from_card}
use Rattle.reading.proofs.Pairs.{differ_long}

-- THE PLAN

-- where it goes on, in the slots of both jobs, and before the second is looked for
abbrev pub equals : List Place → Memory → ℕ → ℕ → Plan
equals ps q i k = go at_first [] (equal (bytes_eq (job_of (decoded (place_in ps i))).bytes (job_of (decoded (place_in ps k))).bytes)) q

abbrev pub then_second : List Place → Memory → (other : List ℕ) → ℕ → Plan
then_second ps q y i = padded_plan ps y (equals ps q i)

first_declined : (ps : List Place) (q : Memory) (one other : List ℕ) {x : Refusal} → padded_name one ≡ Err x → same_plan ps q one other ≡ decline x
unfolding same_plan
first_declined ps q one other e =
    let l = padded_unlawful one e in
    rw (l.0, l.1) refl

second_declined : (ps : List Place) (q : Memory) (one other : List ℕ) {y : List ℕ} {x : Refusal} → padded_name one ≡ Ok y → padded_name other ≡ Err x → same_plan ps q one other ≡ decline x
unfolding same_plan
second_declined ps q one other e f =
    let l = padded_lawful one e in
    let r = padded_unlawful other f in
    rw (l.0, r.0, r.1) refl

same_rest : (ps : List Place) (q : Memory) (one other : List ℕ) {y z : List ℕ} → padded_name one ≡ Ok y → padded_name other ≡ Ok z → same_plan ps q one other ≡ padded_plan ps y (then_second ps q z)
unfolding same_plan
same_rest ps q one other e f =
    let l = padded_lawful one e in
    let r = padded_lawful other f in
    rw (l.0, r.0, l.1, r.1) refl

-- with both jobs there
pub same_planned : {m m₁ : Meaning} {q : Memory} {v w : Found} (one other : List ℕ) {y z : List ℕ} → padded_name one ≡ Ok y → padded_name other ≡ Ok z →
    FoundJob (padded_plan (card_places q m.sectors) y) m m₁ q v → FoundJob (padded_plan (card_places q m.sectors) z) m m₁ q w →
    same_plan (card_places q m.sectors) q one other ≡ go at_first [] (equal (bytes_eq (job_at q m v).bytes (job_at q m w).bytes)) q
same_planned {m = m} {q = q} {v = v} one other {z = z} e f x u =
    let ps = card_places q m.sectors in
    same_rest ps q one other e f
    ∙ x.goes_on (then_second ps q z)
    ∙ u.goes_on (equals ps q v.slot)
    ∙ ap₂ (λ (s r : Slot). go at_first [] (equal (bytes_eq (job_of s).bytes (job_of r).bytes)) q) x.lives u.lives

-- ITS ENDS BEFORE THAT

declined_ends : (t : Faults) (c : Layout) {p : Plan} {x : Refusal} (m : Meaning) (q : Memory) → p ≡ decline x → RefusedBy t c p x m m q q
declined_ends t c {x = x} m q e =
    subst (λ (p : Plan). RefusedBy t c p x m m q q) (sym e) (refl, record { device = refl; memory = refl })

pub first_unlawful : (t : Faults) (m : Meaning) (q : Memory) (one other : List ℕ) {x : Refusal} → padded_name one ≡ Err x → RefusedBy t (card_layout q) (same_plan (card_places q m.sectors) q one other) x m m q q
first_unlawful t m q one other e = declined_ends t (card_layout q) m q (first_declined (card_places q m.sectors) q one other e)

pub second_unlawful : (t : Faults) (m : Meaning) (q : Memory) (one other : List ℕ) {y : List ℕ} {x : Refusal} → padded_name one ≡ Ok y → padded_name other ≡ Err x →
    RefusedBy t (card_layout q) (same_plan (card_places q m.sectors) q one other) x m m q q
second_unlawful t m q one other e f = declined_ends t (card_layout q) m q (second_declined (card_places q m.sectors) q one other e f)

-- the pass over the directory finds both
pub first_found : (t : Faults) (m m' : Meaning) (q : Memory) (y z : List ℕ) {l : Layout} {v : Scan} {r : Result Found Refusal} → l ≡ layout_of q.size → r ≡ ok_or v.one NoJob → q.size ≤ length m.sectors →
    (Room l m → Scanned l m m' y z v) → Finds (padded_plan (card_places q m.sectors) y) t m m' q r
first_found t m m' q y z a e h s =
    search_found t m m' q y a e h (λ o. let x = s o in record { passed = x.passed; value = x.one })

pub second_found : (t : Faults) (m m' : Meaning) (q : Memory) (y z : List ℕ) {l : Layout} {v : Scan} {r : Result Found Refusal} → l ≡ layout_of q.size → r ≡ ok_or v.other NoJob → q.size ≤ length m.sectors →
    (Room l m → Scanned l m m' y z v) → Finds (padded_plan (card_places q m.sectors) z) t m m' q r
second_found t m m' q y z a e h s =
    search_found t m m' q z a e h (λ o. let x = s o in record { passed = x.passed; value = x.other })

-- or not
pub first_ends : (t : Faults) (m m' : Meaning) (q : Memory) (one other : List ℕ) {y z : List ℕ} (x : Refusal) → padded_name one ≡ Ok y → padded_name other ≡ Ok z →
    Finds (padded_plan (card_places q m.sectors) y) t m m' q (Err x) → RefusedBy t (card_layout q) (same_plan (card_places q m.sectors) q one other) x m m' q q
first_ends t m m' q one other {z = z} x e f r =
    let ps = card_places q m.sectors in
    subst (λ (p : Plan). RefusedBy t (card_layout q) p x m m' q q) (sym (same_rest ps q one other e f))
    (r (then_second ps q z) (λ i. found_reads (lowest (named z) (slots_in ps)) NoJob (equals ps q i) (λ k. tt)))

pub second_ends : (t : Faults) {m m' : Meaning} {q : Memory} {v : Found} (one other : List ℕ) {y z : List ℕ} (x : Refusal) → padded_name one ≡ Ok y → padded_name other ≡ Ok z →
    FoundJob (padded_plan (card_places q m.sectors) y) m m' q v → Finds (padded_plan (card_places q m.sectors) z) t m m' q (Err x) →
    RefusedBy t (card_layout q) (same_plan (card_places q m.sectors) q one other) x m m' q q
second_ends t {m = m} {m' = m'} {q = q} {v = v} one other {z = z} x e f u r =
    let ps = card_places q m.sectors in
    subst (λ (p : Plan). RefusedBy t (card_layout q) p x m m' q q) (sym (same_rest ps q one other e f ∙ u.goes_on (then_second ps q z)))
    (r (equals ps q v.slot) (λ k. tt))

-- THE BYTES

-- jobs of different lengths
pub lengths_differ : {P P' : (ℕ → Plan) → Plan} {m m₁ : Meaning} {q : Memory} {v w : Found} → q.size ≤ length m.sectors → Lawful m → FoundJob P m m₁ q v → FoundJob P' m m₁ q w → v.entry.size ≤ 65535 →
    w.entry.size ≤ 65535 → v.entry.size ≢ w.entry.size → bytes_eq (job_at q m v).bytes (job_at q m w).bytes ≡ false
lengths_differ {m = m} {q = q} {v = v} {w = w} h u x y k l n =
    differ_long (job_at q m v).bytes (job_at q m w).bytes (λ e. n (sym (length-job h u x k) ∙ e ∙ length-job h u y l))

-- what was read of both, told of the card as they were found
pub from_cards : {P P' : (ℕ → Plan) → Plan} {m m₁ : Meaning} {q : Memory} {v w : Found} {c : Layout} (R : Layout → Meaning → Type 0) → c ≡ card_layout q → q.size ≤ length m.sectors → Lawful m →
    FoundJob P m m₁ q v → FoundJob P' m m₁ q w → (v.slot < c.slots → w.slot < c.slots → Room c m₁ → Lawful m₁ → R c m₁) → R (card_layout q) m
from_cards {w = w} R e h u x y f =
    from_card {l = 0} (λ (_ : ℕ) (a : Layout) (z : Meaning). w.slot < a.slots → R a z) refl e h u x (λ i o k j. f i j o k) y.inside

pub blocks_same : {P P' : (ℕ → Plan) → Plan} {m m₁ m' : Meaning} {q : Memory} {v w : Found} {c : Layout} {b : Bool} → c ≡ card_layout q → q.size ≤ length m.sectors → Lawful m → FoundJob P m m₁ q v →
    FoundJob P' m m₁ q w → v.entry.size ≡ w.entry.size →
    (v.slot < c.slots → w.slot < c.slots → Room c m₁ → Lawful m₁ → (m' ≡ m₁) × (b ≡ bytes_eq (take v.entry.size (block_bytes c m₁.sectors v.slot)) (take v.entry.size (block_bytes c m₁.sectors w.slot)))) →
    (m' ≡ m₁) × (b ≡ bytes_eq (job_at q m v).bytes (job_at q m w).bytes)
blocks_same {m = m} {m₁ = m₁} {m' = m'} {q = q} {v = v} {w = w} {b = b} e h u x y s f =
    let r = from_cards (λ (a : Layout) (z : Meaning). (m' ≡ m₁) × (b ≡ bytes_eq (take v.entry.size (block_bytes a z.sectors v.slot)) (take v.entry.size (block_bytes a z.sectors w.slot)))) e h u x y f in
    let k = bytes_at q m w ∙ ap (λ (n : ℕ). take n (block_bytes (card_layout q) m.sectors w.slot)) (sym s) in
    (r.0, r.1 ∙ sym (ap₂ bytes_eq (bytes_at q m v) k))

pub blocks_refused : {u : Faults} {P P' : (ℕ → Plan) → Plan} {m m₁ m' : Meaning} {q : Memory} {v w : Found} {c : Layout} {g : Fault} → c ≡ card_layout q → q.size ≤ length m.sectors → Lawful m →
    FoundJob P m m₁ q v → FoundJob P' m m₁ q w → (v.slot < c.slots → w.slot < c.slots → Room c m₁ → Lawful m₁ → (n : ℕ) × ReadRefused u m₁ m' n g) → (n : ℕ) × ReadRefused u m₁ m' n g
blocks_refused {u = u} {m₁ = m₁} {m' = m'} {g = g} e h k x y f = from_cards (λ (_ : Layout) (_ : Meaning). (n : ℕ) × ReadRefused u m₁ m' n g) e h k x y f
