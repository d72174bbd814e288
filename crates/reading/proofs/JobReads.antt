-- A job's bytes read once the job is found, as the end of load and read.
use Rattle.std.proofs.Common.{◌≡◌, ℕ, ◌+◌, ◌-◌, ◌<◌, ◌≤◌, min, Bool, true, false, cond, List, [], length, take, drop, ◌++◌, sym, refl, ap, ◌∙◌, subst, inl, arith}
use Rattle.std.proofs.lemmas.List.{length-take-le}
use Rattle.device.specs.Faults.{Faults, Within}
use Rattle.device.specs.Meaning.{Meaning, Lawful}
use Rattle.device.specs.declared.faults.Fault.{Fault}
use Rattle.layout.specs.Bytes.{part}
use Rattle.layout.specs.declared.sizes.Layout.{Layout}
use Rattle.refusals.specs.declared.Refusal.TheVariants.{OutOfBounds, Device}
use Rattle.places.specs.Places.{Place}
use Rattle.plans.specs.Calls.{Answer}
use Rattle.plans.specs.Memory.{Memory, card_layout}
use Rattle.plans.specs.Plans.{Plan, refuse, go, at_first, place_in, card_places}
use Rattle.plans.specs.Slots.{Job, Slot, job_in, job_of, decoded}
use Rattle.volume.specs.Directory.{Room, ReadRefused, Passed}
use Rattle.volume.specs.Outcomes.{AcceptedBy, RefusedBy}
use Rattle.volume.specs.Performing.{Performed}
use Rattle.volume.specs.declared.found.Found.{Found}
use Rattle.volume.proofs.Glue.{room, read_cut, performed_none}
use Rattle.naming.specs.Named.{FoundJob, ReadsFirst}
use Rattle.naming.proofs.Endings.{cond_reads, go_ends, go_cut}
use Rattle.reading.specs.Blocks.{block_bytes, BytesRead, BytesCut}
use Rattle.reading.specs.Buffers.{over, asked, bytes_in_answer, PartRead}
use Rattle.reading.proofs.BlockReads.{length-block, length-part}
use Rattle.reading.proofs.Parts.{front_read, front_part, part_counted}

-- THE PLAN

-- where the plans of load and read go on, in the job's slot
abbrev pub reads_on : List Place → Memory → (Job → Bool) → (Job → Answer) → ℕ → Plan
reads_on ps q fits answer k =
    let j = job_of (decoded (place_in ps k)) in
    cond (fits j) (go at_first [] (answer j) q) (refuse OutOfBounds)

pub on_reads : (ps : List Place) (q : Memory) (fits : Job → Bool) (answer : Job → Answer) (k : ℕ) → ReadsFirst (reads_on ps q fits answer k)
on_reads ps q fits answer k =
    let j = job_of (decoded (place_in ps k)) in
    cond_reads (fits j) (go at_first [] (answer j) q) (refuse OutOfBounds) tt tt

-- the job that was found
abbrev pub job_at : Memory → Meaning → Found → Job
job_at q m v = job_in v.entry (place_in (card_places q m.sectors) v.slot).sectors

pub bytes_at : (q : Memory) (m : Meaning) (v : Found) → (job_at q m v).bytes ≡ take v.entry.size (block_bytes (card_layout q) m.sectors v.slot)
unfolding job_in
bytes_at q m v = refl

pub length-job : {P : (ℕ → Plan) → Plan} {m m₁ : Meaning} {q : Memory} {v : Found} → q.size ≤ length m.sectors → Lawful m → FoundJob P m m₁ q v → v.entry.size ≤ 65535 → length (job_at q m v).bytes ≡ v.entry.size
length-job {m = m} {q = q} {v = v} h w x l =
    ap length (bytes_at q m v)
    ∙ length-take-le v.entry.size (block_bytes (card_layout q) m.sectors v.slot) (omega (arith, length-block (card_layout q) m v.slot (room q.size m h) w x.inside))

-- what load tells of it, and all of its bytes
pub told_at : {P : (ℕ → Plan) → Plan} {m m₁ : Meaning} {q : Memory} {v : Found} → q.size ≤ length m.sectors → Lawful m → FoundJob P m m₁ q v → v.entry.size ≤ 65535 →
    (v.entry.size ≡ length (job_at q m v).bytes) × (v.entry.kind ≡ (job_at q m v).kind) × (v.entry.address ≡ (job_at q m v).address)
unfolding job_in
told_at h w x l = (sym (length-job h w x l), refl, refl)

pub all_bytes : (q : Memory) (m : Meaning) (v : Found) {n : ℕ} → n ≡ v.entry.size → (job_at q m v).bytes ≡ part (block_bytes (card_layout q) m.sectors v.slot) 0 n
all_bytes q m v e = bytes_at q m v ∙ ap (λ (k : ℕ). take k (block_bytes (card_layout q) m.sectors v.slot)) (sym e)

-- its bytes from a place on, as far as there is room
pub some_bytes : (q : Memory) (m : Meaning) (v : Found) (place room n : ℕ) → n ≡ min (v.entry.size - place) room → take room (drop place (job_at q m v).bytes) ≡ part (block_bytes (card_layout q) m.sectors v.slot) place n
some_bytes q m v place room n e =
    ap (λ (z : List ℕ). take room (drop place z)) (bytes_at q m v) ∙ part_counted (block_bytes (card_layout q) m.sectors v.slot) v.entry.size place room n e

pub planned : {P : (ℕ → Plan) → Plan} {m m₁ : Meaning} {q : Memory} {v : Found} (fits : Job → Bool) (answer : Job → Answer) (b : Bool) → FoundJob P m m₁ q v → fits (job_at q m v) ≡ b →
    P (reads_on (card_places q m.sectors) q fits answer) ≡ cond b (go at_first [] (answer (job_at q m v)) q) (refuse OutOfBounds)
planned {m = m} {q = q} {v = v} fits answer b x e =
    x.goes_on (reads_on (card_places q m.sectors) q fits answer)
    ∙ ap (λ (s : Slot). cond (fits (job_of s)) (go at_first [] (answer (job_of s)) q) (refuse OutOfBounds)) x.lives
    ∙ ap (λ (z : Bool). cond z (go at_first [] (answer (job_at q m v)) q) (refuse OutOfBounds)) e

pub asked_is : {P : (ℕ → Plan) → Plan} {m m₁ : Meaning} {q : Memory} {v : Found} (fits : Job → Bool) (answer : Job → Answer) → FoundJob P m m₁ q v → fits (job_at q m v) ≡ true →
    asked (P (reads_on (card_places q m.sectors) q fits answer)) ≡ bytes_in_answer (answer (job_at q m v))
asked_is fits answer x e = ap asked (planned fits answer true x e)

-- ITS ENDS

pub out_of_bounds : (t : Faults) {P : (ℕ → Plan) → Plan} {m m₁ : Meaning} {q : Memory} {v : Found} (fits : Job → Bool) (answer : Job → Answer) → FoundJob P m m₁ q v → fits (job_at q m v) ≡ false →
    RefusedBy t (card_layout q) (P (reads_on (card_places q m.sectors) q fits answer)) OutOfBounds m m₁ q q
out_of_bounds t {m = m} {m₁ = m₁} {q = q} fits answer x e =
    subst (λ (p : Plan). RefusedBy t (card_layout q) p OutOfBounds m m₁ q q) (sym (planned fits answer false x e))
    (inl (record { with_it = refl; was_read = x.passed.was_read; device = x.passed.same; memory = refl }))

-- a plan that goes on to answer a, once the directory was passed over
pub reads_off : {A : Type 0} {p : Plan} {a : Answer} {m m₁ m' : Meaning} {q : Memory} (V : A → Answer → Type 0) (y : A) → p ≡ go at_first [] a q → Passed (card_layout q) m m₁ → V y a → m' ≡ m₁ →
    AcceptedBy (card_layout q) V p y m m' q
reads_off {a = a} {m = m} {m₁ = m₁} {m' = m'} {q = q} V y e x v s =
    let c = card_layout q in
    subst (λ (p : Plan). AcceptedBy c V p y m m' q) (sym e)
    (go_ends c V [] a q m m₁ m' y v x.same x.was_read (subst (λ (z : Meaning). Performed c m₁ z []) (sym s) (performed_none c m₁)))

pub reads_broken : {t u : Faults} {p : Plan} {a : Answer} {m m₁ m' : Meaning} {q : Memory} {n : ℕ} {f : Fault} → p ≡ go at_first [] a q → Passed (card_layout q) m m₁ → Within u t → ReadRefused u m₁ m' n f →
    RefusedBy t (card_layout q) p (Device f) m m' q q
reads_broken {t = t} {u = u} {a = a} {m = m} {m₁ = m₁} {m' = m'} {q = q} {f = f} e x w r =
    let c = card_layout q in
    subst (λ (p : Plan). RefusedBy t c p (Device f) m m' q q) (sym e) (go_cut t u c at_first [] a q m m₁ m' q f x.same w (λ j l. l) (read_cut r))

pub read_off : {A : Type 0} {P : (ℕ → Plan) → Plan} {m m₁ m' : Meaning} {q : Memory} {v : Found} (V : A → Answer → Type 0) (y : A) (fits : Job → Bool) (answer : Job → Answer) → FoundJob P m m₁ q v →
    fits (job_at q m v) ≡ true → V y (answer (job_at q m v)) → m' ≡ m₁ → AcceptedBy (card_layout q) V (P (reads_on (card_places q m.sectors) q fits answer)) y m m' q
read_off V y fits answer x e a s = reads_off V y (planned fits answer true x e) x.passed a s

pub read_broken : {t u : Faults} {P : (ℕ → Plan) → Plan} {m m₁ m' : Meaning} {q : Memory} {v : Found} {n : ℕ} {f : Fault} (fits : Job → Bool) (answer : Job → Answer) → FoundJob P m m₁ q v →
    fits (job_at q m v) ≡ true → Within u t → ReadRefused u m₁ m' n f → RefusedBy t (card_layout q) (P (reads_on (card_places q m.sectors) q fits answer)) (Device f) m m' q q
read_broken fits answer x e w r = reads_broken (planned fits answer true x e) x.passed w r

-- what was read of n bytes, told of the card as it was found
pub from_card : {P : (ℕ → Plan) → Plan} {m m₁ : Meaning} {q : Memory} {v : Found} {c : Layout} {l n : ℕ} (R : ℕ → Layout → Meaning → Type 0) → l ≡ n → c ≡ card_layout q → q.size ≤ length m.sectors → Lawful m →
    FoundJob P m m₁ q v → (v.slot < c.slots → Room c m₁ → Lawful m₁ → R l c m₁) → R n (card_layout q) m
from_card {m = m} {m₁ = m₁} {q = q} {v = v} {l = l} R k e h w x f =
    let s = sym x.passed.same in
    let g = subst (λ (y : Layout). v.slot < y.slots → Room y m₁ → Lawful m₁ → R l y m₁) e f in
    let z = g x.inside (subst (Room (card_layout q)) s (room q.size m h)) (subst Lawful s w) in
    subst (λ (j : ℕ). R j (card_layout q) m) k (subst (R l (card_layout q)) x.passed.same z)

pub card_read : {P : (ℕ → Plan) → Plan} {m m₁ m' : Meaning} {q : Memory} {v : Found} {c : Layout} (place : ℕ) {l n : ℕ} {b' : List ℕ} → l ≡ n → c ≡ card_layout q → q.size ≤ length m.sectors → Lawful m →
    FoundJob P m m₁ q v → (v.slot < c.slots → Room c m₁ → Lawful m₁ → BytesRead m₁ m' (part (block_bytes c m₁.sectors v.slot) place l) b') →
    BytesRead m₁ m' (part (block_bytes (card_layout q) m.sectors v.slot) place n) b'
card_read {m₁ = m₁} {m' = m'} {v = v} place {b' = b'} k e h w x f =
    from_card (λ (j : ℕ) (y : Layout) (z : Meaning). BytesRead m₁ m' (part (block_bytes y z.sectors v.slot) place j) b') k e h w x f

pub card_cut : {u : Faults} {P : (ℕ → Plan) → Plan} {m m₁ m' : Meaning} {q : Memory} {v : Found} {c : Layout} (place : ℕ) {l n skip : ℕ} {b b' : List ℕ} {g : Fault} → l ≡ n → c ≡ card_layout q →
    q.size ≤ length m.sectors → Lawful m → FoundJob P m m₁ q v →
    (v.slot < c.slots → Room c m₁ → Lawful m₁ → BytesCut u m₁ m' g (PartRead (part (block_bytes c m₁.sectors v.slot) place l) skip b b')) →
    BytesCut u m₁ m' g (PartRead (part (block_bytes (card_layout q) m.sectors v.slot) place n) skip b b')
card_cut {u = u} {m₁ = m₁} {m' = m'} {v = v} place {skip = skip} {b = b} {b' = b'} {g = g} k e h w x f =
    from_card (λ (j : ℕ) (y : Layout) (z : Meaning). BytesCut u m₁ m' g (PartRead (part (block_bytes y z.sectors v.slot) place j) skip b b')) k e h w x f

-- what is left in the buffer, whose first n bytes were read into
pub filled_off : {P : (ℕ → Plan) → Plan} {m m₁ m' : Meaning} {q : Memory} {v : Found} {n : ℕ} (fits : Job → Bool) (answer : Job → Answer) (x b p : List ℕ) → FoundJob P m m₁ q v →
    fits (job_at q m v) ≡ true → bytes_in_answer (answer (job_at q m v)) ≡ x → length x ≡ n → BytesRead m₁ m' x p → p ++ drop n b ≡ over (asked (P (reads_on (card_places q m.sectors) q fits answer))) b
filled_off {n = n} fits answer x b p f e a l r = front_read x b p n l r.holds ∙ ap (λ (z : List ℕ). over z b) (sym (asked_is fits answer f e ∙ a))

pub filled_cut : {P : (ℕ → Plan) → Plan} {m m₁ : Meaning} {q : Memory} {v : Found} {n skip : ℕ} (fits : Job → Bool) (answer : Job → Answer) (x b p : List ℕ) → FoundJob P m m₁ q v →
    fits (job_at q m v) ≡ true → bytes_in_answer (answer (job_at q m v)) ≡ x → length x ≡ n → n ≤ length b → PartRead x skip (take n b) p →
    PartRead (asked (P (reads_on (card_places q m.sectors) q fits answer))) skip b (p ++ drop n b)
filled_cut {n = n} {skip = skip} fits answer x b p f e a l h r =
    subst (λ (z : List ℕ). PartRead z skip b (p ++ drop n b)) (sym (asked_is fits answer f e ∙ a)) (front_part x b p n skip l h r)

pub length-card : {P : (ℕ → Plan) → Plan} {m m₁ : Meaning} {q : Memory} {v : Found} (place n : ℕ) → q.size ≤ length m.sectors → Lawful m → FoundJob P m m₁ q v → place + n ≤ 65535 →
    length (part (block_bytes (card_layout q) m.sectors v.slot) place n) ≡ n
length-card {m = m} {q = q} {v = v} place n h w x l = length-part (card_layout q) m v.slot place n (room q.size m h) w x.inside l
