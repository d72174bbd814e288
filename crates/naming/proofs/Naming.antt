-- A job looked for by its name, as the beginning of a call.
use Rattle.std.proofs.Common.{◌≡◌, ℕ, ◌<◌, ◌≤◌, Bool, true, false, cond, List, length, get_or, Some, None, Ok, Err, Option, Result, ok_or, sym, refl, ap, ◌∙◌, subst, inl, arith}
use Rattle.std.proofs.lemmas.List.{get_or-map, length-map}
use Rattle.device.specs.Faults.{Faults}
use Rattle.device.specs.Meaning.{Meaning, Sectors}
use Rattle.device.specs.declared.faults.Fault.{Fault}
use Rattle.layout.specs.Names.{lawful_name, padded}
use Rattle.layout.specs.Sizes.{layout_of}
use Rattle.layout.specs.declared.sizes.Layout.{Layout}
use Rattle.refusals.specs.declared.Refusal.{Refusal}
use Rattle.refusals.specs.declared.Refusal.TheVariants.{Name, NoJob, Device}
use Rattle.entries.specs.State.{state_of}
use Rattle.entries.specs.declared.state.EntryState.{EntryState}
use Rattle.entries.specs.declared.state.EntryState.TheVariants.{Empty, Held, Erased, Live, Damaged}
use Rattle.places.specs.Places.{Place, places, no_place}
use Rattle.places.proofs.Frames.{length-places}
use Rattle.plans.specs.Memory.{OpenJob, Memory, card_layout}
use Rattle.plans.specs.Plans.{Plan, found, card_places, place_in, entry_of}
use Rattle.plans.specs.Slots.{Job, empty, live, decoded, slots_in, named, lowest, as_slot, job_in}
use Rattle.plans.proofs.Lowest.{lowest_some, named_live}
use Rattle.volume.specs.Directory.{Room, ReadRefused, Passed, Sought, found_in}
use Rattle.volume.specs.Outcomes.{RefusedBy}
use Rattle.volume.specs.declared.found.Found.{Found}
use Rattle.volume.proofs.Glue.{room, decoded_at}
use Rattle.naming.specs.Named.{open_named, padded_name, padded_plan, named_plan, shut_plan, Finds}
use Rattle.naming.proofs.Endings.{found_reads, read_ends, named_shut_not}

as_live : (x : EntryState) (y j : Job) → as_slot x y ≡ live j → as_slot x y ≡ live y
as_live Empty y j e = cc
as_live (Held n) y j e = cc
as_live Erased y j e = cc
as_live Live y j e = refl
as_live Damaged y j e = cc

-- a slot that is found under a name is live, with the job of its entry
pub named_lives : (c : Layout) (s : Sectors) (n : List ℕ) (k : ℕ) → lowest (named n) (slots_in (places c s)) ≡ Some k →
    (k < c.slots) × (decoded (place_in (places c s) k) ≡ live (job_in (entry_of (place_in (places c s) k)) (place_in (places c s) k).sectors))
named_lives c s n k e =
    let ps = places c s in
    let w = lowest_some (named n) (slots_in ps) empty k e in
    let i : k < length ps = omega (arith, w.inside, length-map ps decoded) in
    let l : k < c.slots = omega (arith, i, length-places c s) in
    let d = decoded_at c s k l in
    let j = named_live n (get_or (slots_in ps) k empty) w.passes in (
      l,
      d ∙ as_live (state_of c k (entry_of (place_in ps k))) (job_in (entry_of (place_in ps k)) (place_in ps k).sectors) j.0
          (sym d ∙ sym (get_or-map decoded ps k no_place empty i) ∙ j.1),
    )

-- a search that the device answered
found_by : (t : Faults) (m m' : Meaning) (q : Memory) (n : List ℕ) (o : Option Found) (x : Option ℕ) → Passed (card_layout q) m m' → lowest (named n) (slots_in (card_places q m.sectors)) ≡ x →
    o ≡ found_in (card_places q m.sectors) x → Finds (padded_plan (card_places q m.sectors) n) t m m' q (ok_or o NoJob)
found_by t m m' q n o None p e f =
    rw f λ g _. rw e (inl (record { with_it = refl; was_read = p.was_read; device = p.same; memory = refl }))
found_by t m m' q n o (Some k) p e f =
    let l = named_lives (card_layout q) m.sectors n k e in
    rw f (record { passed = p; inside = l.0; entry = refl; lives = l.1; goes_on = λ g. ap (λ (y : Option ℕ). found y NoJob g) e })

pub search_found : (t : Faults) (m m' : Meaning) (q : Memory) (n : List ℕ) {l : Layout} {o : Option Found} {r : Result Found Refusal} → l ≡ layout_of q.size → r ≡ ok_or o NoJob → q.size ≤ length m.sectors →
    (Room l m → Sought l m m' n o) → Finds (padded_plan (card_places q m.sectors) n) t m m' q r
search_found t m m' q n {o = o} a v h w =
    let x = subst (λ (c : Layout). Room c m → Sought c m m' n o) a w (room q.size m h) in
    subst (Finds (padded_plan (card_places q m.sectors) n) t m m' q) (sym v)
    (found_by t m m' q n o (lowest (named n) (slots_in (card_places q m.sectors))) x.passed refl x.value)

-- a search that the device refused
pub search_unread : (t : Faults) (m m' : Meaning) (q : Memory) (n : List ℕ) {l : Layout} (f : Fault) → l ≡ layout_of q.size → q.size ≤ length m.sectors → (Room l m → (k : ℕ) × ReadRefused t m m' k f) →
    Finds (padded_plan (card_places q m.sectors) n) t m m' q (Err (Device f))
search_unread t m m' q n f a h r = λ g w.
    let z = r (subst (λ (c : Layout). Room c m) (sym a) (room q.size m h)) in
    read_ends t (card_layout q) (padded_plan (card_places q m.sectors) n g) m m' q z.0 f (found_reads (lowest (named n) (slots_in (card_places q m.sectors))) NoJob g w) z.1

-- the same search of a longer plan
pub finds_as : (P P' : (ℕ → Plan) → Plan) (t : Faults) (m m' : Meaning) (q : Memory) (r : Result Found Refusal) → ((g : ℕ → Plan) → P' g ≡ P g) → Finds P t m m' q r → Finds P' t m m' q r
finds_as P P' t m m' q (Ok v) e f =
    record { passed = f.passed; inside = f.inside; entry = f.entry; lives = f.lives; goes_on = λ g. e g ∙ f.goes_on g }
finds_as P P' t m m' q (Err r) e f = λ g w.
    subst (λ (p : Plan). RefusedBy t (card_layout q) p r m m' q q) (sym (e g)) (f g w)

-- once the name is lawful, and once it is not that of the open job
pub padded_ok : (n : List ℕ) {y : List ℕ} (b : Bool) → lawful_name n ≡ b → cond {A = Result (List ℕ) Refusal} b (Ok (padded n)) (Err Name) ≡ Ok y → (lawful_name n ≡ true) × (y ≡ padded n)
padded_ok n true e f = (e, cc)
padded_ok n false e f = cc

pub padded_lawful : (n : List ℕ) {y : List ℕ} → padded_name n ≡ Ok y → (lawful_name n ≡ true) × (y ≡ padded n)
padded_lawful n e = padded_ok n (lawful_name n) refl e

pub padded_unlawful : (n : List ℕ) {x : Refusal} → padded_name n ≡ Err x → (lawful_name n ≡ false) × (x ≡ Name)
padded_unlawful n {x = x} e = at (lawful_name n) refl e
  where
    at : (b : Bool) → lawful_name n ≡ b → cond {A = Result (List ℕ) Refusal} b (Ok (padded n)) (Err Name) ≡ Err x → (lawful_name n ≡ false) × (x ≡ Name)
    at true f z = cc
    at false f z = (f, cc)

pub named_rest : (ps : List Place) (n : List ℕ) {y : List ℕ} → padded_name n ≡ Ok y → (g : ℕ → Plan) → named_plan ps n g ≡ padded_plan ps y g
named_rest ps n e g =
    let l = padded_ok n (lawful_name n) refl e in
    rw (l.0, l.1) refl

pub shut_rest : (ps : List Place) (o : Option OpenJob) (n : List ℕ) {y : List ℕ} → padded_name n ≡ Ok y → open_named o y ≡ false → (g : ℕ → Plan) → shut_plan ps o n g ≡ padded_plan ps y g
shut_rest ps o n {y = y} e z g =
    let l = padded_ok n (lawful_name n) refl e in
    let i : padded n ≡ y = sym l.1 in
    rw (l.0, i) (named_shut_not o y (padded_plan ps y g) z)
