-- A slot emptied, and a job wiped: zeros over the block, and then the empty entry.
use Rattle.std.proofs.Common.{◌≡◌, ℕ, zero, suc, ◌<◌, ◌≤◌, eqb, List, [], ◌∷◌, ◌++◌, length, Ok, Err, Result, ap, refl, subst, arith}
use Rattle.std.proofs.lemmas.Bool.{eqb-true, and_parts}
use Rattle.device.specs.Faults.{Faults, Within}
use Rattle.device.specs.Meaning.{Meaning}
use Rattle.device.specs.declared.faults.Fault.{Fault}
use Rattle.layout.specs.Extents.{extent_of}
use Rattle.layout.specs.Names.{lawful_name}
use Rattle.layout.specs.Sizes.{layout_of, place_of}
use Rattle.layout.specs.declared.sizes.Layout.{Layout}
use Rattle.entries.specs.Entry.{hold_entry}
use Rattle.entries.specs.State.{lawful_fields}
use Rattle.entries.specs.declared.entry.Entry.{Entry}
use Rattle.refusals.specs.declared.Refusal.TheVariants.{Device}
use Rattle.places.specs.Places.{Place}
use Rattle.places.specs.SlotWrites.{SlotWrite}
use Rattle.plans.specs.Memory.{Memory, card_layout}
use Rattle.plans.specs.Plans.{Plan, never, for_entries, entering, filling, zero_chunk, no_entry, emptying, wipe_writes, entry_of, place_in, card_places}
use Rattle.plans.specs.Slots.{Job, live, decoded}
use Rattle.plans.proofs.Entries.{is_live_by}
use Rattle.volume.specs.Directory.{Room}
use Rattle.volume.specs.Outcomes.{AcceptedBy, RefusedBy, Plain}
use Rattle.volume.specs.Performing.{Performed, Cut, Runs}
use Rattle.volume.specs.declared.found.Found.{Found}
use Rattle.volume.proofs.Glue.{performed_performed, performed_cut, cut_more, looks_never, looks_later, looks_first, room, room_after, room_same}
use Rattle.volume.proofs.Filling.{performed_as, cut_of}
use Rattle.naming.specs.Named.{FoundJob}
use Rattle.changing.proofs.Marking.{writing, there, wrote, wrote_cut}

abbrev zeros_of : ℕ → ℕ → List SlotWrite
zeros_of k n = filling k 0 zero_chunk n

-- AN EMPTIED SLOT

pub zeros_cut : {t : Faults} (c : Layout) {m m₁ : Meaning} (k n : ℕ) {f : Fault} → Cut t c never m m₁ (zeros_of k n) f → Cut t c for_entries m m₁ (emptying k n) f
unfolding emptying
zeros_cut c k n x = cut_more (entering k no_entry ∷ []) (λ j _ z. looks_never for_entries (zeros_of k n) (zeros_of k n ++ (entering k no_entry ∷ [])) j j z) x

pub emptied_runs : {t u : Faults} (c : Layout) {m m₁ : Meaning} (m₂ : Meaning) (k n : ℕ) {e : Entry} (r : Result (Unit {0}) Fault) → e ≡ no_entry → Within u t → Room c m → k < c.slots → Performed c m m₁ (zeros_of k n) →
    ((place_of k).sector < length m₁.sectors → (d : Layout) → Runs u d for_entries m₁ m₂ (entering k e ∷ []) r) → Runs t c for_entries m m₂ (emptying k n) r
unfolding emptying
emptied_runs c {m₁ = m₁} m₂ k n (Ok v) i w h l p x =
    performed_performed p (subst (λ (e : Entry). Performed c m₁ m₂ (entering k e ∷ [])) i (x ((room_after h p).listed k l) c))
emptied_runs {u = u} c {m₁ = m₁} m₂ k n (Err f) i w h l p x =
    performed_cut w (looks_later (zeros_of k n) (entering k no_entry ∷ [])) p
    (subst (λ (e : Entry). Cut u c for_entries m₁ m₂ (entering k e ∷ []) f) i (x ((room_after h p).listed k l) c))

-- A WIPED JOB

-- the writes that follow the held mark
abbrev behind : ℕ → ℕ → List SlotWrite
behind k zero = []
behind k (suc n) = emptying k (suc n)

mark_first : (k n : ℕ) → (entering k (hold_entry n) ∷ []) ++ behind k n ≡ wipe_writes k n
mark_first k zero = refl
mark_first k (suc n) = refl

some_behind : (k n : ℕ) → 0 < n → (entering k (hold_entry n) ∷ []) ++ emptying k n ≡ wipe_writes k n
some_behind k zero h = absurd (omega arith)
some_behind k (suc n) h = refl

none_behind : (k n : ℕ) → n ≤ 0 → entering k (hold_entry n) ∷ [] ≡ wipe_writes k n
none_behind k zero h = refl
none_behind k (suc n) h = absurd (omega arith)

-- the held mark refused, and accepted where there is nothing to be zeroed
pub mark_cut : {t : Faults} (c : Layout) {m m₁ : Meaning} (k n : ℕ) {e : Entry} {f : Fault} → e ≡ hold_entry n → Cut t c for_entries m m₁ (entering k e ∷ []) f → Cut t c for_entries m m₁ (wipe_writes k n) f
mark_cut {t = t} c {m = m} {m₁ = m₁} k n {f = f} i x =
    cut_of (mark_first k n) (cut_more (behind k n) (λ j _. looks_first for_entries (entering k (hold_entry n) ∷ []) (behind k n) j)
    (subst (λ (e : Entry). Cut t c for_entries m m₁ (entering k e ∷ []) f) i x))

pub mark_all : (c : Layout) {m m₁ : Meaning} (k n : ℕ) {e : Entry} → e ≡ hold_entry n → n ≤ 0 → Performed c m m₁ (entering k e ∷ []) → Performed c m m₁ (wipe_writes k n)
mark_all c {m = m} {m₁ = m₁} k n i z x =
    performed_as (none_behind k n z) (subst (λ (e : Entry). Performed c m m₁ (entering k e ∷ [])) i x)

-- then the slot emptied, or cut off in it
pub wiped : (c : Layout) {m m₁ m₂ : Meaning} (k n : ℕ) {e : Entry} → e ≡ hold_entry n → 0 < n → Performed c m m₁ (entering k e ∷ []) → Performed c m₁ m₂ (emptying k n) → Performed c m m₂ (wipe_writes k n)
wiped c {m = m} {m₁ = m₁} k n i h x y =
    performed_as (some_behind k n h) (performed_performed (subst (λ (e : Entry). Performed c m m₁ (entering k e ∷ [])) i x) y)

pub wiped_cut : {t u : Faults} (c : Layout) {m m₁ m₂ : Meaning} (k n : ℕ) {e : Entry} {f : Fault} → Within u t → e ≡ hold_entry n → 0 < n → Performed c m m₁ (entering k e ∷ []) → Cut u c for_entries m₁ m₂ (emptying k n) f →
    Cut t c for_entries m m₂ (wipe_writes k n) f
wiped_cut c {m = m} {m₁ = m₁} k n w i h x y =
    cut_of (some_behind k n h)
    (performed_cut w (looks_later (entering k (hold_entry n) ∷ []) (emptying k n)) (subst (λ (e : Entry). Performed c m m₁ (entering k e ∷ [])) i x) y)

-- a live job has no more sectors than its block
pub live_few : (p : Place) (j : Job) {e : Entry} → e ≡ entry_of p → decoded p ≡ live j → e.size < 65536 → e.sectors ≤ 128
unfolding decoded lawful_fields
live_few p j {e = e} i d h =
    let y = entry_of p in
    let l = and_parts (lawful_name y.name) _ (is_live_by p.slot p.first y p.sectors j d).lawful in
    let n = and_parts (eqb y.slot p.slot) _ l.1 in
    let o = and_parts (eqb y.first p.first) _ n.1 in
    let s : y.sectors ≡ (extent_of y.size).0 = eqb-true y.sectors (extent_of y.size).0 o.1 in
    let a : e.sectors ≡ y.sectors = ap (λ (x : Entry). x.sectors) i in
    let b : e.size ≡ y.size = ap (λ (x : Entry). x.size) i in
    omega arith

-- WHAT A WIPE ENDS WITH

-- the plan of a wipe goes by the entry that was found
abbrev wiping : Memory → Meaning → ℕ → List SlotWrite
wiping q m k = wipe_writes k (entry_of (place_in (card_places q m.sectors) k)).sectors

abbrev pub wipe_from : Memory → Meaning → ℕ → Plan
wipe_from q m = writing (wiping q m) q

of_found : {P : (ℕ → Plan) → Plan} {m m₁ : Meaning} {q : Memory} {v : Found} → FoundJob P m m₁ q v → wipe_writes v.slot v.entry.sectors ≡ wiping q m v.slot
of_found {v = v} x = ap (λ (e : Entry). wipe_writes v.slot e.sectors) x.entry

pub wipe_accepted : {P : (ℕ → Plan) → Plan} {m m₁ m' : Meaning} {q : Memory} {v : Found} → FoundJob P m m₁ q v → Performed (card_layout q) m₁ m' (wipe_writes v.slot v.entry.sectors) →
    AcceptedBy (card_layout q) Plain (P (wipe_from q m)) tt m m' q
wipe_accepted {m = m} {q = q} x r = wrote (wiping q m) x (performed_as (of_found x) r)

pub wipe_refused : {t u : Faults} {P : (ℕ → Plan) → Plan} {m m₁ m' : Meaning} {q : Memory} {v : Found} {y : Fault} → FoundJob P m m₁ q v → Within u t → Cut u (card_layout q) for_entries m₁ m' (wipe_writes v.slot v.entry.sectors) y →
    RefusedBy t (card_layout q) (P (wipe_from q m)) (Device y) m m' q q
wipe_refused {m = m} {q = q} x w r = wrote_cut (wiping q m) x w (cut_of (of_found x) r)

-- the slot emptied is that of the job, behind its held mark
in_block : {P : (ℕ → Plan) → Plan} {m m₁ m₂ : Meaning} {q : Memory} {v : Found} (e : Entry) {l : Layout} (R : Layout → Type 0) → q.size ≤ length m.sectors → FoundJob P m m₁ q v → v.entry.size < 65536 → l ≡ layout_of q.size →
    Performed (card_layout q) m₁ m₂ (entering v.slot e ∷ []) → (v.slot < l.slots → Room l m₂ → v.entry.sectors ≤ 128 → R l) → R (card_layout q)
in_block {m = m} {m₂ = m₂} {q = q} {v = v} e R h x s i p r =
    subst (λ (c : Layout). v.slot < c.slots → Room c m₂ → v.entry.sectors ≤ 128 → R c) i r
    x.inside (room_after (room_same x.passed.same (room q.size m h)) p) (live_few (place_in (card_places q m.sectors) v.slot) _ x.entry x.lives s)

pub emptied_accepted : {P : (ℕ → Plan) → Plan} {m m₁ m₂ m' : Meaning} {q : Memory} {v : Found} {e : Entry} {l : Layout} → q.size ≤ length m.sectors → FoundJob P m m₁ q v → v.entry.size < 65536 → e ≡ hold_entry v.entry.sectors →
    0 < v.entry.sectors → l ≡ layout_of q.size → ((place_of v.slot).sector < length m₁.sectors → (c : Layout) → Performed c m₁ m₂ (entering v.slot e ∷ [])) →
    (v.slot < l.slots → Room l m₂ → v.entry.sectors ≤ 128 → Performed l m₂ m' (emptying v.slot v.entry.sectors)) → AcceptedBy (card_layout q) Plain (P (wipe_from q m)) tt m m' q
emptied_accepted {m₂ = m₂} {m' = m'} {q = q} {v = v} h x s i z k a r =
    let p = a (there x h) (card_layout q) in
    wipe_accepted x (wiped (card_layout q) v.slot v.entry.sectors i z p (in_block _ (λ (c : Layout). Performed c m₂ m' (emptying v.slot v.entry.sectors)) h x s k p r))

pub emptied_refused : {t u w : Faults} {P : (ℕ → Plan) → Plan} {m m₁ m₂ m' : Meaning} {q : Memory} {v : Found} {e : Entry} {l : Layout} {y : Fault} → q.size ≤ length m.sectors → FoundJob P m m₁ q v → v.entry.size < 65536 →
    e ≡ hold_entry v.entry.sectors → 0 < v.entry.sectors → l ≡ layout_of q.size → Within u t → Within w u →
    ((place_of v.slot).sector < length m₁.sectors → (c : Layout) → Performed c m₁ m₂ (entering v.slot e ∷ [])) →
    (v.slot < l.slots → Room l m₂ → v.entry.sectors ≤ 128 → Cut w l for_entries m₂ m' (emptying v.slot v.entry.sectors) y) → RefusedBy t (card_layout q) (P (wipe_from q m)) (Device y) m m' q q
emptied_refused {w = w} {m₂ = m₂} {m' = m'} {q = q} {v = v} {y = y} h x s i z k f g a r =
    let p = a (there x h) (card_layout q) in
    wipe_refused x f (wiped_cut (card_layout q) v.slot v.entry.sectors g i z p (in_block _ (λ (c : Layout). Cut w c for_entries m₂ m' (emptying v.slot v.entry.sectors) y) h x s k p r))
