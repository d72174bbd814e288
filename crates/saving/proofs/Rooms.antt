-- A slot looked for and taken.
use Rattle.std.proofs.Common.{◌≡◌, ℕ, ◌<◌, ◌≤◌, List, [], ◌∷◌, ◌++◌, length, Err, Result, sym, refl, ap, ◌∙◌, subst}
use Rattle.device.specs.Faults.{Faults, Within}
use Rattle.device.specs.Meaning.{Meaning, Sectors}
use Rattle.device.specs.declared.faults.Fault.{Fault}
use Rattle.layout.specs.Extents.{extent_of}
use Rattle.layout.specs.Sizes.{layout_of}
use Rattle.layout.specs.declared.sizes.Layout.{Layout}
use Rattle.refusals.specs.declared.Refusal.TheVariants.{NoSlot, Device}
use Rattle.entries.specs.State.{state_of}
use Rattle.entries.specs.declared.entry.Entry.{Entry}
use Rattle.entries.specs.declared.state.EntryState.{EntryState}
use Rattle.entries.specs.declared.state.EntryState.TheVariants.{Empty, Held, Erased, Live, Damaged}
use Rattle.places.specs.Places.{places}
use Rattle.places.specs.SlotWrites.{SlotWrite}
use Rattle.plans.specs.Memory.{Memory, card_layout}
use Rattle.plans.specs.Plans.{never, for_entries, found, clearing, filling, chunk, entering, no_entry, card_places, place_in, entry_of}
use Rattle.plans.specs.Slots.{Job, decoded, slots_in, named, usable, lowest, as_slot, job_in}
use Rattle.volume.specs.Directory.{Room, ReadRefused}
use Rattle.volume.specs.Performing.{Performed, Cut, Runs}
use Rattle.volume.proofs.Glue.{room, decoded_as, performed_cut, performed_runs, cut_more, looks_first, looks_later, looks_never}
use Rattle.naming.proofs.Endings.{vacant_reads, found_reads, read_ends}
use Rattle.saving.specs.Vacancies.{room_plan, FindsRoom, job_writes}

-- AN ERASED JOB'S ENTRY

pub cleared : (c : Layout) (s : Sectors) (k : ℕ) {e : Entry} {x : EntryState} → k < c.slots → e ≡ entry_of (place_in (places c s) k) → x ≡ state_of c k e → x ≡ Erased →
    clearing k (decoded (place_in (places c s) k)) ≡ entering k no_entry ∷ []
cleared c s k {e = e} l f g h =
    ap (clearing k) (decoded_as c s k l f g ∙ ap (λ (z : EntryState). as_slot z (job_in e (place_in (places c s) k).sectors)) h)

pub not_cleared : (c : Layout) (s : Sectors) (k : ℕ) {e : Entry} (x : EntryState) → k < c.slots → e ≡ entry_of (place_in (places c s) k) → x ≡ state_of c k e → (x ≡ Erased → ⊥) →
    clearing k (decoded (place_in (places c s) k)) ≡ []
not_cleared c s k {e = e} x l f g h = ap (clearing k) (decoded_as c s k l f g) ∙ by x (job_in e (place_in (places c s) k).sectors) h
  where
    by : (x : EntryState) (j : Job) → (x ≡ Erased → ⊥) → clearing k (as_slot x j) ≡ []
    by Empty j h = refl
    by (Held n) j h = refl
    by Erased j h = absurd (h refl)
    by Live j h = refl
    by Damaged j h = refl

-- A SLOT TAKEN

pub taken_cut_first : {t : Faults} {c : Layout} {m m₁ : Meaning} (ws : List SlotWrite) (k : ℕ) (e : Entry) (b : List ℕ) {y : Fault} → Cut t c for_entries m m₁ ws y → Cut t c for_entries m m₁ (ws ++ job_writes k e b) y
taken_cut_first ws k e b p = cut_more (job_writes k e b) (λ j l z. looks_first for_entries ws (job_writes k e b) j z) p

pub taken_cut_data : {t u : Faults} {c : Layout} {m m₁ m₂ : Meaning} (ws : List SlotWrite) (k : ℕ) (e : Entry) (b : List ℕ) {y : Fault} → Within u t → Performed c m m₁ ws →
    Cut u c never m₁ m₂ (filling k 0 (chunk b) (extent_of (length b)).0) y → Cut t c for_entries m m₂ (ws ++ job_writes k e b) y
taken_cut_data ws k e b w p q =
    performed_cut w (λ j z. looks_later ws (job_writes k e b) j z) p
    (cut_more {rs' = for_entries} (entering k e ∷ []) (λ j l z. looks_never for_entries [] (job_writes k e b) j j z) q)

pub taken : {A : Type 0} {t u : Faults} {c : Layout} {m m₁ m₂ : Meaning} (m₃ : Meaning) (ws : List SlotWrite) (k : ℕ) (e : Entry) (b : List ℕ) (r : Result A Fault) → Within u t → Performed c m m₁ ws →
    Performed c m₁ m₂ (filling k 0 (chunk b) (extent_of (length b)).0) → Runs u c for_entries m₂ m₃ (entering k e ∷ []) r → Runs t c for_entries m m₃ (ws ++ job_writes k e b) r
taken m₃ ws k e b r w p q x =
    performed_runs for_entries for_entries m₃ (job_writes k e b) r w (λ j z. looks_later ws (job_writes k e b) j z) p
    (performed_runs for_entries for_entries m₃ (entering k e ∷ []) r (λ a n f z. z) (λ j z. looks_later (filling k 0 (chunk b) (extent_of (length b)).0) (entering k e ∷ []) j z) q x)

-- A SLOT LOOKED FOR

pub room_unread : (t : Faults) (m m' : Meaning) (q : Memory) (n : List ℕ) {l : Layout} (f : Fault) → l ≡ layout_of q.size → q.size ≤ length m.sectors → (Room l m → (k : ℕ) × ReadRefused t m m' k f) →
    FindsRoom t m m' q n (Err (Device f))
room_unread t m m' q n f a h r = λ g w.
    let z = r (subst (λ (c : Layout). Room c m) (sym a) (room q.size m h)) in
    let ps = card_places q m.sectors in
    read_ends t (card_layout q) (room_plan ps n g) m m' q z.0 f
    (vacant_reads (lowest (named n) (slots_in ps)) (found (lowest usable (slots_in ps)) NoSlot g) (found_reads (lowest usable (slots_in ps)) NoSlot g w)) z.1
