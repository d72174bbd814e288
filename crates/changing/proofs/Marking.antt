-- Writes made once a job is found, as the end of a call; and one of its entry, of a call that alters that alone.
use Rattle.std.proofs.Common.{◌≡◌, ℕ, ◌<◌, ◌≤◌, List, [], ◌∷◌, length, sym, refl, ap, ◌∙◌, subst, inr}
use Rattle.device.specs.Faults.{Faults, Within}
use Rattle.device.specs.Meaning.{Meaning}
use Rattle.device.specs.declared.faults.Fault.{Fault}
use Rattle.layout.specs.Sizes.{place_of}
use Rattle.layout.specs.declared.sizes.Layout.{Layout}
use Rattle.entries.specs.declared.entry.Entry.{Entry}
use Rattle.refusals.specs.declared.Refusal.TheVariants.{Device}
use Rattle.places.specs.SlotWrites.{SlotWrite}
use Rattle.plans.specs.Calls.{done}
use Rattle.plans.specs.Memory.{Memory, card_layout}
use Rattle.plans.specs.Plans.{Plan, go, for_entries, at_first, entering, entry_of, place_in, card_places}
use Rattle.volume.specs.Outcomes.{AcceptedBy, RefusedBy, Plain}
use Rattle.volume.specs.Performing.{Performed, Cut}
use Rattle.volume.specs.declared.found.Found.{Found}
use Rattle.volume.proofs.Filling.{performed_as, cut_of}
use Rattle.volume.proofs.Glue.{room}
use Rattle.naming.specs.Named.{FoundJob}
use Rattle.naming.proofs.Endings.{go_ends, go_cut}

-- the plan that goes on with the writes w k to slot k
abbrev pub writing : (ℕ → List SlotWrite) → Memory → ℕ → Plan
writing w q k = go at_first (w k) done q

-- the directory sector of the job that was found is on the device
pub there : {P : (ℕ → Plan) → Plan} {m m₁ : Meaning} {q : Memory} {v : Found} → FoundJob P m m₁ q v → q.size ≤ length m.sectors → (place_of v.slot).sector < length m₁.sectors
there {m = m} {q = q} {v = v} x h =
    subst (λ (y : Meaning). (place_of v.slot).sector < length y.sectors) (sym x.passed.same) ((room q.size m h).listed v.slot x.inside)

pub wrote : (w : ℕ → List SlotWrite) {P : (ℕ → Plan) → Plan} {m m₁ m' : Meaning} {q : Memory} {v : Found} → FoundJob P m m₁ q v → Performed (card_layout q) m₁ m' (w v.slot) →
    AcceptedBy (card_layout q) Plain (P (writing w q)) tt m m' q
wrote w {m = m} {m₁ = m₁} {m' = m'} {q = q} {v = v} x r =
    subst (λ (p : Plan). AcceptedBy (card_layout q) Plain p tt m m' q) (sym (x.goes_on (writing w q)))
    (go_ends (card_layout q) Plain (w v.slot) done q m m₁ m' tt refl x.passed.same x.passed.was_read r)

pub wrote_cut : {t u : Faults} (w : ℕ → List SlotWrite) {P : (ℕ → Plan) → Plan} {m m₁ m' : Meaning} {q : Memory} {v : Found} {y : Fault} → FoundJob P m m₁ q v → Within u t →
    Cut u (card_layout q) for_entries m₁ m' (w v.slot) y → RefusedBy t (card_layout q) (P (writing w q)) (Device y) m m' q q
wrote_cut {t = t} {u = u} w {m = m} {m₁ = m₁} {m' = m'} {q = q} {v = v} {y = y} x k r =
    subst (λ (p : Plan). RefusedBy t (card_layout q) p (Device y) m m' q q) (sym (x.goes_on (writing w q)))
    (go_cut t u (card_layout q) for_entries (w v.slot) done q m m₁ m' q y x.passed.same k (λ j l. inr l) r)

-- THE ENTRY ALONE

-- the write of slot k's entry, altered by f, and the plan of it
abbrev marks : (Entry → Entry) → Memory → Meaning → ℕ → List SlotWrite
marks f q m k = entering k (f (entry_of (place_in (card_places q m.sectors) k))) ∷ []

abbrev pub marking : (Entry → Entry) → Memory → Meaning → ℕ → Plan
marking f q m = writing (marks f q m) q

-- the code writes what the plan has
as_planned : (f : Entry → Entry) {P : (ℕ → Plan) → Plan} {m m₁ : Meaning} {q : Memory} {v : Found} {e : Entry} → FoundJob P m m₁ q v → e ≡ f v.entry → (entering v.slot e ∷ []) ≡ marks f q m v.slot
as_planned f {v = v} x y = ap (λ (z : Entry). entering v.slot z ∷ []) (y ∙ ap f x.entry)

pub marked : (f : Entry → Entry) {P : (ℕ → Plan) → Plan} {m m₁ m' : Meaning} {q : Memory} {v : Found} {e : Entry} → q.size ≤ length m.sectors → FoundJob P m m₁ q v → e ≡ f v.entry →
    ((place_of v.slot).sector < length m₁.sectors → (c : Layout) → Performed c m₁ m' (entering v.slot e ∷ [])) → AcceptedBy (card_layout q) Plain (P (marking f q m)) tt m m' q
marked f {m = m} {q = q} h x y r = wrote (marks f q m) x (performed_as (as_planned f x y) (r (there x h) (card_layout q)))

pub marked_cut : {t u : Faults} (f : Entry → Entry) {P : (ℕ → Plan) → Plan} {m m₁ m' : Meaning} {q : Memory} {v : Found} {e : Entry} {y : Fault} → q.size ≤ length m.sectors → FoundJob P m m₁ q v → e ≡ f v.entry →
    Within u t → ((place_of v.slot).sector < length m₁.sectors → (c : Layout) → Cut u c for_entries m₁ m' (entering v.slot e ∷ []) y) →
    RefusedBy t (card_layout q) (P (marking f q m)) (Device y) m m' q q
marked_cut f {m = m} {q = q} h x e w r = wrote_cut (marks f q m) x w (cut_of (as_planned f x e) (r (there x h) (card_layout q)))
