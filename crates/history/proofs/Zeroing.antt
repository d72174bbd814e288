-- An accepted wipe leaves zeros in the job's sectors.
use Rattle.std.proofs.Common.{◌≡◌, ℕ, zero, suc, ◌+◌, ◌<◌, ◌≤◌, true, List, [], ◌∷◌, ◌++◌, length, get_or, drop, set, Some, sym, ap, ◌∙◌, subst, arith}
use Rattle.std.proofs.lemmas.List.{get_or_append_left, get_or-set_same}
use Rattle.device.specs.Meaning.{Sectors, zeros}
use Rattle.layout.specs.Extents.{extent_of}
use Rattle.layout.specs.Names.{lawful_name, padded}
use Rattle.layout.specs.Sizes.{layout_of}
use Rattle.layout.specs.declared.sizes.Layout.{Layout}
use Rattle.refusals.specs.declared.Refusal.{Refusal}
use Rattle.refusals.specs.declared.Refusal.TheVariants.{Name, NoJob}
use Rattle.entries.specs.Entry.{entry_bytes, hold_entry}
use Rattle.places.specs.Places.{Place, places, no_place, acted, counted_up}
use Rattle.places.specs.SlotWrites.{SlotWrite, enter, all_written}
use Rattle.places.proofs.Frames.{layouts_sound, writes_refine_lem, Full}
use Rattle.places.proofs.Lists.{length-counted, get_or-counted}
use Rattle.plans.specs.Slots.{Job, Slot, empty, job_of}
use Rattle.plans.specs.Calls.{wipe, Answer}
use Rattle.plans.specs.Memory.{Memory}
use Rattle.plans.specs.Plans.{Plan, decline, refuse, go, Reads, plan, place_in, entry_of, slot_named, filling, emptying, zero_chunk, no_entry, entering, wipe_writes, wipe_plan}
use Rattle.plans.proofs.Blocks.{ran, ran_append, ran_filling, laid, with_sectors}
use Rattle.std.proofs.lemmas.Option.{same_Some}
use Rattle.history.specs.Model.{Model, slot_of}
use Rattle.history.specs.Agreement.{Knows, Holds}
use Rattle.history.specs.Preserved.{WipeZeroes}
use Rattle.history.proofs.Agreeing.{Named, named_hit}
use Rattle.history.proofs.Carried.{Carried, laid_out}
use Rattle.history.proofs.Writing.{moved_one}
use Rattle.history.proofs.Wiping.{to_slot_wipe, live_sectors, wipe_carried}
use Rattle.history.proofs.Preserving.{unless_keeps, named_shut_keeps, found_keeps, apart_from}

-- zeros below n, over any sectors
laid_zeros : (s : Sectors) (n i : ℕ) → i < n → get_or (laid s 0 zero_chunk n) i [] ≡ zeros 512
laid_zeros s n i h =
    let l : length (counted_up zero_chunk 0 n) ≡ n = length-counted zero_chunk 0 n in
    get_or_append_left (counted_up zero_chunk 0 n) (drop (0 + n) s) [] i (omega arith) ∙ get_or-counted zero_chunk 0 n i [] h

wiped_sectors : (p : Place) (k n : ℕ) → n ≤ length p.sectors → (i : ℕ) → i < n → get_or (ran p (wipe_writes k n)).sectors i [] ≡ zeros 512
unfolding emptying
wiped_sectors p k zero h i l = absurd (omega arith)
wiped_sectors p k (suc n) h i l =
    let p₁ : Place = acted p (enter (entry_bytes (hold_entry (suc n)))) in
    let e : ran p₁ (filling k 0 zero_chunk (suc n) ++ (entering k no_entry ∷ [])) ≡ acted (with_sectors p₁ (laid p.sectors 0 zero_chunk (suc n))) (enter (entry_bytes no_entry)) =
    ran_append p₁ (filling k 0 zero_chunk (suc n)) (entering k no_entry ∷ [])
    ∙ ap (λ (z : Place). acted z (enter (entry_bytes no_entry))) (ran_filling p₁ k 0 zero_chunk (suc n) (omega arith)) in
    ap (λ (z : Place). get_or z.sectors i []) e ∙ laid_zeros p.sectors (suc n) i l

-- the plan of a wipe that writes
abbrev Zeroed : (size : ℕ) (m : Model) (s : Sectors) (n : List ℕ) → Plan → Type 0
Zeroed size m s n p =
    (r : Reads) (ws : List SlotWrite) (a : Answer) (q' : Memory) → p ≡ go r ws a q' →
    (k : ℕ) → slot_of m n ≡ Some k → (i : ℕ) → i < (extent_of (length (job_of (get_or m.slots k empty)).bytes)).0 →
    get_or (place_in (places (layout_of size) (all_written (layout_of size) s ws)) k).sectors i [] ≡ zeros 512

zeroed_at : (m : Model) (s : Sectors) (q : Memory) → Holds q.size m s q → (e : m.mounted ≡ true) → (n : List ℕ) (k : ℕ) (j : Job) →
    Named m.slots (places (layout_of q.size) s) (padded n) k j → Carried (layout_of q.size) m (places (layout_of q.size) s) q.job (wipe n)
    (wipe_writes k (entry_of (place_in (places (layout_of q.size) s) k)).sectors) q.job →
    (i : ℕ) → i < (extent_of (length (job_of (get_or m.slots k empty)).bytes)).0 →
    get_or (place_in (places (layout_of q.size) (all_written (layout_of q.size) s (wipe_writes k (entry_of (place_in (places (layout_of q.size) s) k)).sectors))) k).sectors i [] ≡ zeros 512
zeroed_at m s q h e n k j w c i l =
    let lay : Layout = layout_of q.size in
    let ps : List Place = places lay s in
    let p : Place = place_in ps k in
    let full : Full p = (laid_out q.size s h.shaped).full k w.inside in
    let z : ℕ = (entry_of p).sectors in
    let ws : List SlotWrite = wipe_writes k z in
    let few = live_sectors p full j w.shows in
    let more : i < z = omega (arith, few.0, ap (λ (x : Slot). (extent_of (length (job_of x).bytes)).0) w.slot) in
    let r = writes_refine_lem lay (layouts_sound q.size) s h.shaped ws c.fits in
    let moved : places lay (all_written lay s ws) ≡ set ps k (ran p ws) = r.1 ∙ moved_one ps k ws w.inside (to_slot_wipe k z) in
    ap (λ (x : List Place). get_or (place_in x k).sectors i []) moved
    ∙ (ap (λ (x : Place). get_or x.sectors i []) (get_or-set_same ps k (ran p ws) no_place w.inside)
    ∙ wiped_sectors p k z (omega (arith, few.1, full.many)) i more)

same_writes : (r r' : Reads) (ws vs : List SlotWrite) (a b : Answer) (q q' : Memory) → go r ws a q ≡ go r' vs b q' → ws ≡ vs
same_writes r r' ws vs a b q q' e = cc

wipe_zeroed : (m : Model) (s : Sectors) (q : Memory) → Holds q.size m s q → m.mounted ≡ true → (n : List ℕ) → Zeroed q.size m s n (plan s q (wipe n))
unfolding wipe_plan
wipe_zeroed m s q h e n =
    let lay : Layout = layout_of q.size in
    let ps : List Place = places lay s in
    let P : Plan → Type 0 = Zeroed q.size m s n in
    let d : (x : Refusal) → P (decline x) = λ x r ws a q' g. cc in
    let f : (x : Refusal) → P (refuse x) = λ x r ws a q' g. cc in
    unless_keeps P d f (lawful_name n) Name _ λ _.
    named_shut_keeps P d f q.job (padded n) _ λ o.
    found_keeps P d f (slot_named ps n) NoJob _ λ k g.
    let w = named_hit h.agrees (padded n) k g in
    let c = wipe_carried lay m ps q.job (laid_out q.size s h.shaped) h.agrees n k w.0 w.1 (apart_from m s q h e n o k w.0 w.1) in
    λ r ws a q' t k' v i l.
    let same : k' ≡ k = same_Some k' k (sym v ∙ w.1.at) in
    let x = same_writes _ r _ ws _ a _ q' t in
    subst (λ (y : List SlotWrite). get_or (place_in (places lay (all_written lay s y)) k').sectors i [] ≡ zeros 512) x
    (subst (λ (y : ℕ). get_or (place_in (places lay (all_written lay s (wipe_writes k (entry_of (place_in ps k)).sectors))) y).sectors i [] ≡ zeros 512) (sym same)
    (zeroed_at m s q h e n k w.0 w.1 c i (subst (λ (y : ℕ). i < (extent_of (length (job_of (get_or m.slots y empty)).bytes)).0) same l)))

pub wipe_zeroes : WipeZeroes
wipe_zeroes size m s q h e n r ws a q' =
    let k : q.size ≡ size = subst (λ b. Knows b size q) e h.knows in
    let P : ℕ → Type 0 = λ z. Holds z m s q → Zeroed z m s n (plan s q (wipe n)) in
    let p : P q.size = λ g. wipe_zeroed m s q g e n in
    subst P k p h r ws a q'
