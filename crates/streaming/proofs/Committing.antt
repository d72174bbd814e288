-- How commit ends, exit by exit.
use Rattle.std.proofs.Common.{◌≡◌, ℕ, zero, suc, ◌+◌, ◌<◌, Bool, true, false, cond, List, [], ◌∷◌, ◌++◌, length, get_or, Some, Ok, Err, Option, ok_or, ◌==◌, sym, refl, ap, ◌∙◌, subst, arith}
use Rattle.std.proofs.lemmas.List.{get_or-set_other}
use Rattle.device.specs.Faults.{Faults, Within}
use Rattle.device.specs.Meaning.{Meaning, Sectors}
use Rattle.device.specs.declared.faults.Fault.{Fault}
use Rattle.layout.specs.Bytes.{part}
use Rattle.layout.specs.Extents.{extent_of}
use Rattle.layout.specs.Sizes.{layout_of, place_of, block_of}
use Rattle.layout.specs.declared.sizes.Layout.{Layout}
use Rattle.refusals.specs.declared.Refusal.{Refusal}
use Rattle.refusals.specs.declared.Refusal.TheVariants.{NotOpen, Device}
use Rattle.entries.specs.Entry.{entry_in, resized}
use Rattle.entries.specs.declared.entry.Entry.{Entry}
use Rattle.places.specs.Places.{Sound, places, counted_up}
use Rattle.places.specs.SlotWrites.{SlotWrite, all_written}
use Rattle.places.proofs.Frames.{dir_below, layouts_sound}
use Rattle.plans.specs.Calls.{commit, done}
use Rattle.plans.specs.Memory as plans
use Rattle.plans.specs.Memory.{with_job, job_length}
use Rattle.plans.specs.Plans.{Plan, tell, go, never, for_entries, filling, chunk, entering, entry_of, place_in, card_places, commit_plan, commit_writes, after_commit}
use Rattle.plans.proofs.Blocks.{write_at, part_sectors}
use Rattle.volume.specs.Directory.{Room}
use Rattle.volume.specs.Invariants.{Each, InSlot}
use Rattle.volume.specs.Kept.{open_job}
use Rattle.volume.specs.Outcomes.{Performs, Plain}
use Rattle.volume.specs.Performing.{Performed, Cut}
use Rattle.volume.specs.declared.open_job.OpenJob.{OpenJob}
use Rattle.volume.proofs.Filling.{performed_as, cut_of}
use Rattle.volume.proofs.Glue.{performed_performed, performed_cut, cut_more, entry_at, room_after, looks_later}
use Rattle.streaming.specs.Gathered.{held_job}
use Rattle.streaming.proofs.Endings.{memory, not_held, is_held, there}

-- THE ENTRY STAYS WHILE DATA IS WRITTEN

sectors_left : (c : Layout) (k f : ℕ) (x : ℕ → List ℕ) (i n d : ℕ) (s : Sectors) → d < block_of c k → get_or (all_written c s (counted_up (write_at k f x) i n)) d [] ≡ get_or s d []
sectors_left c k f x i zero d s h = refl
sectors_left c k f x i (suc n) d s h =
    sectors_left c k f x (suc i) n d _ h ∙ get_or-set_other s (block_of c k + (f + i)) d (x i) [] (omega arith)

-- the entry of a slot, once sectors of its block are filled
entry_left : (c : Layout) → Sound c → (k f : ℕ) (x : ℕ → List ℕ) (n : ℕ) {m m₁ : Meaning} → k < c.slots → Performed c m m₁ (filling k f x n) →
    entry_of (place_in (places c m₁.sectors) k) ≡ entry_of (place_in (places c m.sectors) k)
unfolding filling
entry_left c v k f x n {m = m} {m₁ = m₁} l p =
    let b : (place_of k).sector < block_of c k = omega (arith, dir_below c v k l) in
    let e : get_or m₁.sectors (place_of k).sector [] ≡ get_or m.sectors (place_of k).sector [] =
    ap (λ (y : Meaning). get_or y.sectors (place_of k).sector []) p.leaves ∙ sectors_left c k f x 0 n (place_of k).sector m.sectors b in
    entry_at c m₁.sectors k l ∙ ap (λ (z : List ℕ). entry_in (part z (place_of k).offset 32)) e ∙ sym (entry_at c m.sectors k l)

-- THE WRITES

abbrev pub data_of : plans.OpenJob → List SlotWrite
data_of o = filling o.slot o.full (chunk o.gathered) (extent_of (length o.gathered)).0

commit_two : (o : plans.OpenJob) (e : Entry) → length o.gathered < 512 → commit_writes o e ≡ data_of o ++ (entering o.slot (resized e (job_length o)) ∷ [])
unfolding commit_writes
commit_two o e h = ap (λ (ws : List SlotWrite). ws ++ (entering o.slot (resized e (job_length o)) ∷ [])) (part_sectors o o.gathered h)

-- the entry of the open job, on a card of the layout c
abbrev pub its_entry : Layout → Meaning → plans.OpenJob → Entry
its_entry c m o = entry_of (place_in (places c m.sectors) o.slot)

commit_performed : (c : Layout) → Sound c → {m m₁ m₂ : Meaning} (o : plans.OpenJob) → o.slot < c.slots → length o.gathered < 512 → Performed c m m₁ (data_of o) →
    Performed c m₁ m₂ (entering o.slot (resized (its_entry c m₁ o) (job_length o)) ∷ []) → Performed c m m₂ (commit_writes o (its_entry c m o))
commit_performed c v {m = m} o l h p q =
    let e = entry_left c v o.slot o.full (chunk o.gathered) (extent_of (length o.gathered)).0 l p in
    performed_as (sym (commit_two o (its_entry c m o) h))
    (performed_performed p (performed_as (ap (λ (y : Entry). entering o.slot (resized y (job_length o)) ∷ []) e) q))

commit_cut_first : {t : Faults} (c : Layout) {m m₁ : Meaning} (o : plans.OpenJob) (e : Entry) {y : Fault} → length o.gathered < 512 → Cut t c never m m₁ (data_of o) y → Cut t c for_entries m m₁ (commit_writes o e) y
commit_cut_first c o e h p = cut_of (sym (commit_two o e h)) (cut_more (entering o.slot (resized e (job_length o)) ∷ []) (λ j l z. absurd z) p)

commit_cut_later : {t u : Faults} (c : Layout) → Sound c → {m m₁ m₂ : Meaning} (o : plans.OpenJob) {y : Fault} → Within u t → o.slot < c.slots → length o.gathered < 512 → Performed c m m₁ (data_of o) →
    Cut u c for_entries m₁ m₂ (entering o.slot (resized (its_entry c m₁ o) (job_length o)) ∷ []) y → Cut t c for_entries m m₂ (commit_writes o (its_entry c m o)) y
commit_cut_later c v {m = m} o w l h p q =
    let e = entry_left c v o.slot o.full (chunk o.gathered) (extent_of (length o.gathered)).0 l p in
    cut_of (sym (commit_two o (its_entry c m o) h))
    (performed_cut w (λ j z. looks_later (data_of o) (entering o.slot (resized (its_entry c m o) (job_length o)) ∷ []) j z) p
    (cut_of (ap (λ (y : Entry). entering o.slot (resized y (job_length o)) ∷ []) e) q))

-- THE PLAN

abbrev committing : Layout → Sectors → plans.Memory → plans.OpenJob → Bool → Plan
committing c s q o b = cond b (tell done q) (go for_entries (commit_writes o (entry_of (place_in (places c s) o.slot))) done (with_job q (Some (after_commit o))))

commit_held : (n h : ℕ) (o : Option OpenJob) (s : Sectors) {r : Option OpenJob} {j : OpenJob} (b : Bool) → r ≡ held_job o h → r ≡ Some j → (j.waiting == 0) ≡ b →
    commit_plan (card_places (memory n o) s) (memory n o) h ≡ committing (layout_of n) s (memory n o) (open_job j) b
unfolding commit_plan
commit_held n h o s {j = j} b e i w =
    (is_held o h e i (λ z. committing (layout_of n) s (memory n o) z (z.waiting == 0))).0 ∙ ap (committing (layout_of n) s (memory n o) (open_job j)) w

pub commit_not_open : (t : Faults) (n h : ℕ) (o : Option OpenJob) (m : Meaning) {r : Option OpenJob} {y : Refusal} → r ≡ held_job o h → Err y ≡ ok_or r NotOpen →
    Performs {A = Unit {0}} t Plain (commit h) m m (memory n o) (memory n o) (Err y)
unfolding commit_plan
commit_not_open t n h o m e i =
    let x = not_held o h e i (λ z. committing (layout_of n) m.sectors (memory n o) z (z.waiting == 0)) in
    record { ends = λ _. rw (x.0) (x.1, record { device = refl; memory = refl }) }

pub commit_still : (t : Faults) (n h : ℕ) (o : Option OpenJob) (m : Meaning) {r : Option OpenJob} {j : OpenJob} → r ≡ held_job o h → r ≡ Some j → (j.waiting == 0) ≡ true →
    Performs t Plain (commit h) m m (memory n o) (memory n o) (Ok tt)
commit_still t n h o m e i w = record { ends = λ _. rw (commit_held n h o m.sectors true e i w) (refl, record { device = refl; memory = refl }) }

pub commit_cut_data : (t : Faults) (n h : ℕ) (o : Option OpenJob) (m m' : Meaning) {r : Option OpenJob} {j : OpenJob} {c : Layout} (y : Fault) → r ≡ held_job o h → r ≡ Some j → (j.waiting == 0) ≡ false →
    length (open_job j).gathered < 512 → c ≡ layout_of n → Each InSlot n o → (j.slot < c.slots → Room c m → Cut t c never m m' (data_of (open_job j)) y) →
    Performs {A = Unit {0}} t Plain (commit h) m m' (memory n o) (memory n o) (Err (Device y))
commit_cut_data t n h o m m' {j = j} {c = c} y e i w g a f p = record {
  ends = λ z.
      let x = there a f (is_held o h e i (λ _. tell done (memory n o))).1 z in
      rw (commit_held n h o m.sectors false e i w)
      (record {
        by_device = commit_cut_first (layout_of n) (open_job j) (its_entry (layout_of n) m (open_job j)) g (subst (λ (b : Layout). Cut t b never m m' (data_of (open_job j)) y) a (p x.0 x.1));
        memory = refl;
      });
}

pub commit_cut_entry : (t u : Faults) (n h : ℕ) (o : Option OpenJob) (m m₁ m' : Meaning) {r : Option OpenJob} {j : OpenJob} {c : Layout} (size : ℕ) (y : Fault) → size ≡ job_length (open_job j) → r ≡ held_job o h → r ≡ Some j → (j.waiting == 0) ≡ false →
    length (open_job j).gathered < 512 → c ≡ layout_of n → Each InSlot n o → Within u t → (j.slot < c.slots → Room c m → Performed c m m₁ (data_of (open_job j))) →
    (j.slot < c.slots → Room c m₁ → Cut u c for_entries m₁ m' (entering j.slot (resized (its_entry c m₁ (open_job j)) size) ∷ []) y) →
    Performs {A = Unit {0}} t Plain (commit h) m m' (memory n o) (memory n o) (Err (Device y))
commit_cut_entry t u n h o m m₁ m' {j = j} {c = c} size y d e i w g a f v p s = record {
  ends = λ z.
      let k = open_job j in
      let x = there a f (is_held o h e i (λ _. tell done (memory n o))).1 z in
      let q = p x.0 x.1 in
      let all : Cut t c for_entries m m' (commit_writes k (its_entry c m k)) y =
      commit_cut_later c (subst Sound (sym a) (layouts_sound n)) k v x.0 g q
      (cut_of (ap (λ (z : ℕ). entering j.slot (resized (its_entry c m₁ k) z) ∷ []) d) (s x.0 (room_after x.1 q))) in
      rw (commit_held n h o m.sectors false e i w)
      (record { by_device = subst (λ (b : Layout). Cut t b for_entries m m' (commit_writes k (its_entry b m k)) y) a all; memory = refl });
}

pub commit_ends : (t : Faults) (n h : ℕ) (o : Option OpenJob) (m m₁ m' : Meaning) {r : Option OpenJob} {j : OpenJob} {c : Layout} (size : ℕ) → size ≡ job_length (open_job j) → r ≡ held_job o h → r ≡ Some j → (j.waiting == 0) ≡ false →
    length (open_job j).gathered < 512 → c ≡ layout_of n → Each InSlot n o → (j.slot < c.slots → Room c m → Performed c m m₁ (data_of (open_job j))) →
    (j.slot < c.slots → Room c m₁ → Performed c m₁ m' (entering j.slot (resized (its_entry c m₁ (open_job j)) size) ∷ [])) →
    Performs t Plain (commit h) m m' (memory n o) (with_job (memory n o) (Some (after_commit (open_job j)))) (Ok tt)
commit_ends t n h o m m₁ m' {j = j} {c = c} size d e i w g a f p s = record {
  ends = λ z.
      let b = open_job j in
      let x = there a f (is_held o h e i (λ _. tell done (memory n o))).1 z in
      let q = p x.0 x.1 in
      let all : Performed c m m' (commit_writes b (its_entry c m b)) =
      commit_performed c (subst Sound (sym a) (layouts_sound n)) b x.0 g q
      (performed_as (ap (λ (z : ℕ). entering j.slot (resized (its_entry c m₁ b) z) ∷ []) d) (s x.0 (room_after x.1 q))) in
      rw (commit_held n h o m.sectors false e i w)
      (record {
        answer = refl;
        writes = subst (λ (l : Layout). Performed l m m' (commit_writes b (its_entry l m b))) a all;
        was_read = tt;
        memory = refl;
      });
}
