-- How put and commit end, exit by exit.
use Rattle.std.proofs.Common.{◌≡◌, ℕ, zero, suc, ◌+◌, ◌<◌, ◌≤◌, Bool, true, false, cond, List, [], ◌∷◌, ◌++◌, length, Some, None, Ok, Err, Option, ok_or, ◌==◌, nat_le, sym, refl, ap, ◌∙◌, subst, arith}
use Rattle.std.proofs.lemmas.Bool.{le-leb, lt-leb}
use Rattle.device.specs.Faults.{Faults}
use Rattle.device.specs.Meaning.{Meaning}
use Rattle.device.specs.declared.faults.Fault.{Fault}
use Rattle.layout.specs.Sizes.{layout_of}
use Rattle.layout.specs.declared.sizes.Layout.{Layout}
use Rattle.refusals.specs.declared.Refusal.{Refusal}
use Rattle.refusals.specs.declared.Refusal.TheVariants.{NotOpen, TooLong, Device}
use Rattle.places.specs.SlotWrites.{SlotWrite}
use Rattle.plans.specs.Calls.{put}
use Rattle.plans.specs.Memory as plans
use Rattle.plans.specs.Memory.{with_job, job_length}
use Rattle.plans.specs.Plans.{Plan, decline, held_open, unless, never, put_by, put_plan, put_writes, sectors_full, after_put, chunk}
use Rattle.plans.proofs.Blocks.{length-filling}
use Rattle.volume.specs.Directory.{Room}
use Rattle.volume.specs.Invariants.{Each, InSlot}
use Rattle.volume.specs.Kept.{open_job, open_jobs}
use Rattle.volume.specs.Outcomes.{AcceptedBy, RefusedBy, Performs, Plain}
use Rattle.volume.specs.Performing.{Performed, Cut, at_write, at_read}
use Rattle.volume.specs.declared.open_job.OpenJob.{OpenJob}
use Rattle.volume.proofs.Glue.{room}
use Rattle.streaming.specs.Gathered.{held_job}

-- THE OPEN JOB

missing : {o : Option OpenJob} {x y : Refusal} → Err y ≡ ok_or o x → (o ≡ None) × (y ≡ x)
missing {o = None} e = (refl, cc)
missing {o = Some j} e = cc

-- the handle is not that of the open job
pub not_held : (o : Option OpenJob) (h : ℕ) {r : Option OpenJob} {y : Refusal} → r ≡ held_job o h → Err y ≡ ok_or r NotOpen → (f : plans.OpenJob → Plan) →
    (held_open (open_jobs o) h f ≡ decline NotOpen) × (y ≡ NotOpen)
not_held o h e i f = let m = missing i in (by o (sym e ∙ m.0), m.1)
  where
    by : (o : Option OpenJob) → held_job o h ≡ None → held_open (open_jobs o) h f ≡ decline NotOpen
    by None e = refl
    by (Some j) e = at (j.slot == h) e
      where
        at : (b : Bool) → cond b (Some j) None ≡ None → cond b (f (open_job j)) (decline NotOpen) ≡ decline NotOpen
        at true e = cc
        at false e = refl

-- the handle is that of the open job j
pub is_held : (o : Option OpenJob) (h : ℕ) {r : Option OpenJob} {j : OpenJob} → r ≡ held_job o h → r ≡ Some j → (f : plans.OpenJob → Plan) → (held_open (open_jobs o) h f ≡ f (open_job j)) × (o ≡ Some j)
is_held o h {j = j} e i f = by o (sym e ∙ i)
  where
    by : (o : Option OpenJob) → held_job o h ≡ Some j → (held_open (open_jobs o) h f ≡ f (open_job j)) × (o ≡ Some j)
    by None e = cc
    by (Some k) e = at (k.slot == h) e
      where
        at : (b : Bool) → cond b (Some k) None ≡ Some j → (cond b (f (open_job k)) (decline NotOpen) ≡ f (open_job j)) × (Some k ≡ Some j)
        at true e = let s : k ≡ j = cc in (ap (λ (z : OpenJob). f (open_job z)) s, e)
        at false e = cc

-- PUT

no_cut : {t : Faults} {c : Layout} {m m' : Meaning} {f : Fault} (ws : List SlotWrite) → length ws ≡ 0 → Cut t c never m m' ws f → ⊥
no_cut ws e (at_write x) = absurd (omega (arith, x.is_one))
no_cut ws e (at_read x) = x.looks

performed_nothing : {c : Layout} {m m' : Meaning} (ws : List SlotWrite) → length ws ≡ 0 → Performed c m m' ws → m' ≡ m
performed_nothing [] e p = p.leaves
performed_nothing (w ∷ ws) e p = absurd (omega (arith, e))

put_accepted : (c : Layout) (n : ℕ) (ws : List SlotWrite) (p : plans.Memory) (m m' : Meaning) → length ws ≡ n → Performed c m m' ws → AcceptedBy c Plain (put_by n ws p) tt m m' p
put_accepted c zero ws p m m' e r = (refl, record { device = performed_nothing ws e r; memory = refl })
put_accepted c (suc n) ws p m m' e r = record { answer = refl; writes = r; was_read = tt; memory = refl }

put_broken : (t : Faults) (c : Layout) (n : ℕ) (ws : List SlotWrite) (p q : plans.Memory) (m m' : Meaning) (f : Fault) → length ws ≡ n → Cut t c never m m' ws f → RefusedBy t c (put_by n ws p) (Device f) m m' q q
put_broken t c zero ws p q m m' f e r = absurd (no_cut ws e r)
put_broken t c (suc n) ws p q m m' f e r = record { by_device = r; memory = refl }

abbrev pub memory : ℕ → Option OpenJob → plans.Memory
memory s o = record { size = s; job = open_jobs o }

abbrev tested : plans.OpenJob → List ℕ → plans.Memory → Bool → Plan
tested o x q b = unless b TooLong (put_by (sectors_full o x) (put_writes o x) (with_job q (Some (after_put o x))))

put_long : (s h : ℕ) (o : Option OpenJob) {r : Option OpenJob} {j : OpenJob} (x : List ℕ) → r ≡ held_job o h → r ≡ Some j → 65535 < job_length (open_job j) + length x → put_plan (memory s o) h x ≡ decline TooLong
unfolding put_plan
put_long s h o {j = j} x e i l =
    (is_held o h e i (λ z. tested z x (memory s o) (nat_le (job_length z + length x) 65535))).0
    ∙ ap (tested (open_job j) x (memory s o)) (lt-leb (job_length (open_job j) + length x) 65535 l)

put_fits : (s h : ℕ) (o : Option OpenJob) {r : Option OpenJob} {j : OpenJob} (x : List ℕ) → r ≡ held_job o h → r ≡ Some j → job_length (open_job j) + length x ≤ 65535 →
    put_plan (memory s o) h x ≡ put_by (sectors_full (open_job j) x) (put_writes (open_job j) x) (with_job (memory s o) (Some (after_put (open_job j) x)))
unfolding put_plan
put_fits s h o {j = j} x e i l =
    (is_held o h e i (λ z. tested z x (memory s o) (nat_le (job_length z + length x) 65535))).0
    ∙ ap (tested (open_job j) x (memory s o)) (le-leb (job_length (open_job j) + length x) 65535 l)

put_count : (o : plans.OpenJob) (x : List ℕ) → length (put_writes o x) ≡ sectors_full o x
unfolding put_writes
put_count o x = length-filling o.slot o.full (chunk (o.gathered ++ x)) (sectors_full o x)

-- the card of the open job lies on the device
pub there : {n : ℕ} {c : Layout} {m : Meaning} {o : Option OpenJob} {j : OpenJob} → c ≡ layout_of n → Each InSlot n o → o ≡ Some j → n ≤ length m.sectors → (j.slot < c.slots) × Room c m
there {n = n} {m = m} {j = j} e f i h = (subst (λ (c : Layout). j.slot < c.slots) (sym e) (f j i), subst (λ (c : Layout). Room c m) (sym e) (room n m h))

pub put_not_open : (t : Faults) (s h : ℕ) (o : Option OpenJob) (m : Meaning) {r : Option OpenJob} {y : Refusal} (x : List ℕ) → r ≡ held_job o h → Err y ≡ ok_or r NotOpen → Performs {A = Unit {0}} t Plain (put h x) m m (memory s o) (memory s o) (Err y)
unfolding put_plan
put_not_open t s h o m x e i =
    let n = not_held o h e i (λ z. tested z x (memory s o) (nat_le (job_length z + length x) 65535)) in
    record { ends = λ _. rw (n.0) (n.1, record { device = refl; memory = refl }) }

pub put_too_long : (t : Faults) (s h : ℕ) (o : Option OpenJob) (m : Meaning) {r : Option OpenJob} {j : OpenJob} (x : List ℕ) → r ≡ held_job o h → r ≡ Some j → 65535 < job_length (open_job j) + length x →
    Performs {A = Unit {0}} t Plain (put h x) m m (memory s o) (memory s o) (Err TooLong)
put_too_long t s h o m x e i l = record { ends = λ _. rw (put_long s h o x e i l) (refl, record { device = refl; memory = refl }) }

pub put_ends : (t : Faults) (s h : ℕ) (o : Option OpenJob) (m m' : Meaning) {r : Option OpenJob} {j : OpenJob} (k : OpenJob) {c : Layout} (x : List ℕ) → r ≡ held_job o h → r ≡ Some j → job_length (open_job j) + length x ≤ 65535 →
    c ≡ layout_of s → Each InSlot s o → (j.slot < c.slots → Room c m → Performed c m m' (put_writes (open_job j) x)) → open_job k ≡ after_put (open_job j) x →
    Performs t Plain (put h x) m m' (memory s o) (memory s (Some k)) (Ok tt)
put_ends t s h o m m' {j = j} k {c = c} x e i l a f p g = record {
  ends = λ z.
      let w = there a f (is_held o h e i (λ _. decline TooLong)).1 z in
      rw (put_fits s h o x e i l, g)
      (put_accepted (layout_of s) (sectors_full (open_job j) x) (put_writes (open_job j) x) (with_job (memory s o) (Some (after_put (open_job j) x))) m m' (put_count (open_job j) x)
      (subst (λ (y : Layout). Performed y m m' (put_writes (open_job j) x)) a (p w.0 w.1)));
}

pub put_cut : (t : Faults) (s h : ℕ) (o : Option OpenJob) (m m' : Meaning) {r : Option OpenJob} {j : OpenJob} {c : Layout} (x : List ℕ) (y : Fault) → r ≡ held_job o h → r ≡ Some j → job_length (open_job j) + length x ≤ 65535 →
    c ≡ layout_of s → Each InSlot s o → (j.slot < c.slots → Room c m → Cut t c never m m' (put_writes (open_job j) x) y) →
    Performs {A = Unit {0}} t Plain (put h x) m m' (memory s o) (memory s o) (Err (Device y))
put_cut t s h o m m' {j = j} {c = c} x y e i l a f p = record {
  ends = λ z.
      let w = there a f (is_held o h e i (λ _. decline TooLong)).1 z in
      rw (put_fits s h o x e i l)
      (put_broken t (layout_of s) (sectors_full (open_job j) x) (put_writes (open_job j) x) (with_job (memory s o) (Some (after_put (open_job j) x))) (memory s o) m m' y (put_count (open_job j) x)
      (subst (λ (b : Layout). Cut t b never m m' (put_writes (open_job j) x) y) a (p w.0 w.1)));
}
