-- The place of an open job: what sectors and entries leave of it.
use Rattle.std.proofs.Common.{◌≡◌, ℕ, zero, suc, ◌+◌, ◌-◌, ◌*◌, ◌<◌, ◌≤◌, true, eqb, List, [], ◌++◌, length, take, drop, sym, refl, ap, ◌∙◌, ap₂, append_assoc, arith}
use Rattle.std.proofs.lemmas.List.{length-append, length-take-le, take_all, take_at, take-append-drop, append-nil}
use Rattle.std.proofs.lemmas.Bool.{and_parts, and_from, eq-eqb}
use Rattle.device.specs.Meaning.{Sectors, zeros}
use Rattle.layout.specs.Extents.{extent_of}
use Rattle.layout.specs.Names.{lawful_name}
use Rattle.entries.specs.Entry.{entry_bytes, resized}
use Rattle.entries.specs.State.{lawful_fields}
use Rattle.entries.specs.declared.entry.Entry.{Entry}
use Rattle.places.specs.Places.{Place, acted, counted_up}
use Rattle.places.specs.SlotWrites.{enter}
use Rattle.places.proofs.Frames.{Full}
use Rattle.plans.specs.Slots.{Job, live, bytes_in, job_in, decoded}
use Rattle.plans.specs.Plans.{filling, chunk, entry_of}
use Rattle.plans.proofs.Blocks.{take_app, length-bytes_in, ran, with_sectors, laid, ran_filling, bytes_in_laid, chunks_full, bytes_in_chunks}
use Rattle.plans.proofs.Entries.{resized_fits, entered, live_by}
use Rattle.history.specs.Model.{with_more}
use Rattle.history.proofs.Carried.{full_wide, entry_fits, live_entry_of}

-- A LIVE JOB AND ITS PLACE

pub length_block : (p : Place) → Full p → length (bytes_in p.sectors) ≡ 65536
length_block p v = omega (arith, length-bytes_in p.sectors (full_wide p v), v.many)

pub live_bytes : (p : Place) (j : Job) → decoded p ≡ live j → take (entry_of p).size (bytes_in p.sectors) ≡ j.bytes
unfolding job_in
live_bytes p j d = ap (λ (i : Job). i.bytes) (live_entry_of p j d).job

pub live_size : (p : Place) → Full p → (j : Job) → decoded p ≡ live j → (entry_of p).size ≡ length j.bytes
live_size p v j d =
    sym (length-take-le (entry_of p).size (bytes_in p.sectors) (omega (arith, length_block p v, (entry_fits p v).size)))
    ∙ ap length (live_bytes p j d)

-- a block that begins with the bytes of its live job keeps it
pub still : (p : Place) → Full p → (j : Job) → decoded p ≡ live j → (s : Sectors) (r : List ℕ) → bytes_in s ≡ j.bytes ++ r → decoded (with_sectors p s) ≡ live j
unfolding decoded job_in
still p v j d s r e =
    let l = live_entry_of p j d in
    let b : take (entry_of p).size (bytes_in s) ≡ j.bytes = ap (take (entry_of p).size) e ∙ take_at j.bytes r (entry_of p).size (sym (live_size p v j d)) in
    live_by p.slot p.first (entry_of p) s l.lawful
    ∙ ap live (ap (λ (z : List ℕ). record { name = (entry_of p).name; kind = (entry_of p).kind; address = (entry_of p).address; bytes = z }) (b ∙ sym (live_bytes p j d)) ∙ l.job)

resized_lawful : (k a : ℕ) (e : Entry) (z : ℕ) → lawful_fields k a e ≡ true → lawful_fields k a (resized e z) ≡ true
unfolding lawful_fields
resized_lawful k a e z h =
    let n = and_parts (lawful_name e.name) _ h in
    let s = and_parts (eqb e.slot k) _ n.1 in
    let f = and_parts (eqb e.first a) _ s.1 in
    and_from (lawful_name e.name) _ n.0
    (and_from (eqb e.slot k) _ s.0 (and_from (eqb e.first a) _ f.0 (eq-eqb (extent_of z).0 (extent_of z).0 refl)))

-- an entry resized over a block that begins with more bytes of its live job
grown : (p : Place) → Full p → (j : Job) → decoded p ≡ live j → (s : Sectors) (w r : List ℕ) → bytes_in s ≡ (j.bytes ++ w) ++ r →
    (z : ℕ) → length (j.bytes ++ w) ≡ z → z < 65536 → decoded (acted (with_sectors p s) (enter (entry_bytes (resized (entry_of p) z)))) ≡ live (with_more j w)
unfolding job_in
grown p v j d s w r e z l h =
    let i = live_entry_of p j d in
    let b : take z (bytes_in s) ≡ j.bytes ++ w = ap (take z) e ∙ take_at (j.bytes ++ w) r z l in
    entered (with_sectors p s) (resized (entry_of p) z) (resized_fits (entry_of p) (entry_fits p v) z h)
    ∙ (live_by p.slot p.first (resized (entry_of p) z) s (resized_lawful p.slot p.first (entry_of p) z i.lawful)
    ∙ ap live (ap₂ (λ (q : Job) (u : List ℕ). record { name = q.name; kind = q.kind; address = q.address; bytes = u }) i.job b))

-- AN OPEN JOB AND ITS PLACE

-- the live job j with w waiting behind it: f full sectors and the gathered bytes g
pub record Lies (p : Place) (f : ℕ) (g : List ℕ) (j : Job) (w : List ℕ) : Type 0 where
  pub shows : decoded p ≡ live j
  pub lies : take (512 * f) (bytes_in p.sectors) ++ g ≡ j.bytes ++ w

length_full : (p : Place) → Full p → (f : ℕ) → f ≤ 128 → length (take (512 * f) (bytes_in p.sectors)) ≡ 512 * f
length_full p v f h = length-take-le (512 * f) (bytes_in p.sectors) (omega (arith, length_block p v))

length-all : (p : Place) → Full p → (f : ℕ) (g : List ℕ) (j : Job) (w : List ℕ) → Lies p f g j w → f ≤ 128 → length (j.bytes ++ w) ≡ 512 * f + length g
length-all p v f g j w o h =
    ap length (sym o.lies) ∙ (length-append (take (512 * f) (bytes_in p.sectors)) g ∙ ap (λ (z : ℕ). z + length g) (length_full p v f h))

-- sectors of g and what follows it begin with g
chunks_front : (g x : List ℕ) (n : ℕ) → length g ≤ 512 * n → (r : List ℕ) × (bytes_in (counted_up (chunk (g ++ x)) 0 n) ≡ g ++ r)
chunks_front g x n h =
    let z : List ℕ = zeros (512 * n) in (
      take (512 * n - length g) (x ++ z),
      bytes_in_chunks (g ++ x) n
          ∙ (ap (take (512 * n)) (append_assoc g x z)
          ∙ (take_app (512 * n) g (x ++ z) ∙ ap (λ (u : List ℕ). u ++ take (512 * n - length g) (x ++ z)) (take_all (512 * n) g h))),
    )

-- so the block then begins with all of the job
block_front : (p : Place) → Full p → (f : ℕ) (g : List ℕ) (j : Job) (w : List ℕ) → Lies p f g j w → (x : List ℕ) (n : ℕ) → f + n ≤ 128 → length g ≤ 512 * n →
    (r : List ℕ) × (bytes_in (laid p.sectors f (chunk (g ++ x)) n) ≡ (j.bytes ++ w) ++ r)
block_front p v f g j w o x n h l =
    let t : List ℕ = take (512 * f) (bytes_in p.sectors) in
    let u : List ℕ = bytes_in (drop (f + n) p.sectors) in
    let a : (r : List ℕ) × (bytes_in (counted_up (chunk (g ++ x)) 0 n) ≡ g ++ r) = chunks_front g x n l in (
      a.0 ++ u,
      bytes_in_laid p.sectors f (chunk (g ++ x)) n (full_wide p v) (omega (arith, v.many))
          ∙ (ap (λ (z : List ℕ). t ++ (z ++ u)) a.1
          ∙ (ap (λ (z : List ℕ). t ++ z) (append_assoc g a.0 u)
          ∙ (sym (append_assoc t g (a.0 ++ u)) ∙ ap (λ (z : List ℕ). z ++ (a.0 ++ u)) o.lies))),
    )

-- a block that begins with all of the job begins with its full sectors
full_front : (p : Place) → Full p → (f : ℕ) (g : List ℕ) (j : Job) (w : List ℕ) → Lies p f g j w → f ≤ 128 → (s : Sectors) (r : List ℕ) → bytes_in s ≡ (j.bytes ++ w) ++ r →
    take (512 * f) (bytes_in s) ++ g ≡ j.bytes ++ w
full_front p v f g j w o h s r e =
    let t : List ℕ = take (512 * f) (bytes_in p.sectors) in
    let k : bytes_in s ≡ t ++ (g ++ r) = e ∙ (ap (λ (z : List ℕ). z ++ r) (sym o.lies) ∙ append_assoc t g r) in
    ap (λ (z : List ℕ). z ++ g) (ap (take (512 * f)) k ∙ take_at t (g ++ r) (512 * f) (length_full p v f h)) ∙ o.lies

-- sectors written behind the full ones, of what is gathered and of more, leave the job as it was
pub filling_keeps : (p : Place) → Full p → (f : ℕ) (g : List ℕ) (j : Job) (w : List ℕ) → Lies p f g j w → length g < 512 →
    (x : List ℕ) (k n : ℕ) → f + n ≤ 128 →
    Lies (ran p (filling k f (chunk (g ++ x)) n)) f g j w
unfolding filling
filling_keeps p v f g j w o l x k zero h = o
filling_keeps p v f g j w o l x k (suc n) h =
    let s : Sectors = laid p.sectors f (chunk (g ++ x)) (suc n) in
    let a : (r : List ℕ) × (bytes_in s ≡ (j.bytes ++ w) ++ r) = block_front p v f g j w o x (suc n) h (omega arith) in
    rw (ran_filling p k f (chunk (g ++ x)) (suc n) (omega (arith, v.many)))
    record {
      shows = still p v j o.shows s (w ++ a.0) (a.1 ∙ append_assoc j.bytes w a.0);
      lies = full_front p v f g j w o (omega arith) s a.0 a.1;
    }

-- full sectors written: as many more are full, and the rest is gathered
pub filling_more : (p : Place) → Full p → (f : ℕ) (g : List ℕ) (j : Job) (w : List ℕ) → Lies p f g j w → length g < 512 →
    (x : List ℕ) (k n : ℕ) → f + n ≤ 128 → 512 * n ≤ length (g ++ x) →
    Lies (ran p (filling k f (chunk (g ++ x)) n)) (f + n) (drop (512 * n) (g ++ x)) j (w ++ x)
filling_more p v f g j w o l x k n h q =
    let s : Sectors = laid p.sectors f (chunk (g ++ x)) n in
    let t : List ℕ = take (512 * f) (bytes_in p.sectors) in
    let u : List ℕ = bytes_in (drop (f + n) p.sectors) in
    let y : List ℕ = take (512 * n) (g ++ x) in
    let a : bytes_in s ≡ (t ++ y) ++ u =
    bytes_in_laid p.sectors f (chunk (g ++ x)) n (full_wide p v) (omega (arith, v.many))
    ∙ (ap (λ (z : List ℕ). t ++ (z ++ u)) (chunks_full (g ++ x) n q) ∙ sym (append_assoc t y u)) in
    let m : length (t ++ y) ≡ 512 * (f + n) = length-append t y ∙ omega (arith, length_full p v f (omega arith), length-take-le (512 * n) (g ++ x) q) in
    let e : ran p (filling k f (chunk (g ++ x)) n) ≡ with_sectors p s = ran_filling p k f (chunk (g ++ x)) n (omega (arith, v.many)) in
    record {
      shows = (filling_keeps p v f g j w o l x k n h).shows;
      lies =
          ap (λ (z : Place). take (512 * (f + n)) (bytes_in z.sectors) ++ drop (512 * n) (g ++ x)) e
          ∙ (ap (λ (z : List ℕ). z ++ drop (512 * n) (g ++ x)) (ap (take (512 * (f + n))) a ∙ take_at (t ++ y) u (512 * (f + n)) m)
          ∙ (append_assoc t y (drop (512 * n) (g ++ x))
          ∙ (ap (λ (z : List ℕ). t ++ z) (take-append-drop (512 * n) (g ++ x))
          ∙ (sym (append_assoc t g x) ∙ (ap (λ (z : List ℕ). z ++ x) o.lies ∙ append_assoc j.bytes w x)))));
    }

-- what is gathered written as well, and then the entry of that size: nothing waits any more
pub entry_counts : (p : Place) → Full p → (f : ℕ) (g : List ℕ) (j : Job) (w : List ℕ) → Lies p f g j w →
    512 * f + length g ≤ 65535 → (k n : ℕ) → f + n ≤ 128 → length g ≤ 512 * n →
    Lies (acted (ran p (filling k f (chunk g) n)) (enter (entry_bytes (resized (entry_of p) (512 * f + length g))))) f g (with_more j w) []
entry_counts p v f g j w o q k n h m =
    let s : Sectors = laid p.sectors f (chunk g) n in
    let a : (r : List ℕ) × (bytes_in s ≡ (j.bytes ++ w) ++ r) = rw (append-nil g) at (block_front p v f g j w o [] n h m) in
    rw (ran_filling p k f (chunk g) n (omega (arith, v.many)))
    record {
      shows = grown p v j o.shows s w a.0 a.1 (512 * f + length g) (length-all p v f g j w o (omega arith)) (omega arith);
      lies = full_front p v f g j w o (omega arith) s a.0 a.1 ∙ sym (append-nil (j.bytes ++ w));
    }
