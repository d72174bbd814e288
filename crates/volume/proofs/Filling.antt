-- The sectors of a block, written upwards.
use Rattle.std.proofs.Common.{◌≡◌, ℕ, zero, suc, ◌+◌, ◌-◌, ◌*◌, ◌/◌, ◌<◌, ◌≤◌, min, List, [], ◌∷◌, ◌++◌, length, get_or, take, drop, set, Ok, Err, Result, sym, refl, ap, ◌∙◌, subst, ap₂, inl, inr, append_assoc, append-nil, zero-add, arith}
use Rattle.std.proofs.lemmas.List.{length-append, length-drop, take_at, drop_at, drop_all, drop-drop, take-append-le}
use Rattle.std.proofs.lemmas.Bool.{cases_lt}
use Rattle.device.specs.Faults.{Faults, Within}
use Rattle.device.specs.Meaning.{Meaning, Sectors, zeros}
use Rattle.device.specs.Transfers.{Writes}
use Rattle.device.specs.declared.faults.Act.TheVariants.{Write}
use Rattle.device.specs.declared.faults.Fault.{Fault}
use Rattle.device.proofs.Zeros.{take-zeros, drop-zeros}
use Rattle.layout.specs.Sizes.{block_of}
use Rattle.layout.specs.declared.sizes.Layout.{Layout}
use Rattle.runs.specs.Writes.{SectorWrite, write_of, applied, with_sectors, failed_with, Written, zeroing}
use Rattle.runs.proofs.Runs.{length-zeroing, get_or-zeroing, take-zeroing}
use Rattle.std.proofs.Math.Seq.{take-append-add}
use Rattle.places.specs.Places.{counted_up}
use Rattle.places.specs.SlotWrites.{SlotWrite, all_written}
use Rattle.places.proofs.Lists.{get_or-counted, counted_split, counted_more}
use Rattle.plans.specs.Plans.{Reads, never, filling, chunk, zero_chunk}
use Rattle.plans.proofs.Blocks.{write_at, length-filling, take-filling, length-chunk}
use Rattle.volume.specs.Directory.{Room}
use Rattle.volume.specs.Performing.{Performed, sector_of, no_write, Cut, at_write, Runs}
use Rattle.volume.proofs.Glue.{performed_performed, performed_cut, performed_none, cut_more, room_after, looks_never}
use Rattle.volume.proofs.Entering.{writes_at, one_runs}

-- THE WRITES

pub get_or-filling : (k f : ℕ) (x : ℕ → List ℕ) (n i : ℕ) → i < n → get_or (filling k f x n) i no_write ≡ write_at k f x i
unfolding filling
get_or-filling k f x n i h = get_or-counted (write_at k f x) 0 n i no_write h ∙ ap (write_at k f x) (zero-add i)

pub filling_more : (k f : ℕ) (x : ℕ → List ℕ) (i : ℕ) → filling k f x (i + 1) ≡ filling k f x i ++ (write_at k f x i ∷ [])
unfolding filling
filling_more k f x i =
    counted_more (write_at k f x) 0 i ∙ ap (λ (j : ℕ). counted_up (write_at k f x) 0 i ++ (write_at k f x j ∷ [])) (zero-add i)

pub filling_rest : (k f : ℕ) (x : ℕ → List ℕ) (i n : ℕ) → i ≤ n → filling k f x n ≡ filling k f x i ++ counted_up (write_at k f x) (0 + i) (n - i)
unfolding filling
filling_rest k f x i n h =
    let e : n ≡ i + (n - i) = omega arith in
    ap (counted_up (write_at k f x) 0) e ∙ counted_split (write_at k f x) 0 i (n - i)

pub filling_none : (c : Layout) (m : Meaning) (k f : ℕ) (x : ℕ → List ℕ) → Performed c m m (filling k f x 0)
unfolding filling
filling_none c m k f x = performed_none c m

pub performed_as : {c : Layout} {m m' : Meaning} {ws vs : List SlotWrite} → ws ≡ vs → Performed c m m' ws → Performed c m m' vs
performed_as {c = c} {m = m} {m' = m'} e p = subst (Performed c m m') e p

pub cut_of : {t : Faults} {c : Layout} {rs : Reads} {m m' : Meaning} {ws vs : List SlotWrite} {f : Fault} → ws ≡ vs → Cut t c rs m m' ws f → Cut t c rs m m' vs f
cut_of {t = t} {c = c} {rs = rs} {m = m} {m' = m'} {f = f} e p = subst (λ (ws : List SlotWrite). Cut t c rs m m' ws f) e p

pub runs_as : {A : Type 0} (t : Faults) (c : Layout) (rs : Reads) (m m' : Meaning) {ws vs : List SlotWrite} (r : Result A Fault) → ws ≡ vs → Runs t c rs m m' ws r → Runs t c rs m m' vs r
runs_as t c rs m m' r e p = subst (λ (ws : List SlotWrite). Runs t c rs m m' ws r) e p

-- ONE SECTOR FURTHER

-- sector f + i of the block written, behind i others
wrote_runs : {t u : Faults} (c : Layout) {m m₁ m₂ : Meaning} (k f : ℕ) (x : ℕ → List ℕ) (i : ℕ) (r : Result (Unit {0}) Fault) →
    Room c m → k < c.slots → f + i < 128 → length (x i) ≡ 512 → Within u t →
    Performed c m m₁ (filling k f x i) → Writes u m₁ m₂ (block_of c k + (f + i)) (x i) r → Runs t c never m₁ m₂ (write_at k f x i ∷ []) r
wrote_runs c k f x i r h l b e y p w =
    one_runs c never (write_at k f x i) r y refl refl e ((room_after h p).blocks k (f + i) l b) w

pub filled_more : {u : Faults} (c : Layout) {m m₁ m₂ : Meaning} (k f : ℕ) (x : ℕ → List ℕ) (i : ℕ) → Room c m → k < c.slots → f + i < 128 → length (x i) ≡ 512 →
    Performed c m m₁ (filling k f x i) → Writes u m₁ m₂ (block_of c k + (f + i)) (x i) (Ok tt) → Performed c m m₂ (filling k f x (i + 1))
filled_more c k f x i h l b e p w =
    performed_as (sym (filling_more k f x i)) (performed_performed p (wrote_runs c k f x i (Ok tt) h l b e (λ a n g q. q) p w))

pub filled_cut : {t u : Faults} (c : Layout) {m m₁ m₂ : Meaning} (k f : ℕ) (x : ℕ → List ℕ) (i n : ℕ) {g : Fault} → Within u t → Room c m → k < c.slots → f + i < 128 → i < n → length (x i) ≡ 512 →
    Performed c m m₁ (filling k f x i) → Writes u m₁ m₂ (block_of c k + (f + i)) (x i) (Err g) → Cut t c never m m₂ (filling k f x n) g
filled_cut {t = t} c {m = m} {m₂ = m₂} k f x i n {g = g} y h l b j e p w =
    let ws = filling k f x i in
    let vs = write_at k f x i ∷ [] in
    let rest = counted_up (write_at k f x) (0 + (i + 1)) (n - (i + 1)) in
    let q : Cut t c never m m₂ (ws ++ vs) g =
    performed_cut y (λ j z. looks_never never vs (ws ++ vs) j (length ws + j) z) p (wrote_runs c k f x i (Err g) h l b e (λ a n f q. q) p w) in
    cut_of (sym (filling_rest k f x (i + 1) n (omega arith)))
    (cut_more rest (λ j _ z. looks_never never (filling k f x (i + 1)) (filling k f x (i + 1) ++ rest) j j z) (cut_of (sym (filling_more k f x i)) q))

-- THE BYTES

pub chunk_whole : (b : List ℕ) → length b ≡ 512 → chunk b 0 ≡ b
unfolding chunk
chunk_whole b e = take_at b (zeros 512) 512 e

-- a part with zeros behind it
tail : (b : List ℕ) (w : ℕ) → length b ≤ w → b ++ drop (length b) (zeros w) ≡ take w (b ++ zeros w)
tail b w h =
    let e : length b + (w - length b) ≡ w = omega arith in
    let l : w - length b ≤ w = omega arith in
    ap (λ (z : List ℕ). b ++ z) (drop-zeros (length b) w ∙ sym (take-zeros (w - length b) w l))
    ∙ sym (take-append-add b (zeros w) (w - length b)) ∙ ap (λ (n : ℕ). take n (b ++ zeros w)) e

pub chunk_padded : (b : List ℕ) → length b ≤ 512 → b ++ drop (length b) (zeros 512) ≡ chunk b 0
unfolding chunk
chunk_padded b h = tail b 512 h

no_more : (p q : List ℕ) → length (p ++ q) ≤ length p → q ≡ []
no_more p [] h = refl
no_more p (x ∷ q) h = absurd (omega (arith, length-append p (x ∷ q)))

-- p is the first w of p ++ q, or all of it
first_part : (p q z : List ℕ) (w : ℕ) → length p ≡ min w (length (p ++ q)) → take w (p ++ z) ≡ take w ((p ++ q) ++ z)
first_part p q z w l =
    elim (cases_lt (length p) w) [
      | inl h ↦ let e : q ≡ [] = no_more p q (omega arith) in rw (e, append-nil)
      | inr h ↦
          let n : w ≤ length p = omega arith in
          take-append-le w p z n ∙ sym (take-append-le w p (q ++ z) n) ∙ ap (take w) (sym (append_assoc p q z))
    ]

-- what is left of the bytes begins with the part p
chunk_part : (b r p q : List ℕ) (i : ℕ) → r ≡ drop (512 * i) b → r ≡ p ++ q → length p ≡ min 512 (length r) → chunk p 0 ≡ chunk b i
unfolding chunk
chunk_part b r p q i d e l =
    first_part p q (zeros 512) 512 (l ∙ ap (λ (x : List ℕ). min 512 (length x)) e)
    ∙ ap (λ (x : List ℕ). take 512 (x ++ zeros 512)) (sym e ∙ d)

rest_part : (p q : List ℕ) (w : ℕ) → length p ≡ min w (length (p ++ q)) → q ≡ drop w (p ++ q)
rest_part p q w l =
    elim (cases_lt (length p) w) [
      | inl h ↦ let e : q ≡ [] = no_more p q (omega arith) in rw (e, append-nil) (sym (drop_all w p (omega arith)))
      | inr h ↦ let n : length p ≡ w = omega arith in sym (drop_at p q w n)
    ]

chunk_rest : (b r p q : List ℕ) (i : ℕ) → r ≡ drop (512 * i) b → r ≡ p ++ q → length p ≡ min 512 (length r) → q ≡ drop (512 * (i + 1)) b
chunk_rest b r p q i d e l =
    let n : 512 * i + 512 ≡ 512 * (i + 1) = omega arith in
    rest_part p q 512 (l ∙ ap (λ (x : List ℕ). min 512 (length x)) e) ∙ ap (drop 512) (sym e ∙ d) ∙ drop-drop 512 (512 * i) b ∙ ap (λ (j : ℕ). drop j b) n

-- the part p is next, of what is left of the bytes b after i sectors
pub record Next (b r p q : List ℕ) (i : ℕ) : Type 0 where
  pub left : r ≡ drop (512 * i) b
  pub parts : r ≡ p ++ q
  pub long : length p ≡ min 512 (length r)
  pub some : 0 < length r

pub next_part : {b r p q : List ℕ} {i w : ℕ} → w ≡ 512 → r ≡ drop (512 * i) b → (r ≡ p ++ q) × (length p ≡ min w (length r)) × (0 < length r) → Next b r p q i
next_part {r = r} e d x = record { left = d; parts = x.0; long = x.1 ∙ ap (λ (k : ℕ). min k (length r)) e; some = x.2 }

pub next_rest : {b r p q : List ℕ} {i n : ℕ} → n ≡ i + 1 → Next b r p q i → q ≡ drop (512 * n) b
next_rest {b = b} {r = r} {p = p} {q = q} {i = i} e x =
    chunk_rest b r p q i x.left x.parts x.long ∙ ap (λ (k : ℕ). drop (512 * k) b) (sym e)

pub next_lt : {b r p q : List ℕ} {i : ℕ} → Next b r p q i → i < (length b + 511) / 512
next_lt {b = b} {r = r} {i = i} x =
    let e : length r ≡ length b - 512 * i = ap length x.left ∙ length-drop (512 * i) b in
    omega (arith, x.some)

pub next_le : {b r p q : List ℕ} {i n : ℕ} → n ≡ i + 1 → Next b r p q i → n ≤ (length b + 511) / 512
next_le e x = omega (arith, next_lt x)

placed : (a f i j k : ℕ) → k ≡ f + j → j ≡ i → a + k ≡ a + (f + i)
placed a f i j k d e = omega arith

pub writes_as : {t : Faults} {m m' : Meaning} {n : ℕ} {b b' : List ℕ} {r : Result (Unit {0}) Fault} → b ≡ b' → Writes t m m' n b r → Writes t m m' n b' r
writes_as {t = t} {m = m} {m' = m'} {n = n} {r = r} e w = subst (λ (x : List ℕ). Writes t m m' n x r) e w

-- the write of the next part, as sector f + j of the block at a
next_writes : {u : Faults} {m₁ m₂ : Meaning} {b r p q : List ℕ} {i n : ℕ} (a f j : ℕ) {k : ℕ} {v : Result (Unit {0}) Fault} → Next b r p q i → n ≡ a + k → k ≡ f + j → j ≡ i →
    Writes u m₁ m₂ n (chunk p 0) v → Writes u m₁ m₂ (a + (f + i)) (chunk b i) v
next_writes {b = b} {r = r} {p = p} {q = q} {i = i} a f j {k = k} x e d y w =
    writes_as (chunk_part b r p q i x.left x.parts x.long) (writes_at (e ∙ placed a f i j k d y) w)

pub data_more : {u : Faults} (c : Layout) {m m₁ m₂ : Meaning} (k f : ℕ) {b r p q : List ℕ} {i n : ℕ} (j : ℕ) {l : ℕ} → Room c m → k < c.slots → 512 * f + length b ≤ 65536 → Next b r p q i → n ≡ block_of c k + l → l ≡ f + j → j ≡ i →
    Performed c m m₁ (filling k f (chunk b) i) → Writes u m₁ m₂ n (chunk p 0) (Ok tt) → Performed c m m₂ (filling k f (chunk b) (i + 1))
data_more c k f {b = b} {i = i} j h l s x e d y p w =
    filled_more c k f (chunk b) i h l (omega (arith, next_lt x)) (length-chunk b i) p (next_writes (block_of c k) f j x e d y w)

pub data_cut : {t u : Faults} (c : Layout) {m m₁ m₂ : Meaning} (k f : ℕ) {b r p q : List ℕ} {i n : ℕ} (j : ℕ) {l : ℕ} {g : Fault} → Within u t → Room c m → k < c.slots → 512 * f + length b ≤ 65536 → Next b r p q i →
    n ≡ block_of c k + l → l ≡ f + j → j ≡ i → Performed c m m₁ (filling k f (chunk b) i) → Writes u m₁ m₂ n (chunk p 0) (Err g) → Cut t c never m m₂ (filling k f (chunk b) ((length b + 511) / 512)) g
data_cut c k f {b = b} {i = i} j y h l s x e d z p w =
    filled_cut c k f (chunk b) i ((length b + 511) / 512) y h l (omega (arith, next_lt x)) (next_lt x) (length-chunk b i) p (next_writes (block_of c k) f j x e d z w)

-- ZEROS

zeroing_written : (c : Layout) (k : ℕ) (s : Sectors) (a i n : ℕ) → a ≡ block_of c k + (0 + i) →
    applied s (zeroing a n) ≡ all_written c s (counted_up (write_at k 0 zero_chunk) i n)
unfolding applied zeroing
zeroing_written c k s a i zero e = refl
zeroing_written c k s a i (suc n) e =
    let e' : a + 1 ≡ block_of c k + (0 + suc i) = omega arith in
    ap (λ (j : ℕ). applied (set s j (zeros 512)) (zeroing (a + 1) n)) e ∙ zeroing_written c k (set s (block_of c k + (0 + i)) (zeros 512)) (a + 1) (suc i) n e'

zeroed : (c : Layout) (k : ℕ) (s : Sectors) (n : ℕ) → applied s (zeroing (block_of c k) n) ≡ all_written c s (filling k 0 zero_chunk n)
unfolding filling
zeroed c k s n = zeroing_written c k s (block_of c k) 0 n (omega arith)

zeroed_first : (c : Layout) (k : ℕ) (s : Sectors) (i n : ℕ) → i ≤ n → applied s (take i (zeroing (block_of c k) n)) ≡ all_written c s (take i (filling k 0 zero_chunk n))
zeroed_first c k s i n h =
    ap (applied s) (take-zeroing (block_of c k) n i h) ∙ zeroed c k s i ∙ ap (all_written c s) (sym (take-filling k 0 zero_chunk n i h))

-- zeros into the first sectors of a block
pub zeroed_runs : (t : Faults) (c : Layout) (m m' : Meaning) (k n : ℕ) (r : Result (Unit {0}) Fault) → Written t m m' (zeroing (block_of c k) n) r → Runs t c never m m' (filling k 0 zero_chunk n) r
zeroed_runs t c m m' k n (Ok v) p = record {
  leaves = p.leaves ∙ ap (with_sectors m) (zeroed c k m.sectors n);
  accepted = λ h. p.accepted (omega (arith, length-zeroing (block_of c k) n, length-filling k 0 zero_chunk n));
}
zeroed_runs t c m m' k n (Err f) p =
    let i = p.which in
    let l : i < n = omega (arith, p.is_one, length-zeroing (block_of c k) n) in
    let e : (get_or (zeroing (block_of c k) n) i (write_of 0 [])).at ≡ sector_of c (get_or (filling k 0 zero_chunk n) i no_write) =
    ap (λ (w : SectorWrite). w.at) (get_or-zeroing (block_of c k) n i (write_of 0 []) l)
    ∙ ap (λ (j : ℕ). block_of c k + j) (sym (zero-add i)) ∙ ap (sector_of c) (sym (get_or-filling k 0 zero_chunk n i l)) in
    at_write (record {
      which = i;
      is_one = omega (arith, l, length-filling k 0 zero_chunk n);
      accepted = p.accepted;
      refusable = p.refusable;
      names = subst (λ (j : ℕ). t Write j f) e p.names;
      leaves = elim p.leaves [
        | inl q ↦ inl (q ∙ ap (failed_with m) (zeroed_first c k m.sectors i n (omega arith)))
        | inr q ↦ inr (q.0, q.1 ∙ ap (failed_with m) (zeroed_first c k m.sectors (i + 1) n (omega arith)))
      ];
    })

pub block_zeroed : (t : Faults) (c : Layout) (m m' : Meaning) (k n : ℕ) {a b : ℕ} (r : Result (Unit {0}) Fault) → a ≡ block_of c k → b ≡ block_of c k + n → Room c m → k < c.slots → n ≤ 128 →
    (b ≤ length m.sectors → Written t m m' (zeroing a (b - a)) r) → Runs t c never m m' (filling k 0 zero_chunk n) r
block_zeroed t c m m' k n {a = a} {b = b} r x y h l s w =
    let i : n - 1 < 128 = omega arith in
    let room : b ≤ length m.sectors = omega (arith, h.blocks k (n - 1) l i) in
    let e : b - a ≡ n = omega arith in
    zeroed_runs t c m m' k n r (subst (λ (ws : List SectorWrite). Written t m m' ws r) (ap₂ zeroing x e) (w room))
