-- Sectors of a block written upwards, and the bytes that they then hold.
use Rattle.std.proofs.Common.{◌≡◌, ℕ, zero, suc, ◌+◌, ◌-◌, ◌*◌, ◌/◌, ◌<◌, ◌≤◌, List, [], ◌∷◌, ◌++◌, length, get_or, take, drop, set, sym, refl, ap, ◌∙◌, ap₂, inl, inr, append_assoc, add-zero, arith}
use native.Mathlib.Nat.{sub-zero, zero-sub, suc-sub-suc}
use Rattle.std.proofs.lemmas.List.{length-set, length-append, length-drop, length-take-le, take-append-drop, take_all, drop_all, drop_at, drop-drop, drop-set-lt, take_more_set, take-append-le, drop-append-le}
use Rattle.std.proofs.lemmas.Bool.{cases_lt}
use Rattle.device.specs.Meaning.{Sectors, Bytes, zeros}
use Rattle.device.proofs.ByteLists.{take-bytes, drop-bytes, append-bytes}
use Rattle.device.proofs.Zeros.{length-zeros, take-zeros, drop-zeros}
use Rattle.layout.specs.Extents.{extent_of}
use Rattle.places.specs.Places.{Place, acted, counted_up}
use Rattle.places.specs.SlotWrites.{SlotWrite, fill}
use Rattle.places.proofs.Lists.{length-counted}
use Rattle.plans.specs.Slots.{bytes_in}
use Rattle.plans.specs.Memory.{OpenJob}
use Rattle.plans.specs.Plans.{to_slot, filling, chunk, part_writes}
use Rattle.plans.proofs.Entries.{zeros_bytes}

pub take_app : {X : Type 0} (j : ℕ) (xs ys : List X) → take j (xs ++ ys) ≡ take j xs ++ take (j - length xs) ys
take_app zero [] ys = refl
take_app zero (x ∷ xs) ys = rw zero-sub
take_app (suc j) [] ys = rw sub-zero
take_app (suc j) (x ∷ xs) ys = rw (suc-sub-suc, take_app j xs ys)

-- every sector has 512 bytes
abbrev pub Wide : Sectors → Type 0
Wide [] = Unit {0}
Wide (x ∷ xs) = (length x ≡ 512) × Wide xs

pub wide_from : (xs : Sectors) → ((i : ℕ) → i < length xs → length (get_or xs i []) ≡ 512) → Wide xs
wide_from [] h = tt
wide_from (x ∷ xs) h = (h 0 (omega arith), wide_from xs (λ i l. h (suc i) (omega arith)))

pub wide_append : (xs ys : Sectors) → Wide xs → Wide ys → Wide (xs ++ ys)
wide_append [] ys h g = g
wide_append (x ∷ xs) ys h g = (h.0, wide_append xs ys h.1 g)

pub bytes_in_append : (xs ys : Sectors) → bytes_in (xs ++ ys) ≡ bytes_in xs ++ bytes_in ys
bytes_in_append [] ys = refl
bytes_in_append (x ∷ xs) ys = ap (λ (z : List ℕ). x ++ z) (bytes_in_append xs ys) ∙ sym (append_assoc x (bytes_in xs) (bytes_in ys))

pub length-bytes_in : (xs : Sectors) → Wide xs → length (bytes_in xs) ≡ 512 * length xs
length-bytes_in [] w = refl
length-bytes_in (x ∷ xs) w = length-append x (bytes_in xs) ∙ omega (arith, length-bytes_in xs w.1, w.0)

pub bytes_in_take : (f : ℕ) (xs : Sectors) → Wide xs → f ≤ length xs → bytes_in (take f xs) ≡ take (512 * f) (bytes_in xs)
bytes_in_take zero xs w h = refl
bytes_in_take (suc f) [] w h = absurd (omega arith)
bytes_in_take (suc f) (x ∷ xs) w h =
    let q : 512 * suc f - length x ≡ 512 * f = omega (arith, w.0) in
    ap (λ (z : List ℕ). x ++ z) (bytes_in_take f xs w.1 (omega arith))
    ∙ sym (take_app (512 * suc f) x (bytes_in xs) ∙ ap₂ ◌++◌ (take_all (512 * suc f) x (omega (arith, w.0))) (ap (λ (z : ℕ). take z (bytes_in xs)) q))

-- bytes that lie within one sector
pub bytes_in_part : (xs : Sectors) → Wide xs → (q skip n : ℕ) → q < length xs → skip + n ≤ 512 → take n (drop (512 * q + skip) (bytes_in xs)) ≡ take n (drop skip (get_or xs q []))
bytes_in_part [] w q skip n h l = absurd (omega arith)
bytes_in_part (x ∷ xs) w zero skip n h l =
    let e : 512 * zero + skip ≡ skip = omega arith in
    let k : n ≤ length (drop skip x) = omega (arith, length-drop skip x, w.0) in
    ap (λ (z : ℕ). take n (drop z (x ++ bytes_in xs))) e
    ∙ ap (take n) (drop-append-le skip x (bytes_in xs) (omega (arith, w.0)))
    ∙ take-append-le n (drop skip x) (bytes_in xs) k
bytes_in_part (x ∷ xs) w (suc q) skip n h l =
    let e : 512 * suc q + skip ≡ 512 + (512 * q + skip) = omega arith in
    ap (λ (z : ℕ). take n (drop z (x ++ bytes_in xs))) e
    ∙ ap (take n) (sym (drop-drop (512 * q + skip) 512 (x ++ bytes_in xs)) ∙ ap (drop (512 * q + skip)) (drop_at x (bytes_in xs) 512 w.0))
    ∙ bytes_in_part xs w.1 q skip n (omega arith) l

-- A RUN OF SECTORS WRITTEN

-- a place after several acts on it
abbrev pub ran : Place → List SlotWrite → Place
ran p [] = p
ran p (w ∷ ws) = ran (acted p w.act) ws

pub ran_append : (p : Place) (xs ys : List SlotWrite) → ran p (xs ++ ys) ≡ ran (ran p xs) ys
ran_append p [] ys = refl
ran_append p (x ∷ xs) ys = ran_append (acted p x.act) xs ys

abbrev pub with_sectors : Place → Sectors → Place
with_sectors p s = record { slot = p.slot; first = p.first; entry = p.entry; sectors = s }

-- n sectors from number f on replaced
abbrev pub laid : Sectors → (f : ℕ) → (ℕ → List ℕ) → ℕ → Sectors
laid s f x n = take f s ++ (counted_up x 0 n ++ drop (f + n) s)

abbrev pub write_at : (k f : ℕ) → (ℕ → List ℕ) → ℕ → SlotWrite
write_at k f x i = to_slot k (fill (f + i) (x i))

laid_from : (p : Place) (k f : ℕ) (x : ℕ → List ℕ) (i n : ℕ) → f + i + n ≤ length p.sectors →
    ran p (counted_up (write_at k f x) i n) ≡ with_sectors p (take (f + i) p.sectors ++ (counted_up x i n ++ drop (f + i + n) p.sectors))
laid_from p k f x i zero h = rw add-zero (ap (with_sectors p) (sym (take-append-drop (f + i) p.sectors)))
laid_from p k f x i (suc n) h =
    let s : Sectors = p.sectors in
    let t : Sectors = set s (f + i) (x i) in
    let l : length t ≡ length s = length-set s (f + i) (x i) in
    let ih = laid_from (with_sectors p t) k f x (suc i) n (omega (arith, l)) in
    let a : f + suc i ≡ f + i + 1 = omega arith in
    let b : f + suc i + n ≡ f + i + suc n = omega arith in
    let front : take (f + suc i) t ≡ take (f + i) s ++ x i ∷ [] = ap (λ (z : ℕ). take z t) a ∙ take_more_set s (f + i) (x i) (omega arith) in
    let back : drop (f + suc i + n) t ≡ drop (f + i + suc n) s = drop-set-lt (f + suc i + n) s (f + i) (x i) (omega arith) ∙ ap (λ (z : ℕ). drop z s) b in
    ih ∙ ap (with_sectors p) (ap₂ (λ (u v : Sectors). u ++ (counted_up x (suc i) n ++ v)) front back
    ∙ append_assoc (take (f + i) s) (x i ∷ []) (counted_up x (suc i) n ++ drop (f + i + suc n) s))

pub ran_filling : (p : Place) (k f : ℕ) (x : ℕ → List ℕ) (n : ℕ) → f + n ≤ length p.sectors → ran p (filling k f x n) ≡ with_sectors p (laid p.sectors f x n)
unfolding filling
ran_filling p k f x n h =
    laid_from p k f x 0 n (omega arith)
    ∙ rw add-zero

pub length-filling : (k f : ℕ) (x : ℕ → List ℕ) (n : ℕ) → length (filling k f x n) ≡ n
unfolding filling
length-filling k f x n = length-counted (write_at k f x) 0 n

take_counted : {X : Type 0} (g : ℕ → X) (i n j : ℕ) → j ≤ n → take j (counted_up g i n) ≡ counted_up g i j
take_counted g i n zero h = refl
take_counted g i zero (suc j) h = absurd (omega arith)
take_counted g i (suc n) (suc j) h = ap (λ (z : List _). g i ∷ z) (take_counted g (suc i) n j (omega arith))

pub take-filling : (k f : ℕ) (x : ℕ → List ℕ) (n j : ℕ) → j ≤ n → take j (filling k f x n) ≡ filling k f x j
unfolding filling
take-filling k f x n j h = take_counted (write_at k f x) 0 n j h

-- the part-filled sector is a run of one sector, or of none
pub part_sectors : (o : OpenJob) (g : List ℕ) → length g < 512 → part_writes o g ≡ filling o.slot o.full (chunk g) (extent_of (length g)).0
unfolding filling
part_sectors o [] h = refl
part_sectors o (x ∷ xs) h = let e : (length (x ∷ xs) + 511) / 512 ≡ 1 = omega arith in rw (e, add-zero)

-- all but the sectors that are written stay
pub bytes_in_laid : (s : Sectors) (f : ℕ) (x : ℕ → List ℕ) (n : ℕ) → Wide s → f + n ≤ length s →
    bytes_in (laid s f x n) ≡ take (512 * f) (bytes_in s) ++ (bytes_in (counted_up x 0 n) ++ bytes_in (drop (f + n) s))
bytes_in_laid s f x n w h =
    bytes_in_append (take f s) (counted_up x 0 n ++ drop (f + n) s)
    ∙ ap₂ ◌++◌ (bytes_in_take f s w (omega arith)) (bytes_in_append (counted_up x 0 n) (drop (f + n) s))

-- SECTORS OF BYTES

pub length-chunk : (b : List ℕ) (i : ℕ) → length (chunk b i) ≡ 512
unfolding chunk
length-chunk b i = length-take-le 512 (drop (512 * i) b ++ zeros 512) (omega (arith, length-append (drop (512 * i) b) (zeros 512), length-zeros 512))

pub chunk_bytes : (b : List ℕ) (i : ℕ) → Bytes b → Bytes (chunk b i)
unfolding chunk
chunk_bytes b i h = take-bytes 512 (drop (512 * i) b ++ zeros 512) (append-bytes (drop (512 * i) b) (zeros 512) (drop-bytes (512 * i) b h) (zeros_bytes 512))

-- one sector of d, and then as many bytes of the rest
next_chunk : (d : List ℕ) (m : ℕ) → take 512 (d ++ zeros 512) ++ take m (drop 512 d ++ zeros m) ≡ take (512 + m) (d ++ zeros (512 + m))
next_chunk d m = elim (cases_lt (length d) 512) [
  | inr h ↦
      let e : d ≡ take 512 d ++ drop 512 d = sym (take-append-drop 512 d) in
      let l : length (take 512 d) ≡ 512 = length-take-le 512 d h in
      let left : take 512 (d ++ zeros 512) ≡ take 512 d = take-append-le 512 d (zeros 512) h in
      let n : 512 + m - length (take 512 d) ≡ m = omega arith in
      let k : 512 + m - length d ≤ m = omega arith in
      let right : take (512 + m) (d ++ zeros (512 + m)) ≡ take 512 d ++ take m (drop 512 d ++ zeros (512 + m)) =
      ap (λ (z : List ℕ). take (512 + m) (z ++ zeros (512 + m))) e
      ∙ ap (take (512 + m)) (append_assoc (take 512 d) (drop 512 d) (zeros (512 + m)))
      ∙ take_app (512 + m) (take 512 d) (drop 512 d ++ zeros (512 + m))
      ∙ ap₂ ◌++◌ (take_all (512 + m) (take 512 d) (omega arith)) (ap (λ (z : ℕ). take z (drop 512 d ++ zeros (512 + m))) n) in
      let more : take m (drop 512 d ++ zeros m) ≡ take m (drop 512 d ++ zeros (512 + m)) =
      take_app m (drop 512 d) (zeros m) ∙ (ap (λ (z : List ℕ). take m (drop 512 d) ++ z)
      (take-zeros (m - length (drop 512 d)) m (omega arith) ∙ sym (take-zeros (m - length (drop 512 d)) (512 + m) (omega arith)))
      ∙ sym (take_app m (drop 512 d) (zeros (512 + m)))) in
      ap₂ ◌++◌ left more ∙ sym right
  | inl h ↦
      let left : take 512 (d ++ zeros 512) ≡ d ++ zeros (512 - length d) =
      take_app 512 d (zeros 512) ∙ ap₂ ◌++◌ (take_all 512 d (omega arith)) (take-zeros (512 - length d) 512 (omega arith)) in
      let rest : take m (drop 512 d ++ zeros m) ≡ zeros m =
      ap (λ (z : List ℕ). take m (z ++ zeros m)) (drop_all 512 d (omega arith)) ∙ take-zeros m m (omega arith) in
      let right : take (512 + m) (d ++ zeros (512 + m)) ≡ d ++ zeros (512 + m - length d) =
      take_app (512 + m) d (zeros (512 + m)) ∙ ap₂ ◌++◌ (take_all (512 + m) d (omega arith)) (take-zeros (512 + m - length d) (512 + m) (omega arith)) in
      let n : 512 + m - length d ≡ 512 - length d + m = omega arith in
      ap₂ ◌++◌ left rest ∙ (append_assoc d (zeros (512 - length d)) (zeros m)
      ∙ ap (λ (z : List ℕ). d ++ z) (zeros-more (512 - length d) m ∙ ap zeros (sym n))) ∙ sym right
]
  where
    zeros-more : (a b : ℕ) → zeros a ++ zeros b ≡ zeros (a + b)
    zeros-more a b =
        let e : zeros (a + b) ≡ take a (zeros (a + b)) ++ drop a (zeros (a + b)) = sym (take-append-drop a (zeros (a + b))) in
        let n : a + b - a ≡ b = omega arith in
        sym (e ∙ ap₂ ◌++◌ (take-zeros a (a + b) (omega arith)) (drop-zeros a (a + b) ∙ ap zeros n))

chunks_from : (b : List ℕ) (i n : ℕ) → bytes_in (counted_up (chunk b) i n) ≡ take (512 * n) (drop (512 * i) b ++ zeros (512 * n))
unfolding chunk
chunks_from b i zero = refl
chunks_from b i (suc n) =
    let d : List ℕ = drop (512 * i) b in
    let e : drop (512 * suc i) b ≡ drop 512 d = (let q : 512 * suc i ≡ 512 * i + 512 = omega arith in ap (λ (z : ℕ). drop z b) q) ∙ sym (drop-drop 512 (512 * i) b) in
    let m : 512 * suc n ≡ 512 + 512 * n = omega arith in
    ap (λ (z : List ℕ). take 512 (d ++ zeros 512) ++ z) (chunks_from b (suc i) n ∙ ap (λ (z : List ℕ). take (512 * n) (z ++ zeros (512 * n))) e)
    ∙ (next_chunk d (512 * n) ∙ ap (λ (z : ℕ). take z (d ++ zeros z)) (sym m))

-- the sectors of some bytes hold them, with zeros behind
pub bytes_in_chunks : (b : List ℕ) (n : ℕ) → bytes_in (counted_up (chunk b) 0 n) ≡ take (512 * n) (b ++ zeros (512 * n))
bytes_in_chunks b n = chunks_from b 0 n

-- full sectors: nothing but bytes
pub chunks_full : (b : List ℕ) (n : ℕ) → 512 * n ≤ length b → bytes_in (counted_up (chunk b) 0 n) ≡ take (512 * n) b
chunks_full b n h = bytes_in_chunks b n ∙ take-append-le (512 * n) b (zeros (512 * n)) h

-- all of the bytes, and something behind
pub chunks_hold : (b : List ℕ) (n : ℕ) → length b ≤ 512 * n → bytes_in (counted_up (chunk b) 0 n) ≡ b ++ zeros (512 * n - length b)
chunks_hold b n h =
    bytes_in_chunks b n ∙ (take_app (512 * n) b (zeros (512 * n)) ∙ ap₂ ◌++◌ (take_all (512 * n) b h) (take-zeros (512 * n - length b) (512 * n) (omega arith)))
