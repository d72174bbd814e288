-- The sectors of a run of bytes, and a read and a write of one of them.
use Rattle.std.proofs.Common.{◌≡◌, ℕ, zero, suc, ◌+◌, ◌-◌, ◌*◌, ◌<◌, ◌≤◌, ◌≢◌, ◌⊎◌, List, [], length, get_or, take, drop, set, Ok, sym, refl, ap, ◌∙◌, inl, inr, arith, length-drop}
use borrow.Rule.Slice.PartMut.{put_mid}
use Rattle.std.specs.List.{between}
use Rattle.std.proofs.lemmas.Bool.{cases_eq}
use Rattle.std.proofs.lemmas.List.{length-append, length-set, get_or-set_same, get_or-set_other, drop-drop, length-take-le, ext_get_or}
use Rattle.std.proofs.lemmas.Slice.{between_is, take-put_mid_below, drop-put_mid, between-put_mid}
use Rattle.stores.specs.Image.{sectors_in, image_count, image_of}
use Rattle.device.proofs.ByteLists.{no_bytes, take-bytes, drop-bytes}
use Rattle.device.specs.Meaning.{Bytes, with_sector, Lawful}
use Rattle.device.specs.Transfers.{Reads, Writes}
use Rattle.device.specs.declared.faults.Geometry.{Geometry}

pub length-sectors_in : (n : ℕ) (bs : List ℕ) → length (sectors_in n bs) ≡ n
unfolding sectors_in
length-sectors_in zero bs = refl
length-sectors_in (suc n) bs = ap suc (length-sectors_in n (drop 512 bs))

le_or_lt : (a b : ℕ) → (a ≤ b) ⊎ (b < a)
le_or_lt a b = grind arith

none : (k : ℕ) → k < 0 → ⊥
none k h = omega arith

pub get_or-sectors_in : (n k : ℕ) (bs : List ℕ) → k < n → get_or (sectors_in n bs) k [] ≡ take 512 (drop (512 * k) bs)
unfolding sectors_in
get_or-sectors_in zero k bs h = elim (none k h) [ ]
get_or-sectors_in (suc n) zero bs h = refl
get_or-sectors_in (suc n) (suc k) bs h =
    let l : k < n = omega arith in
    let e : 512 + 512 * k ≡ 512 * suc k = omega arith in
    get_or-sectors_in n k (drop 512 bs) l ∙ ap (take 512) (drop-drop (512 * k) 512 bs ∙ ap (λ (j : ℕ). drop j bs) e)

pub count_fits : (k : ℕ) → 512 * image_count k ≤ k
count_fits k = grind (arith)

pub count_few : (k : ℕ) → image_count k ≤ 268435456
count_few k = grind (arith)

part_kept : (n k i : ℕ) (bs ys : List ℕ) → k < n → i < n → 512 * n ≤ length bs → length ys ≡ 512 → i ≢ k →
    take 512 (drop (512 * i) (put_mid (512 * k) 512 bs ys)) ≡ take 512 (drop (512 * i) bs)
part_kept n k i bs ys h hi f l other =
    let a : 512 * k ≤ length bs = omega arith in
    elim (le_or_lt i k) [
      | inl le ↦
          let d : 512 * i + 512 - 512 * i ≡ 512 = omega arith in
          let b : 512 * i + 512 ≤ 512 * k = omega arith in
          let w : between (512 * i) (512 * i + 512) (put_mid (512 * k) 512 bs ys) ≡ between (512 * i) (512 * i + 512) bs =
          between_is (put_mid (512 * k) 512 bs ys) (512 * i) (512 * i + 512)
          ∙ ap (drop (512 * i)) (take-put_mid_below (512 * k) 512 bs ys (512 * i + 512) b a)
          ∙ sym (between_is bs (512 * i) (512 * i + 512)) in
          rw d at w
      | inr gt ↦
          let b : 512 * k + 512 ≤ 512 * i = omega arith in
          ap (take 512) (drop-put_mid (512 * k) 512 bs ys (512 * i) b a l)
    ]

sectors_in_put_at : (n k i : ℕ) (bs ys : List ℕ) → k < n → i < n → 512 * n ≤ length bs → length ys ≡ 512 →
    get_or (sectors_in n (put_mid (512 * k) 512 bs ys)) i [] ≡ get_or (set (sectors_in n bs) k ys) i []
sectors_in_put_at n k i bs ys h hi f l =
    let e = get_or-sectors_in n i (put_mid (512 * k) 512 bs ys) hi in
    let in-k : k < length (sectors_in n bs) = rw length-sectors_in h in
    let a : 512 * k ≤ length bs = omega arith in
    elim (cases_eq i k) [
      | inl same ↦
          let b : 512 * k + 512 - 512 * k ≡ 512 = omega arith in
          let l' : length ys ≡ 512 * k + 512 - 512 * k = omega arith in
          let m = between-put_mid (512 * k) 512 bs ys (512 * k + 512) a l' in
          let m' : take 512 (drop (512 * k) (put_mid (512 * k) 512 bs ys)) ≡ ys = rw b at m in
          rw (same, get_or-set_same) (get_or-sectors_in n k (put_mid (512 * k) 512 bs ys) h ∙ m')
      | inr other ↦
          let p : get_or (set (sectors_in n bs) k ys) i [] ≡ get_or (sectors_in n bs) i [] = get_or-set_other (sectors_in n bs) k i ys [] other in
          e ∙ part_kept n k i bs ys h hi f l other ∙ sym (p ∙ get_or-sectors_in n i bs hi)
    ]

pub sectors_in_put : (n k : ℕ) (bs ys : List ℕ) → k < n → 512 * n ≤ length bs → length ys ≡ 512 →
    sectors_in n (put_mid (512 * k) 512 bs ys) ≡ set (sectors_in n bs) k ys
sectors_in_put n k bs ys h f l =
    ext_get_or [] _ _ (length-sectors_in n (put_mid (512 * k) 512 bs ys) ∙ sym (length-set (sectors_in n bs) k ys ∙ length-sectors_in n bs))
    (λ i hi. let hi' : i < n = rw length-sectors_in at hi in sectors_in_put_at n k i bs ys h hi' f l)

pub put_image : (bs : List ℕ) (k : ℕ) (ys : List ℕ) (g : Geometry) → k < image_count (length bs) → length ys ≡ 512 →
    image_of (put_mid (512 * k) (512 * k + 512 - 512 * k) bs ys) g ≡ with_sector (image_of bs g) k ys
put_image bs k ys g h l =
    let d : 512 * k + 512 - 512 * k ≡ 512 = omega arith in
    let f = count_fits (length bs) in
    let a : 512 * k + 512 ≤ length bs = omega arith in
    let a' : 512 * k ≤ length bs = omega arith in
    let e : length (put_mid (512 * k) 512 bs ys) ≡ length bs = simp (length-append, length-take-le, length-drop) (omega arith) in
    let n = image_count (length bs) in
    let s : sectors_in (image_count (length (put_mid (512 * k) 512 bs ys))) (put_mid (512 * k) 512 bs ys) ≡ set (sectors_in n bs) k ys =
    ap (λ (j : ℕ). sectors_in (image_count j) (put_mid (512 * k) 512 bs ys)) e ∙ sectors_in_put n k bs ys h f l in
    rw (d, s)

inside : (bs : List ℕ) (k : ℕ) → k < image_count (length bs) → length (sectors_in (image_count (length bs)) bs) ≤ k → ⊥
inside bs k h o = omega (arith, length-sectors_in (image_count (length bs)) bs)

room : (bs : List ℕ) (k : ℕ) → k < image_count (length bs) → 512 ≤ length (drop (512 * k) bs)
room bs k h = let f = count_fits (length bs) in simp length-drop (omega arith)

-- an accepted write
pub image_writes : (bs : List ℕ) (k : ℕ) (ys b : List ℕ) (g : Geometry) → k < image_count (length bs) → ys ≡ b → length b ≡ 512 →
    Writes (λ a n f. ⊥) (image_of bs g) (image_of (put_mid (512 * k) (512 * k + 512 - 512 * k) bs ys) g) k b (Ok tt)
image_writes bs k ys b g h e l = record {
  wrong_length = λ ne. elim (ne l) [ ];
  out_of_range = λ _ o. elim (inside bs k h o) [ ];
  otherwise = λ _ _. (tt, put_image bs k ys g h (ap length e ∙ l) ∙ ap (with_sector (image_of bs g) k) e);
}

-- an accepted read
pub image_reads : (bs : List ℕ) (k : ℕ) (b b' : List ℕ) (g : Geometry) → k < image_count (length bs) → length b ≡ 512 →
    b' ≡ take 512 (drop (512 * k) bs) → Reads (λ a n f. ⊥) (image_of bs g) (image_of bs g) k b b' (Ok tt)
image_reads bs k b b' g h l e = record {
  wrong_length = λ ne. elim (ne l) [ ];
  out_of_range = λ _ o. elim (inside bs k h o) [ ];
  otherwise = λ _ _. (tt, e ∙ sym (get_or-sectors_in (image_count (length bs)) k bs h), refl);
}

bytes_below : (n k : ℕ) (bs : List ℕ) → Bytes bs → Bytes (get_or (sectors_in n bs) k [])
unfolding sectors_in
bytes_below zero k bs h i = no_bytes i
bytes_below (suc n) zero bs h i = take-bytes 512 bs h i
bytes_below (suc n) (suc k) bs h i = bytes_below n k (drop 512 bs) (drop-bytes 512 bs h) i

pub image_lawful : (bs : List ℕ) (g : Geometry) → Bytes bs → Lawful (image_of bs g)
image_lawful bs g b = record {
  few = rw length-sectors_in (count_few (length bs));
  whole = λ k h.
      let n = image_count (length bs) in
      let h' : k < n = rw length-sectors_in at h in
      ap length (get_or-sectors_in n k bs h') ∙ length-take-le 512 (drop (512 * k) bs) (room bs k h');
  bytes = λ k. bytes_below (image_count (length bs)) k bs b;
}
