-- The master sector put together, and read again.
use Rattle.std.proofs.Common.{◌≡◌, ℕ, ◌+◌, ◌-◌, ◌*◌, ◌/◌, ◌%◌, ◌<◌, ◌≤◌, true, false, ltb, List, [], ◌++◌, length, take, drop, Some, None, Ok, sym, refl, ap, ◌∙◌, ap₂, arith, lit≤, length-append, lt-ltb, eq-eqb, le-leb}
use Rattle.std.proofs.lemmas.Bool.{and_from, and_right}
use Rattle.std.proofs.lemmas.List.{drop_all, drop-drop, drop-append-le, append_assoc, take_at, drop_at}
use Rattle.std.specs.Str.{bytes_eq}
use Rattle.layout.specs.Bytes.{part}
use Rattle.layout.specs.Words.{word_at, double_at}
use Rattle.layout.specs.Sizes.{entries_of, area_of, slots_of, layout_of}
use Rattle.layout.specs.Label.{bad_field, label_front, label_head, label_sector, label_in, read_label, answered, dos_name, dos_version, signature, LawfulLabel}
use Rattle.layout.specs.declared.label.Label.{Label}
use Rattle.layout.specs.declared.sizes.Layout.{Layout}
use Rattle.device.specs.Meaning.{zeros}
use Rattle.device.proofs.Zeros.{length-zeros, take-zeros, drop-zeros}

-- what a part that ends with the list leaves behind it
pub nothing_behind : (s : List ℕ) (a k : ℕ) → length s ≡ a + k → drop k (drop a s) ≡ []
nothing_behind s a k e = let h : length s ≤ a + k = omega arith in drop-drop k a s ∙ drop_all (a + k) s h

-- n zeros cut short and signed, without the first k bytes
pub signed_rest : (k m n : ℕ) (s t : List ℕ) → k ≤ m → m ≤ n → s ≡ take m (zeros n) ++ t → drop k s ≡ zeros (m - k) ++ t
signed_rest k m n s t h l e =
    let z : k ≤ length (zeros m) = omega (arith, length-zeros m) in
    ap (drop k) (e ∙ ap (λ (x : List ℕ). x ++ t) (take-zeros m n l)) ∙ drop-append-le k (zeros m) t z
    ∙ ap (λ (x : List ℕ). x ++ t) (drop-zeros k m)

-- a word and a double word read again
word_back : (w : ℕ) → w % 256 + w / 256 * 256 ≡ w
word_back w = omega arith

double_back : (d : ℕ) →
    (d / 65536 % 256 + d / 65536 / 256 * 256) * 65536 + (d % 65536 % 256 + d % 65536 / 256 * 256) ≡ d
double_back d = omega arith

head_length : (l : Label) → length l.name ≡ 16 → length l.id ≡ 4 → length (label_head l) ≡ 52
unfolding label_front
head_length l n i = omega (arith, length-append l.name l.id)

signature_back : (l : Label) → length l.name ≡ 16 → length l.id ≡ 4 → part (label_sector l) 510 2 ≡ signature
unfolding label_sector
signature_back l n i =
    let rest = zeros 458 ++ signature in
    ap (take 2)
    (sym (drop-drop 458 52 (label_head l ++ rest)) ∙ ap (drop 458) (drop_at (label_head l) rest 52 (head_length l n i))
    ∙ drop_at (zeros 458) signature 458 (length-zeros 458))

name_back : (l : Label) → length l.name ≡ 16 → part (label_sector l) 32 16 ≡ l.name
unfolding label_sector label_front
name_back l n =
    let rest = zeros 458 ++ signature in
    ap (take 16) (append_assoc l.name l.id rest) ∙ take_at l.name (l.id ++ rest) 16 n

id_back : (l : Label) → length l.name ≡ 16 → length l.id ≡ 4 → part (label_sector l) 48 4 ≡ l.id
unfolding label_sector label_front
id_back l n i =
    let rest = zeros 458 ++ signature in
    ap (λ (x : List ℕ). take 4 (drop 16 x)) (append_assoc l.name l.id rest)
    ∙ ap (take 4) (drop_at l.name (l.id ++ rest) 16 n) ∙ take_at l.id rest 4 i

sectors_back : (l : Label) → double_at (label_sector l) 15 ≡ l.layout.sectors
unfolding label_sector label_front
sectors_back l = double_back l.layout.sectors

-- each field that is checked, as the sector has it
texts_back : (l : Label) → (bytes_eq (part (label_sector l) 0 9) dos_name ≡ true) × (bytes_eq (part (label_sector l) 10 4) dos_version ≡ true)
unfolding label_sector label_front
texts_back l = (refl, refl)

words_back : (l : Label) →
    (word_at (label_sector l) 25 ≡ l.layout.entries) × (word_at (label_sector l) 27 ≡ 1) × (word_at (label_sector l) 29 ≡ l.layout.area)
unfolding label_sector label_front
words_back l = (word_back l.layout.entries, refl, word_back l.layout.area)

geometry_back : (l : Label) →
    (word_at (label_sector l) 19 ≡ l.geometry.cylinders) × (word_at (label_sector l) 21 ≡ l.geometry.sectors_per_track)
    × (word_at (label_sector l) 23 ≡ l.geometry.heads)
unfolding label_sector label_front
geometry_back l = (word_back l.geometry.cylinders, word_back l.geometry.sectors_per_track, word_back l.geometry.heads)

no_bad_field : (l : Label) (n : ℕ) → length l.name ≡ 16 → length l.id ≡ 4 → LawfulLabel l n → bad_field n (label_sector l) ≡ None
unfolding bad_field
no_bad_field l n ln li p =
    let b = label_sector l in
    let s = l.layout.sectors in
    let some : 0 < n = omega arith in
    let entries : word_at b 25 ≡ entries_of s = (words_back l).0 ∙ ap (λ (x : Layout). x.entries) p.layout in
    let area : word_at b 29 ≡ area_of s = (words_back l).2 ∙ ap (λ (x : Layout). x.area) p.layout in
    let signed = ap (λ (x : List ℕ). bytes_eq x signature) (signature_back l ln li) in
    simp (
      sectors_back l,
      and_from _ _ (lt-ltb 0 n some) (texts_back l).0,
      (texts_back l).1,
      and_from _ _ (le-leb s n p.sectors) (lt-ltb 0 (slots_of s) p.slots),
      eq-eqb _ _ entries,
      eq-eqb _ _ (words_back l).1,
      eq-eqb _ _ area,
      signed,
    )

label_in_back : (l : Label) (n : ℕ) → length l.name ≡ 16 → length l.id ≡ 4 → LawfulLabel l n → label_in (label_sector l) ≡ l
unfolding label_in
label_in_back l n ln li p =
    let layout = ap layout_of (sectors_back l) ∙ sym p.layout in
    let g = geometry_back l in
    simp (layout, g.0, g.1, g.2, name_back l ln, id_back l ln li)

-- a master sector that we write is read as the label that it was written for
pub label_back : (l : Label) (n : ℕ) → length l.name ≡ 16 → length l.id ≡ 4 → LawfulLabel l n → read_label n (label_sector l) ≡ Ok l
label_back l n ln li p = ap₂ answered (no_bad_field l n ln li p) (label_in_back l n ln li p)

pub length-label_sector : (l : Label) → length l.name ≡ 16 → length l.id ≡ 4 → length (label_sector l) ≡ 512
unfolding label_sector
length-label_sector l n i =
    length-append (label_head l) (zeros 458 ++ signature)
    ∙ ap₂ (λ (a b : ℕ). a + b) (head_length l n i) (length-append (zeros 458) signature ∙ ap (λ (a : ℕ). a + 2) (length-zeros 458))

zeros_no_name : bytes_eq (zeros 9) dos_name ≡ false
unfolding zeros
zeros_no_name = refl

-- a sector of zeros is no master sector: its first field fails
pub zeros_bad : (n : ℕ) → bad_field n (zeros 512) ≡ Some 0
unfolding bad_field
zeros_bad n =
    let named = ap (λ (x : List ℕ). bytes_eq x dos_name) (take-zeros 9 512 (lit≤ tt)) ∙ zeros_no_name in
    rw (and_right (ltb 0 n) _ named)
