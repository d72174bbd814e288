-- An entry's bytes give the entry back, and an entry gives its bytes back.
use Rattle.std.proofs.Common.{◌≡◌, ℕ, zero, suc, ◌+◌, ◌-◌, ◌*◌, ◌/◌, ◌%◌, ◌<◌, ◌≤◌, List, [], ◌∷◌, ◌++◌, length, get_or, take, drop, sym, ap, ◌∙◌, arith, lit≤, drop-cons}
use Rattle.std.proofs.lemmas.List.{get_or-append_right, take_at, drop_at, take_all, drop-drop, length-drop, take-append-drop}
use Rattle.device.specs.Meaning.{Bytes}
use Rattle.layout.specs.Bytes.{part}
use Rattle.layout.specs.Words.{word_at, double_at}
use Rattle.entries.specs.declared.entry.Entry.{Entry}
use Rattle.entries.specs.Entry.{entry_in, entry_rest, entry_bytes}

at : (e : Entry) → length e.name ≡ 16 → (k : ℕ) → 16 ≤ k → get_or (entry_bytes e) k 0 ≡ get_or (entry_rest e) (k - 16) 0
at e n k h = get_or-append_right e.name (entry_rest e) 16 k 0 n h

reserved_back : (e : Entry) → length e.name ≡ 16 → length e.reserved ≡ 3 → part (entry_bytes e) 29 3 ≡ e.reserved
unfolding entry_rest
reserved_back e n r =
    let few : length e.reserved ≤ 3 = omega arith in
    ap (take 3) (sym (drop-drop 13 16 (entry_bytes e)) ∙ ap (drop 13) (drop_at e.name (entry_rest e) 16 n)) ∙ take_all 3 e.reserved few

pub entry_back : (e : Entry) → length e.name ≡ 16 → length e.reserved ≡ 3 → entry_in (entry_bytes e) ≡ e
unfolding entry_in entry_rest
entry_back e n r =
    let b = entry_bytes e in
    let name : part b 0 16 ≡ e.name = take_at e.name (entry_rest e) 16 n in
    let kind : get_or b 16 0 ≡ e.kind = at e n 16 (lit≤ tt) in
    let attributes : get_or b 17 0 ≡ e.attributes = at e n 17 (lit≤ tt) in
    let slot : word_at b 18 ≡ e.slot = omega (arith, at e n 18 (lit≤ tt), at e n 19 (lit≤ tt)) in
    let first : double_at b 20 ≡ e.first = omega (arith, at e n 20 (lit≤ tt), at e n 21 (lit≤ tt), at e n 22 (lit≤ tt), at e n 23 (lit≤ tt)) in
    let size : word_at b 24 ≡ e.size = omega (arith, at e n 24 (lit≤ tt), at e n 25 (lit≤ tt)) in
    let sectors : get_or b 26 0 ≡ e.sectors = at e n 26 (lit≤ tt) in
    let address : word_at b 27 ≡ e.address = omega (arith, at e n 27 (lit≤ tt), at e n 28 (lit≤ tt)) in
    simp (name, kind, attributes, slot, first, size, sectors, address, reserved_back e n r)

-- the n bytes from the one at k on, each by its place
abbrev listed : List ℕ → ℕ → ℕ → List ℕ
listed b k zero = []
listed b k (suc n) = get_or b k 0 ∷ listed b (suc k) n

unrolled : (n k : ℕ) (b : List ℕ) → k + n ≤ length b → drop k b ≡ listed b k n ++ drop (k + n) b
unrolled zero k b h = let e : k ≡ k + zero = omega arith in ap (λ (j : ℕ). drop j b) e
unrolled (suc n) k b h =
    let i : k < length b = omega arith in
    let l : suc k + n ≤ length b = omega arith in
    let e : suc k + n ≡ k + suc n = omega arith in
    drop-cons b k 0 i ∙ ap (λ (t : List ℕ). get_or b k 0 ∷ t) (unrolled n (suc k) b l ∙ ap (λ (j : ℕ). listed b (suc k) n ++ drop j b) e)

low : (x y : ℕ) → x < 256 → (x + y * 256) % 256 ≡ x
low x y h = omega arith

high : (x y : ℕ) → x < 256 → (x + y * 256) / 256 ≡ y
high x y h = omega arith

high_word : (u v : ℕ) → v < 65536 → (u * 65536 + v) / 65536 ≡ u
high_word u v h = omega arith

low_word : (u v : ℕ) → v < 65536 → (u * 65536 + v) % 65536 ≡ v
low_word u v h = omega arith

rest_back : (b : List ℕ) → length b ≡ 32 → Bytes b → entry_rest (entry_in b) ≡ drop 16 b
unfolding entry_in entry_rest
rest_back b n h =
    let g = λ (k : ℕ). get_or b k 0 in
    let room : 16 + 13 ≤ length b = omega arith in
    let all : drop 16 b ≡ listed b 16 13 ++ drop 29 b = unrolled 13 16 b room in
    let few : length (drop 29 b) ≤ 3 = simp length-drop (omega arith) in
    let last : part b 29 3 ≡ drop 29 b = take_all 3 (drop 29 b) few in
    let w : g 22 + g 23 * 256 < 65536 = omega (arith, h 22, h 23) in
    let hw : double_at b 20 / 65536 ≡ g 20 + g 21 * 256 = high_word (g 20 + g 21 * 256) (g 22 + g 23 * 256) w in
    let lw : double_at b 20 % 65536 ≡ g 22 + g 23 * 256 = low_word (g 20 + g 21 * 256) (g 22 + g 23 * 256) w in
    let s0 = low (g 18) (g 19) (h 18) in
    let s1 = high (g 18) (g 19) (h 18) in
    let f0 : double_at b 20 / 65536 % 256 ≡ g 20 = ap (λ (x : ℕ). x % 256) hw ∙ low (g 20) (g 21) (h 20) in
    let f1 : double_at b 20 / 65536 / 256 ≡ g 21 = ap (λ (x : ℕ). x / 256) hw ∙ high (g 20) (g 21) (h 20) in
    let f2 : double_at b 20 % 65536 % 256 ≡ g 22 = ap (λ (x : ℕ). x % 256) lw ∙ low (g 22) (g 23) (h 22) in
    let f3 : double_at b 20 % 65536 / 256 ≡ g 23 = ap (λ (x : ℕ). x / 256) lw ∙ high (g 22) (g 23) (h 22) in
    let z0 = low (g 24) (g 25) (h 24) in
    let z1 = high (g 24) (g 25) (h 24) in
    let a0 = low (g 27) (g 28) (h 27) in
    let a1 = high (g 27) (g 28) (h 27) in
    cc

pub bytes_back : (b : List ℕ) → length b ≡ 32 → Bytes b → entry_bytes (entry_in b) ≡ b
unfolding entry_in
bytes_back b n h = ap (λ (t : List ℕ). take 16 b ++ t) (rest_back b n h) ∙ take-append-drop 16 b
