-- The sectors of a window, and a read and a write of one of them.
use Rattle.std.proofs.Common.{◌≡◌, ℕ, zero, suc, ◌+◌, ◌<◌, ◌≤◌, ◌⊎◌, List, [], ◌∷◌, length, get_or, take, drop, set, Ok, Err, Result, sym, refl, ap, ◌∙◌, subst, inl, inr, arith, length-drop}
use Rattle.std.proofs.lemmas.List.{length-set, get_or-take, get_or-drop, length-take-le, drop-set-add}
use Rattle.device.specs.Faults.{Faults, raised_faults, Checks}
use Rattle.device.specs.Meaning.{Meaning, Sectors, Lawful, Bytes, with_sector, now_failed}
use Rattle.device.specs.Transfers.{Reads, Writes, ReadAnswer, WriteAnswer, OldOrNew}
use Rattle.device.specs.declared.faults.Act.{Act}
use Rattle.device.specs.declared.faults.Fault.{Fault}
use Rattle.layers.specs.Layer.{passed_answer}
use Rattle.layers.specs.Window.{window_count, window_of, ReadsBeneath, WritesBeneath}

-- what the window has is there
count_fits : (s f k : ℕ) → (window_count s f k ≡ 0) ⊎ (f + window_count s f k ≤ s)
count_fits s f k = grind arith

pub length_window : (s : Sectors) (f k : ℕ) →
    length (take (window_count (length s) f k) (drop f s)) ≡ window_count (length s) f k
length_window s f k =
    elim (count_fits (length s) f k) [
      | inl z ↦ rw z
      | inr h ↦ length-take-le (window_count (length s) f k) (drop f s) (simp length-drop (omega arith))
    ]

there : (s : Sectors) (f k i : ℕ) → i < window_count (length s) f k → f + i < length s
there s f k i h = elim (count_fits (length s) f k) [ inl z ↦ omega arith | inr l ↦ omega arith ]

get_or-window : (s : Sectors) (f k i : ℕ) → i < window_count (length s) f k →
    get_or (take (window_count (length s) f k) (drop f s)) i [] ≡ get_or s (f + i) []
get_or-window s f k i h = get_or-take (window_count (length s) f k) (drop f s) i [] h ∙ get_or-drop f s i []

take-set : {X : Type 0} (n i : ℕ) (xs : List X) (y : X) → take n (set xs i y) ≡ set (take n xs) i y
take-set zero i xs y = refl
take-set (suc n) i [] y = refl
take-set (suc n) zero (x ∷ xs) y = refl
take-set (suc n) (suc i) (x ∷ xs) y = ap (λ t. x ∷ t) (take-set n i xs y)

set_window : (s : Sectors) (f k i : ℕ) (y : List ℕ) →
    take (window_count (length (set s (f + i) y)) f k) (drop f (set s (f + i) y))
    ≡ set (take (window_count (length s) f k) (drop f s)) i y
set_window s f k i y =
    ap (λ (n : ℕ). take (window_count n f k) (drop f (set s (f + i) y))) (length-set s (f + i) y)
    ∙ ap (take (window_count (length s) f k)) (drop-set-add f s i y)
    ∙ take-set (window_count (length s) f k) i (drop f s) y

-- a write beneath is a write of the window
window_set : (m : Meaning) (f k i : ℕ) (y : List ℕ) →
    window_of (with_sector m (f + i) y) f k ≡ with_sector (window_of m f k) i y
window_set m f k i y =
    ap (λ (s : Sectors). record { sectors = s; geometry = m.geometry; condition = m.condition }) (set_window m.sectors f k i y)

few : (s f k : ℕ) → s ≤ 268435456 → window_count s f k ≤ 268435456
few s f k h = elim (count_fits s f k) [ inl z ↦ omega arith | inr l ↦ omega arith ]

none_below : (i : ℕ) → get_or {A = ℕ} [] i 0 < 256
none_below i = omega arith

-- what is taken of bytes is bytes, sector by sector
bytes_taken : (n : ℕ) (s : Sectors) → ((i : ℕ) → Bytes (get_or s i [])) → (i : ℕ) → Bytes (get_or (take n s) i [])
bytes_taken zero s h i j = none_below j
bytes_taken (suc n) [] h i j = none_below j
bytes_taken (suc n) (x ∷ xs) h zero j = h 0 j
bytes_taken (suc n) (x ∷ xs) h (suc i) j = bytes_taken n xs (λ k. h (suc k)) i j

bytes_left : (n : ℕ) (s : Sectors) → ((i : ℕ) → Bytes (get_or s i [])) → (i : ℕ) → Bytes (get_or (drop n s) i [])
bytes_left n s h i = rw get_or-drop (h (n + i))

pub window_lawful : (m : Meaning) (f k : ℕ) → Lawful m → Lawful (window_of m f k)
window_lawful m f k l = record {
  few = rw length_window (few (length m.sectors) f k l.few);
  whole = λ i h.
      let h' : i < window_count (length m.sectors) f k = rw length_window at h in
      ap length (get_or-window m.sectors f k i h') ∙ l.whole (f + i) (there m.sectors f k i h');
  bytes = bytes_taken (window_count (length m.sectors) f k) (drop f m.sectors) (bytes_left f m.sectors l.bytes);
}

past : (s : Sectors) (f k i : ℕ) → i < window_count (length s) f k →
    length (take (window_count (length s) f k) (drop f s)) ≤ i → ⊥
past s f k i h o = omega (arith, length_window s f k)

abbrev shown : (f k : ℕ) → Meaning → Meaning
shown f k m = window_of m f k

read_answer : (t : Faults) (m m' : Meaning) (f k i : ℕ) (b b' : List ℕ) (a : Result (Unit {0}) Fault) →
    i < window_count (length m.sectors) f k → ReadAnswer t m m' (f + i) b b' a →
    ReadAnswer (raised_faults t (λ n. f + n)) (window_of m f k) (window_of m' f k) i b b' (passed_answer a)
read_answer t m m' f k i b b' (Ok u) h p = (p.0, p.1 ∙ sym (get_or-window m.sectors f k i h), ap (shown f k) p.2)
read_answer t m m' f k i b b' (Err e) h p = (p.0, (e, p.1, refl), p.2, ap (shown f k) p.3)

-- a read of a sector of the window is a read beneath
pub window_reads : {t : Faults} {m m' : Meaning} (f k i : ℕ) {b b' : List ℕ} {a r : Result (Unit {0}) Fault} →
    r ≡ passed_answer a → i < window_count (length m.sectors) f k → length b ≡ 512 → Reads t m m' (f + i) b b' a →
    Reads (raised_faults t (λ n. f + n)) (window_of m f k) (window_of m' f k) i b b' r
window_reads {t = t} {m = m} {m' = m'} f k i {b = b} {b' = b'} {a = a} q h l p = record {
  wrong_length = λ ne. elim (ne l) [ ];
  out_of_range = λ _ o. elim (past m.sectors f k i h o) [ ];
  otherwise = λ _ _.
      subst (λ (x : Result (Unit {0}) Fault). ReadAnswer (raised_faults t (λ n. f + n)) (window_of m f k) (window_of m' f k) i b b' x)
      (sym q) (read_answer t m m' f k i b b' a h (p.otherwise l (there m.sectors f k i h)));
}

old_or_new : (m m' : Meaning) (f k i : ℕ) (b : List ℕ) → OldOrNew m m' (f + i) b →
    OldOrNew (window_of m f k) (window_of m' f k) i b
old_or_new m m' f k i b (inl e) = inl (ap (shown f k) e)
old_or_new m m' f k i b (inr p) = inr (p.0, ap (shown f k) p.1 ∙ ap now_failed (window_set m f k i b))

write_answer : (t : Faults) (m m' : Meaning) (f k i : ℕ) (b : List ℕ) (a : Result (Unit {0}) Fault) →
    WriteAnswer t m m' (f + i) b a →
    WriteAnswer (raised_faults t (λ n. f + n)) (window_of m f k) (window_of m' f k) i b (passed_answer a)
write_answer t m m' f k i b (Ok u) p = (p.0, ap (shown f k) p.1 ∙ window_set m f k i b)
write_answer t m m' f k i b (Err e) p = (p.0, (e, p.1, refl), old_or_new m m' f k i b p.2)

-- a write of a sector of the window is a write beneath
pub window_writes : {t : Faults} {m m' : Meaning} (f k i : ℕ) {b : List ℕ} {a r : Result (Unit {0}) Fault} →
    r ≡ passed_answer a → i < window_count (length m.sectors) f k → length b ≡ 512 → Writes t m m' (f + i) b a →
    Writes (raised_faults t (λ n. f + n)) (window_of m f k) (window_of m' f k) i b r
window_writes {t = t} {m = m} {m' = m'} f k i {b = b} {a = a} q h l p = record {
  wrong_length = λ ne. elim (ne l) [ ];
  out_of_range = λ _ o. elim (past m.sectors f k i h o) [ ];
  otherwise = λ _ _.
      subst (λ (x : Result (Unit {0}) Fault). WriteAnswer (raised_faults t (λ n. f + n)) (window_of m f k) (window_of m' f k) i b x)
      (sym q) (write_answer t m m' f k i b a (p.otherwise l (there m.sectors f k i h)));
}

apart : {a b : ℕ} → a ≤ b → b < a → ⊥
apart h k = omega arith

err_ok : {f : Fault} {u : Unit {0}} → ◌≡◌ {A = Result (Unit {0}) Fault} (Err f) (Ok u) → ⊥
err_ok e = let z : ◌≡◌ {A = ℕ} 0 1 = cc in omega arith

refused : {c : Act} {n s s' k : ℕ} {f : Fault} → s ≡ s' → Checks c n s k (Err f) → k ≡ 512 → n < s' → ⊥
refused {n = n} {s = s} e c l h = err_ok (c.otherwise l (let i : n < s = omega arith in i))

-- what was asked of the device beneath: nothing, where the layer refused itself
pub none_read_beneath : {c : Act} {t : Faults} {m : Meaning} {f k n s : ℕ} {b b' : List ℕ} {e : Fault} {r : Result (Unit {0}) Fault} →
    s ≡ window_count (length m.sectors) f k → Checks c n s (length b) (Err e) → ReadsBeneath t m m f k n b b' r
none_read_beneath q c = record {
  wrong_length = λ _. refl;
  out_of_range = λ _ _. refl;
  otherwise = λ l h. absurd (refused q c l h);
}

pub none_written_beneath : {c : Act} {t : Faults} {m : Meaning} {f k n s : ℕ} {b : List ℕ} {e : Fault} {r : Result (Unit {0}) Fault} →
    s ≡ window_count (length m.sectors) f k → Checks c n s (length b) (Err e) → WritesBeneath t m m f k n b r
none_written_beneath q c = record {
  wrong_length = λ _. refl;
  out_of_range = λ _ _. refl;
  otherwise = λ l h. absurd (refused q c l h);
}

pub read_beneath : {t : Faults} {m m' : Meaning} (f k i : ℕ) {b b' : List ℕ} {a r : Result (Unit {0}) Fault} → r ≡ passed_answer a →
    i < window_count (length m.sectors) f k → length b ≡ 512 → Reads t m m' (f + i) b b' a → ReadsBeneath t m m' f k i b b' r
read_beneath {m = m} f k i {a = a} q h l p = record {
  wrong_length = λ ne. elim (ne l) [ ];
  out_of_range = λ _ o. elim (apart o h) [ ];
  otherwise = λ _ _. (a, q, p.otherwise l (there m.sectors f k i h));
}

pub written_beneath : {t : Faults} {m m' : Meaning} (f k i : ℕ) {b : List ℕ} {a r : Result (Unit {0}) Fault} → r ≡ passed_answer a →
    i < window_count (length m.sectors) f k → length b ≡ 512 → Writes t m m' (f + i) b a → WritesBeneath t m m' f k i b r
written_beneath {m = m} f k i {a = a} q h l p = record {
  wrong_length = λ ne. elim (ne l) [ ];
  out_of_range = λ _ o. elim (apart o h) [ ];
  otherwise = λ _ _. (a, q, p.otherwise l (there m.sectors f k i h));
}
