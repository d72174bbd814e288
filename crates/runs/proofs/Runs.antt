-- Writes in a row.
use Rattle.std.proofs.Common.{◌≡◌, ℕ, zero, suc, ◌+◌, ◌<◌, ◌≤◌, ◌≢◌, ◌⊎◌, List, [], ◌∷◌, ◌++◌, length, get_or, take, set, Ok, Err, sym, refl, ap, ◌∙◌, subst, inl, inr, add-zero, add-one, arith}
use Rattle.std.proofs.lemmas.List.{length-set, get_or-set_same, get_or-set_other}
use Rattle.std.proofs.lemmas.Bool.{cases_eq}
use Rattle.device.specs.Faults.{Faults, Within}
use Rattle.device.specs.Meaning.{Meaning, Sectors, MayAccept, with_sector, now_failed, zeros, well}
use Rattle.device.specs.Transfers.{Writes, OldOrNew}
use Rattle.device.specs.declared.faults.Fault.{Fault}
use Rattle.device.specs.declared.faults.Act.TheVariants.{Write}
use Rattle.device.proofs.Zeros.{length-zeros}
use Rattle.runs.specs.Writes.{SectorWrite, write_of, applied, with_sectors, failed_with, Interrupted, zeroing}

pub applied_more : (s : Sectors) (ws : List SectorWrite) (w : SectorWrite) → applied s (ws ++ w ∷ []) ≡ set (applied s ws) w.at w.bytes
unfolding applied
applied_more s [] w = refl
applied_more s (v ∷ ws) w = applied_more (set s v.at v.bytes) ws w

pub length-applied : (s : Sectors) (ws : List SectorWrite) → length (applied s ws) ≡ length s
unfolding applied
length-applied s [] = refl
length-applied s (w ∷ ws) = length-applied (set s w.at w.bytes) ws ∙ length-set s w.at w.bytes

abbrev zero_at : ℕ → SectorWrite
zero_at a = write_of a (zeros 512)

pub length-zeroing : (a n : ℕ) → length (zeroing a n) ≡ n
unfolding zeroing
length-zeroing a zero = refl
length-zeroing a (suc n) = ap suc (length-zeroing (a + 1) n)

pub get_or-zeroing : (a n i : ℕ) (d : SectorWrite) → i < n → get_or (zeroing a n) i d ≡ zero_at (a + i)
unfolding zeroing
get_or-zeroing a zero i d h = absurd (omega arith)
get_or-zeroing a (suc n) zero d h = rw add-zero
get_or-zeroing a (suc n) (suc i) d h =
    let l : i < n = omega arith in
    let e : (a + 1) + i ≡ a + suc i = omega arith in
    get_or-zeroing (a + 1) n i d l ∙ ap zero_at e

pub zeroing_suc : (a i : ℕ) → zeroing a (suc i) ≡ zeroing a i ++ zero_at (a + i) ∷ []
unfolding zeroing
zeroing_suc a zero = rw add-zero
zeroing_suc a (suc i) =
    let e : (a + 1) + i ≡ a + suc i = omega arith in
    ap (λ t. zero_at a ∷ t) (zeroing_suc (a + 1) i ∙ ap (λ (k : ℕ). zeroing (a + 1) i ++ zero_at k ∷ []) e)

pub take-zeroing : (a n i : ℕ) → i ≤ n → take i (zeroing a n) ≡ zeroing a i
unfolding zeroing
take-zeroing a n zero h = refl
take-zeroing a zero (suc i) h = absurd (omega arith)
take-zeroing a (suc n) (suc i) h = let l : i ≤ n = omega arith in ap (λ t. zero_at a ∷ t) (take-zeroing (a + 1) n i l)

-- after i writes of zeros
abbrev pub zeroed : Meaning → ℕ → ℕ → Meaning
zeroed m a i = with_sectors m (applied m.sectors (zeroing a i))

pub zeroed_more : (m : Meaning) (a i : ℕ) → with_sector (zeroed m a i) (a + i) (zeros 512) ≡ zeroed m a (i + 1)
zeroed_more m a i =
    ap (with_sectors m) (sym (ap (applied m.sectors) (ap (zeroing a) (add-one i) ∙ zeroing_suc a i) ∙ applied_more m.sectors (zeroing a i) (zero_at (a + i))))

pub zeroed_inside : (m : Meaning) (a n i : ℕ) → a + n ≤ length m.sectors → i < n → a + i < length (zeroed m a i).sectors
zeroed_inside m a n i h l = rw length-applied (omega arith)

pub step : {t : Faults} (m : Meaning) {m₁ m' : Meaning} (a n i : ℕ) → a + n ≤ length m.sectors → i < n → m₁ ≡ zeroed m a i →
    Writes t m₁ m' (a + i) (zeros 512) (Ok tt) → (m' ≡ zeroed m a (i + 1)) × MayAccept m.condition
step {t = t} m {m' = m'} a n i h l e w =
    let w' = (subst (λ (x : Meaning). Writes t x m' (a + i) (zeros 512) (Ok tt)) e w).otherwise (length-zeros 512) (zeroed_inside m a n i h l) in
    (w'.1 ∙ zeroed_more m a i, w'.0)

left : (m m' : Meaning) (a n i : ℕ) → i < n → OldOrNew (zeroed m a i) m' (a + i) (zeros 512) →
    (m' ≡ failed_with m (applied m.sectors (take i (zeroing a n))))
    ⊎ ((m.condition ≡ well) × (m' ≡ failed_with m (applied m.sectors (take (i + 1) (zeroing a n)))))
left m m' a n i l (inl e) =
    inl (e ∙ ap (λ (ws : List SectorWrite). failed_with m (applied m.sectors ws)) (sym (take-zeroing a n i (omega arith))))
left m m' a n i l (inr p) =
    inr (p.0, p.1 ∙ ap now_failed (zeroed_more m a i) ∙ ap (λ (ws : List SectorWrite). failed_with m (applied m.sectors ws)) (sym (take-zeroing a n (i + 1) (omega arith))))

pub broke : {t u : Faults} (m : Meaning) {m₁ m' : Meaning} (a n i : ℕ) (f : Fault) → a + n ≤ length m.sectors → i < n → m₁ ≡ zeroed m a i →
    Within t u → (0 < i → MayAccept m.condition) →
    Writes t m₁ m' (a + i) (zeros 512) (Err f) → Interrupted u m m' (zeroing a n) f
broke {t = t} {u = u} m {m' = m'} a n i f h l e k ok w =
    let w' = (subst (λ (x : Meaning). Writes t x m' (a + i) (zeros 512) (Err f)) e w).otherwise (length-zeros 512) (zeroed_inside m a n i h l) in
    record {
      which = i;
      is_one = rw length-zeroing l;
      accepted = ok;
      refusable = w'.0;
      names = rw (get_or-zeroing a n i (write_of 0 []) l) (k Write (a + i) f w'.1);
      leaves = left m m' a n i l w'.2;
    }

-- what lies at sector k once the n sectors from a on are zeroed
pub zeroed_outside : (s : Sectors) (a n k : ℕ) → (k < a) ⊎ (a + n ≤ k) → get_or (applied s (zeroing a n)) k [] ≡ get_or s k []
unfolding applied zeroing
zeroed_outside s a zero k h = refl
zeroed_outside s a (suc n) k h =
    let apart : k ≢ a = λ e. elim h [ inl l ↦ omega arith | inr l ↦ omega arith ] in
    let rest : (k < a + 1) ⊎ ((a + 1) + n ≤ k) = elim h [ inl l ↦ inl (let q : k < a + 1 = omega arith in q) | inr l ↦ inr (let q : (a + 1) + n ≤ k = omega arith in q) ] in
    zeroed_outside (set s a (zeros 512)) (a + 1) n k rest ∙ get_or-set_other s a k (zeros 512) [] apart

pub zeroed_within : (s : Sectors) (a n k : ℕ) → a ≤ k → k < a + n → k < length s → get_or (applied s (zeroing a n)) k [] ≡ zeros 512
unfolding applied zeroing
zeroed_within s a zero k h l i = absurd (omega arith)
zeroed_within s a (suc n) k h l i =
    elim (cases_eq k a) [
      | inl e ↦
          let before : k < a + 1 = omega arith in
          let i' : a < length s = omega arith in
          zeroed_outside (set s a (zeros 512)) (a + 1) n k (inl before)
          ∙ ap (λ (j : ℕ). get_or (set s a (zeros 512)) j []) e ∙ get_or-set_same s a (zeros 512) [] i'
      | inr ne ↦
          let h' : a + 1 ≤ k = omega arith in
          let l' : k < (a + 1) + n = omega arith in
          let i' : k < length (set s a (zeros 512)) = rw length-set i in
          zeroed_within (set s a (zeros 512)) (a + 1) n k h' l' i'
    ]
