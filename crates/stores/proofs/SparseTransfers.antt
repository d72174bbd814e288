-- Reads and writes of a sparse card.
use Rattle.std.proofs.Common.{◌≡◌, ℕ, ◌<◌, ◌≤◌, Bool, true, false, cond, ◌≢◌, List, [], length, get_or, set, Ok, Err, Result, sym, refl, ap, subst, inl, inr, arith}
use Rattle.std.proofs.lemmas.Bool.{true≢false, both_ways, cases_lt}
use Rattle.std.proofs.lemmas.List.{get_or_past}
use Rattle.device.specs.Faults.{fault, Checks}
use Rattle.device.specs.Meaning.{Sectors, Bytes, Lawful, MayRefuse, zeros, well, failed}
use Rattle.device.specs.Transfers.{Reads, Writes}
use Rattle.device.specs.declared.faults.Fault.{Fault}
use Rattle.device.specs.declared.faults.Geometry.{Geometry}
use Rattle.device.specs.declared.faults.Cause.TheVariants.{Device}
use Rattle.device.specs.declared.faults.Act.TheVariants.{Read, Write}
use Rattle.device.proofs.Zeros.{length-zeros, get_or-zeros}
use Rattle.kept.specs.Kept.{Places}
use Rattle.stores.specs.Sparse.{sparse_count, sparse_sectors, sparse_of, sparse_faults, SparseSound, Full, Begins}
use Rattle.stores.proofs.SparseTables.{length_sparse, sector_each}

pub count_few : (n : ℕ) → sparse_count n ≤ 268435456
count_few n = grind arith

small : {i : ℕ} → i ≡ 0 → i < 256
small e = omega arith

zeros_below : (n : ℕ) → Bytes (zeros n)
zeros_below n i =
    small (elim (cases_lt i n) [ inl h ↦ get_or-zeros n i h | inr h ↦ get_or_past (zeros n) i 0 (subst (λ (v : ℕ). v ≤ i) (sym (length-zeros n)) h) ])

pub sparse_lawful : (xs : Places) (s : ℕ) (g : Geometry) (f : Bool) → SparseSound xs s → Lawful (sparse_of xs s g f)
sparse_lawful xs s g f p = record {
  few = subst (λ (k : ℕ). k ≤ 268435456) (sym (length_sparse s xs)) p.few;
  whole = λ k h.
      sector_each (λ b. length b ≡ 512) s k xs (subst (λ (v : ℕ). k < v) (length_sparse s xs) h) (length-zeros 512) (λ x q. q.whole) p.each;
  bytes = λ k.
      elim (cases_lt k s) [
        | inl h ↦ sector_each Bytes s k xs h (zeros_below 512) (λ x q. q.bytes) p.each
        | inr h ↦
            subst Bytes (sym (get_or_past (sparse_sectors s xs) k [] (subst (λ (v : ℕ). v ≤ k) (sym (length_sparse s xs)) h))) (λ i. small refl)
      ];
}

past : (xs : Places) (s k : ℕ) → k < s → length (sparse_sectors s xs) ≤ k → ⊥
past xs s k h o = omega (arith, length_sparse s xs)

pub sparse_read : (xs : Places) (s : ℕ) (g : Geometry) (f : Bool) (k : ℕ) (b b' : List ℕ) → f ≡ false → k < s → length b ≡ 512 →
    b' ≡ get_or (sparse_sectors s xs) k [] → Reads sparse_faults (sparse_of xs s g f) (sparse_of xs s g f) k b b' (Ok tt)
sparse_read xs s g true k b b' e h l q = absurd (true≢false e)
sparse_read xs s g false k b b' e h l q = record {
  wrong_length = λ ne. absurd (ne l);
  out_of_range = λ _ o. absurd (past xs s k h o);
  otherwise = λ _ _. (tt, q, refl);
}

pub sparse_read_refused : (xs : Places) (s : ℕ) (g : Geometry) (f : Bool) (k : ℕ) (b : List ℕ) (e : Fault) → f ≡ true → e ≡ fault Device Read k →
    k < s → length b ≡ 512 → Reads sparse_faults (sparse_of xs s g f) (sparse_of xs s g f) k b b (Err e)
sparse_read_refused xs s g false k b e q d h l = absurd (true≢false (sym q))
sparse_read_refused xs s g true k b e q d h l = record {
  wrong_length = λ ne. absurd (ne l);
  out_of_range = λ _ o. absurd (past xs s k h o);
  otherwise = λ _ _. (tt, d, refl, refl);
}

pub sparse_write : (xs ys : Places) (s : ℕ) (g : Geometry) (f : Bool) (k : ℕ) (b : List ℕ) → f ≡ false → k < s → length b ≡ 512 →
    sparse_sectors s ys ≡ set (sparse_sectors s xs) k b → Writes sparse_faults (sparse_of xs s g f) (sparse_of ys s g f) k b (Ok tt)
sparse_write xs ys s g true k b e h l q = absurd (true≢false e)
sparse_write xs ys s g false k b e h l q = record {
  wrong_length = λ ne. absurd (ne l);
  out_of_range = λ _ o. absurd (past xs s k h o);
  otherwise = λ _ _. (tt, ap (λ (v : Sectors). record { sectors = v; geometry = g; condition = well }) q);
}

may_refuse : (f : Bool) → MayRefuse (cond f failed well)
may_refuse true = tt
may_refuse false = tt

-- a refused write leaves the sector old
pub sparse_write_refused : (xs : Places) (s : ℕ) (g : Geometry) (f f' : Bool) (k : ℕ) (b : List ℕ) (e : Fault) → f' ≡ true → e ≡ fault Device Write k →
    k < s → length b ≡ 512 → Writes sparse_faults (sparse_of xs s g f) (sparse_of xs s g f') k b (Err e)
sparse_write_refused xs s g f f' k b e q d h l = record {
  wrong_length = λ ne. absurd (ne l);
  out_of_range = λ _ o. absurd (past xs s k h o);
  otherwise = λ _ _. (may_refuse f, d, inl (ap (λ (v : Bool). sparse_of xs s g v) q));
}

-- a write that a well card does not come to: it was failed, or the length or the range is wrong
pub begins_elsewhere : (xs : Places) (s n : ℕ) (b : List ℕ) (f : Bool) (r : Result (Unit {0}) Fault) → (f ≡ false → length b ≡ 512 → n < s → ⊥) →
    Begins xs s n b f f r
begins_elsewhere xs s n b f r h = record {
  only_then = λ p q. absurd (both_ways f p q);
  always_then = λ p l m z u. absurd (h p l m);
  otherwise = λ p l m z. absurd (h p l m);
}

pub begins_unchecked : (xs : Places) (s n : ℕ) (b : List ℕ) (f : Bool) (r : Result (Unit {0}) Fault) (e : Fault) → Checks Write n s (length b) (Err e) →
    Begins xs s n b f f r
begins_unchecked xs s n b f r e c =
    begins_elsewhere xs s n b f r (λ w l m. let o = c.otherwise l m in let q : ◌≡◌ {A = ℕ} 0 1 = cc in omega arith)

-- an accepted write
pub begins_not : (xs : Places) (s n : ℕ) (b : List ℕ) (f : Bool) → (b ≢ zeros 512 → Full xs n → ⊥) → Begins xs s n b f f (Ok tt)
begins_not xs s n b f h = record {
  only_then = λ p q. absurd (both_ways f p q);
  always_then = λ p l m z u. absurd (h z u);
  otherwise = λ p l m z. (p, refl);
}

-- the write that finds no place
pub begins_here : (xs : Places) (s n : ℕ) (b : List ℕ) (f : Bool) (e : Fault) → e ≡ fault Device Write n → length b ≡ 512 → n < s → b ≢ zeros 512 → Full xs n →
    Begins xs s n b f true (Err e)
begins_here xs s n b f e d l m z u = record {
  only_then = λ p q. (l, m, z, u);
  always_then = λ p l m z u. (refl, ap Err d);
  otherwise = λ p l m h. absurd (h z u);
}
