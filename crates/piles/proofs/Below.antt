-- A refusal that comes up two layers.
use Rattle.std.proofs.Common.{◌≡◌, ℕ, ◌+◌, ◌<◌, ◌≤◌, ◌⊎◌, List, length, take, drop, replicate, Ok, Err, Result, sym, refl, ap, ◌∙◌, subst, inl, inr}
use Rattle.std.proofs.lemmas.List.{length-replicate}
use Rattle.device.specs.Faults.{Faults, raised_fault, raised_faults}
use Rattle.device.specs.Meaning.{Meaning, Sectors, zeros}
use Rattle.device.specs.Transfers.{Writes, WriteAnswer}
use Rattle.device.specs.declared.faults.Fault.{Fault}
use Rattle.stores.specs.Sparse.{sparse_faults}
use Rattle.layers.specs.Layer.{passed_on}
use Rattle.layers.specs.declared.window.Span.{Span}
use Rattle.layers.specs.Window.{window_count}
use Rattle.layers.proofs.Windows.{length_window}
use Rattle.piles.specs.WindowCacheSparse.{full_below, WrittenOrFull}

-- the faults of a window from f on over a cache over a sparse card
abbrev pub pile_faults : ℕ → Faults
pile_faults f = raised_faults (passed_on sparse_faults) (λ k. f + k)

one_of_two : (m m' : Meaning) (f n : ℕ) (b : List ℕ) (r : Result (Unit {0}) Fault) →
    WriteAnswer (pile_faults f) m m' n b r → (r ≡ Ok tt) ⊎ (r ≡ Err (full_below f n))
one_of_two m m' f n b (Ok u) p = inl refl
one_of_two m m' f n b (Err e) p =
    let x = p.1 in
    let y = x.1 in
    inr (ap Err (x.2 ∙ ap raised_fault (y.2 ∙ ap raised_fault y.1)))

-- a write of sector n of a window of s sectors from f on
pub written_or_full : {m m' : Meaning} (s f f₀ n : ℕ) (b : List ℕ) (r : Result (Unit {0}) Fault) → f ≡ f₀ → length m.sectors ≡ s →
    Writes (pile_faults f) m m' n b r → WrittenOrFull s f₀ n b r
written_or_full {m = m} {m' = m'} s f f₀ n b r e size w = record {
  wrong_length = λ ne. (w.wrong_length ne).0;
  out_of_range = λ l h. (w.out_of_range l (subst (λ (j : ℕ). j ≤ n) (sym size) h)).0;
  otherwise = λ l h.
      subst (λ (j : ℕ). (r ≡ Ok tt) ⊎ (r ≡ Err (full_below j n))) e
      (one_of_two m m' f n b r (w.otherwise l (subst (λ (j : ℕ). n < j) (sym size) h)));
}

-- the sectors of the window, made with the span v₀ on a card of z sectors of zeros
pub length-zero_window : (s : Sectors) (z : ℕ) (v v₀ : Span) → s ≡ replicate z (zeros 512) → v ≡ v₀ →
    length (take (window_count (length s) v.first v.count) (drop v.first s)) ≡ window_count z v₀.first v₀.count
length-zero_window s z v v₀ e p =
    length_window s v.first v.count ∙ ap (λ (j : ℕ). window_count j v.first v.count) (ap length e ∙ length-replicate z (zeros 512))
    ∙ ap (λ (x : Span). window_count z x.first x.count) p

-- the same of a window made with the span v₀ on a card of z sectors of zeros
pub written_on_zeros : {m m' : Meaning} (s : Sectors) (z : ℕ) (v v₀ : Span) (n : ℕ) (b : List ℕ) (r : Result (Unit {0}) Fault) →
    s ≡ replicate z (zeros 512) → v ≡ v₀ →
    m.sectors ≡ take (window_count (length s) v.first v.count) (drop v.first s) →
    Writes (pile_faults v.first) m m' n b r → WrittenOrFull (window_count z v₀.first v₀.count) v₀.first n b r
written_on_zeros s z v v₀ n b r e p q w =
    written_or_full _ v.first v₀.first n b r (ap (λ (x : Span). x.first) p) (ap length q ∙ length-zero_window s z v v₀ e p) w
