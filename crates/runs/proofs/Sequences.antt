-- One list of writes after another.
use Rattle.std.proofs.Common.{◌≡◌, ℕ, ◌+◌, ◌<◌, ◌≤◌, List, [], ◌∷◌, ◌++◌, length, take, set, Ok, Err, Result, sym, refl, ap, ◌∙◌, subst, inl, inr, arith, lit<}
use Rattle.std.proofs.Math.Seq.{take-append-add}
use Rattle.std.proofs.lemmas.Bool.{cases_lt}
use Rattle.std.proofs.lemmas.List.{length-append, get_or_append_left, get_or-append-add, take-append-le}
use Rattle.device.specs.Faults.{Faults, Within}
use Rattle.device.specs.Meaning.{Meaning, Sectors}
use Rattle.device.specs.Transfers.{Writes}
use Rattle.device.specs.declared.faults.Fault.{Fault}
use Rattle.device.specs.declared.faults.Act.TheVariants.{Write}
use Rattle.runs.proofs.Runs.{length-applied}
use Rattle.runs.specs.Writes.{SectorWrite, write_of, applied, with_sectors, failed_with, Completed, Interrupted, Written}

pub applied-append : (s : Sectors) (ws vs : List SectorWrite) → applied s (ws ++ vs) ≡ applied (applied s ws) vs
unfolding applied
applied-append s [] vs = refl
applied-append s (w ∷ ws) vs = applied-append (set s w.at w.bytes) ws vs

pub widened : {t u : Faults} {m m₁ : Meaning} {ws : List SectorWrite} {f : Fault} → Within u t → Interrupted u m m₁ ws f → Interrupted t m m₁ ws f
widened k p = record { which = p.which; is_one = p.is_one; accepted = p.accepted; refusable = p.refusable; names = k Write _ _ p.names; leaves = p.leaves }

-- the second list of writes begins where the first has stood
completed_completed : {m m₁ m₂ : Meaning} {ws vs : List SectorWrite} → Completed m m₁ ws → Completed m₁ m₂ vs → Completed m m₂ (ws ++ vs)
completed_completed {m = m} {m₂ = m₂} {ws = ws} {vs = vs} p q =
    let q' = subst (λ (x : Meaning). Completed x m₂ vs) p.leaves q in
    record {
      leaves = q'.leaves ∙ ap (with_sectors m) (sym (applied-append m.sectors ws vs));
      accepted = λ h. elim (cases_lt 0 (length ws)) [ inl l ↦ p.accepted l | inr l ↦ q'.accepted (omega (arith, length-append ws vs)) ];
    }

put_on : (m : Meaning) (ws vs : List SectorWrite) (j : ℕ) →
    failed_with m (applied (applied m.sectors ws) (take j vs)) ≡ failed_with m (applied m.sectors (take (length ws + j) (ws ++ vs)))
put_on m ws vs j = ap (failed_with m) (sym (ap (applied m.sectors) (take-append-add ws vs j) ∙ applied-append m.sectors ws (take j vs)))

first_on : {t : Faults} {m m₁ m₂ : Meaning} {ws vs : List SectorWrite} {f : Fault} → Completed m m₁ ws → Interrupted t (with_sectors m (applied m.sectors ws)) m₂ vs f → Interrupted t m m₂ (ws ++ vs) f
first_on {t = t} {m = m} {ws = ws} {vs = vs} {f = f} p d =
    let j = d.which in
    let e : length ws + (j + 1) ≡ length ws + j + 1 = omega arith in
    record {
      which = length ws + j;
      is_one = rw length-append (omega (arith, d.is_one));
      accepted = λ h. elim (cases_lt 0 (length ws)) [ inl l ↦ p.accepted l | inr l ↦ d.accepted (omega arith) ];
      refusable = d.refusable;
      names = subst (λ (w : SectorWrite). t Write w.at f) (sym (get_or-append-add ws vs j (write_of 0 []))) d.names;
      leaves = elim d.leaves [
        | inl o ↦ inl (o ∙ put_on m ws vs j)
        | inr o ↦ inr (o.0, o.1 ∙ put_on m ws vs (j + 1) ∙ ap (λ (n : ℕ). failed_with m (applied m.sectors (take n (ws ++ vs)))) e)
      ];
    }

completed_interrupted : {t u : Faults} {m m₁ m₂ : Meaning} {ws vs : List SectorWrite} {f : Fault} → Within u t → Completed m m₁ ws → Interrupted u m₁ m₂ vs f → Interrupted t m m₂ (ws ++ vs) f
completed_interrupted {t = t} {u = u} {m₂ = m₂} {vs = vs} {f = f} k p q =
    first_on p (subst (λ (x : Meaning). Interrupted t x m₂ vs f) p.leaves (widened k q))

pub completed_written : {t u : Faults} {m m₁ : Meaning} (m₂ : Meaning) {ws : List SectorWrite} (vs : List SectorWrite) (r : Result (Unit {0}) Fault) → Within u t → Completed m m₁ ws → Written u m₁ m₂ vs r → Written t m m₂ (ws ++ vs) r
completed_written m₂ vs (Ok v) k p q = completed_completed p q
completed_written m₂ vs (Err f) k p q = completed_interrupted k p q

-- a refusal in the first list ends both
pub interrupted_more : {t : Faults} {m m₁ : Meaning} {ws : List SectorWrite} {f : Fault} (vs : List SectorWrite) → Interrupted t m m₁ ws f → Interrupted t m m₁ (ws ++ vs) f
interrupted_more {t = t} {m = m} {m₁ = m₁} {ws = ws} {f = f} vs p =
    let j = p.which in
    let l = p.is_one in
    record {
      which = j;
      is_one = rw length-append (omega (arith, l));
      accepted = p.accepted;
      refusable = p.refusable;
      names = subst (λ (w : SectorWrite). t Write w.at f) (sym (get_or_append_left ws vs (write_of 0 []) j l)) p.names;
      leaves = elim p.leaves [
        | inl e ↦ inl (e ∙ ap (λ (ys : List SectorWrite). failed_with m (applied m.sectors ys)) (sym (take-append-le j ws vs (omega arith))))
        | inr e ↦ inr (e.0, e.1 ∙ ap (λ (ys : List SectorWrite). failed_with m (applied m.sectors ys)) (sym (take-append-le (j + 1) ws vs (omega arith))))
      ];
    }

-- the writes leave as many sectors as there were
pub completed_length : {m m₁ : Meaning} {ws : List SectorWrite} {n : ℕ} → Completed m m₁ ws → n ≤ length m.sectors → n ≤ length m₁.sectors
completed_length {m = m} {ws = ws} {n = n} p h =
    subst (λ (x : Meaning). n ≤ length x.sectors) (sym p.leaves) (rw length-applied h)

-- one write alone
pub one_written : {t : Faults} {m m' : Meaning} {n : ℕ} {b : List ℕ} (r : Result (Unit {0}) Fault) → length b ≡ 512 → n < length m.sectors →
    Writes t m m' n b r → Written t m m' (write_of n b ∷ []) r
unfolding applied
one_written (Ok v) l h w = let a = w.otherwise l h in record { leaves = a.1; accepted = λ _. a.0 }
one_written (Err f) l h w =
    let a = w.otherwise l h in
    record { which = 0; is_one = lit< tt; accepted = λ z. absurd (omega arith); refusable = a.0; names = a.1; leaves = a.2 }
