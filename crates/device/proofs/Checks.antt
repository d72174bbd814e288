-- What the tests before a transfer give: a refusal that meets the device's contract, or a transfer that may go on.
-- And what a layer names, which is what is named beneath it.
use Rattle.std.proofs.Common.{◌≡◌, ℕ, ◌<◌, ◌≤◌, List, length, Ok, Err, Result, refl, inl, inr, arith}
use Rattle.std.proofs.lemmas.Bool.{cases_eq, cases_lt}
use Rattle.device.specs.Faults.{Faults, Within, raised_faults, Checks}
use Rattle.device.specs.Meaning.{Meaning}
use Rattle.device.specs.Transfers.{Reads, Writes}
use Rattle.device.specs.declared.faults.Fault.{Fault}
use Rattle.device.specs.declared.faults.Act.{Act}
use Rattle.device.specs.declared.faults.Act.TheVariants.{Read, Write}

err_ok : {f : Fault} {u : Unit {0}} → ◌≡◌ {A = Result (Unit {0}) Fault} (Err f) (Ok u) → ⊥
err_ok e = let z : ◌≡◌ {A = ℕ} 0 1 = cc in omega arith

pub passed : {a : Act} {n s k : ℕ} {u : Unit {0}} → Checks a n s k (Ok u) → (k ≡ 512) × (n < s)
passed {n = n} {s = s} {k = k} c =
    elim (cases_eq k 512) [
      | inl e ↦ elim (cases_lt n s) [ inl h ↦ (e, h) | inr h ↦ absurd (let z : ◌≡◌ {A = ℕ} 0 1 = cc (c.out_of_range e h) in omega arith) ]
      | inr ne ↦ absurd (let z : ◌≡◌ {A = ℕ} 0 1 = cc (c.wrong_length ne) in omega arith)
    ]

pub refused_read : {t : Faults} {m : Meaning} {n s : ℕ} {b : List ℕ} {f : Fault} → s ≡ length m.sectors →
    Checks Read n s (length b) (Err f) → Reads t m m n b b (Err f)
refused_read {m = m} {n = n} {s = s} e c = record {
  wrong_length = λ ne. (c.wrong_length ne, refl, refl);
  out_of_range = λ l h. (c.out_of_range l (let k : s ≤ n = omega arith in k), refl, refl);
  otherwise = λ l h. absurd (err_ok (c.otherwise l (let k : n < s = omega arith in k)));
}

pub refused_write : {t : Faults} {m : Meaning} {n s : ℕ} {b : List ℕ} {f : Fault} → s ≡ length m.sectors →
    Checks Write n s (length b) (Err f) → Writes t m m n b (Err f)
refused_write {m = m} {n = n} {s = s} e c = record {
  wrong_length = λ ne. (c.wrong_length ne, refl);
  out_of_range = λ l h. (c.out_of_range l (let k : s ≤ n = omega arith in k), refl);
  otherwise = λ l h. absurd (err_ok (c.otherwise l (let k : n < s = omega arith in k)));
}

pub raised_within : {t u : Faults} (down : ℕ → ℕ) → Within t u → Within (raised_faults t down) (raised_faults u down)
raised_within down w a n f p = (p.0, w a (down n) p.0 p.1, p.2)
