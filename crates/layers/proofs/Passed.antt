-- What a layer passes on where it counts the sectors as the device beneath does.
use Rattle.std.proofs.Common.{◌≡◌, ℕ, ◌<◌, ◌≤◌, List, length, Ok, Err, Result, sym, refl, subst, arith}
use Rattle.device.specs.Faults.{Faults}
use Rattle.device.specs.Meaning.{Meaning}
use Rattle.device.specs.Transfers.{Reads, Writes, ReadAnswer, WriteAnswer}
use Rattle.device.specs.declared.faults.Fault.{Fault}
use Rattle.layers.specs.Layer.{passed_answer, passed_on}

apart : {a b : ℕ} → a ≤ b → b < a → ⊥
apart h k = omega arith

read_answer : (t : Faults) (m m' : Meaning) (n : ℕ) (b b' : List ℕ) (a : Result (Unit {0}) Fault) →
    ReadAnswer t m m' n b b' a → ReadAnswer (passed_on t) m m' n b b' (passed_answer a)
read_answer t m m' n b b' (Ok u) p = p
read_answer t m m' n b b' (Err f) p = (p.0, (f, p.1, refl), p.2, p.3)

pub passed_reads : {t : Faults} {m m' : Meaning} {n : ℕ} {b b' : List ℕ} {a r : Result (Unit {0}) Fault} →
    r ≡ passed_answer a → length b ≡ 512 → n < length m.sectors → Reads t m m' n b b' a → Reads (passed_on t) m m' n b b' r
passed_reads {t = t} {m = m} {m' = m'} {n = n} {b = b} {b' = b'} {a = a} q l h p = record {
  wrong_length = λ ne. elim (ne l) [ ];
  out_of_range = λ _ o. elim (apart o h) [ ];
  otherwise = λ _ _.
      subst (λ (x : Result (Unit {0}) Fault). ReadAnswer (passed_on t) m m' n b b' x) (sym q)
      (read_answer t m m' n b b' a (p.otherwise l h));
}

write_answer : (t : Faults) (m m' : Meaning) (n : ℕ) (b : List ℕ) (a : Result (Unit {0}) Fault) →
    WriteAnswer t m m' n b a → WriteAnswer (passed_on t) m m' n b (passed_answer a)
write_answer t m m' n b (Ok u) p = p
write_answer t m m' n b (Err f) p = (p.0, (f, p.1, refl), p.2)

pub passed_writes : {t : Faults} {m m' : Meaning} {n : ℕ} {b : List ℕ} {a r : Result (Unit {0}) Fault} →
    r ≡ passed_answer a → length b ≡ 512 → n < length m.sectors → Writes t m m' n b a → Writes (passed_on t) m m' n b r
passed_writes {t = t} {m = m} {m' = m'} {n = n} {b = b} {a = a} q l h p = record {
  wrong_length = λ ne. elim (ne l) [ ];
  out_of_range = λ _ o. elim (apart o h) [ ];
  otherwise = λ _ _.
      subst (λ (x : Result (Unit {0}) Fault). WriteAnswer (passed_on t) m m' n b x) (sym q) (write_answer t m m' n b a (p.otherwise l h));
}
