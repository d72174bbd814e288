use Rattle.std.proofs.Common.{◌≡◌, ℕ, ◌+◌, ◌-◌, ◌≤◌, List, Result, ap, ◌∙◌, subst, rules, arith}
use Rattle.std.proofs.lemmas.Result.{err_from_is_err_and}
use Rattle.device.specs.Faults.{Faults}
use Rattle.device.specs.Meaning.{Meaning, zeros}
use Rattle.device.specs.Transfers.{Writes}
use Rattle.device.specs.declared.faults.Fault.{Fault}
use Rattle.runs.specs.Writes.{applied, zeroing}
use Rattle.runs.proofs.Runs.{zeroed, length-zeroing, step, broke}
use Rattle.runs.proofs.write_zeros.Goals as goal

-- the write of sector n, as that of number n - a of the run from a on
as_numbered : {t : Faults} {m m' : Meaning} {r : Result (Unit {0}) Fault} (a n : ℕ) (b : List ℕ) → a ≤ n → b ≡ zeros 512 →
    Writes t m m' n b r → Writes t m m' (a + (n - a)) (zeros 512) r
as_numbered {t = t} {m = m} {m' = m'} {r = r} a n b h e w =
    let p : n ≡ a + (n - a) = omega arith in
    subst (λ (k : ℕ). Writes t m m' k (zeros 512) r) p (subst (λ (x : List ℕ). Writes t m m' n x r) e w)

pub loop-n-init : goal.loop-n-init
unfolding applied zeroing
loop-n-init g c =
    let a = c.args.first in
    let e : 0 ≡ a - a = omega arith in
    record { counted = omega arith; keeps = search rules; writes = λ s h. (ap (zeroed (g.D.SectorDevice.meaning c.args.device.now) a) e, λ z. absurd (omega arith)) }

pub loop-n-preserved : goal.loop-n-preserved
loop-n-preserved g c =
    let i = c.loop-n.invariant in
    let a = c.args.first in
    let b = c.args.end in
    let n = c.loop-n.n in
    let low = c.loop-n.auto.n in
    let high = c.loop-n-test.true in
    let e : (n - a) + 1 ≡ (n + 1) - a = omega arith in
    record {
      counted = omega arith;
      keeps = search rules;
      writes = λ s h.
          let m = g.D.SectorDevice.meaning c.args.device.now in
          let w = step m a (b - a) (n - a) (omega arith) (omega arith) (i.writes s h).0
          (as_numbered a n _ low c.zero_sector-zeros.ensures (c.in_ok-write.ensures.writes (i.keeps s).0)) in
          (w.0 ∙ ap (zeroed m a) e, λ _. w.1);
    }

pub returns-in_err-write-clause-writes : goal.returns-in_err-write-clause-writes
returns-in_err-write-clause-writes g c = λ s h.
    let p = err_from_is_err_and c.from_residual.result c.from_residual.ensures.1 in
    let i = c.loop-n.invariant in
    let a = c.args.first in
    let b = c.args.end in
    let n = c.loop-n.n in
    let low = c.loop-n.auto.n in
    let high = c.loop-n-test.true in
    let k = i.keeps s in
    let w = i.writes s h in
    rw (p.1, p.2)
    (broke (g.D.SectorDevice.meaning c.args.device.now) a (b - a) (n - a) _ (omega arith) (omega arith)
    w.0 k.1 w.1 (as_numbered a n _ low c.zero_sector-zeros.ensures (c.in_err-write.ensures.writes k.0)))

pub returns-clause-writes : goal.returns-clause-writes
unfolding applied zeroing
returns-clause-writes g c = λ s h.
    let q = c.loop-n.invariant.writes s h in
    let same : c.loop-n.n - c.args.first ≡ c.args.end - c.args.first = omega (arith, c.loop-n.invariant.counted) in
    record {
      leaves = q.0 ∙ ap (zeroed (g.D.SectorDevice.meaning c.args.device.now) c.args.first) same;
      accepted = λ z. q.1 (omega (arith, length-zeroing c.args.first (c.args.end - c.args.first)));
    }
