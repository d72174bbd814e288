-- How calls end that read the directory and write nothing.
use Rattle.std.proofs.Common.{◌≡◌, ℕ, [], ap, ◌∙◌, subst}
use Rattle.device.specs.Faults.{Faults, Within}
use Rattle.device.specs.Meaning.{Meaning, MayRefuse, now_failed}
use Rattle.device.specs.declared.faults.Act.TheVariants.{Read}
use Rattle.device.specs.declared.faults.Fault.{Fault}
use Rattle.layout.specs.declared.sizes.Layout.{Layout}
use Rattle.refusals.specs.declared.Refusal.TheVariants.{Device}
use Rattle.plans.specs.Calls.{Answer}
use Rattle.plans.specs.Memory.{Memory}
use Rattle.plans.specs.Plans.{Plan, go, at_first}
use Rattle.volume.specs.Directory.{ReadRefused, Passed}
use Rattle.volume.specs.Outcomes.{AcceptedBy, RefusedBy}
use Rattle.volume.proofs.Glue.{performed_none}
use Rattle.naming.proofs.Endings.{go_ends, read_ends}

-- told of the device as the call found it
pub refused_from : {t u : Faults} {m m₁ m' : Meaning} {n : ℕ} {f : Fault} → Within u t → m₁ ≡ m → ReadRefused u m₁ m' n f → ReadRefused t m m' n f
refused_from {m' = m'} {n = n} {f = f} w e r = record {
  refusable = subst (λ (x : Meaning). MayRefuse x.condition) e r.refusable;
  names = w Read n f r.names;
  leaves = r.leaves ∙ ap now_failed e;
}

-- a plan that reads and writes nothing
abbrev pub reading : Answer → Memory → Plan
reading a q = go at_first [] a q

pub reading_ends : {A : Type 0} (c : Layout) (V : A → Answer → Type 0) (a : Answer) (q : Memory) {m m' : Meaning} {v : A} → V v a → Passed c m m' → AcceptedBy c V (reading a q) v m m' q
reading_ends c V a q {m = m} {m' = m'} {v = v} x p =
    go_ends c V [] a q m m' m' v x p.same p.was_read (performed_none c m')

pub reading_refused : (t : Faults) (c : Layout) (a : Answer) (q : Memory) {m m' : Meaning} {n : ℕ} {f : Fault} → ReadRefused t m m' n f → RefusedBy t c (reading a q) (Device f) m m' q q
reading_refused t c a q {m = m} {m' = m'} {n = n} {f = f} r = read_ends t c (reading a q) m m' q n f tt r
