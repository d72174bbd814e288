-- A job opened: continued, or made.
use Rattle.std.specs.Prelude.{◌≡◌, ℕ, Some, Ok, Err, Result}
use Rattle.device.specs.Faults.{Faults}
use Rattle.device.specs.Meaning.{Meaning}
use Rattle.device.specs.declared.faults.Fault.{Fault}
use Rattle.refusals.specs.declared.Refusal.{Refusal}
use Rattle.plans.specs.Calls.{Answer, handle}
use Rattle.plans.specs.Memory as plans
use Rattle.plans.specs.Memory.{with_job}
use Rattle.plans.specs.Plans.{continued}
use Rattle.plans.specs.Slots.{Job}
use Rattle.volume.specs.Directory.{ReadRefused}
use Rattle.volume.specs.Invariants.{InSlot}
use Rattle.volume.specs.Kept.{open_job}
use Rattle.volume.specs.declared.open_job.OpenJob.{OpenJob}

-- the job j of slot k is continued
abbrev pub Continues : Faults → (m m' : Meaning) (k : ℕ) → Job → Result OpenJob Fault → Type 0
Continues t m m' k j (Ok o) = (m' ≡ m) × (open_job o ≡ continued k j)
Continues t m m' k j (Err f) = (n : ℕ) × ReadRefused t m m' n f

abbrev pub Makes : plans.OpenJob → Result OpenJob Fault → Type 0
Makes p (Ok o) = open_job o ≡ p
Makes p (Err f) = Unit {0}

-- told whatever the device: the job is in slot k
abbrev pub InThere : ℕ → Result OpenJob Fault → Type 0
InThere k (Ok o) = o.slot ≡ k
InThere k (Err f) = Unit {0}

-- the handle that open answers is the slot of the job
abbrev pub HandleOf : ℕ → Answer → Type 0
HandleOf k a = a ≡ handle k

abbrev pub Opened : OpenJob → Answer → Type 0
Opened j a = HandleOf j.slot a

-- told whatever the device: the job is in a slot of a card of n sectors
abbrev pub OpenedIn : ℕ → Result OpenJob Refusal → Type 0
OpenedIn n (Ok j) = InSlot n j
OpenedIn n (Err r) = Unit {0}

-- what the program keeps then
abbrev pub opened : plans.Memory → Result OpenJob Refusal → plans.Memory
opened q (Ok j) = with_job q (Some (open_job j))
opened q (Err r) = q
