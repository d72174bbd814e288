-- The open job of a handle, and what it has gathered once a piece is put.
use Rattle.std.specs.Prelude.{◌≡◌, ℕ, cond, List, Some, None, Ok, Err, Option, Result, ◌==◌}
use Rattle.device.specs.declared.faults.Fault.{Fault}
use Rattle.plans.specs.Memory as plans
use Rattle.plans.specs.Plans.{after_put}
use Rattle.volume.specs.Kept.{open_job}
use Rattle.volume.specs.declared.open_job.OpenJob.{OpenJob}

-- the open job, if it is in the slot of the handle h
abbrev pub held_job : Option OpenJob → ℕ → Option OpenJob
held_job None h = None
held_job (Some j) h = cond (j.slot == h) (Some j) None

-- the open job as it is once the piece x was put
abbrev pub Gathers : plans.OpenJob → List ℕ → Result OpenJob Fault → Type 0
Gathers o x (Ok j) = open_job j ≡ after_put o x
Gathers o x (Err f) = Unit {0}
