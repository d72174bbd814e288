-- What the program keeps, as the plans speak of it.
use Rattle.std.specs.Prelude.{take, Some, None, Option}
use Rattle.plans.specs.Memory as plans
use Rattle.volume.specs.declared.open_job.OpenJob.{OpenJob}
use Rattle.volume.specs.declared.memory.Memory.{Memory}

abbrev pub open_job : OpenJob → plans.OpenJob
open_job j = record { slot = j.slot; name = j.name; full = j.full; gathered = take j.filled j.gathered; waiting = j.waiting }

abbrev pub open_jobs : Option OpenJob → Option plans.OpenJob
open_jobs None = None
open_jobs (Some j) = Some (open_job j)

abbrev pub kept : Memory → plans.Memory
kept q = record { size = q.size; job = open_jobs q.job }
