-- What a caller's buffer holds once a call that reads into it has ended.
use Rattle.std.specs.Prelude.{◌≡◌, ℕ, ◌+◌, ◌-◌, ◌*◌, ◌%◌, ◌<◌, ◌⊎◌, List, [], ◌++◌, length, take, drop, Ok, Err, Result}
use Rattle.refusals.specs.Refusals.{IsByDevice}
use Rattle.refusals.specs.declared.Refusal.{Refusal}
use Rattle.plans.specs.Calls.{Answer, done, handle, uncommitted, loaded, bytes, jobs, equal, faults}
use Rattle.plans.specs.Plans.{Plan, tell, decline, refuse, go}

-- a buffer b with the bytes x at its front, the rest of it as it was
abbrev pub over : List ℕ → List ℕ → List ℕ
over x b = x ++ drop (length x) b

-- the bytes in an answer: those of a job, or a part of them
abbrev pub bytes_in_answer : Answer → List ℕ
bytes_in_answer done = []
bytes_in_answer (handle k) = []
bytes_in_answer (uncommitted n) = []
bytes_in_answer (loaded j) = j.bytes
bytes_in_answer (bytes x) = x
bytes_in_answer (jobs rs) = []
bytes_in_answer (equal b) = []
bytes_in_answer (faults rs) = []

-- the bytes that a plan which goes on reads for its answer
abbrev pub asked : Plan → List ℕ
asked (tell a q) = []
asked (decline r) = []
asked (refuse r) = []
asked (go rs ws a q) = bytes_in_answer a

-- the bytes x begin `skip` bytes into a sector: those in the first sectors were read, and not all of them
pub record PartRead (x : List ℕ) (skip : ℕ) (b b' : List ℕ) : Type 0 where
  pub sectors : ℕ
  pub unfinished : 512 * sectors < skip + length x
  pub holds : b' ≡ over (take (512 * sectors - skip) x) b

-- what a call by the plan p leaves in its buffer, where it reads from a place of the job on: all of the bytes where it is accepted,
-- and where it is refused nothing new, or, by the device, the bytes of the sectors that were read before
abbrev pub Filled : {A : Type 0} → Plan → (place : ℕ) → (b b' : List ℕ) → Result A Refusal → Type 0
Filled p place b b' (Ok v) = b' ≡ over (asked p) b
Filled p place b b' (Err r) = (b' ≡ b) ⊎ IsByDevice (λ _. PartRead (asked p) (place % 512) b b') r
