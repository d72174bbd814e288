-- What the reading calls answer, as their plans do.
use Rattle.std.specs.Prelude.{◌≡◌, ℕ, Bool, length}
use Rattle.plans.specs.Calls.{Answer, done, handle, uncommitted, loaded, bytes, jobs, equal, faults}
use Rattle.reading.specs.declared.job_info.JobInfo.{JobInfo}

-- size, type and address of the job that is loaded
abbrev pub Loaded : JobInfo → Answer → Type 0
Loaded v done = ⊥
Loaded v (handle k) = ⊥
Loaded v (uncommitted n) = ⊥
Loaded v (loaded j) = (v.size ≡ length j.bytes) × (v.kind ≡ j.kind) × (v.address ≡ j.address)
Loaded v (bytes x) = ⊥
Loaded v (jobs rs) = ⊥
Loaded v (equal b) = ⊥
Loaded v (faults rs) = ⊥

-- the number of bytes that are read
abbrev pub Counted : ℕ → Answer → Type 0
Counted n done = ⊥
Counted n (handle k) = ⊥
Counted n (uncommitted u) = ⊥
Counted n (loaded j) = ⊥
Counted n (bytes x) = n ≡ length x
Counted n (jobs rs) = ⊥
Counted n (equal b) = ⊥
Counted n (faults rs) = ⊥

-- whether two jobs have equal bytes
abbrev pub Compared : Bool → Answer → Type 0
Compared v a = a ≡ equal v
