-- Tables of rows, begun anew and offered rows one by one.
use Rattle.std.specs.Prelude.{◌≡◌, ℕ, ◌≤◌, List, ◌++◌, length, take, slice_set, Some, None, Option}
use Rattle.rows.specs.Rows.{one_more, filled}
use Rattle.rows.specs.declared.finding.Finding.{Finding}
use Rattle.rows.specs.declared.job_row.JobRow.{JobRow}
use Rattle.rows.specs.declared.table.RowTable.{RowTable}
use Rattle.plans.specs.Calls.{Answer, jobs, faults}

-- the table t after a row was offered to it, if there was one, and t' afterwards
abbrev pub Offered : {R : Type 0} → Option R → (t t' : RowTable R) → Type 0
Offered None t t' = (t'.total ≡ t.total) × (t'.rows.now ≡ t.rows.now)
Offered (Some r) t t' = (t'.total ≡ one_more t.total) × (t'.rows.now ≡ slice_set t.rows.now t.total r)

-- these rows were offered to the table t, whose slice held `old` before
pub record Holds {R : Type 0} (rows old : List R) (t : RowTable R) : Type 0 where
  pub total : t.total ≡ length rows
  pub slice : t.rows.now ≡ filled rows old

-- a first part of them was
pub record HoldsFirst {R : Type 0} (rows old : List R) (t : RowTable R) : Type 0 where
  pub count : ℕ
  pub some : count ≤ length rows
  pub holds : Holds (take count rows) old t

-- they were offered to the table t, behind at most 65,520 others
pub record OfferedAll {R : Type 0} (rows : List R) (t t' : RowTable R) : Type 0 where
  pub holds : (before old : List R) → length before ≤ 65520 → Holds before old t → Holds (before ++ rows) old t'

-- the jobs that are listed stand in the table, and their total is told
pub record Lists (old : List JobRow) (t : RowTable JobRow) (n : ℕ) (a : Answer) : Type 0 where
  pub rows : List JobRow
  pub answer : a ≡ jobs rows
  pub total : n ≡ length rows
  pub holds : Holds rows old t

-- the same of the faults that are found
pub record Checks (old : List Finding) (t : RowTable Finding) (n : ℕ) (a : Answer) : Type 0 where
  pub rows : List Finding
  pub answer : a ≡ faults rows
  pub total : n ≡ length rows
  pub holds : Holds rows old t
