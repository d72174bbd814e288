-- The calls of a card, and what they answer. What each one does: docs/CALLS.md.
use Rattle.std.specs.Prelude.{ℕ, Bool, List}
use Rattle.rows.specs.declared.finding.Finding.{Finding}
use Rattle.rows.specs.declared.job_row.JobRow.{JobRow}
use Rattle.plans.specs.Slots.{Job}

pub data Call : Type 0 where
  mount : Call
  save : (name : List ℕ) (kind address : ℕ) (bytes : List ℕ) → Call
  open' : (name : List ℕ) → Call
  -- a handle is told by the slot of its job alone
  put : (handle : ℕ) (piece : List ℕ) → Call
  commit : (handle : ℕ) → Call
  finish : (handle : ℕ) → Call
  rename : (old new : List ℕ) → Call
  erase : (name : List ℕ) → Call
  wipe : (name : List ℕ) → Call
  sweep : Call
  undelete : (slot letter : ℕ) → Call
  load : (name : List ℕ) (room : ℕ) → Call
  read : (name : List ℕ) (place room : ℕ) → Call
  list : Call
  same : (one other : List ℕ) → Call
  check : Call

pub data Answer : Type 0 where
  -- nothing but that the call succeeded
  done : Answer
  -- the handle that open gives
  handle : (slot : ℕ) → Answer
  -- the bytes that finish leaves uncommitted
  uncommitted : ℕ → Answer
  loaded : Job → Answer
  bytes : List ℕ → Answer
  jobs : List JobRow → Answer
  equal : Bool → Answer
  faults : List Finding → Answer
