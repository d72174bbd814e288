-- What the program keeps of a card in memory.
use Rattle.std.specs.Prelude.{ℕ, ◌+◌, ◌*◌, List, length, None, Option}
use Rattle.layout.specs.Sizes.{layout_of}
use Rattle.layout.specs.declared.sizes.Layout.{Layout}

-- an open job: its slot and padded name, how many full sectors of it are written, the bytes gathered behind them, and
-- how many bytes were put since the open or the last accepted commit
pub record OpenJob : Type 0 where
  pub slot : ℕ
  pub name : List ℕ
  pub full : ℕ
  pub gathered : List ℕ
  pub waiting : ℕ

-- the sectors of the mounted card, 0 before the first accepted mount, and the open job
pub record Memory : Type 0 where
  pub size : ℕ
  pub job : Option OpenJob

abbrev pub mounted : ℕ → Memory
mounted s = record { size = s; job = None }

abbrev pub unmounted : Memory
unmounted = mounted 0

abbrev pub with_job : Memory → Option OpenJob → Memory
with_job q o = record { size = q.size; job = o }

-- the layout of the mounted card: without slots, if none is
abbrev pub card_layout : Memory → Layout
card_layout q = layout_of q.size

-- the bytes of an open job, committed or not
abbrev pub job_length : OpenJob → ℕ
job_length o = 512 * o.full + length o.gathered
