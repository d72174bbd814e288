-- Worked examples, computed on the definitions.
use Rattle.std.specs.Prelude.{◌≡◌, ℕ, List, [], ◌∷◌, ◌++◌, length, take}
use Rattle.layout.specs.Extents.{extent_of}
use Rattle.places.specs.Places.{Place}
use Rattle.plans.specs.Slots.{Job, Slot, empty, held, live, erased, decoded}
use Rattle.plans.specs.Memory.{OpenJob, job_length}
use Rattle.plans.specs.Calls.{mount, open', put, commit}
use Rattle.plans.specs.Plans.{wipe_writes, save_writes, opened_new, after_put, sectors_full, job_saved}
use Rattle.history.specs.Model.{new_model, wiped, saved}
use Rattle.history.specs.Events.{Event, called, pulled, accepted, after}
use Rattle.history.specs.Preserved.{entries_written}

-- STREAMING: 300 bytes put, 300 more, commit, one more byte, and the card is pulled

abbrev pub streamed : (name x y z : List ℕ) → List Event
streamed name x y z =
    called mount accepted
    ∷ called (open' name) accepted
    ∷ called (put 0 x) accepted
    ∷ called (put 0 y) accepted
    ∷ called (commit 0) accepted
    ∷ called (put 0 z) accepted
    ∷ pulled
    ∷ called mount accepted
    ∷ []

-- the open job after each of the first two puts
abbrev pub one_put : (name x : List ℕ) → OpenJob
one_put name x = after_put (opened_new 0 name) x

abbrev pub two_puts : (name x y : List ℕ) → OpenJob
two_puts name x y = after_put (one_put name x) y

pub record Streamed (name x y z : List ℕ) : Type 0 where
  -- the cold start finds the 600 committed bytes, and not the last one
  pub found : (after (new_model 1) (streamed name x y z)).slots ≡ live (job_saved name 0x82 0 (x ++ y)) ∷ []
  pub bytes : length (x ++ y) ≡ 600
  -- the first put fills no sector, the second fills one and leaves 88 bytes gathered
  pub first_put : sectors_full (opened_new 0 name) x ≡ 0
  pub second_put : sectors_full (one_put name x) y ≡ 1
  pub gathered : length (two_puts name x y).gathered ≡ 88
  -- the commit gives the job its 600 bytes, in two sectors with 88 in the last
  pub size : job_length (two_puts name x y) ≡ 600
  pub extent : extent_of 600 ≡ (2, 88)

abbrev pub Streaming : Type 0
Streaming = (name x y z : List ℕ) → length x ≡ 300 → length y ≡ 300 → length z ≡ 1 → Streamed name x y z

-- WIPING: a cut in each step

-- what each first part of a wipe of a job of two sectors leaves of its slot
abbrev pub wipe_cut : Job → ℕ → Slot
wipe_cut j i = wiped (entries_written (take i (wipe_writes 0 2))) (live j)

pub record WipeCuts (j : Job) : Type 0 where
  pub writes : length (wipe_writes 0 2) ≡ 4
  pub nothing : wipe_cut j 0 ≡ live j
  pub marked : wipe_cut j 1 ≡ held 2
  pub one_zeroed : wipe_cut j 2 ≡ held 2
  pub all_zeroed : wipe_cut j 3 ≡ held 2
  pub whole : wipe_cut j 4 ≡ empty

abbrev pub Wiping : Type 0
Wiping = (j : Job) → length j.bytes ≡ 600 → WipeCuts j

-- SAVING OVER AN ERASED JOB: cut before the new entry, nothing of either job is to be had

abbrev pub save_cut : Place → (old new : Job) → ℕ → Slot
save_cut p old new i = saved new (entries_written (take i (save_writes 0 p new))) (erased old)

pub record SaveCuts (p : Place) (old new : Job) : Type 0 where
  pub writes : length (save_writes 0 p new) ≡ 4
  pub nothing : save_cut p old new 0 ≡ erased old
  pub cleared : save_cut p old new 1 ≡ empty
  pub one_sector : save_cut p old new 2 ≡ empty
  pub all_data : save_cut p old new 3 ≡ empty
  pub whole : save_cut p old new 4 ≡ live new

abbrev pub SavingOver : Type 0
SavingOver = (p : Place) (old new shown : Job) → decoded p ≡ erased shown → length new.bytes ≡ 600 → SaveCuts p old new
