-- What holds of the open job that the program keeps, on a card of n sectors.
use Rattle.std.specs.Prelude.{◌≡◌, ℕ, ◌<◌, Some, Option}
use Rattle.layout.specs.Sizes.{layout_of}
use Rattle.volume.specs.declared.open_job.OpenJob.{OpenJob}

-- it is in a slot of the card
abbrev pub InSlot : ℕ → OpenJob → Type 0
InSlot n j = j.slot < (layout_of n).slots

-- P holds of the open job, if there is one
abbrev pub Each : (ℕ → OpenJob → Type 0) → ℕ → Option OpenJob → Type 0
Each P n o = (j : OpenJob) → o ≡ Some j → P n j
