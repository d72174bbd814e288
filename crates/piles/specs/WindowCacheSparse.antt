-- What a write to a window over a cache over a sparse card answers.
use Rattle.std.specs.Prelude.{◌≡◌, ℕ, ◌+◌, ◌<◌, ◌≤◌, ◌≢◌, ◌⊎◌, List, length, Ok, Err, Result}
use Rattle.device.specs.Faults.{fault}
use Rattle.device.specs.declared.faults.Fault.{Fault}
use Rattle.device.specs.declared.faults.Cause.TheVariants.{Length, Range, Device}
use Rattle.device.specs.declared.faults.Act.TheVariants.{Write}

-- the card has no place for sector n of the window from `first` on: the fault arose two layers down, and names the
-- sector as the card counts it
abbrev pub full_below : (first n : ℕ) → Fault
full_below first n = record { cause = Device; act = Write; sector = first + n; level = 2 }

-- b written to sector n of a window of s sectors from `first` on
pub record WrittenOrFull (s first n : ℕ) (b : List ℕ) (r : Result (Unit {0}) Fault) : Type 0 where
  pub wrong_length : length b ≢ 512 → r ≡ Err (fault Length Write n)
  pub out_of_range : length b ≡ 512 → s ≤ n → r ≡ Err (fault Range Write n)
  pub otherwise : length b ≡ 512 → n < s → (r ≡ Ok tt) ⊎ (r ≡ Err (full_below first n))
