-- Faults: their numbers, how a layer passes one on, and the tests that every device makes first.
use Rattle.std.specs.Prelude.{◌≡◌, ℕ, ◌+◌, ◌<◌, ◌≤◌, min, ◌≢◌, Ok, Err, Result}
use Rattle.device.specs.declared.faults.Fault.{Fault}
use Rattle.device.specs.declared.faults.Cause.{Cause}
use Rattle.device.specs.declared.faults.Cause.TheVariants.{Length, Range, Device}
use Rattle.device.specs.declared.faults.Act.{Act}
use Rattle.device.specs.declared.faults.Act.TheVariants.{Read, Write}

abbrev pub cause_number : Cause → ℕ
cause_number Length = 1
cause_number Range = 2
cause_number Device = 3

abbrev pub act_number : Act → ℕ
act_number Read = 1
act_number Write = 2

-- a fault where it arises
abbrev pub fault : Cause → Act → ℕ → Fault
fault c a n = record { cause = c; act = a; sector = n; level = 0 }

-- the same fault one layer up: only its level rises, and stops at 255
abbrev pub raised_fault : Fault → Fault
raised_fault f = record { cause = f.cause; act = f.act; sector = f.sector; level = min 255 (f.level + 1) }

-- the tests before a transfer of sector n between a buffer of k bytes and a device of s sectors
pub record Checks (a : Act) (n s k : ℕ) (r : Result (Unit {0}) Fault) : Type 0 where
  pub wrong_length : k ≢ 512 → r ≡ Err (fault Length a n)
  pub out_of_range : k ≡ 512 → s ≤ n → r ≡ Err (fault Range a n)
  pub otherwise : k ≡ 512 → n < s → r ≡ Ok tt

-- which faults a device refusal of an act at a sector may name
abbrev pub Faults : Type 1
Faults = Act → ℕ → Fault → Type 0

-- those of a layer that counts sector n as sector (down n) of the device beneath: what is named there, one level up
abbrev pub raised_faults : Faults → (ℕ → ℕ) → Faults
raised_faults t down a n f = (e : Fault) × t a (down n) e × (f ≡ raised_fault e)

-- the first names no fault that the second does not
abbrev pub Within : Faults → Faults → Type 0
Within t u = (a : Act) (n : ℕ) (f : Fault) → t a n f → u a n f
