-- What a read and a write answer and leave, by what they are asked. In all: t is the faults that may be named, m the
-- device before and m' after, n the sector, r the answer; of a read b is the buffer before and b' after, of a write
-- b is the bytes to be written.
use Rattle.std.specs.Prelude.{◌≡◌, ℕ, ◌<◌, ◌≤◌, ◌≢◌, ◌⊎◌, List, length, Ok, Err, Result}
use Rattle.device.specs.Faults.{Faults, fault}
use Rattle.device.specs.Meaning.{Meaning, MayAccept, MayRefuse, sector, with_sector, now_failed, well}
use Rattle.device.specs.declared.faults.Fault.{Fault}
use Rattle.device.specs.declared.faults.Cause.TheVariants.{Length, Range}
use Rattle.device.specs.declared.faults.Act.TheVariants.{Read, Write}

-- a read into a buffer of 512 bytes of a sector that is there
abbrev pub ReadAnswer : Faults → (m m' : Meaning) (n : ℕ) (b b' : List ℕ) → Result (Unit {0}) Fault → Type 0
ReadAnswer t m m' n b b' (Ok u) = MayAccept m.condition × (b' ≡ sector m n) × (m' ≡ m)
ReadAnswer t m m' n b b' (Err f) = MayRefuse m.condition × t Read n f × (b' ≡ b) × (m' ≡ now_failed m)

pub record Reads (t : Faults) (m m' : Meaning) (n : ℕ) (b b' : List ℕ) (r : Result (Unit {0}) Fault) : Type 0 where
  pub wrong_length : length b ≢ 512 → (r ≡ Err (fault Length Read n)) × (b' ≡ b) × (m' ≡ m)
  pub out_of_range : length b ≡ 512 → length m.sectors ≤ n → (r ≡ Err (fault Range Read n)) × (b' ≡ b) × (m' ≡ m)
  pub otherwise : length b ≡ 512 → n < length m.sectors → ReadAnswer t m m' n b b' r

-- a refused write leaves the sector old or, if the device was well, perhaps new
abbrev pub OldOrNew : (m m' : Meaning) (n : ℕ) (b : List ℕ) → Type 0
OldOrNew m m' n b = (m' ≡ now_failed m) ⊎ ((m.condition ≡ well) × (m' ≡ now_failed (with_sector m n b)))

-- a write of 512 bytes to a sector that is there
abbrev pub WriteAnswer : Faults → (m m' : Meaning) (n : ℕ) (b : List ℕ) → Result (Unit {0}) Fault → Type 0
WriteAnswer t m m' n b (Ok u) = MayAccept m.condition × (m' ≡ with_sector m n b)
WriteAnswer t m m' n b (Err f) = MayRefuse m.condition × t Write n f × OldOrNew m m' n b

pub record Writes (t : Faults) (m m' : Meaning) (n : ℕ) (b : List ℕ) (r : Result (Unit {0}) Fault) : Type 0 where
  pub wrong_length : length b ≢ 512 → (r ≡ Err (fault Length Write n)) × (m' ≡ m)
  pub out_of_range : length b ≡ 512 → length m.sectors ≤ n → (r ≡ Err (fault Range Write n)) × (m' ≡ m)
  pub otherwise : length b ≡ 512 → n < length m.sectors → WriteAnswer t m m' n b r
