-- A list of sector writes on a device: all carried out, or interrupted. A write that is found on the card persists,
-- accepted or not; after a refused write none follows.
use Rattle.std.specs.Prelude.{◌≡◌, ℕ, zero, suc, ◌+◌, ◌<◌, ◌⊎◌, List, [], ◌∷◌, length, take, Ok, Err, Result, slice_index_or, slice_set}
use Rattle.device.specs.Faults.{Faults}
use Rattle.device.specs.Meaning.{Meaning, Sectors, MayAccept, MayRefuse, zeros, failed, well}
use Rattle.device.specs.declared.faults.Fault.{Fault}
use Rattle.device.specs.declared.faults.Act.TheVariants.{Write}

pub record SectorWrite : Type 0 where
  pub at : ℕ
  pub bytes : List ℕ

abbrev pub write_of : ℕ → List ℕ → SectorWrite
write_of n b = record { at = n; bytes = b }

-- the sectors once these writes persist, in order
unfoldable pub applied : Sectors → List SectorWrite → Sectors
applied s [] = s
applied s (w ∷ ws) = applied (slice_set s w.at w.bytes) ws

-- the device with these sectors
abbrev pub with_sectors : Meaning → Sectors → Meaning
with_sectors m s = record { sectors = s; geometry = m.geometry; condition = m.condition }

-- the device with these sectors, failed
abbrev pub failed_with : Meaning → Sectors → Meaning
failed_with m s = record { sectors = s; geometry = m.geometry; condition = failed }

-- all of the writes are accepted
pub record Completed (m m' : Meaning) (ws : List SectorWrite) : Type 0 where
  pub leaves : m' ≡ with_sectors m (applied m.sectors ws)
  pub accepted : 0 < length ws → MayAccept m.condition

-- write number `which` is refused with the fault f: those before it persist, and it does itself only if the device was
-- well
pub record Interrupted (t : Faults) (m m' : Meaning) (ws : List SectorWrite) (f : Fault) : Type 0 where
  pub which : ℕ
  pub is_one : which < length ws
  pub accepted : 0 < which → MayAccept m.condition
  pub refusable : MayRefuse m.condition
  pub names : t Write (slice_index_or ws which (write_of 0 [])).at f
  pub leaves : (m' ≡ failed_with m (applied m.sectors (take which ws)))
      ⊎ ((m.condition ≡ well) × (m' ≡ failed_with m (applied m.sectors (take (which + 1) ws))))

-- what a call that only writes answers and leaves
abbrev pub Written : {A : Type 0} → Faults → (m m' : Meaning) → List SectorWrite → Result A Fault → Type 0
Written t m m' ws (Ok a) = Completed m m' ws
Written t m m' ws (Err f) = Interrupted t m m' ws f

-- zeros into n sectors from the one at a on, upwards
unfoldable pub zeroing : ℕ → ℕ → List SectorWrite
zeroing a zero = []
zeroing a (suc n) = write_of a (zeros 512) ∷ zeroing (a + 1) n
