-- What a device means: its sectors, its geometry and its condition.
use Rattle.std.specs.Prelude.{◌≡◌, ℕ, ◌<◌, ◌≤◌, List, [], length, replicate, slice_index, slice_index_or, slice_set}
use Rattle.device.specs.declared.faults.Geometry.{Geometry}

-- steady: it refuses nothing; well: it may refuse, and is failed from then on; failed: it refuses everything
pub data Condition : Type 0 where
  steady well failed : Condition

abbrev pub Sectors : Type 0
Sectors = List (List ℕ)

pub record Meaning : Type 0 where
  pub sectors : Sectors
  pub geometry : Geometry
  pub condition : Condition

-- sector n, which is there
abbrev pub sector : Meaning → ℕ → List ℕ
sector m n = slice_index_or m.sectors n []

-- n zero bytes
unfoldable pub zeros : ℕ → List ℕ
zeros n = replicate n 0

-- each number of the list is a byte
abbrev pub Bytes : List ℕ → Type 0
Bytes b = (i : ℕ) → slice_index b i < 256

-- at most 268,435,456 sectors, each of 512 bytes
pub record Lawful (m : Meaning) : Type 0 where
  pub few : length m.sectors ≤ 268435456
  pub whole : (k : ℕ) → k < length m.sectors → length (sector m k) ≡ 512
  pub bytes : (k : ℕ) → Bytes (sector m k)

-- a failed device accepts nothing
abbrev pub MayAccept : Condition → Type 0
MayAccept steady = Unit {0}
MayAccept well = Unit {0}
MayAccept failed = ⊥

-- a steady one refuses nothing
abbrev pub MayRefuse : Condition → Type 0
MayRefuse steady = ⊥
MayRefuse well = Unit {0}
MayRefuse failed = Unit {0}

abbrev pub with_sector : Meaning → ℕ → List ℕ → Meaning
with_sector m n b = record { sectors = slice_set m.sectors n b; geometry = m.geometry; condition = m.condition }

-- a refusal moves the condition and nothing else; a failed device stays as it is
abbrev pub now_failed : Meaning → Meaning
now_failed m = record { sectors = m.sectors; geometry = m.geometry; condition = failed }
