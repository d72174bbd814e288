-- The writes that calls make to a card, as its slots see them, and as sectors.
use Rattle.std.specs.Prelude.{ℕ, ◌+◌, List, [], ◌∷◌, ◌++◌, take, drop, slice_index_or, slice_set}
use Rattle.device.specs.Meaning.{Sectors}
use Rattle.layout.specs.Sizes.{place_of, block_of}
use Rattle.layout.specs.declared.sizes.Layout.{Layout}
use Rattle.runs.specs.Writes.{SectorWrite, write_of}

-- what is written of a slot
pub data SlotAct : Type 0 where
  -- these 32 bytes as its entry, the other fifteen entries of the directory sector unchanged
  enter : List ℕ → SlotAct
  -- these 512 bytes as sector i of its block
  fill : ℕ → List ℕ → SlotAct

pub record SlotWrite : Type 0 where
  pub slot : ℕ
  pub act : SlotAct

-- the sector x with the 32 bytes e from byte o on
unfoldable pub spliced : List ℕ → ℕ → List ℕ → List ℕ
spliced x o e = take o x ++ (e ++ drop 32 (drop o x))

-- the sector write that an act on slot k is, on sectors as they are then
abbrev pub sector_write : Layout → Sectors → ℕ → SlotAct → SectorWrite
sector_write c s k (enter e) = write_of (place_of k).sector (spliced (slice_index_or s (place_of k).sector []) (place_of k).offset e)
sector_write c s k (fill i x) = write_of (block_of c k + i) x

-- the sectors once a write persists, and once several do, in order
abbrev pub written : Layout → Sectors → SlotWrite → Sectors
written c s w = let v = sector_write c s w.slot w.act in slice_set s v.at v.bytes

abbrev pub all_written : Layout → Sectors → List SlotWrite → Sectors
all_written c s [] = s
all_written c s (w ∷ ws) = all_written c (written c s w) ws
