-- A card's sectors as a list of places, one to a slot, and what writes do to them.
use Rattle.std.specs.Prelude.{◌≡◌, ℕ, zero, suc, ◌+◌, ◌-◌, ◌*◌, ◌<◌, ◌≤◌, List, [], ◌∷◌, length, take, drop, slice_index_or, slice_set}
use Rattle.device.specs.Meaning.{Sectors, Bytes}
use Rattle.layout.specs.Bytes.{part}
use Rattle.layout.specs.Sizes.{layout_of, place_of, block_of}
use Rattle.layout.specs.declared.sizes.Layout.{Layout}
use Rattle.places.specs.SlotWrites.{SlotAct, SlotWrite, enter, fill, all_written}

-- the entries in the sectors of the directory: those of the slots, and some past them
abbrev pub entries_listed : Layout → ℕ
entries_listed c = 16 * (c.area - 1)

-- a layout whose slots have their entries before the data area and their blocks on the card; one without slots asks
-- for no room
pub record Sound (c : Layout) : Type 0 where
  pub directory : 1 ≤ c.area
  pub listed : c.slots ≤ entries_listed c
  pub room : 0 < c.slots → c.area + 128 * c.slots ≤ c.sectors

-- at least as many sectors as the card has, each of 512 bytes
pub record Shaped (c : Layout) (s : Sectors) : Type 0 where
  pub many : c.sectors ≤ length s
  pub whole : (i : ℕ) → i < length s → length (slice_index_or s i []) ≡ 512
  pub bytes : (i : ℕ) → Bytes (slice_index_or s i [])

-- a slot: its number, the first sector of its block, its entry, and the sectors of its block
pub record Place : Type 0 where
  pub slot : ℕ
  pub first : ℕ
  pub entry : List ℕ
  pub sectors : Sectors

unfoldable pub place : Layout → Sectors → ℕ → Place
place c s k = record {
  slot = k;
  first = block_of c k;
  entry = part (slice_index_or s (place_of k).sector []) (place_of k).offset 32;
  sectors = take 128 (drop (block_of c k) s);
}

-- f i, f (i + 1) and so on, n of them
abbrev pub counted_up : {X : Type 0} → (ℕ → X) → ℕ → ℕ → List X
counted_up f i zero = []
counted_up f i (suc n) = f i ∷ counted_up f (suc i) n

unfoldable pub places : Layout → Sectors → List Place
places c s = counted_up (place c s) 0 c.slots

-- what stands past the last slot
abbrev pub no_place : Place
no_place = record { slot = 0; first = 0; entry = []; sectors = [] }

-- a place after an act on it
abbrev pub acted : Place → SlotAct → Place
acted p (enter e) = record { slot = p.slot; first = p.first; entry = e; sectors = p.sectors }
acted p (fill i x) = record { slot = p.slot; first = p.first; entry = p.entry; sectors = slice_set p.sectors i x }

-- the places after a write, and after several, in order
abbrev pub moved : List Place → SlotWrite → List Place
moved ps w = slice_set ps w.slot (acted (slice_index_or ps w.slot no_place) w.act)

abbrev pub all_moved : List Place → List SlotWrite → List Place
all_moved ps [] = ps
all_moved ps (w ∷ ws) = all_moved (moved ps w) ws

-- an act of the right size, within the block
abbrev pub FitsAct : SlotAct → Type 0
FitsAct (enter e) = (length e ≡ 32) × Bytes e
FitsAct (fill i x) = (length x ≡ 512) × Bytes x × (i < 128)

-- writes to slots of the card
abbrev pub Fits : Layout → List SlotWrite → Type 0
Fits c [] = Unit {0}
Fits c (w ∷ ws) = (w.slot < c.slots) × FitsAct w.act × Fits c ws

-- the layout of any number of sectors is sound
abbrev pub LayoutsSound : Type 0
LayoutsSound = (s : ℕ) → Sound (layout_of s)

-- on a card with a sound layout writes that fit leave its shape, and move its places as they say
abbrev pub WritesRefine : Type 0
WritesRefine =
    (c : Layout) → Sound c → (s : Sectors) → Shaped c s → (ws : List SlotWrite) → Fits c ws →
    Shaped c (all_written c s ws) × (places c (all_written c s ws) ≡ all_moved (places c s) ws)
