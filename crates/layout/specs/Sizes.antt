-- Where everything lies on a card of s sectors: the master sector, the directory from sector 1 on, the data area.
-- A block is 128 sectors, an entry is 32 bytes and a directory sector holds 16 of them.
use Rattle.std.specs.Prelude.{ℕ, ◌+◌, ◌-◌, ◌*◌, ◌/◌, ◌%◌, min}
use Rattle.layout.specs.declared.sizes.Layout.{Layout}
use Rattle.layout.specs.declared.sizes.EntryPlace.{EntryPlace}

-- the entries of the directory: one for each 128 sectors of the card
abbrev pub entries_of : ℕ → ℕ
entries_of s = min (s / 128) 65535

-- the first sector of the data area, which follows the directory
abbrev pub area_of : ℕ → ℕ
area_of s = 1 + (entries_of s + 15) / 16

-- the slots that files can take: those whose block lies on the card (a difference stops at 0)
abbrev pub slots_of : ℕ → ℕ
slots_of s = min (entries_of s) ((s - area_of s) / 128)

abbrev pub layout_of : ℕ → Layout
layout_of s = record { sectors = s; entries = entries_of s; area = area_of s; slots = slots_of s }

-- the entry of slot k: its directory sector, and its first byte there
abbrev pub place_of : ℕ → EntryPlace
place_of k = record { sector = 1 + k / 16; offset = 32 * (k % 16) }

-- the first sector of the block of slot k
abbrev pub block_of : Layout → ℕ → ℕ
block_of l k = l.area + 128 * k
