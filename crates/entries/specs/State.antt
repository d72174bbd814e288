-- What an entry says of its slot, told from the first byte of its name.
use Rattle.std.specs.Prelude.{ℕ, min, Bool, cond, ◌&&◌, ◌==◌, nat_lt, slice_index}
use Rattle.layout.specs.Extents.{extent_of}
use Rattle.layout.specs.Names.{lawful_name}
use Rattle.layout.specs.Sizes.{block_of}
use Rattle.layout.specs.declared.sizes.Layout.{Layout}
use Rattle.entries.specs.declared.entry.Entry.{Entry}
use Rattle.entries.specs.declared.state.EntryState.{EntryState}
use Rattle.entries.specs.declared.state.EntryState.TheVariants.{Empty, Held, Erased, Live, Damaged}

-- the fields are those of a file in slot k, whose block begins at sector a; any type may stand
unfoldable pub lawful_fields : (k a : ℕ) → Entry → Bool
lawful_fields k a e = lawful_name e.name && (e.slot == k && (e.first == a && e.sectors == (extent_of e.size).0))

-- the entry e is that of a file in slot k: below the number of slots, with lawful name, slot, first sector and sectors
unfoldable pub live_entry : Layout → ℕ → Entry → Bool
live_entry l k e = nat_lt k l.slots && lawful_fields k (block_of l k) e

-- what the entry says of its slot, by whether it is that of a file. $00: empty, or held where sectors are left to be wiped, at
-- most 128; $7F: erased; else live or damaged
unfoldable pub state_by : Bool → Entry → EntryState
state_by lawful e =
    cond (slice_index e.name 0 == 0) (cond (e.sectors == 0) Empty (Held (min 128 e.sectors)))
    (cond (slice_index e.name 0 == 127) Erased (cond lawful Live Damaged))

unfoldable pub state_of : Layout → ℕ → Entry → EntryState
state_of l k e = state_by (live_entry l k e) e
