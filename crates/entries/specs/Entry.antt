-- An entry of the directory, and the 32 bytes that store it: the name at $00, type at $10, attributes at $11, slot at $12,
-- first sector at $14, size at $18, sectors at $1A, address at $1B, three reserved bytes at $1D.
use Rattle.std.specs.Prelude.{ℕ, List, [], ◌∷◌, ◌++◌, slice_index, slice_set}
use Rattle.device.specs.Meaning.{zeros}
use Rattle.layout.specs.Bytes.{part}
use Rattle.layout.specs.Words.{word_at, double_at, word_bytes, double_bytes}
use Rattle.layout.specs.Extents.{extent_of}
use Rattle.entries.specs.declared.entry.Entry.{Entry}

unfoldable pub entry_in : List ℕ → Entry
entry_in b = record {
  name = part b 0 16;
  kind = slice_index b 16;
  attributes = slice_index b 17;
  slot = word_at b 18;
  first = double_at b 20;
  size = word_at b 24;
  sectors = slice_index b 26;
  address = word_at b 27;
  reserved = part b 29 3;
}

-- the fields behind the name
unfoldable pub entry_rest : Entry → List ℕ
entry_rest e =
    (e.kind ∷ e.attributes ∷ []) ++ (word_bytes e.slot ++ (double_bytes e.first ++ (word_bytes e.size
    ++ ((e.sectors ∷ []) ++ (word_bytes e.address ++ e.reserved)))))

abbrev pub entry_bytes : Entry → List ℕ
entry_bytes e = e.name ++ entry_rest e

-- the entry of a new file: no attributes, nothing reserved
unfoldable pub new_entry : (name : List ℕ) (kind slot first size address : ℕ) → Entry
new_entry name kind slot first size address = record {
  name = name;
  kind = kind;
  attributes = 0;
  slot = slot;
  first = first;
  size = size;
  sectors = (extent_of size).0;
  address = address;
  reserved = zeros 3;
}

-- the entry of a held slot: zeros but for the sectors that are still to be wiped; of 0 sectors it is the empty entry
unfoldable pub hold_entry : ℕ → Entry
hold_entry n = record {
  name = zeros 16;
  kind = 0;
  attributes = 0;
  slot = 0;
  first = 0;
  size = 0;
  sectors = n;
  address = 0;
  reserved = zeros 3;
}

-- an entry with some fields changed, all others as they are
abbrev pub renamed : Entry → List ℕ → Entry
renamed e name = record {
  name = name;
  kind = e.kind;
  attributes = e.attributes;
  slot = e.slot;
  first = e.first;
  size = e.size;
  sectors = e.sectors;
  address = e.address;
  reserved = e.reserved;
}

abbrev pub first_set : Entry → ℕ → Entry
first_set e byte = renamed e (slice_set e.name 0 byte)

abbrev pub resized : Entry → ℕ → Entry
resized e size = record {
  name = e.name;
  kind = e.kind;
  attributes = e.attributes;
  slot = e.slot;
  first = e.first;
  size = size;
  sectors = (extent_of size).0;
  address = e.address;
  reserved = e.reserved;
}
