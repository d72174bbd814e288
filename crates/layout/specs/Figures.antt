-- Worked figures, held against the definitions.
use Rattle.std.specs.Prelude.{◌≡◌, ℕ, Bool, true, not, ◌&&◌, List, [], ◌∷◌, is_some, ◌==◌}
use Rattle.std.specs.Str.{bytes_eq}
use Rattle.layout.specs.Words.{double_bytes}
use Rattle.layout.specs.Sizes.{layout_of, place_of, block_of}
use Rattle.layout.specs.Extents.{extent_of, size_of}

pub data Figure : Type 0 where
  -- a double word and the four bytes that store it
  stored : ℕ → (a b c d : ℕ) → Figure
  -- a card of s sectors: its entries, the first sector of its data area, its slots
  sized : (s entries area slots : ℕ) → Figure
  -- the sectors of n bytes, and the bytes in the last of them
  spans : (n sectors last : ℕ) → Figure
  -- a job of n bytes is too long
  too_long : ℕ → Figure
  -- on a card of s sectors slot k: the first sector of its block; the sector of its entry, and the first byte there
  placed : (s k block sector offset : ℕ) → Figure

abbrev pub right : Figure → Bool
right (stored n a b c d) = bytes_eq (double_bytes n) (a ∷ b ∷ c ∷ d ∷ [])
right (sized s e a u) = (layout_of s).entries == e && ((layout_of s).area == a && (layout_of s).slots == u)
right (spans n s b) = (extent_of n).0 == s && (extent_of n).1 == b
right (too_long n) = not (is_some (size_of n))
right (placed s k b n o) = block_of (layout_of s) k == b && ((place_of k).sector == n && (place_of k).offset == o)

abbrev pub all_right : List Figure → Bool
all_right [] = true
all_right (f ∷ fs) = right f && all_right fs

abbrev pub figures : List Figure
figures =
    stored 0x0007A800 0x07 0x00 0x00 0xA8
    ∷ sized 501760 3920 246 3918
    ∷ sized 129 1 2 0
    ∷ sized 130 1 2 1
    ∷ sized 2176 17 3 16
    ∷ sized 2179 17 3 17
    ∷ spans 13512 27 200
    ∷ spans 5121 11 1
    ∷ spans 65535 128 511
    ∷ too_long 65536
    ∷ placed 501760 17 2422 2 32
    ∷ stored 2422 0x00 0x00 0x76 0x09
    ∷ []

abbrev pub FiguresHold : Type 0
FiguresHold = all_right figures ≡ true
