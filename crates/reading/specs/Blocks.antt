-- Reads of the bytes of a slot's block.
use Rattle.std.specs.Prelude.{◌≡◌, ℕ, ◌%◌, ◌<◌, Bool, List, length, Ok, Err, Result}
use Rattle.std.specs.Str.{bytes_eq}
use Rattle.device.specs.Faults.{Faults}
use Rattle.device.specs.Meaning.{Meaning, Sectors, MayAccept, sector}
use Rattle.device.specs.declared.faults.Fault.{Fault}
use Rattle.layout.specs.Bytes.{part}
use Rattle.layout.specs.declared.sizes.Layout.{Layout}
use Rattle.places.specs.Places.{places}
use Rattle.plans.specs.Plans.{place_in}
use Rattle.plans.specs.Slots.{bytes_in}
use Rattle.volume.specs.Directory.{ReadRefused}
use Rattle.reading.specs.Buffers.{PartRead}

-- the bytes in the sectors of slot k's block
abbrev pub block_bytes : Layout → Sectors → ℕ → List ℕ
block_bytes c s k = bytes_in (place_in (places c s) k).sectors

-- the buffer holds the bytes x, and nothing else changed
pub record BytesRead (m m' : Meaning) (x b' : List ℕ) : Type 0 where
  pub same : m' ≡ m
  pub was_read : 0 < length x → MayAccept m.condition
  pub holds : b' ≡ x

-- a read of sector n was refused, and what the buffer holds then
pub record BytesCut (t : Faults) (m m' : Meaning) (f : Fault) (B : Type 0) : Type 0 where
  pub sector : ℕ
  pub refused : ReadRefused t m m' sector f
  pub holds : B

-- a part b of at most a sector's bytes, from byte `skip` of sector n on
abbrev pub ReadsPart : Faults → (m m' : Meaning) (n skip : ℕ) (b b' : List ℕ) → Result (Unit {0}) Fault → Type 0
ReadsPart t m m' n skip b b' (Ok u) = MayAccept m.condition × (m' ≡ m) × (b' ≡ part (sector m n) skip (length b))
ReadsPart t m m' n skip b b' (Err f) = ReadRefused t m m' n f × (b' ≡ b)

-- the bytes x of a block, which begin at a place of it
abbrev pub ReadsInto : Faults → (m m' : Meaning) (place : ℕ) (x b b' : List ℕ) → Result (Unit {0}) Fault → Type 0
ReadsInto t m m' place x b b' (Ok u) = BytesRead m m' x b'
ReadsInto t m m' place x b b' (Err f) = BytesCut t m m' f (PartRead x (place % 512) b b')

-- whether the bytes x and y are equal
abbrev pub ComparesBytes : Faults → (m m' : Meaning) (x y : List ℕ) → Result Bool Fault → Type 0
ComparesBytes t m m' x y (Ok v) = (m' ≡ m) × (v ≡ bytes_eq x y)
ComparesBytes t m m' x y (Err f) = (n : ℕ) × ReadRefused t m m' n f
