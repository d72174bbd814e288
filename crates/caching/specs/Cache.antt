-- The cache: what it keeps, and what that has to do with the device beneath.
use Rattle.std.specs.Prelude.{◌≡◌, ℕ, ◌<◌, ◌≢◌, ◌⊎◌, List, length, Some, None, Ok, Err, Option, Result, slice_index_or}
use Rattle.device.specs.Meaning.{Meaning, MayAccept, sector}
use Rattle.device.specs.declared.faults.Fault.{Fault}
use Rattle.device.specs.declared.sector_device.SectorDevice.{Ghosts}
use Rattle.layers.specs.Layer.{passed_on}
use Rattle.caching.specs.declared.cache.Cache.{Cache}
use Rattle.kept.specs.Kept.{Places}
use Rattle.kept.specs.declared.KeptSector.{KeptSector}

-- a place keeps the bytes b of sector n
abbrev pub InPlace : Option KeptSector → ℕ → List ℕ → Type 0
InPlace (Some e) n b = (e.sector ≡ n) × (e.bytes ≡ b)
InPlace None n b = ⊥

-- one of the four places keeps the bytes b of sector n
abbrev pub Kept : Places → ℕ → List ℕ → Type 0
Kept xs n b = (i : ℕ) × (i < 4) × InPlace (slice_index_or xs i None) n b

abbrev pub NothingKept : Places → Type 0
NothingKept xs = (n : ℕ) (b : List ℕ) → Kept xs n b → ⊥

-- what is kept is what lies there, and nothing is kept of a failed device
abbrev pub TrueOf : Meaning → Places → Type 0
TrueOf m xs = (n : ℕ) (b : List ℕ) → Kept xs n b → (n < length m.sectors) × (b ≡ sector m n) × MayAccept m.condition

-- it means what the device beneath means; it is sound where that device is and what is kept is true of it
abbrev pub cache_layer : {D : Type 0} → Ghosts D → Ghosts (Cache D)
cache_layer g = record {
  meaning = λ d. g.meaning d.beneath;
  sound = λ d. g.sound d.beneath × TrueOf (g.meaning d.beneath) d.entries.places;
  faults = λ d. passed_on (g.faults d.beneath);
}

-- ys keeps the bytes b of sector n, and otherwise only what xs keeps of other sectors
pub record KeptToo (xs ys : Places) (n : ℕ) (b : List ℕ) : Type 0 where
  pub here : Kept ys n b
  pub others : (k : ℕ) (x : List ℕ) → Kept ys k x → ((k ≡ n) × (x ≡ b)) ⊎ ((k ≢ n) × Kept xs k x)

-- after a transfer of sector n with the bytes b: kept too if it was accepted, and otherwise nothing is kept
abbrev pub Followed : (xs ys : Places) → ℕ → List ℕ → Result (Unit {0}) Fault → Type 0
Followed xs ys n b (Ok u) = KeptToo xs ys n b
Followed xs ys n b (Err f) = NothingKept ys
