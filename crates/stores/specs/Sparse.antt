-- The sparse card: some sectors in a table of places that the caller lends, the others zeros. In all: xs is the table,
-- s the number of sectors, n a sector.
use Rattle.std.specs.Prelude.{◌≡◌, ℕ, ◌<◌, ◌≤◌, Bool, true, false, cond, ◌≢◌, List, [], ◌∷◌, map, length, replicate, Some, None, Ok, Err, Option, Result, nat_le, slice_index_or, slice_set}
use Rattle.std.specs.Coded.{Coded-set, coded_ℕ, Unit-prop, le_prop}
use Rattle.device.specs.Faults.{Faults, fault}
use Rattle.device.specs.Meaning.{Meaning, Sectors, Bytes, zeros, well, failed}
use Rattle.device.specs.declared.faults.Fault.{Fault}
use Rattle.device.specs.declared.faults.Geometry.{Geometry}
use Rattle.device.specs.declared.faults.Cause.TheVariants.{Device}
use Rattle.device.specs.declared.faults.Act.TheVariants.{Write}
use Rattle.kept.specs.Kept.{Places, given_back}
use Rattle.kept.specs.declared.KeptSector.{KeptSector}

-- a lawful size
abbrev pub SparseSize : ℕ → Type 0
SparseSize n = (1 ≤ n) × (n ≤ 268435456)

-- the number of sectors of a card for which n are asked: none where n is above every lawful size
abbrev pub sparse_count : ℕ → ℕ
sparse_count n = cond (nat_le n 268435456) n 0

-- s sectors of zeros, with the kept ones laid over them; where two places keep the same sector, the first counts
unfoldable pub sparse_sectors : ℕ → Places → Sectors
sparse_sectors s [] = replicate s (zeros 512)
sparse_sectors s (None ∷ xs) = sparse_sectors s xs
sparse_sectors s (Some x ∷ xs) = slice_set (sparse_sectors s xs) x.sector x.bytes

abbrev pub sparse_of : Places → ℕ → Geometry → Bool → Meaning
sparse_of xs s g f = record { sectors = sparse_sectors s xs; geometry = g; condition = cond f failed well }

-- its device refusals arise in itself
abbrev pub sparse_faults : Faults
sparse_faults a n f = f ≡ fault Device a n

-- the place o keeps sector n
abbrev pub KeptIn : Option KeptSector → ℕ → Type 0
KeptIn (Some x) n = x.sector ≡ n
KeptIn None n = ⊥

-- a kept sector is on the card, has 512 bytes, and is not all zero
pub record KeptSound (s : ℕ) (x : KeptSector) : Type 0 where
  pub there : x.sector < s
  pub whole : length x.bytes ≡ 512
  pub bytes : Bytes x.bytes
  pub needed : x.bytes ≢ zeros 512

abbrev pub PlaceSound : ℕ → Option KeptSector → Type 0
PlaceSound s (Some x) = KeptSound s x
PlaceSound s None = Unit {0}

-- the size is not above the lawful ones, each kept sector is as it should be, and no sector has two places
pub record SparseSound (xs : Places) (s : ℕ) : Type 0 where
  pub few : s ≤ 268435456
  pub each : (i : ℕ) → PlaceSound s (slice_index_or xs i None)
  pub once : (i j n : ℕ) → KeptIn (slice_index_or xs i None) n → KeptIn (slice_index_or xs j None) n → i ≡ j

never-prop : IsProp ⊥
never-prop x y = absurd x

kept_sound-prop : (s : ℕ) (x : KeptSector) → IsProp (KeptSound s x)
kept_sound-prop s x p q = λ i. record {
  there = le_prop p.there q.there i;
  whole = Coded-set coded_ℕ (length x.bytes) 512 p.whole q.whole i;
  bytes = λ k. le_prop (p.bytes k) (q.bytes k) i;
  needed = λ e. never-prop (p.needed e) (q.needed e) i;
}

place_sound-prop : (s : ℕ) (o : Option KeptSector) → IsProp (PlaceSound s o)
place_sound-prop s (Some x) = kept_sound-prop s x
place_sound-prop s None = Unit-prop

-- there is at most one proof of it, as a ghost field asks
pub sparse_sound-prop : (xs : Places) (s : ℕ) → IsProp (SparseSound xs s)
sparse_sound-prop xs s p q = λ i. record {
  few = le_prop p.few q.few i;
  each = λ k. place_sound-prop s (slice_index_or xs k None) (p.each k) (q.each k) i;
  once = λ k j n a b. Coded-set coded_ℕ k j (p.once k j n a b) (q.once k j n a b) i;
}

-- place i may take sector n: it is the first that keeps n or, where none keeps n, it is free
pub record PlaceFor (xs : Places) (n i : ℕ) : Type 0 where
  pub there : i < length xs
  pub no_other : (k : ℕ) → KeptIn (slice_index_or xs i None) k → k ≡ n
  pub first : (j : ℕ) → KeptIn (slice_index_or xs j None) n → (i ≤ j) × KeptIn (slice_index_or xs i None) n

-- no place keeps sector n, and none is free
pub record Full (xs : Places) (n : ℕ) : Type 0 where
  pub not_kept : (j : ℕ) → KeptIn (slice_index_or xs j None) n → ⊥
  pub none_free : (j : ℕ) → j < length xs → slice_index_or xs j None ≢ None

-- which place sector n is to take, if any
abbrev pub Slot : Places → ℕ → Option ℕ → Type 0
Slot xs n (Some i) = PlaceFor xs n i
Slot xs n None = Full xs n

-- the table ys after bytes b are written to sector n: zeros give back every place of n, other bytes take one place
pub record Stored (xs ys : Places) (n : ℕ) (b : List ℕ) : Type 0 where
  pub of_zeros : b ≡ zeros 512 → ys ≡ map (given_back n) xs
  pub of_others : b ≢ zeros 512 → (i : ℕ) × PlaceFor xs n i × (ys ≡ slice_set xs i (Some (record { sector = n; bytes = b })))

-- the table after a write, by its answer
abbrev pub TableAfter : (xs ys : Places) → ℕ → List ℕ → Result (Unit {0}) Fault → Type 0
TableAfter xs ys n b (Ok u) = Stored xs ys n b
TableAfter xs ys n b (Err f) = ys ≡ xs

-- f and f' say whether the card is failed before and after a write of bytes b, which is answered by r: a card that is
-- well refuses exactly where b is not all zero, no place keeps the sector and none is free
pub record Begins (xs : Places) (s n : ℕ) (b : List ℕ) (f f' : Bool) (r : Result (Unit {0}) Fault) : Type 0 where
  pub only_then : f ≡ false → f' ≡ true → (length b ≡ 512) × (n < s) × (b ≢ zeros 512) × Full xs n
  pub always_then :
      f ≡ false → length b ≡ 512 → n < s → b ≢ zeros 512 → Full xs n → (f' ≡ true) × (r ≡ Err (fault Device Write n))
  pub otherwise :
      f ≡ false → length b ≡ 512 → n < s → (b ≢ zeros 512 → Full xs n → ⊥) → (f' ≡ false) × (r ≡ Ok tt)
