-- The window: some sectors of the device beneath, counted from 0.
use Rattle.std.specs.Prelude.{◌≡◌, ℕ, ◌+◌, ◌<◌, ◌≤◌, cond, ◌≢◌, List, length, take, drop, Result, nat_le}
use Rattle.device.specs.Faults.{Faults, raised_faults}
use Rattle.device.specs.Meaning.{Meaning}
use Rattle.device.specs.Transfers.{ReadAnswer, WriteAnswer}
use Rattle.device.specs.declared.faults.Fault.{Fault}
use Rattle.device.specs.declared.sector_device.SectorDevice.{Ghosts}
use Rattle.layers.specs.Layer.{passed_answer}
use Rattle.layers.specs.declared.window.Window.{Window}

-- a lawful window on a device of s sectors: at least one sector, and all of them there
pub record IsWindow (s first count : ℕ) : Type 0 where
  pub some : 1 ≤ count
  pub inside : first + count ≤ s

-- how many sectors it has: none unless all of them are there
abbrev pub window_count : (s first count : ℕ) → ℕ
window_count s first count = cond (nat_le (first + count) s) count 0

abbrev pub window_of : Meaning → (first count : ℕ) → Meaning
window_of m first count = record {
  sectors = take (window_count (length m.sectors) first count) (drop first m.sectors);
  geometry = m.geometry;
  condition = m.condition;
}

-- it counts the sector first + n of the device beneath as its sector n
abbrev pub window_layer : {D : Type 0} → Ghosts D → Ghosts (Window D)
window_layer g = record {
  meaning = λ d. window_of (g.meaning d.beneath) d.span.first d.span.count;
  sound = λ d. g.sound d.beneath;
  faults = λ d. raised_faults (g.faults d.beneath) (λ n. d.span.first + n);
}

-- What a transfer of sector n of the window does beneath: t is the faults of the device beneath, m that device before
-- and m' after. It is left as it was, or asked for sector first + n and nothing else.
pub record ReadsBeneath (t : Faults) (m m' : Meaning) (first count n : ℕ) (b b' : List ℕ) (r : Result (Unit {0}) Fault) : Type 0 where
  pub wrong_length : length b ≢ 512 → m' ≡ m
  pub out_of_range : length b ≡ 512 → window_count (length m.sectors) first count ≤ n → m' ≡ m
  pub otherwise : length b ≡ 512 → n < window_count (length m.sectors) first count →
      (a : Result (Unit {0}) Fault) × (r ≡ passed_answer a) × ReadAnswer t m m' (first + n) b b' a

pub record WritesBeneath (t : Faults) (m m' : Meaning) (first count n : ℕ) (b : List ℕ) (r : Result (Unit {0}) Fault) : Type 0 where
  pub wrong_length : length b ≢ 512 → m' ≡ m
  pub out_of_range : length b ≡ 512 → window_count (length m.sectors) first count ≤ n → m' ≡ m
  pub otherwise : length b ≡ 512 → n < window_count (length m.sectors) first count →
      (a : Result (Unit {0}) Fault) × (r ≡ passed_answer a) × WriteAnswer t m m' (first + n) b a

-- the same of a window d before and d' after
abbrev pub AsksRead : {D : Type 0} → Ghosts D → (d d' : Window D) (n : ℕ) (b b' : List ℕ) → Result (Unit {0}) Fault → Type 0
AsksRead g d d' n b b' r =
    g.sound d.beneath →
    ReadsBeneath (g.faults d.beneath) (g.meaning d.beneath) (g.meaning d'.beneath) d.span.first d.span.count n b b' r

abbrev pub AsksWrite : {D : Type 0} → Ghosts D → (d d' : Window D) (n : ℕ) (b : List ℕ) → Result (Unit {0}) Fault → Type 0
AsksWrite g d d' n b r =
    g.sound d.beneath →
    WritesBeneath (g.faults d.beneath) (g.meaning d.beneath) (g.meaning d'.beneath) d.span.first d.span.count n b r
