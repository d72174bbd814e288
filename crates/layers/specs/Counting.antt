-- The counting layer: what it means, and what its counters say.
use Rattle.std.specs.Prelude.{ℕ, ◌+◌, min, Ok, Err, Result}
use Rattle.device.specs.declared.faults.Fault.{Fault}
use Rattle.device.specs.declared.sector_device.SectorDevice.{Ghosts}
use Rattle.layers.specs.Layer.{passed_on}
use Rattle.layers.specs.declared.counting.Counting.{Counting}

-- it means what the device beneath means
abbrev pub counting_layer : {D : Type 0} → Ghosts D → Ghosts (Counting D)
counting_layer g = record {
  meaning = λ d. g.meaning d.beneath;
  sound = λ d. g.sound d.beneath;
  faults = λ d. passed_on (g.faults d.beneath);
}

-- a counter of 64 bits moved on: it stops at 2^64 - 1
abbrev pub one_more : ℕ → ℕ
one_more k = min 18446744073709551615 (k + 1)

-- a counter after a transfer: moved on if the transfer was accepted
abbrev pub counted : ℕ → Result (Unit {0}) Fault → ℕ
counted k (Ok u) = one_more k
counted k (Err f) = k
