-- What a call promises of a make each value of which is sound: the clauses of device.specs.Calls, of every value and not of a
-- sound one alone. In all: d is the device before the call and d' after it.
use Rattle.std.specs.Prelude.{ℕ, List, Result}
use Rattle.device.specs.Faults.{Faults, Within}
use Rattle.device.specs.Meaning.{Meaning}
use Rattle.device.specs.Transfers.{Reads, Writes}
use Rattle.device.specs.declared.faults.Fault.{Fault}
use Rattle.device.specs.declared.sector_device.SectorDevice.{Ghosts}

-- it names no faults that it did not name before
abbrev pub KeepsFaults : {D : Type 0} → Ghosts D → (d d' : D) → Type 0
KeepsFaults g d d' = Within (g.faults d') (g.faults d)

-- a promise about the faults that it may name, and about what it means before and after
abbrev pub Means : {D : Type 0} → Ghosts D → D → D → (Faults → Meaning → Meaning → Type 0) → Type 0
Means g d d' P = P (g.faults d) (g.meaning d) (g.meaning d')

abbrev pub ReadsSector : {D : Type 0} → Ghosts D → (d d' : D) (n : ℕ) (b b' : List ℕ) → Result (Unit {0}) Fault → Type 0
ReadsSector g d d' n b b' r = Reads (g.faults d) (g.meaning d) (g.meaning d') n b b' r

abbrev pub WritesSector : {D : Type 0} → Ghosts D → (d d' : D) (n : ℕ) (b : List ℕ) → Result (Unit {0}) Fault → Type 0
WritesSector g d d' n b r = Writes (g.faults d) (g.meaning d) (g.meaning d') n b r
