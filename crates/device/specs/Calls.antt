-- What a call on any device d promises, as short clauses: d' is the device after it.
use Rattle.std.specs.Prelude.{ℕ, List, Result}
use Rattle.device.specs.Faults.{Faults, Within}
use Rattle.device.specs.Meaning.{Meaning}
use Rattle.device.specs.Transfers.{Reads, Writes}
use Rattle.device.specs.declared.faults.Fault.{Fault}
use Rattle.device.specs.declared.sector_device.SectorDevice.{Ghosts}

-- a sound device stays sound, and names no faults that it did not name before
abbrev pub Keeps : {D : Type 0} → Ghosts D → D → D → Type 0
Keeps g d d' = g.sound d → g.sound d' × Within (g.faults d') (g.faults d)

-- of a sound device: a promise about the faults that it may name, and about what it means before and after
abbrev pub OfSound : {D : Type 0} → Ghosts D → D → D → (Faults → Meaning → Meaning → Type 0) → Type 0
OfSound g d d' P = g.sound d → P (g.faults d) (g.meaning d) (g.meaning d')

-- The trait's own clauses for a make with the ghost members g, which a call takes from d to d'.
abbrev pub Stays : {D : Type 0} → Ghosts D → (d d' : D) → Type 0
Stays g d d' = g.sound d → g.sound d'

abbrev pub KeepsFaults : {D : Type 0} → Ghosts D → (d d' : D) → Type 0
KeepsFaults g d d' = g.sound d → Within (g.faults d') (g.faults d)

abbrev pub ReadsSector : {D : Type 0} → Ghosts D → (d d' : D) (n : ℕ) (b b' : List ℕ) → Result (Unit {0}) Fault → Type 0
ReadsSector g d d' n b b' r = g.sound d → Reads (g.faults d) (g.meaning d) (g.meaning d') n b b' r

abbrev pub WritesSector : {D : Type 0} → Ghosts D → (d d' : D) (n : ℕ) (b : List ℕ) → Result (Unit {0}) Fault → Type 0
WritesSector g d d' n b r = g.sound d → Writes (g.faults d) (g.meaning d) (g.meaning d') n b r
