-- The numbers of the faults that a check finds, in the order in which they are looked for.
use Rattle.std.specs.Prelude.{ℕ}
use Rattle.rows.specs.declared.finding.FindingKind.{FindingKind}
use Rattle.rows.specs.declared.finding.FindingKind.TheVariants.{Name, Slot, FirstSector, Sectors, NameTaken, NoBlock, Held, FileType}

abbrev pub finding_number : FindingKind → ℕ
finding_number Name = 1
finding_number Slot = 2
finding_number FirstSector = 3
finding_number Sectors = 4
finding_number NameTaken = 5
finding_number NoBlock = 6
finding_number Held = 7
finding_number FileType = 8
