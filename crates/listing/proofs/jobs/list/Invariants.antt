-- The slots below this one were looked at, and the table holds their rows.
use Rattle.std.proofs.Common.{◌≡◌, length}
use Rattle.device.specs.Calls.{Keeps}
use Rattle.volume.specs.Directory.{OfCard}
use Rattle.volume.proofs.Passes.{Looked}
use Rattle.listing.specs.Tables.{Holds}
use Rattle.listing.proofs.JobRows.{slot_row}
use Rattle.listing.proofs.Tables.{rows_below}
use Rattle.listing.proofs.jobs.list.Given as goal

abbrev pub invariant-loop-slot : goal.invariant-loop-slot
invariant-loop-slot g l =
    let d = g.D.SectorDevice in
    record {
      long : length l.sector ≡ 512;
      keeps : Keeps d l.initial.device l.device;
      lender : l.rows.rows.ghost_name ≡ l.fn.rows.rows.ghost_name;
      looked : OfCard d l.layout l.initial.device l.device (λ t m m'. Looked m m' l.slot l.sector × Holds (rows_below (slot_row l.layout m.sectors) l.slot) l.fn.rows.rows.now l.rows);
    }
