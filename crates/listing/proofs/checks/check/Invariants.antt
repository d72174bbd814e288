-- The sectors below this one were looked at, and the table holds the rows of their entries.
use Rattle.std.proofs.Common.{◌≡◌, ◌≤◌, length}
use Rattle.device.specs.Calls.{Keeps, OfSound}
use Rattle.listing.proofs.FindingRows.{Checked}
use Rattle.listing.proofs.checks.check.Given as goal

abbrev pub invariant-loop-n : goal.invariant-loop-n
invariant-loop-n g l =
    let d = g.D.SectorDevice in
    record {
      long : length l.sector ≡ 512;
      keeps : Keeps d l.fn.device l.device;
      lender : l.rows.rows.ghost_name ≡ l.fn.rows.rows.ghost_name;
      checked : OfSound d l.fn.device l.device (λ t m m'. l.memory.size ≤ length m.sectors → Checked l.layout m m' l.n l.fn.rows.rows.now l.rows);
    }
