-- The rows of the entries below this one were offered.
use Rattle.std.proofs.Common.{◌≡◌}
use Rattle.listing.specs.Faults.{findings_in}
use Rattle.listing.specs.Tables.{OfferedAll}
use Rattle.listing.proofs.checks.offer_sector.Given as goal

abbrev pub invariant-loop-i : goal.invariant-loop-i
invariant-loop-i l =
    record {
      lender : l.rows.rows.ghost_name ≡ l.fn.rows.rows.ghost_name;
      offered : OfferedAll (findings_in l.layout l.sector l.taken l.first l.i) l.fn.rows l.rows;
    }
