use Rattle.rows.proofs.Offers.{first_kept}
use Rattle.rows.proofs.table.first_rows_are_kept.Goals as goal

pub returns : goal.returns
returns g c xs rows = first_kept xs rows
