use Rattle.std.proofs.Common.{◌≤◌, length, arith, ◌∙◌, ap, sym, inl, inr}
use Rattle.entries.specs.declared.state.EntryState.{EntryState}
use Rattle.plans.specs.Rows.{row_of}
use Rattle.plans.specs.Slots.{as_slot, bytes_in, job_in}
use Rattle.listing.proofs.JobRows.{made_row}
use Rattle.listing.proofs.jobs.row_of.Goals as goal

pub returns-in-Live : goal.returns-in-Live
returns-in-Live c = λ s h.
    let e = c.args.entry in
    let k = c.args.slot in
    let w : e.size ≤ length (bytes_in s) = omega arith in
    elim c.in-Live.is [
      | inl x ↦ made_row k e s w ∙ ap (λ (y : EntryState). row_of k (as_slot y (job_in e s))) (sym x)
      | inr x ↦ made_row k e s w ∙ ap (λ (y : EntryState). row_of k (as_slot y (job_in e s))) (sym x)
    ]
