use Rattle.std.proofs.lemmas.Result.{err_from_is_err_and}
use Rattle.entries.specs.Entry.{first_set}
use Rattle.entries.specs.declared.entry.Entry.{Entry}
use Rattle.plans.specs.Plans.{erase_plan}
use Rattle.volume.specs.Kept.{kept}
use Rattle.changing.proofs.Marking.{marking, marked, marked_cut}
use Rattle.changing.proofs.erasing.erase.Goals as goal

abbrev erased_entry : Entry → Entry
erased_entry e = first_set e 127

pub returns-in_err-job-clause-performs : goal.returns-in_err-job-clause-performs
unfolding erase_plan
returns-in_err-job-clause-performs g c = λ u.
    let p = err_from_is_err_and c.from_residual.result c.from_residual.ensures.1 in
    rw (p.1, p.2)
    (record { ends = λ h. c.in_err-job.ensures.finds u h (marking erased_entry (kept c.args.memory.now) (g.D.SectorDevice.meaning c.args.device.now)) (λ k. tt) })

pub returns-in_err-write_entry-clause-performs : goal.returns-in_err-write_entry-clause-performs
unfolding erase_plan
returns-in_err-write_entry-clause-performs g c = λ u.
    let p = err_from_is_err_and c.from_residual-in_err-write_entry.result c.from_residual-in_err-write_entry.ensures.1 in
    let f = c.in_ok-job.ensures in
    let k = f.keeps u in
    rw (p.1, p.2) (record { ends = λ h. marked_cut erased_entry h (f.finds u h) c.with_first.ensures k.1 (c.in_err-write_entry.ensures.runs k.0) })

pub returns-clause-performs : goal.returns-clause-performs
unfolding erase_plan
returns-clause-performs g c = λ u. record { ends = λ h. marked erased_entry h (c.in_ok-job.ensures.finds u h) c.with_first.ensures (c.in_ok-write_entry.ensures.runs (c.in_ok-job.ensures.keeps u).0) }
