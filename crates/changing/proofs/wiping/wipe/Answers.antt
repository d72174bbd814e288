use Rattle.std.proofs.Common.{◌<◌, rules}
use Rattle.std.proofs.lemmas.Result.{err_from_is_err_and}
use Rattle.plans.specs.Plans.{wipe_plan}
use Rattle.volume.specs.Kept.{kept}
use Rattle.changing.proofs.Marking.{there}
use Rattle.changing.proofs.Emptying.{mark_cut, mark_all, wipe_from, wipe_accepted, wipe_refused, emptied_accepted, emptied_refused}
use Rattle.changing.proofs.wiping.wipe.Goals as goal

pub returns-in_err-job-clause-performs : goal.returns-in_err-job-clause-performs
unfolding wipe_plan
returns-in_err-job-clause-performs g c = λ u.
    let p = err_from_is_err_and c.from_residual.result c.from_residual.ensures.1 in
    rw (p.1, p.2)
    (record { ends = λ h. c.in_err-job.ensures.finds u h (wipe_from (kept c.args.memory.now) (g.D.SectorDevice.meaning c.args.device.now)) (λ k. tt) })

pub returns-in_err-write_entry-clause-performs : goal.returns-in_err-write_entry-clause-performs
unfolding wipe_plan
returns-in_err-write_entry-clause-performs g c = λ u.
    let p = err_from_is_err_and c.from_residual-in_err-write_entry.result c.from_residual-in_err-write_entry.ensures.1 in
    let v = c.in_ok-job.job in
    let k = c.in_ok-job.ensures.keeps u in
    rw (p.1, p.2)
    (record {
      ends = λ h.
          let x = c.in_ok-job.ensures.finds u h in
          wipe_refused x k.1 (mark_cut _ v.slot v.entry.sectors c.held.ensures (c.in_err-write_entry.ensures.runs k.0 (there x h) _));
    })

pub returns-in_err-empty_slot-clause-performs : goal.returns-in_err-empty_slot-clause-performs
unfolding wipe_plan
returns-in_err-empty_slot-clause-performs g c = λ u.
    let p = err_from_is_err_and c.from_residual-in_err-empty_slot.result c.from_residual-in_err-empty_slot.ensures.1 in
    let v = c.in_ok-job.job in
    let k = c.in_ok-job.ensures.keeps u in
    let j = c.in_ok-write_entry.ensures.keeps k.0 in
    let s : v.entry.size < 65536 = search rules in
    rw (p.1, p.2)
    (record {
      ends = λ h.
          emptied_refused h (c.in_ok-job.ensures.finds u h) s c.held.ensures c.if-count-gt0.true c.of-layout.ensures k.1 j.1
          (c.in_ok-write_entry.ensures.runs k.0) (c.in_err-empty_slot.ensures.runs j.0);
    })

pub returns-in_ok-empty_slot-clause-performs : goal.returns-in_ok-empty_slot-clause-performs
unfolding wipe_plan
returns-in_ok-empty_slot-clause-performs g c = λ u.
    let s : c.in_ok-job.job.entry.size < 65536 = search rules in
    record {
      ends = λ h.
          emptied_accepted h (c.in_ok-job.ensures.finds u h) s c.held.ensures c.if-count-gt0.true c.of-layout.ensures
          (c.in_ok-write_entry.ensures.runs (c.in_ok-job.ensures.keeps u).0) (c.in_ok-empty_slot.ensures.runs (c.in_ok-write_entry.ensures.keeps (c.in_ok-job.ensures.keeps u).0).0);
    }

pub returns-else-count-gt0-clause-performs : goal.returns-else-count-gt0-clause-performs
unfolding wipe_plan
returns-else-count-gt0-clause-performs g c = λ u. record {
  ends = λ h.
      let v = c.in_ok-job.job in
      let x = c.in_ok-job.ensures.finds u h in
      wipe_accepted x (mark_all _ v.slot v.entry.sectors c.held.ensures c.if-count-gt0.false (c.in_ok-write_entry.ensures.runs (c.in_ok-job.ensures.keeps u).0 (there x h) _));
}
