use Rattle.std.proofs.Common.{rules}
use Rattle.std.proofs.lemmas.Result.{err_from_is_err_and}
use Rattle.streaming.proofs.Committing.{commit_not_open, commit_still, commit_cut_data, commit_cut_entry, commit_ends}
use Rattle.streaming.proofs.streaming.commit.Goals as goal

pub returns-in_err-job-clause-performs : goal.returns-in_err-job-clause-performs
returns-in_err-job-clause-performs g c = λ u.
    let p = err_from_is_err_and c.from_residual.result c.from_residual.ensures.1 in
    rw (p.1, p.2) (commit_not_open _ c.args.memory.now.size c.args.handle c.args.memory.now.job _ c.held.ensures c.in_err-job.ensures.value)

pub returns-then-job-eq0-clause-performs : goal.returns-then-job-eq0-clause-performs
returns-then-job-eq0-clause-performs g c = λ u.
    commit_still _ c.args.memory.now.size c.args.handle c.args.memory.now.job _ c.held.ensures c.in_ok-job.ensures.ok_part (search rules)

pub returns-in_err-write_data-clause-performs : goal.returns-in_err-write_data-clause-performs
returns-in_err-write_data-clause-performs g c = λ u.
    let p = err_from_is_err_and c.from_residual-in_err-write_data.result c.from_residual-in_err-write_data.ensures.1 in
    rw (p.1, p.2)
    (commit_cut_data _ c.args.memory.now.size c.args.handle c.args.memory.now.job _ _ _ c.held.ensures c.in_ok-job.ensures.ok_part (search rules) (search rules) c.of-layout.ensures
    c.args.memory.now.slotted (c.in_err-write_data.ensures.runs u))

pub returns-in_err-resize_entry-clause-performs : goal.returns-in_err-resize_entry-clause-performs
returns-in_err-resize_entry-clause-performs g c = λ u.
    let p = err_from_is_err_and c.from_residual-in_err-resize_entry.result c.from_residual-in_err-resize_entry.ensures.1 in
    let v = c.in_ok-write_data.ensures in
    rw (p.1, p.2)
    (commit_cut_entry _ _ c.args.memory.now.size c.args.handle c.args.memory.now.job _ _ _ c.size.result _ c.size.ensures c.held.ensures c.in_ok-job.ensures.ok_part (search rules) (search rules) c.of-layout.ensures
    c.args.memory.now.slotted (v.keeps u).1 (v.runs u) (c.in_err-resize_entry.ensures.runs (v.keeps u).0))

pub returns-clause-performs : goal.returns-clause-performs
returns-clause-performs g c = λ u.
    commit_ends _ c.args.memory.now.size c.args.handle c.args.memory.now.job _ _ _ c.size.result c.size.ensures c.held.ensures c.in_ok-job.ensures.ok_part (search rules) (search rules) c.of-layout.ensures
    c.args.memory.now.slotted (c.in_ok-write_data.ensures.runs u) (c.in_ok-resize_entry.ensures.runs (c.in_ok-write_data.ensures.keeps u).0)
