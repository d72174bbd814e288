use Rattle.std.proofs.Common.{rules}
use Rattle.std.proofs.lemmas.Result.{err_from_is_err_and}
use Rattle.streaming.proofs.Endings.{put_not_open, put_too_long, put_ends, put_cut}
use Rattle.streaming.proofs.streaming.put.Goals as goal

pub returns-in_err-job-clause-performs : goal.returns-in_err-job-clause-performs
returns-in_err-job-clause-performs g c = λ u.
    let p = err_from_is_err_and c.from_residual.result c.from_residual.ensures.1 in
    rw (p.1, p.2) (put_not_open _ c.args.memory.now.size c.args.handle c.args.memory.now.job _ c.args.piece.now c.held.ensures c.in_err-job.ensures.value)

pub returns-then-piece-from-clause-performs : goal.returns-then-piece-from-clause-performs
returns-then-piece-from-clause-performs g c = λ u.
    put_too_long _ c.args.memory.now.size c.args.handle c.args.memory.now.job _ c.args.piece.now c.held.ensures c.in_ok-job.ensures.ok_part (search rules)

pub returns-in_err-job-2-clause-performs : goal.returns-in_err-job-2-clause-performs
returns-in_err-job-2-clause-performs g c = λ u.
    let p = err_from_is_err_and c.from_residual-in_err-job-2.result c.from_residual-in_err-job-2.ensures.1 in
    rw (p.1, p.2)
    (put_cut _ c.args.memory.now.size c.args.handle c.args.memory.now.job _ _ c.args.piece.now _ c.held.ensures c.in_ok-job.ensures.ok_part (search rules) c.of.ensures
    c.args.memory.now.slotted (c.in_err-job-2.ensures.runs u))

pub returns-clause-performs : goal.returns-clause-performs
returns-clause-performs g c = λ u.
    put_ends _ c.args.memory.now.size c.args.handle c.args.memory.now.job _ _ c.in_ok-job-2.job c.args.piece.now c.held.ensures c.in_ok-job.ensures.ok_part (search rules) c.of.ensures
    c.args.memory.now.slotted (c.in_ok-job-2.ensures.runs u) c.in_ok-job-2.ensures.gathers
