use Rattle.std.proofs.Common.{Ok, Err}
use Rattle.std.proofs.lemmas.Result.{err_from_is_err_and}
use Rattle.volume.specs.Kept.{kept}
use Rattle.changing.proofs.LabelRead.{mount_ends}
use Rattle.changing.proofs.mounting.mount.Goals as goal

pub returns-in_err-label-clause-performs : goal.returns-in_err-label-clause-performs
returns-in_err-label-clause-performs g c = λ u.
    let p = err_from_is_err_and c.from_residual.result c.from_residual.ensures.1 in
    rw (p.1, p.2) (mount_ends _ _ _ (kept c.args.memory.now) (Err _) (c.in_err-label.ensures.reads u))

pub returns-clause-performs : goal.returns-clause-performs
returns-clause-performs g c = λ u. mount_ends _ _ _ (kept c.args.memory.now) (Ok c.in_ok-label.label) (c.in_ok-label.ensures.reads u)
