use Rattle.std.proofs.lemmas.Result.{err_from_is_err_and}
use Rattle.volume.specs.Kept.{kept}
use Rattle.naming.proofs.Naming.{search_found, search_unread}
use Rattle.naming.proofs.named.find_job.Goals as goal

pub returns-in_err-find-clause-finds : goal.returns-in_err-find-clause-finds
returns-in_err-find-clause-finds g c = λ s h.
    let p = err_from_is_err_and c.from_residual.result c.from_residual.ensures.1 in
    rw (p.1, p.2) (search_unread _ _ _ (kept c.args.memory.now) c.args.name.now _ c.of.ensures h (c.in_err-find.ensures.seeks s))

pub returns-clause-finds : goal.returns-clause-finds
returns-clause-finds g c = λ s h. search_found _ _ _ (kept c.args.memory.now) c.args.name.now c.of.ensures c.ok_or.ensures.value h (c.in_ok-find.ensures.seeks s)
