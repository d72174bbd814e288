use Rattle.std.proofs.Common.{length, take, sym, refl, ap, ◌∙◌, rules}
use Rattle.std.proofs.lemmas.List.{take_at}
use Rattle.std.proofs.lemmas.Result.{err_from_is_err_and}
use Rattle.volume.specs.Kept.{open_job}
use Rattle.volume.proofs.Filling.{performed_as}
use Rattle.volume.proofs.Glue.{performed_none, room_after}
use Rattle.streaming.proofs.Pieces.{cuts, put_none, put_runs, put_cut_first, put_cut_later, put_gathers}
use Rattle.streaming.proofs.gathering.gather.Goals as goal

pub returns-then-piece-room-clause-runs : goal.returns-then-piece-room-clause-runs
returns-then-piece-room-clause-runs g c = λ u l h. performed_as (sym (put_none (open_job c.args.job.now) c.args.piece.now (search rules))) (performed_none c.args.layout.now _)

pub returns-in_err-write_data-clause-runs : goal.returns-in_err-write_data-clause-runs
returns-in_err-write_data-clause-runs g c = λ u l h.
    let p = err_from_is_err_and c.from_residual.result c.from_residual.ensures.1 in
    let j = c.args.job.now in
    rw (p.1, p.2)
    (put_cut_first c.args.layout.now (open_job j) c.args.piece.now
    (cuts j.gathered c.args.piece.now j.filled (search rules) (search rules) (search rules) c.split_at.ensures.front c.split_at.ensures.back c.put_at-2.ensures refl refl)
    (c.in_err-write_data.ensures.runs u l h))

pub returns-in_err-write_data-2-clause-runs : goal.returns-in_err-write_data-2-clause-runs
returns-in_err-write_data-2-clause-runs g c = λ u l h.
    let p = err_from_is_err_and c.from_residual-in_err-write_data-2.result c.from_residual-in_err-write_data-2.ensures.1 in
    let j = c.args.job.now in
    let v = c.in_ok-write_data.ensures in
    let q = v.runs u l h in
    rw (p.1, p.2)
    (put_cut_later c.args.layout.now (open_job j) c.args.piece.now
    (cuts j.gathered c.args.piece.now j.filled (search rules) (search rules) (search rules) c.split_at.ensures.front c.split_at.ensures.back c.put_at-2.ensures c.split_at-2.ensures.front c.split_at-2.ensures.back)
    (v.keeps u).1 q (c.in_err-write_data-2.ensures.runs (v.keeps u).0 l (room_after h q)))

pub returns-clause-runs : goal.returns-clause-runs
returns-clause-runs g c = λ u l h.
    let j = c.args.job.now in
    let q = c.in_ok-write_data.ensures.runs u l h in
    put_runs c.args.layout.now (open_job j) c.args.piece.now
    (cuts j.gathered c.args.piece.now j.filled (search rules) (search rules) (search rules) c.split_at.ensures.front c.split_at.ensures.back c.put_at-2.ensures c.split_at-2.ensures.front c.split_at-2.ensures.back)
    q (c.in_ok-write_data-2.ensures.runs (c.in_ok-write_data.ensures.keeps u).0 l (room_after h q))

pub returns-clause-gathers : goal.returns-clause-gathers
returns-clause-gathers g c =
    let j = c.args.job.now in
    put_gathers (open_job j) c.args.piece.now
    (cuts j.gathered c.args.piece.now j.filled (search rules) (search rules) (search rules) c.split_at.ensures.front c.split_at.ensures.back c.put_at-2.ensures c.split_at-2.ensures.front c.split_at-2.ensures.back)
    refl refl refl (ap (take (length c.split_at-2.result.1.now)) c.put_at-3.ensures ∙ take_at c.split_at-2.result.1.now _ (length c.split_at-2.result.1.now) refl) refl
