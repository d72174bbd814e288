use Rattle.std.proofs.Common.{Err, Ok, rules}
use Rattle.std.proofs.lemmas.Result.{err_from_is_err_and}
use Rattle.refusals.specs.declared.Refusal.TheVariants.{NotSequential, Device}
use Rattle.volume.specs.Kept.{kept}
use Rattle.streaming.proofs.Openings.{looked, name_bytes, none_left, not_open, is_open, shut, open_unlawful, open_twice, open_unread, open_other_kind, open_continued, open_continue_cut, open_full, open_made, open_make_cut}
use Rattle.streaming.proofs.opening.open_job.Goals as goal

pub returns-in_err-name-clause-performs : goal.returns-in_err-name-clause-performs
returns-in_err-name-clause-performs g c = λ u.
    let p = err_from_is_err_and c.from_residual.result c.from_residual.ensures.1 in
    rw (p.1, p.2) (open_unlawful _ _ (kept c.args.memory.now) c.args.name.now c.new.ensures c.in_err-name.ensures.value)

pub returns-then-is_some-clause-performs : goal.returns-then-is_some-clause-performs
returns-then-is_some-clause-performs g c = λ u.
    let j = is_open (search rules) in
    open_twice _ _ c.args.memory.now.size c.args.memory.now.job c.args.name.now j.0 c.new.ensures c.in_ok-name.ensures.ok_part j.1

pub returns-in_err-scan-clause-performs : goal.returns-in_err-scan-clause-performs
returns-in_err-scan-clause-performs g c = λ u.
    let p = err_from_is_err_and c.from_residual-in_err-scan.result c.from_residual-in_err-scan.ensures.1 in
    rw (p.1, p.2)
    (shut _ c.args.memory.now.size c.args.memory.now.job c.args.name.now _ _ (Err (Device _)) (not_open (search rules))
    (open_unread _ _ _ c.args.memory.now.size c.args.name.now _ c.new.ensures c.in_ok-name.ensures.ok_part c.of-layout.ensures (c.in_err-scan.ensures.scans u)))

pub returns-then-job-clause-performs : goal.returns-then-job-clause-performs
returns-then-job-clause-performs g c = λ u.
    shut _ c.args.memory.now.size c.args.memory.now.job c.args.name.now _ _ (Err NotSequential) (not_open (search rules))
    (open_other_kind _ _ _ c.args.memory.now.size c.args.name.now c.in-Some.job
    (λ h. looked _ _ c.args.memory.now.size c.args.name.now c.new.ensures c.in_ok-name.ensures.ok_part c.padded-padded.ensures.value c.of-layout.ensures h (c.in_ok-scan.ensures.scans u))
    c.in-Some.is (search rules))

pub returns-in_err-continue_job-clause-performs : goal.returns-in_err-continue_job-clause-performs
returns-in_err-continue_job-clause-performs g c = λ u.
    let p = err_from_is_err_and c.from_residual-in_err-continue_job.result c.from_residual-in_err-continue_job.ensures.1 in
    let v = c.in_ok-scan.ensures in
    let k = v.keeps u in
    rw (p.1, p.2)
    (shut _ c.args.memory.now.size c.args.memory.now.job c.args.name.now _ _ (Err (Device _)) (not_open (search rules))
    (open_continue_cut _ _ _ _ _ c.args.memory.now.size c.args.name.now c.in-Some.job _
    (λ h. looked _ _ c.args.memory.now.size c.args.name.now c.new.ensures c.in_ok-name.ensures.ok_part c.padded-padded.ensures.value c.of-layout.ensures h (v.scans u))
    c.in-Some.is (search rules) c.of-layout.ensures k.1 (c.in_err-continue_job.ensures.continues k.0)))

pub returns-in-Some-clause-performs : goal.returns-in-Some-clause-performs
returns-in-Some-clause-performs g c = λ u.
    let o = c.in_ok-continue_job.field-0 in
    let v = c.in_ok-continue_job.ensures in
    shut _ c.args.memory.now.size c.args.memory.now.job c.args.name.now _ _ (Ok o) (not_open (search rules))
    (open_continued _ _ _ _ c.args.memory.now.size c.args.name.now c.in-Some.job o
    (λ h. looked _ _ c.args.memory.now.size c.args.name.now c.new.ensures c.in_ok-name.ensures.ok_part c.padded-padded.ensures.value c.of-layout.ensures h (c.in_ok-scan.ensures.scans u))
    c.in-Some.is (search rules) c.of-layout.ensures v.slot (v.continues (c.in_ok-scan.ensures.keeps u).0))

pub returns-in_err-room-clause-performs : goal.returns-in_err-room-clause-performs
returns-in_err-room-clause-performs g c = λ u.
    let p = err_from_is_err_and c.from_residual-in_err-room.result c.from_residual-in_err-room.ensures.1 in
    rw (p.1, p.2)
    (shut _ c.args.memory.now.size c.args.memory.now.job c.args.name.now _ _ (Err _) (not_open (search rules))
    (open_full _ _ _ c.args.memory.now.size c.args.name.now
    (λ h. looked _ _ c.args.memory.now.size c.args.name.now c.new.ensures c.in_ok-name.ensures.ok_part c.padded-padded.ensures.value c.of-layout.ensures h (c.in_ok-scan.ensures.scans u))
    (none_left c.in_default.not-Some) c.in_err-room.ensures.value))

pub returns-in_err-make_job-clause-performs : goal.returns-in_err-make_job-clause-performs
returns-in_err-make_job-clause-performs g c = λ u.
    let p = err_from_is_err_and c.from_residual-in_err-make_job.result c.from_residual-in_err-make_job.ensures.1 in
    let n = c.args.name.now in
    let v = c.in_ok-scan.ensures in
    let k = v.keeps u in
    let e = name_bytes n c.new.ensures c.in_ok-name.ensures.ok_part in
    rw (p.1, p.2)
    (shut _ c.args.memory.now.size c.args.memory.now.job n _ _ (Err (Device _)) (not_open (search rules))
    (open_make_cut _ _ _ _ _ c.args.memory.now.size n c.in_ok-room.room _
    (λ h. looked _ _ c.args.memory.now.size n c.new.ensures c.in_ok-name.ensures.ok_part c.padded-padded.ensures.value c.of-layout.ensures h (v.scans u))
    (none_left c.in_default.not-Some) c.in_ok-room.ensures.ok_part c.of-layout.ensures k.1 (λ l r. c.in_err-make_job.ensures.runs k.0 l r n e)))

pub returns-clause-performs : goal.returns-clause-performs
returns-clause-performs g c = λ u.
    let n = c.args.name.now in
    let o = c.in_ok-make_job.field-0 in
    let v = c.in_ok-make_job.ensures in
    let e = name_bytes n c.new.ensures c.in_ok-name.ensures.ok_part in
    shut _ c.args.memory.now.size c.args.memory.now.job n _ _ (Ok o) (not_open (search rules))
    (open_made _ _ _ _ c.args.memory.now.size n c.in_ok-room.room o
    (λ h. looked _ _ c.args.memory.now.size n c.new.ensures c.in_ok-name.ensures.ok_part c.padded-padded.ensures.value c.of-layout.ensures h (c.in_ok-scan.ensures.scans u))
    (none_left c.in_default.not-Some) c.in_ok-room.ensures.ok_part c.of-layout.ensures (v.makes n e) (λ l r. v.runs (c.in_ok-scan.ensures.keeps u).0 l r n e))
