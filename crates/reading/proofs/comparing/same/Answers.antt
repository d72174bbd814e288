use Rattle.std.proofs.Common.{◌≤◌, false, ap, sym, refl, arith}
use Rattle.std.proofs.lemmas.Result.{err_from_is_err_and}
use Rattle.plans.specs.Calls.{equal}
use Rattle.volume.specs.Kept.{kept}
use Rattle.naming.proofs.Naming.{search_unread}
use Rattle.reading.specs.Answers.{Compared}
use Rattle.reading.proofs.JobReads.{reads_off, reads_broken}
use Rattle.reading.proofs.TwoJobs.{same_planned, first_unlawful, second_unlawful, first_found, second_found, first_ends, second_ends, lengths_differ, blocks_same, blocks_refused}
use Rattle.reading.proofs.comparing.same.Goals as goal

pub returns-in_err-one-clause-performs : goal.returns-in_err-one-clause-performs
returns-in_err-one-clause-performs g c = λ s.
    let p = err_from_is_err_and c.from_residual.result c.from_residual.ensures.1 in
    rw (p.1, p.2)
    (record { ends = λ h. first_unlawful _ _ (kept c.args.memory.now) c.args.one.now c.args.other.now (sym c.in_err-one.ensures) })

pub returns-in_err-other-clause-performs : goal.returns-in_err-other-clause-performs
returns-in_err-other-clause-performs g c = λ s.
    let p = err_from_is_err_and c.from_residual-in_err-other.result c.from_residual-in_err-other.ensures.1 in
    rw (p.1, p.2)
    (record { ends = λ h. second_unlawful _ _ (kept c.args.memory.now) c.args.one.now c.args.other.now (sym c.in_ok-one.ensures) (sym c.in_err-other.ensures) })

pub returns-in_err-jobs-clause-performs : goal.returns-in_err-jobs-clause-performs
returns-in_err-jobs-clause-performs g c = λ s.
    let q = kept c.args.memory.now in
    let p = err_from_is_err_and c.from_residual-in_err-jobs.result c.from_residual-in_err-jobs.ensures.1 in
    rw (p.1, p.2)
    (record {
      ends = λ h. first_ends _ _ _ q c.args.one.now c.args.other.now _ (sym c.in_ok-one.ensures) (sym c.in_ok-other.ensures)
          (search_unread _ _ _ q _ _ c.of-layout.ensures h (c.in_err-jobs.ensures.scans s));
    })

pub returns-in_err-first-clause-performs : goal.returns-in_err-first-clause-performs
returns-in_err-first-clause-performs g c = λ s.
    let q = kept c.args.memory.now in
    let p = err_from_is_err_and c.from_residual-in_err-first.result c.from_residual-in_err-first.ensures.1 in
    rw (p.1, p.2)
    (record {
      ends = λ h. first_ends _ _ _ q c.args.one.now c.args.other.now _ (sym c.in_ok-one.ensures) (sym c.in_ok-other.ensures)
          (first_found _ _ _ q _ _ c.of-layout.ensures c.in_err-first.ensures.value h (c.in_ok-jobs.ensures.scans s));
    })

pub returns-in_err-second-clause-performs : goal.returns-in_err-second-clause-performs
returns-in_err-second-clause-performs g c = λ s.
    let t = g.D.SectorDevice.faults c.args.device.now in
    let q = kept c.args.memory.now in
    let z = c.in_ok-jobs.ensures.scans s in
    let p = err_from_is_err_and c.from_residual-in_err-second.result c.from_residual-in_err-second.ensures.1 in
    rw (p.1, p.2)
    (record {
      ends = λ h. second_ends _ c.args.one.now c.args.other.now _ (sym c.in_ok-one.ensures) (sym c.in_ok-other.ensures)
          (first_found t _ _ q _ _ c.of-layout.ensures c.in_ok-first.ensures.value h z) (second_found t _ _ q _ _ c.of-layout.ensures c.in_err-second.ensures.value h z);
    })

pub returns-then-size-second-clause-performs : goal.returns-then-size-second-clause-performs
returns-then-size-second-clause-performs g c = λ s.
    let t = g.D.SectorDevice.faults c.args.device.now in
    let q = kept c.args.memory.now in
    let z = c.in_ok-jobs.ensures.scans s in
    let k : c.in_ok-first.first.entry.size ≤ 65535 = omega arith in
    let l : c.in_ok-second.second.entry.size ≤ 65535 = omega arith in
    record {
      ends = λ h.
          let x = first_found t _ _ q _ _ c.of-layout.ensures c.in_ok-first.ensures.value h z in
          let y = second_found t _ _ q _ _ c.of-layout.ensures c.in_ok-second.ensures.value h z in
          reads_off Compared false (same_planned c.args.one.now c.args.other.now (sym c.in_ok-one.ensures) (sym c.in_ok-other.ensures) x y) x.passed
          (ap equal (lengths_differ h (c.size.ensures.lawful s) x y k l c.if-size-second.true)) refl;
    }

pub returns-in_err-equal_blocks-clause-performs : goal.returns-in_err-equal_blocks-clause-performs
returns-in_err-equal_blocks-clause-performs g c = λ s.
    let t = g.D.SectorDevice.faults c.args.device.now in
    let q = kept c.args.memory.now in
    let z = c.in_ok-jobs.ensures.scans s in
    let k = c.in_ok-jobs.ensures.keeps s in
    let p = err_from_is_err_and c.from_residual-in_err-equal_blocks.result c.from_residual-in_err-equal_blocks.ensures.1 in
    rw (p.1, p.2)
    (record {
      ends = λ h.
          let x = first_found t _ _ q _ _ c.of-layout.ensures c.in_ok-first.ensures.value h z in
          let y = second_found t _ _ q _ _ c.of-layout.ensures c.in_ok-second.ensures.value h z in
          let r = blocks_refused c.of-layout.ensures h (c.size.ensures.lawful s) x y (c.in_err-equal_blocks.ensures.compares k.0) in
          reads_broken (same_planned c.args.one.now c.args.other.now (sym c.in_ok-one.ensures) (sym c.in_ok-other.ensures) x y) x.passed k.1 r.1;
    })

pub returns-clause-performs : goal.returns-clause-performs
returns-clause-performs g c = λ s.
    let t = g.D.SectorDevice.faults c.args.device.now in
    let q = kept c.args.memory.now in
    let z = c.in_ok-jobs.ensures.scans s in
    record {
      ends = λ h.
          let x = first_found t _ _ q _ _ c.of-layout.ensures c.in_ok-first.ensures.value h z in
          let y = second_found t _ _ q _ _ c.of-layout.ensures c.in_ok-second.ensures.value h z in
          let r = blocks_same c.of-layout.ensures h (c.size.ensures.lawful s) x y c.if-size-second.false (c.in_ok-equal_blocks.ensures.compares (c.in_ok-jobs.ensures.keeps s).0) in
          reads_off Compared _ (same_planned c.args.one.now c.args.other.now (sym c.in_ok-one.ensures) (sym c.in_ok-other.ensures) x y) x.passed (ap equal (sym r.1)) r.0;
    }
