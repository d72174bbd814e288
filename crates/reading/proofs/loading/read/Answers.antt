use Rattle.std.proofs.Common.{ℕ, ◌≤◌, Bool, leb, length, take, drop, sym, ap, ◌∙◌, inr, arith}
use Rattle.std.proofs.lemmas.Bool.{le-leb, lt-leb}
use Rattle.std.proofs.lemmas.List.{length-take-le}
use Rattle.std.proofs.lemmas.Result.{err_from_is_err_and}
use Rattle.plans.specs.Calls.{Answer, bytes}
use Rattle.plans.specs.Plans.{read_plan, card_places}
use Rattle.plans.specs.Slots.{Job}
use Rattle.volume.specs.Kept.{kept}
use Rattle.reading.specs.Answers.{Counted}
use Rattle.reading.proofs.JobReads.{reads_on, on_reads, length-job, some_bytes, out_of_bounds, read_off, read_broken, card_read, card_cut, length-card, filled_off, filled_cut}
use Rattle.reading.proofs.loading.read.Goals as goal

-- the place lies within the job
abbrev has_place : ℕ → Job → Bool
has_place i j = leb i (length j.bytes)

-- its bytes from there on, as far as there is room for n
abbrev bytes_from : (i n : ℕ) → Job → Answer
bytes_from i n j = bytes (take n (drop i j.bytes))

pub returns-in_err-job-clause-performs : goal.returns-in_err-job-clause-performs
unfolding read_plan
returns-in_err-job-clause-performs g c = λ s.
    let q = kept c.args.memory.now in
    let r = has_place c.args.place in
    let a = bytes_from c.args.place (length c.args.buffer.now) in
    let ps = card_places q (g.D.SectorDevice.meaning c.args.device.now).sectors in
    let p = err_from_is_err_and c.from_residual.result c.from_residual.ensures.1 in
    rw (p.1, p.2) (record { ends = λ h. c.in_err-job.ensures.finds s h (reads_on ps q r a) (on_reads ps q r a) })

pub returns-then-size-place-clause-performs : goal.returns-then-size-place-clause-performs
unfolding read_plan
returns-then-size-place-clause-performs g c = λ s.
    let e : c.in_ok-job.job.entry.size ≤ 65535 = omega arith in
    record {
      ends = λ h.
          let f = c.in_ok-job.ensures.finds s h in
          out_of_bounds _ (has_place c.args.place) (bytes_from c.args.place (length c.args.buffer.now)) f (lt-leb _ _ (omega (arith, length-job h (c.size.ensures.lawful s) f e)));
    }

pub returns-in_err-read_into-clause-performs : goal.returns-in_err-read_into-clause-performs
unfolding read_plan
returns-in_err-read_into-clause-performs g c = λ s.
    let b = c.args.buffer.now in
    let i = c.args.place in
    let w = c.size.ensures.lawful s in
    let k = c.in_ok-job.ensures.keeps s in
    let e : c.in_ok-job.job.entry.size ≤ 65535 = omega arith in
    let p = err_from_is_err_and c.from_residual-in_err-read_into.result c.from_residual-in_err-read_into.ensures.1 in
    rw (p.1, p.2)
    (record {
      ends = λ h.
          let f = c.in_ok-job.ensures.finds s h in
          let r = card_cut i (length-take-le c.min-count.result b (omega arith)) c.of.ensures h w f (c.in_err-read_into.ensures.reads k.0) in
          read_broken (has_place i) (bytes_from i (length b)) f (le-leb _ _ (omega (arith, length-job h w f e))) k.1 r.refused;
    })

pub returns-in_err-read_into-clause-fills : goal.returns-in_err-read_into-clause-fills
unfolding read_plan
returns-in_err-read_into-clause-fills g c = λ s h.
    let q = kept c.args.memory.now in
    let b = c.args.buffer.now in
    let i = c.args.place in
    let w = c.size.ensures.lawful s in
    let f = c.in_ok-job.ensures.finds s h in
    let n = c.min-count.result in
    let e : c.in_ok-job.job.entry.size ≤ 65535 = omega arith in
    let r = card_cut i (length-take-le n b (omega arith)) c.of.ensures h w f (c.in_err-read_into.ensures.reads (c.in_ok-job.ensures.keeps s).0) in
    let p = err_from_is_err_and c.from_residual-in_err-read_into.result c.from_residual-in_err-read_into.ensures.1 in
    rw (p.1, p.2)
    (inr (filled_cut (has_place i) (bytes_from i (length b)) _ b c.read_into.new.part f (le-leb _ _ (omega (arith, length-job h w f e)))
    (some_bytes q (g.D.SectorDevice.meaning c.args.device.now) c.in_ok-job.job i (length b) n (omega arith)) (length-card i n h w f (omega arith)) (omega arith) r.holds))

pub returns-clause-performs : goal.returns-clause-performs
unfolding read_plan
returns-clause-performs g c = λ s.
    let q = kept c.args.memory.now in
    let n = c.min-count.result in
    let b = c.args.buffer.now in
    let i = c.args.place in
    let w = c.size.ensures.lawful s in
    let e : c.in_ok-job.job.entry.size ≤ 65535 = omega arith in
    record {
      ends = λ h.
          let f = c.in_ok-job.ensures.finds s h in
          let r = card_read i (length-take-le c.min-count.result b (omega arith)) c.of.ensures h w f (c.in_ok-read_into.ensures.reads (c.in_ok-job.ensures.keeps s).0) in
          read_off Counted _ (has_place i) (bytes_from i (length b)) f (le-leb _ _ (omega (arith, length-job h w f e)))
          (sym (ap length (some_bytes q (g.D.SectorDevice.meaning c.args.device.now) c.in_ok-job.job i (length b) n (omega arith)) ∙ length-card i n h w f (omega arith))) r.same;
    }

pub returns-clause-fills : goal.returns-clause-fills
unfolding read_plan
returns-clause-fills g c = λ s h.
    let q = kept c.args.memory.now in
    let b = c.args.buffer.now in
    let i = c.args.place in
    let w = c.size.ensures.lawful s in
    let f = c.in_ok-job.ensures.finds s h in
    let n = c.min-count.result in
    let e : c.in_ok-job.job.entry.size ≤ 65535 = omega arith in
    let r = card_read i (length-take-le n b (omega arith)) c.of.ensures h w f (c.in_ok-read_into.ensures.reads (c.in_ok-job.ensures.keeps s).0) in
    filled_off (has_place i) (bytes_from i (length b)) _ b c.read_into.new.part f (le-leb _ _ (omega (arith, length-job h w f e)))
    (some_bytes q (g.D.SectorDevice.meaning c.args.device.now) c.in_ok-job.job i (length b) n (omega arith)) (length-card i n h w f (omega arith)) r
