use Rattle.std.proofs.Common.{◌≡◌, Some, sym, ◌∙◌}
use Rattle.std.proofs.lemmas.Result.{err_from_is_err_and}
use Rattle.layout.specs.Names.{name_of}
use Rattle.volume.specs.Kept.{kept}
use Rattle.changing.proofs.Renaming.{rest, scanned, unread, not_there, taken, free, rename_cut, rename_all}
use Rattle.changing.proofs.erasing.rename.Goals as goal

pub returns-in_err-jobs-clause-performs : goal.returns-in_err-jobs-clause-performs
returns-in_err-jobs-clause-performs g c = λ u.
    let p = err_from_is_err_and c.from_residual-in_err-jobs.result c.from_residual-in_err-jobs.ensures.1 in
    let q = kept c.args.memory.now in
    let m = g.D.SectorDevice.meaning c.args.device.now in
    let n : name_of c.args.new.now ≡ Some c.in_ok-new.new = sym c.new.ensures ∙ c.in_ok-new.ensures.ok_part in
    let x = rest q m c.args.old.now c.args.new.now (sym c.in_ok-old.ensures) n c.padded-2.ensures.value (sym c.is_open.ensures ∙ c.if-is_open.false) in
    rw (p.1, p.2) (record { ends = λ h. unread q x c.of.ensures h (c.in_err-jobs.ensures.scans u) })

pub returns-in_err-job-clause-performs : goal.returns-in_err-job-clause-performs
returns-in_err-job-clause-performs g c = λ u.
    let p = err_from_is_err_and c.from_residual-in_err-job.result c.from_residual-in_err-job.ensures.1 in
    let q = kept c.args.memory.now in
    let m = g.D.SectorDevice.meaning c.args.device.now in
    let n : name_of c.args.new.now ≡ Some c.in_ok-new.new = sym c.new.ensures ∙ c.in_ok-new.ensures.ok_part in
    let x = rest q m c.args.old.now c.args.new.now (sym c.in_ok-old.ensures) n c.padded-2.ensures.value (sym c.is_open.ensures ∙ c.if-is_open.false) in
    rw (p.1, p.2) (record { ends = λ h. not_there (g.D.SectorDevice.faults c.args.device.now) q x (scanned q c.of.ensures h (c.in_ok-jobs.ensures.scans u)) c.in_err-job.ensures.value })

pub returns-then-is_some-clause-performs : goal.returns-then-is_some-clause-performs
returns-then-is_some-clause-performs g c = λ u.
    let q = kept c.args.memory.now in
    let m = g.D.SectorDevice.meaning c.args.device.now in
    let n : name_of c.args.new.now ≡ Some c.in_ok-new.new = sym c.new.ensures ∙ c.in_ok-new.ensures.ok_part in
    let x = rest q m c.args.old.now c.args.new.now (sym c.in_ok-old.ensures) n c.padded-2.ensures.value (sym c.is_open.ensures ∙ c.if-is_open.false) in
    record { ends = λ h. taken (g.D.SectorDevice.faults c.args.device.now) q x (scanned q c.of.ensures h (c.in_ok-jobs.ensures.scans u)) c.in_ok-job.ensures.ok_part (sym c.is_some.ensures ∙ c.if-is_some.true) }

pub returns-in_err-write_entry-clause-performs : goal.returns-in_err-write_entry-clause-performs
returns-in_err-write_entry-clause-performs g c = λ u.
    let p = err_from_is_err_and c.from_residual-in_err-write_entry.result c.from_residual-in_err-write_entry.ensures.1 in
    let q = kept c.args.memory.now in
    let m = g.D.SectorDevice.meaning c.args.device.now in
    let n : name_of c.args.new.now ≡ Some c.in_ok-new.new = sym c.new.ensures ∙ c.in_ok-new.ensures.ok_part in
    let x = rest q m c.args.old.now c.args.new.now (sym c.in_ok-old.ensures) n c.padded-2.ensures.value (sym c.is_open.ensures ∙ c.if-is_open.false) in
    let k = c.in_ok-jobs.ensures.keeps u in
    rw (p.1, p.2) (record { ends = λ h. rename_cut q (free q h c.of.ensures x (scanned q c.of.ensures h (c.in_ok-jobs.ensures.scans u)) c.in_ok-jobs.ensures.inside.0 c.in_ok-job.ensures.ok_part (sym c.is_some.ensures ∙ c.if-is_some.false)) c.renamed.ensures c.padded-2.ensures.value k.1 (c.in_err-write_entry.ensures.runs k.0) })

pub returns-clause-performs : goal.returns-clause-performs
returns-clause-performs g c = λ u.
    let q = kept c.args.memory.now in
    let m = g.D.SectorDevice.meaning c.args.device.now in
    let n : name_of c.args.new.now ≡ Some c.in_ok-new.new = sym c.new.ensures ∙ c.in_ok-new.ensures.ok_part in
    let x = rest q m c.args.old.now c.args.new.now (sym c.in_ok-old.ensures) n c.padded-2.ensures.value (sym c.is_open.ensures ∙ c.if-is_open.false) in
    record { ends = λ h. rename_all q (free q h c.of.ensures x (scanned q c.of.ensures h (c.in_ok-jobs.ensures.scans u)) c.in_ok-jobs.ensures.inside.0 c.in_ok-job.ensures.ok_part (sym c.is_some.ensures ∙ c.if-is_some.false)) c.renamed.ensures c.padded-2.ensures.value (c.in_ok-write_entry.ensures.runs (c.in_ok-jobs.ensures.keeps u).0) }
