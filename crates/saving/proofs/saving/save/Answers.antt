use Rattle.std.proofs.Common.{rules}
use Rattle.std.proofs.lemmas.Result.{err_from_is_err_and}
use Rattle.plans.specs.Plans.{job_saved, card_places}
use Rattle.volume.specs.Kept.{kept}
use Rattle.saving.proofs.Endings.{save_unlawful, save_unknown, save_too_long, save_no_room, save_cut, save_ends, ready, writing}
use Rattle.saving.proofs.saving.save.Goals as goal

pub returns-in_err-name-clause-performs : goal.returns-in_err-name-clause-performs
returns-in_err-name-clause-performs g c = λ u.
    let p = err_from_is_err_and c.from_residual.result c.from_residual.ensures.1 in
    rw (p.1, p.2) (save_unlawful _ _ (kept c.args.memory.now) c.args.name.now c.args.bytes.now c.args.kind c.args.address c.new.ensures c.in_err-name.ensures.value)

pub returns-then-not-is_known-clause-performs : goal.returns-then-not-is_known-clause-performs
returns-then-not-is_known-clause-performs g c = λ u.
    save_unknown _ _ (kept c.args.memory.now) c.args.name.now c.args.bytes.now c.args.kind c.args.address c.new.ensures c.in_ok-name.ensures.ok_part (search rules)

pub returns-in_err-size-clause-performs : goal.returns-in_err-size-clause-performs
returns-in_err-size-clause-performs g c = λ u.
    let p = err_from_is_err_and c.from_residual-in_err-size.result c.from_residual-in_err-size.ensures.1 in
    rw (p.1, p.2)
    (save_too_long _ _ (kept c.args.memory.now) c.args.name.now c.args.bytes.now c.args.kind c.args.address c.new.ensures c.in_ok-name.ensures.ok_part (search rules) c.job_size.ensures c.in_err-size.ensures.value)

pub returns-in_err-room-clause-performs : goal.returns-in_err-room-clause-performs
returns-in_err-room-clause-performs g c = λ u.
    let p = err_from_is_err_and c.from_residual-in_err-room.result c.from_residual-in_err-room.ensures.1 in
    let q = kept c.args.memory.now in
    let j = job_saved c.args.name.now c.args.kind c.args.address c.args.bytes.now in
    rw (p.1, p.2)
    (save_no_room _ _ _ q c.args.name.now c.args.bytes.now c.args.kind c.args.address c.new.ensures c.in_ok-name.ensures.ok_part c.padded.ensures.value (search rules) c.job_size.ensures
    c.in_ok-size.ensures.ok_part (λ h. c.in_err-room.ensures.finds u h (writing (card_places q (g.D.SectorDevice.meaning c.args.device.now).sectors) q j) (λ k. tt)))

pub returns-in_err-take_room-clause-performs : goal.returns-in_err-take_room-clause-performs
returns-in_err-take_room-clause-performs g c = λ u.
    let p = err_from_is_err_and c.from_residual-in_err-take_room.result c.from_residual-in_err-take_room.ensures.1 in
    let v = c.in_ok-room.ensures in
    let k = v.keeps u in
    rw (p.1, p.2)
    (save_cut _ _ _ _ _ (kept c.args.memory.now) c.args.name.now c.args.bytes.now c.args.kind c.args.address _
    (λ h. ready _ _ (kept c.args.memory.now) c.args.name.now c.args.bytes.now c.args.kind c.args.address c.new.ensures c.in_ok-name.ensures.ok_part c.padded.ensures.value (search rules) c.job_size.ensures
    c.in_ok-size.ensures.ok_part h (v.finds u h) c.of-layout.ensures c.block-first.ensures c.new-entry.ensures)
    k.1 (c.in_err-take_room.ensures.runs k.0))

pub returns-clause-performs : goal.returns-clause-performs
returns-clause-performs g c = λ u.
    let v = c.in_ok-room.ensures in
    save_ends _ _ _ _ (kept c.args.memory.now) c.args.name.now c.args.bytes.now c.args.kind c.args.address
    (λ h. ready _ _ (kept c.args.memory.now) c.args.name.now c.args.bytes.now c.args.kind c.args.address c.new.ensures c.in_ok-name.ensures.ok_part c.padded.ensures.value (search rules) c.job_size.ensures
    c.in_ok-size.ensures.ok_part h (v.finds u h) c.of-layout.ensures c.block-first.ensures c.new-entry.ensures)
    (c.in_ok-take_room.ensures.runs (v.keeps u).0)
