use Rattle.std.proofs.Common.{◌≡◌, ◌<◌, length, sym, refl, ◌∙◌, Ok, Err, rules}
use Rattle.std.proofs.lemmas.Result.{err_from_is_err_and}
use Rattle.device.specs.Faults.{Within}
use Rattle.layout.specs.Sizes.{layout_of}
use Rattle.volume.specs.Kept.{kept}
use Rattle.changing.proofs.Undeleting.{ended_on, on_card, unlawful, past, goes, unread, not_erased, back, unsearched, taken, free, back_cut, back_all}
use Rattle.changing.proofs.erasing.undelete.Goals as goal

pub returns-then-not-is_name_byte-clause-performs : goal.returns-then-not-is_name_byte-clause-performs
returns-then-not-is_name_byte-clause-performs g c = λ u.
    let z = sym c.is_name_byte.ensures ∙ c.if-not-is_name_byte.true in
    let m = g.D.SectorDevice.meaning c.args.device.now in
    let q = kept c.args.memory.now in
    ended_on _ _ _ q c.args.slot c.args.letter (Err _) refl (λ h. unlawful (g.D.SectorDevice.faults c.args.device.now) (layout_of q.size) m q c.args.slot c.args.letter z)

pub returns-then-slot-layout-clause-performs : goal.returns-then-slot-layout-clause-performs
returns-then-slot-layout-clause-performs g c = λ u.
    let q = kept c.args.memory.now in
    let e = c.of-layout.ensures in
    let y = c.of-layout.result in
    let k = c.args.slot in
    let a = c.args.letter in
    let z = sym c.is_name_byte.ensures ∙ c.if-not-is_name_byte.false in
    ended_on _ _ _ q k a (Err _) e (λ h.
    past (g.D.SectorDevice.faults c.args.device.now) y (g.D.SectorDevice.meaning c.args.device.now) q k a z c.if-slot-layout.true)

pub returns-in_err-entry-clause-performs : goal.returns-in_err-entry-clause-performs
returns-in_err-entry-clause-performs g c = λ u.
    let p = err_from_is_err_and c.from_residual.result c.from_residual.ensures.1 in
    let q = kept c.args.memory.now in
    let e = c.of-layout.ensures in
    let y = c.of-layout.result in
    let k = c.args.slot in
    let a = c.args.letter in
    let z = sym c.is_name_byte.ensures ∙ c.if-not-is_name_byte.false in
    let i : k < y.slots = c.if-slot-layout.false in
    let g' = goes y (g.D.SectorDevice.meaning c.args.device.now) q k a z i in
    rw (p.1, p.2)
    (ended_on _ _ _ q k a (Err _) e (λ h.
    unread g' (c.in_err-entry.ensures.reads u i (on_card q e h))))

pub returns-then-not-is_restorable-clause-performs : goal.returns-then-not-is_restorable-clause-performs
returns-then-not-is_restorable-clause-performs g c = λ u.
    let q = kept c.args.memory.now in
    let e = c.of-layout.ensures in
    let y = c.of-layout.result in
    let k = c.args.slot in
    let a = c.args.letter in
    let z = sym c.is_name_byte.ensures ∙ c.if-not-is_name_byte.false in
    let i : k < y.slots = c.if-slot-layout.false in
    let g' = goes y (g.D.SectorDevice.meaning c.args.device.now) q k a z i in
    let b = c.with_first-restored.result in
    let n : length b.name ≡ 16 = search rules in
    let r : length b.reserved ≡ 3 = search rules in
    ended_on _ _ _ q k a (Err _) e (λ h.
    not_erased (g.D.SectorDevice.faults c.args.device.now) g' (record { inside = i; read = c.in_ok-entry.ensures.reads u i (on_card q e h); made = c.with_first-restored.ensures; name = n; reserved = r }) c.is_restorable.ensures c.if-not-is_restorable.true)

pub returns-in_err-find-clause-performs : goal.returns-in_err-find-clause-performs
returns-in_err-find-clause-performs g c = λ u.
    let p = err_from_is_err_and c.from_residual-in_err-find.result c.from_residual-in_err-find.ensures.1 in
    let q = kept c.args.memory.now in
    let e = c.of-layout.ensures in
    let y = c.of-layout.result in
    let k = c.args.slot in
    let a = c.args.letter in
    let z = sym c.is_name_byte.ensures ∙ c.if-not-is_name_byte.false in
    let i : k < y.slots = c.if-slot-layout.false in
    let g' = goes y (g.D.SectorDevice.meaning c.args.device.now) q k a z i in
    let b = c.with_first-restored.result in
    let n : length b.name ≡ 16 = search rules in
    let r : length b.reserved ≡ 3 = search rules in
    let w = c.in_ok-entry.ensures.keeps u in
    rw (p.1, p.2)
    (ended_on _ _ _ q k a (Err _) e (λ h.
    let o = on_card q e h in
    let x = back g' (record { inside = i; read = c.in_ok-entry.ensures.reads u i o; made = c.with_first-restored.ensures; name = n; reserved = r }) c.is_restorable.ensures c.if-not-is_restorable.false in
    unsearched o w.1 x (c.in_err-find.ensures.seeks w.0)))

pub returns-then-is_some-clause-performs : goal.returns-then-is_some-clause-performs
returns-then-is_some-clause-performs g c = λ u.
    let q = kept c.args.memory.now in
    let e = c.of-layout.ensures in
    let y = c.of-layout.result in
    let k = c.args.slot in
    let a = c.args.letter in
    let z = sym c.is_name_byte.ensures ∙ c.if-not-is_name_byte.false in
    let i : k < y.slots = c.if-slot-layout.false in
    let g' = goes y (g.D.SectorDevice.meaning c.args.device.now) q k a z i in
    let b = c.with_first-restored.result in
    let n : length b.name ≡ 16 = search rules in
    let r : length b.reserved ≡ 3 = search rules in
    ended_on _ _ _ q k a (Err _) e (λ h.
    let o = on_card q e h in
    let x = back g' (record { inside = i; read = c.in_ok-entry.ensures.reads u i o; made = c.with_first-restored.ensures; name = n; reserved = r }) c.is_restorable.ensures c.if-not-is_restorable.false in
    taken (g.D.SectorDevice.faults c.args.device.now) o x (c.in_ok-find.ensures.seeks (c.in_ok-entry.ensures.keeps u).0) (sym c.is_some.ensures ∙ c.if-is_some.true))

pub returns-in_err-write_entry-clause-performs : goal.returns-in_err-write_entry-clause-performs
returns-in_err-write_entry-clause-performs g c = λ u.
    let p = err_from_is_err_and c.from_residual-in_err-write_entry.result c.from_residual-in_err-write_entry.ensures.1 in
    let q = kept c.args.memory.now in
    let e = c.of-layout.ensures in
    let y = c.of-layout.result in
    let k = c.args.slot in
    let a = c.args.letter in
    let z = sym c.is_name_byte.ensures ∙ c.if-not-is_name_byte.false in
    let i : k < y.slots = c.if-slot-layout.false in
    let g' = goes y (g.D.SectorDevice.meaning c.args.device.now) q k a z i in
    let b = c.with_first-restored.result in
    let n : length b.name ≡ 16 = search rules in
    let r : length b.reserved ≡ 3 = search rules in
    let w : Within (g.D.SectorDevice.faults c.find.new.device) (g.D.SectorDevice.faults c.args.device.now) = search rules in
    rw (p.1, p.2)
    (ended_on _ _ _ q k a (Err _) e (λ h.
    let o = on_card q e h in
    let x = back g' (record { inside = i; read = c.in_ok-entry.ensures.reads u i o; made = c.with_first-restored.ensures; name = n; reserved = r }) c.is_restorable.ensures c.if-not-is_restorable.false in
    back_cut (free i o x (c.in_ok-find.ensures.seeks (c.in_ok-entry.ensures.keeps u).0) (sym c.is_some.ensures ∙ c.if-is_some.false)) w (c.in_err-write_entry.ensures.runs (c.in_ok-find.ensures.keeps (c.in_ok-entry.ensures.keeps u).0).0)))

pub returns-clause-performs : goal.returns-clause-performs
returns-clause-performs g c = λ u.
    let q = kept c.args.memory.now in
    let e = c.of-layout.ensures in
    let y = c.of-layout.result in
    let k = c.args.slot in
    let a = c.args.letter in
    let z = sym c.is_name_byte.ensures ∙ c.if-not-is_name_byte.false in
    let i : k < y.slots = c.if-slot-layout.false in
    let g' = goes y (g.D.SectorDevice.meaning c.args.device.now) q k a z i in
    let b = c.with_first-restored.result in
    let n : length b.name ≡ 16 = search rules in
    let r : length b.reserved ≡ 3 = search rules in
    ended_on _ _ _ q k a (Ok _) e (λ h.
    let o = on_card q e h in
    let x = back g' (record { inside = i; read = c.in_ok-entry.ensures.reads u i o; made = c.with_first-restored.ensures; name = n; reserved = r }) c.is_restorable.ensures c.if-not-is_restorable.false in
    back_all (free i o x (c.in_ok-find.ensures.seeks (c.in_ok-entry.ensures.keeps u).0) (sym c.is_some.ensures ∙ c.if-is_some.false)) (c.in_ok-write_entry.ensures.runs (c.in_ok-find.ensures.keeps (c.in_ok-entry.ensures.keeps u).0).0))
