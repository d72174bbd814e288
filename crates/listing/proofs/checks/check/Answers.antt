use Rattle.std.proofs.Common.{◌≡◌, ◌≤◌, ap, arith, rules}
use Rattle.std.proofs.lemmas.Result.{err_from_is_err_and}
use Rattle.layout.specs.Sizes.{layout_of}
use Rattle.layout.specs.declared.sizes.Layout.{Layout}
use Rattle.plans.specs.Memory.{card_layout}
use Rattle.plans.specs.Rows.{findings}
use Rattle.volume.specs.Kept.{kept}
use Rattle.volume.proofs.Entering.{reads_at}
use Rattle.listing.specs.Tables.{HoldsFirst, Checks}
use Rattle.listing.proofs.FindingRows.{in_card, in_room, few_below, checked_more, checked, check_refused, check_first, lower_refused}
use Rattle.listing.proofs.checks.check.Goals as goal

pub returns-in_err-read-clause-refused : goal.returns-in_err-read-clause-refused
returns-in_err-read-clause-refused g c = λ s h.
    let p = err_from_is_err_and c.from_residual.result c.from_residual.ensures.1 in
    let x : HoldsFirst (findings (card_layout (kept c.args.memory.now)) (g.D.SectorDevice.meaning c.args.device.now).sectors) c.args.rows.now.rows.now c.loop-n.rows =
    check_first _ _ (kept c.args.memory.now) c.of-layout.ensures c.loop-n-test.true (c.loop-n.invariant.checked s h) in
    rw p.1 x

pub returns-in_err-taken-clause-refused : goal.returns-in_err-taken-clause-refused
returns-in_err-taken-clause-refused g c = λ s h.
    let p = err_from_is_err_and c.from_residual-in_err-taken.result c.from_residual-in_err-taken.ensures.1 in
    let x : HoldsFirst (findings (card_layout (kept c.args.memory.now)) (g.D.SectorDevice.meaning c.args.device.now).sectors) c.args.rows.now.rows.now c.loop-n.rows =
    check_first _ _ (kept c.args.memory.now) c.of-layout.ensures c.loop-n-test.true (c.loop-n.invariant.checked s h) in
    rw p.1 x

pub returns-in_err-taken-clause-performs : goal.returns-in_err-taken-clause-performs
returns-in_err-taken-clause-performs g c = λ s.
    let i = c.loop-n.invariant in
    let k = i.keeps s in
    let m = g.D.SectorDevice.meaning c.args.device.now in
    let l : 1 ≤ c.loop-n.n = omega (arith, c.loop-n.auto.n) in
    let p = err_from_is_err_and c.from_residual-in_err-taken.result c.from_residual-in_err-taken.ensures.1 in
    rw (p.1, p.2)
    (check_refused _ _ _ (kept c.args.memory.now) (Checks c.args.rows.now.rows.now c.loop-n.rows)
    (λ h.
    let q = c.args.memory.now.size in
    lower_refused (λ a n f z. k.1 a n f (c.in_ok-read.ensures.faults k.0 a n f z)) l (in_card q m c.of-layout.ensures l c.loop-n-test.true h) i.long (in_room q m c.of-layout.ensures h)
    (i.checked s h) (reads_at c.from.ensures (c.in_ok-read.ensures.reads k.0)) (c.in_err-taken.ensures.taken (c.in_ok-read.ensures.stays k.0))))

pub loop-n-preserved : goal.loop-n-preserved
loop-n-preserved g c =
    let i = c.loop-n.invariant in
    let m = g.D.SectorDevice.meaning c.args.device.now in
    let l : 1 ≤ c.loop-n.n = omega (arith, c.loop-n.auto.n) in
    let q = c.args.memory.now.size in
    record {
      long = search rules;
      keeps = search rules;
      lender = search rules;
      checked = λ s h.
          let k = (i.keeps s).0 in
          checked_more l (in_card q m c.of-layout.ensures l c.loop-n-test.true h) i.long (in_room q m c.of-layout.ensures h)
          (i.checked s h) (reads_at c.from.ensures (c.in_ok-read.ensures.reads k)) (c.in_ok-taken.ensures.taken (c.in_ok-read.ensures.stays k)) (few_below q m.sectors c.of-layout.ensures c.loop-n-test.true) c.offer_sector.ensures.offered;
    }

pub returns-clause-performs : goal.returns-clause-performs
returns-clause-performs g c = λ s.
    let a : c.of-layout.result.area ≡ (layout_of c.args.memory.now.size).area = ap (λ (y : Layout). y.area) c.of-layout.ensures in
    let n : c.loop-n.n ≡ c.of-layout.result.area = omega (arith, c.loop-n.auto.n-end) in
    checked _ _ _ (kept c.args.memory.now) c.of-layout.ensures n c.total.ensures (c.loop-n.invariant.checked s)
