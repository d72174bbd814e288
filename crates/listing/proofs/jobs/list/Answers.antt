use Rattle.std.proofs.Common.{◌≡◌, arith, rules}
use Rattle.std.proofs.lemmas.Result.{err_from_is_err_and}
use Rattle.volume.specs.Kept.{kept}
use Rattle.volume.proofs.Passes.{turned_to, looked_more, looked_in, read_off}
use Rattle.plans.specs.Plans.{card_places}
use Rattle.plans.specs.Rows.{job_rows}
use Rattle.plans.specs.Slots.{slots_in}
use Rattle.listing.specs.Tables.{HoldsFirst, Lists}
use Rattle.listing.proofs.JobRows.{slot_row, row_read, listed, list_refused, list_first}
use Rattle.listing.proofs.Tables.{holds_more}
use Rattle.listing.proofs.jobs.list.Goals as goal

pub returns-in_err-turn_to-clause-performs : goal.returns-in_err-turn_to-clause-performs
returns-in_err-turn_to-clause-performs g c = λ s.
    let i = c.loop-slot.invariant in
    let k = i.keeps s in
    let p = err_from_is_err_and c.from_residual.result c.from_residual.ensures.1 in
    rw (p.1, p.2)
    (list_refused _ _ _ _ _ (kept c.args.memory.now) (Lists c.args.rows.now.rows.now c.loop-slot.rows) c.of-layout.ensures c.loop-slot-test.true k.1 (i.looked s)
    (c.in_err-turn_to.ensures.turns k.0))

pub returns-in_err-turn_to-clause-refused : goal.returns-in_err-turn_to-clause-refused
returns-in_err-turn_to-clause-refused g c = λ s h.
    let p = err_from_is_err_and c.from_residual.result c.from_residual.ensures.1 in
    let x : HoldsFirst (job_rows (slots_in (card_places (kept c.args.memory.now) (g.D.SectorDevice.meaning c.args.device.now).sectors))) c.args.rows.now.rows.now c.loop-slot.rows =
    list_first _ (kept c.args.memory.now) c.of-layout.ensures c.loop-slot-test.true (c.loop-slot.invariant.looked s) h in
    rw p.1 x

pub loop-slot-preserved : goal.loop-slot-preserved
loop-slot-preserved g c =
    let i = c.loop-slot.invariant in
    let y = c.of-layout.result in
    let m = g.D.SectorDevice.meaning c.args.device.now in
    let k = c.loop-slot.slot in
    let l = c.loop-slot-test.true in
    record {
      long = search rules;
      keeps = search rules;
      lender = search rules;
      looked = λ s h.
          let w = i.looked s h in
          let z = c.in_ok-turn_to.ensures.turns (i.keeps s).0 (looked_in w.0 h l) in
          let o = read_off y m.sectors k l (turned_to w.0 z) c.entry_in-entry.ensures c.state-state.ensures in (
            looked_more w.0 z,
            holds_more (slot_row y m.sectors) k c.row_of.result (omega arith) (row_read y m k h (c.size-size.ensures.lawful s) l o c.row_of.ensures) w.1 c.offer.ensures.offered,
          );
    }

pub returns-clause-performs : goal.returns-clause-performs
returns-clause-performs g c = λ s.
    let k : c.loop-slot.slot ≡ c.of-layout.result.slots = omega arith in
    listed _ _ _ (kept c.args.memory.now) c.of-layout.ensures k c.total.ensures (c.loop-slot.invariant.looked s)
