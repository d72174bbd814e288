use Rattle.std.proofs.Common.{◌+◌, ◌<◌, ◌≤◌, ◌⊎◌, inl, inr, arith, rules}
use Rattle.std.proofs.lemmas.Bool.{cases_lt}
use Rattle.volume.proofs.Passes.{turned_to, looked_more, looked_in}
use Rattle.listing.proofs.Taken.{marked_slot, marked_lower, marked_all, own_sector}
use Rattle.listing.proofs.names.taken_names.Goals as goal

pub loop-slot-preserved : goal.loop-slot-preserved
loop-slot-preserved g c =
    let i = c.loop-slot.invariant in
    let y = c.args.layout.now in
    let x = (g.D.SectorDevice.meaning c.args.device.now).sectors in
    let k = c.loop-slot.slot in
    let l : k < y.slots = omega (arith, c.loop-slot-test.true, c.min-slot-end.ensures) in
    record {
      long = search rules;
      keeps = search rules;
      looked = λ s h.
          let w = i.looked s h in
          let z = c.in_ok-turn_to.ensures.turns (i.keeps s).0 (looked_in w.0 h l) in
          (looked_more w.0 z, marked_slot y x c.args.first c.args.here.now k c.mark_slot.new.taken l (turned_to w.0 z) c.mark_slot.ensures w.1);
    }

pub loop-own-init : goal.loop-own-init
loop-own-init g c =
    let y = c.args.layout.now in
    let x = (g.D.SectorDevice.meaning c.args.device.now).sectors in
    record {
      first = omega arith;
      marked = λ s h _ _.
          let w = c.loop-slot.invariant.looked s h in
          (w.0.same, marked_lower y x c.args.first c.args.here.now c.loop-slot.slot (omega arith) (omega arith) w.1);
    }

pub loop-own-preserved : goal.loop-own-preserved
loop-own-preserved g c =
    let i = c.loop-own.invariant in
    let y = c.args.layout.now in
    let x = (g.D.SectorDevice.meaning c.args.device.now).sectors in
    let a = c.args.first in
    let k = c.loop-own.own in
    let f : a ≤ k = i.first in
    let l : k < y.slots = omega (arith, c.loop-own-test.true, c.min-own-end.ensures) in
    let n : k < a + 16 = omega (arith, c.loop-own-test.true, c.min-own-end.ensures, c.saturating_add.ensures) in
    record {
      first = omega arith;
      marked = λ s h e d.
          let w = i.marked s h e d in
          (w.0, marked_slot y x a c.args.here.now k c.mark_slot-in-loop-own.new.taken l (own_sector x a k e f n d) c.mark_slot-in-loop-own.ensures w.1);
    }

pub returns-clause-taken : goal.returns-clause-taken
returns-clause-taken g c = λ s h e d.
    let y = c.args.layout.now in
    let x = (g.D.SectorDevice.meaning c.args.device.now).sectors in
    let a = c.args.first in
    let k = c.loop-own.own in
    let w = c.loop-own.invariant.marked s h e d in
    let z : (a + 16 ≤ k) ⊎ (y.slots ≤ k) =
    elim (cases_lt k y.slots) [
      | inl l ↦ inl (omega (arith, c.min-own-end.ensures, c.saturating_add.ensures, c.loop-own-test.false))
      | inr l ↦ inr l
    ] in
    record { same = w.0; each = marked_all y x a c.args.here.now k z w.1 }
