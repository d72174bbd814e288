use Rattle.std.proofs.Common.{◌≡◌, length, rules, arith}
use Rattle.std.proofs.lemmas.Result.{err_from_is_err_and}
use Rattle.device.specs.Faults.{Within}
use Rattle.volume.specs.Kept.{kept}
use Rattle.volume.proofs.Glue.{room_after}
use Rattle.changing.proofs.Sweeping.{few, seen, stood, passed_over, emptied, sound, on_card, sweep_accepted, turn_refused, empty_refused, held_at}
use Rattle.changing.proofs.wiping.sweep.Goals as goal
use Rattle.changing.proofs.wiping.sweep.Goals.{in-Held+in_ok-empty_slot, in_default}

pub returns-in_err-turn_to-clause-performs : goal.returns-in_err-turn_to-clause-performs
returns-in_err-turn_to-clause-performs g c = λ u.
    let p = err_from_is_err_and c.from_residual.result c.from_residual.ensures.1 in
    let q = kept c.args.memory.now in
    let e = c.of-layout.ensures in
    let l = c.loop-slot-test.true in
    let k = c.loop-slot.invariant.keeps u in
    rw (p.1, p.2)
    (record {
      ends = λ h.
          let r = on_card q e h in
          let x = c.loop-slot.invariant.swept u r in
          turn_refused q e l k.1 x (c.in_err-turn_to.ensures.turns k.0 ((room_after r x.writes).listed c.loop-slot.slot l)).1;
    })

pub returns-in_err-empty_slot-clause-performs : goal.returns-in_err-empty_slot-clause-performs
returns-in_err-empty_slot-clause-performs g c = λ u.
    let p = err_from_is_err_and c.from_residual-in_err-empty_slot.result c.from_residual-in_err-empty_slot.ensures.1 in
    let q = kept c.args.memory.now in
    let e = c.of-layout.ensures in
    let l = c.loop-slot-test.true in
    let n = c.in-Held.count in
    let k : Within (g.D.SectorDevice.faults c.turn_to.new.device) (g.D.SectorDevice.faults c.args.device.now) = search rules in
    rw (p.1, p.2)
    (record {
      ends = λ h.
          let r = on_card q e h in
          let x = c.loop-slot.invariant.swept u r in
          let v = seen x (c.in_ok-turn_to.ensures.turns (c.loop-slot.invariant.keeps u).0 ((room_after r x.writes).listed c.loop-slot.slot l)) in
          empty_refused q e l k v (held_at n l v c.entry_in.ensures c.state-state.ensures c.in-Held.is)
          (c.in_err-empty_slot.ensures.runs (c.in_ok-turn_to.ensures.keeps (c.loop-slot.invariant.keeps u).0).0 l (room_after r v.writes) (few c.of-layout.result c.loop-slot.slot c.entry_in.result n c.in-Held.is c.state-state.ensures));
    })

pub loop-slot-preserved : goal.loop-slot-preserved
loop-slot-preserved g c =
    let e = c.of-layout.ensures in
    let l = c.loop-slot-test.true in
    let i = c.loop-slot.invariant in
    elim c.match-state.branch [
      | in-Held+in_ok-empty_slot w ↦
          let n = w.in-Held.count in
          let long : length c.turn_to.new.sector ≡ 512 = search rules in
          let few = few c.of-layout.result c.loop-slot.slot c.entry_in.result n w.in-Held.is c.state-state.ensures in
          record {
            long = search rules;
            keeps = search rules;
            swept = rw (w.device-is, w.sector-is) (λ u r.
                let x = i.swept u r in
                let v = seen x (c.in_ok-turn_to.ensures.turns (i.keeps u).0 ((room_after r x.writes).listed c.loop-slot.slot l)) in
                let h = room_after r v.writes in
                emptied (sound c.args.memory.now.size e) r l long v (held_at n l v c.entry_in.ensures c.state-state.ensures w.in-Held.is)
                (w.in_ok-empty_slot.ensures.runs (c.in_ok-turn_to.ensures.keeps (i.keeps u).0).0 l h few) (w.in_ok-empty_slot.ensures.holds (c.in_ok-turn_to.ensures.keeps (i.keeps u).0).0 l h few));
          }
      | in_default w ↦
          record {
            long = search rules;
            keeps = search rules;
            swept = rw (w.device-is, w.sector-is) (λ u r.
                let x = i.swept u r in
                let v = seen x (c.in_ok-turn_to.ensures.turns (i.keeps u).0 ((room_after r x.writes).listed c.loop-slot.slot l)) in
                passed_over _ l v (stood l v c.entry_in.ensures c.state-state.ensures) w.in_default.not-Held);
          }
    ]

pub returns-clause-performs : goal.returns-clause-performs
returns-clause-performs g c = λ u.
    let q = kept c.args.memory.now in
    let e = c.of-layout.ensures in
    record { ends = λ h. sweep_accepted q e (omega arith) (c.loop-slot.invariant.swept u (on_card q e h)) }
