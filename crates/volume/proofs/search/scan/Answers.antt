use Rattle.std.proofs.Common.{◌≡◌, arith, rules}
use Rattle.places.specs.Places.{places}
use Rattle.plans.specs.Plans.{place_in}
use Rattle.plans.specs.Slots.{job_in, usable, named}
use Rattle.volume.proofs.Passes.{turned_to, looked_more, looked_in, passed, read_off, found_more, found_all, in_more}
use Rattle.volume.proofs.search.scan.Goals as goal

pub loop-slot-preserved : goal.loop-slot-preserved
loop-slot-preserved g c =
    let i = c.loop-slot.invariant in
    let q = i.inside in
    let y = c.args.layout.now in
    let x = (g.D.SectorDevice.meaning c.args.device.now).sectors in
    let k = c.loop-slot.slot in
    let l = c.loop-slot-test.true in
    let b = c.entry_in-entry.result in
    let a = (place_in (places y x) k).sectors in
    record {
      long = search rules;
      inside = (
        in_more _ c.is_named.result k b c.then_some.ensures c.or-scan.ensures q.0,
        in_more _ c.is_named-in-loop-slot.result k b c.then_some-in-loop-slot.ensures c.or-scan-in-loop-slot.ensures q.1,
        in_more _ c.is_usable.result k b c.then_some-in-loop-slot-2.ensures c.or-scan-in-loop-slot-2.ensures q.2,
      );
      keeps = search rules;
      looked = λ s h.
          let w = i.looked s h in
          let z = c.in_ok-turn_to.ensures.turns (i.keeps s).0 (looked_in w.0 h l) in
          let o = read_off y x k l (turned_to w.0 z) c.entry_in-entry.ensures c.state-state.ensures in (
            looked_more w.0 z,
            found_more (named c.args.one.now) y x k l o (c.is_named.ensures a) c.then_some.ensures c.or-scan.ensures w.1,
            found_more (named c.args.other.now) y x k l o (c.is_named-in-loop-slot.ensures a) c.then_some-in-loop-slot.ensures c.or-scan-in-loop-slot.ensures w.2,
            found_more usable y x k l o (c.is_usable.ensures (job_in b a)) c.then_some-in-loop-slot-2.ensures c.or-scan-in-loop-slot-2.ensures w.3,
          );
    }

pub returns-clause-scans : goal.returns-clause-scans
returns-clause-scans g c = λ s h.
    let w = c.loop-slot.invariant.looked s h in
    let y = c.args.layout.now in
    let x = (g.D.SectorDevice.meaning c.args.device.now).sectors in
    let k : c.loop-slot.slot ≡ y.slots = omega arith in
    record {
      passed = passed w.0 (λ z. omega (arith, k, z));
      one = found_all (named c.args.one.now) y x _ k w.1;
      other = found_all (named c.args.other.now) y x _ k w.2;
      room = found_all usable y x _ k w.3;
    }
