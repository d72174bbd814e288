use Rattle.std.proofs.Common.{◌≡◌, sym, ◌∙◌, arith, rules}
use Rattle.places.specs.Places.{places}
use Rattle.plans.specs.Plans.{place_in}
use Rattle.plans.specs.Slots.{named}
use Rattle.volume.proofs.Passes.{turned_to, looked_more, looked_in, passed, read_off, sought_here, sought_not, sought_all}
use Rattle.volume.proofs.search.find.Goals as goal

pub returns-then-is_named-clause-seeks : goal.returns-then-is_named-clause-seeks
returns-then-is_named-clause-seeks g c = λ s h.
    let i = c.loop-slot.invariant in
    let y = c.args.layout.now in
    let x = (g.D.SectorDevice.meaning c.args.device.now).sectors in
    let k = c.loop-slot.slot in
    let l = c.loop-slot-test.true in
    let w = i.looked s h in
    let z = c.in_ok-turn_to.ensures.turns (i.keeps s).0 (looked_in w.0 h l) in
    let o = read_off y x k l (turned_to w.0 z) c.entry_in-entry.ensures c.state-state.ensures in
    record {
      passed = passed (looked_more w.0 z) (λ _. omega arith);
      value = sought_here (named c.args.name.now) y x k l o w.1 (sym (c.is_named.ensures (place_in (places y x) k).sectors) ∙ c.if-is_named.true);
    }

pub loop-slot-preserved : goal.loop-slot-preserved
loop-slot-preserved g c =
    let i = c.loop-slot.invariant in
    let y = c.args.layout.now in
    let x = (g.D.SectorDevice.meaning c.args.device.now).sectors in
    let k = c.loop-slot.slot in
    let l = c.loop-slot-test.true in
    record {
      long = search rules;
      keeps = search rules;
      looked = λ s h.
          let w = i.looked s h in
          let z = c.in_ok-turn_to.ensures.turns (i.keeps s).0 (looked_in w.0 h l) in
          let o = read_off y x k l (turned_to w.0 z) c.entry_in-entry.ensures c.state-state.ensures in
          (looked_more w.0 z, sought_not (named c.args.name.now) y x k l o w.1 (sym (c.is_named.ensures (place_in (places y x) k).sectors) ∙ c.if-is_named.false));
    }

pub returns-clause-seeks : goal.returns-clause-seeks
returns-clause-seeks g c = λ s h.
    let w = c.loop-slot.invariant.looked s h in
    let k : c.loop-slot.slot ≡ c.args.layout.now.slots = omega arith in
    record {
      passed = passed w.0 (λ z. omega (arith, k, z));
      value = sought_all (named c.args.name.now) c.args.layout.now (g.D.SectorDevice.meaning c.args.device.now).sectors c.loop-slot.slot k w.1;
    }
