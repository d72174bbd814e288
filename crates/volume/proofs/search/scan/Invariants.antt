-- The slots below this one were looked at.
use Rattle.std.proofs.Common.{◌≡◌, length}
use Rattle.device.specs.Calls.{Keeps}
use Rattle.places.specs.Places.{places}
use Rattle.plans.specs.Slots.{usable, named}
use Rattle.volume.specs.Directory.{OfCard, found_in, InSlots}
use Rattle.volume.proofs.Passes.{Looked, lowest_below}
use Rattle.volume.proofs.search.scan.Given as goal

abbrev pub invariant-loop-slot : goal.invariant-loop-slot
invariant-loop-slot g l =
    let d = g.D.SectorDevice in
    let v = l.scan in
    record {
      long : length l.sector ≡ 512;
      inside : InSlots l.slot v.one × InSlots l.slot v.other × InSlots l.slot v.room;
      keeps : Keeps d l.initial.device l.device;
      looked : OfCard d l.layout l.initial.device l.device (λ t m m'.
          (let ps = places l.layout m.sectors in
          Looked m m' l.slot l.sector
          × (v.one ≡ found_in ps (lowest_below (named l.one) ps l.slot))
          × (v.other ≡ found_in ps (lowest_below (named l.other) ps l.slot))
          × (v.room ≡ found_in ps (lowest_below usable ps l.slot))));
    }
