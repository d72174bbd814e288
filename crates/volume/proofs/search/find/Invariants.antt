-- The slots below this one were looked at, and none has the name.
use Rattle.std.proofs.Common.{◌≡◌, length, None}
use Rattle.device.specs.Calls.{Keeps}
use Rattle.places.specs.Places.{places}
use Rattle.plans.specs.Slots.{named}
use Rattle.volume.specs.Directory.{OfCard}
use Rattle.volume.proofs.Passes.{Looked, lowest_below}
use Rattle.volume.proofs.search.find.Given as goal

abbrev pub invariant-loop-slot : goal.invariant-loop-slot
invariant-loop-slot g l =
    let d = g.D.SectorDevice in
    record {
      long : length l.sector ≡ 512;
      keeps : Keeps d l.initial.device l.device;
      looked : OfCard d l.layout l.initial.device l.device (λ t m m'. Looked m m' l.slot l.sector × (lowest_below (named l.name) (places l.layout m.sectors) l.slot ≡ None));
    }
