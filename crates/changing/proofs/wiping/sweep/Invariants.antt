-- The held slots below this one were emptied.
use Rattle.std.proofs.Common.{◌≡◌, length}
use Rattle.device.specs.Calls.{Keeps}
use Rattle.volume.specs.Directory.{OfCard}
use Rattle.changing.proofs.Sweeping.{Swept}
use Rattle.changing.proofs.wiping.sweep.Given as goal

abbrev pub invariant-loop-slot : goal.invariant-loop-slot
invariant-loop-slot g l =
    let d = g.D.SectorDevice in
    record {
      long : length l.sector ≡ 512;
      keeps : Keeps d l.initial.device l.device;
      swept : OfCard d l.layout l.initial.device l.device (λ t m m'. Swept l.layout m m' l.slot l.sector);
    }
