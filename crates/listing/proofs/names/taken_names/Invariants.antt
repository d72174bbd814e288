-- The slots below this one were looked at, and the entries marked whose name is live in one of them: in the sectors
-- below, and then in the entries' own.
use Rattle.std.proofs.Common.{◌≡◌, ◌≤◌, length}
use Rattle.device.specs.Calls.{Keeps}
use Rattle.layout.specs.Sizes.{place_of}
use Rattle.volume.specs.Directory.{OfCard, directory_sector}
use Rattle.volume.proofs.Passes.{Looked}
use Rattle.listing.proofs.Taken.{Marked}
use Rattle.listing.proofs.names.taken_names.Given as goal

abbrev pub invariant-loop-slot : goal.invariant-loop-slot
invariant-loop-slot g l =
    let d = g.D.SectorDevice in
    record {
      long : length l.sector ≡ 512;
      keeps : Keeps d l.fn.device l.device;
      looked : OfCard d l.layout l.fn.device l.device (λ t m m'. Looked m m' l.slot l.sector × Marked l.layout m.sectors l.first l.here l.slot l.taken);
    }

abbrev pub invariant-loop-own : goal.invariant-loop-own
invariant-loop-own g l =
    let d = g.D.SectorDevice in
    record {
      first : l.first ≤ l.own;
      marked : OfCard d l.layout l.fn.device l.device (λ t m m'.
          (place_of l.first).offset ≡ 0 → l.here ≡ directory_sector m.sectors l.first → (m' ≡ m) × Marked l.layout m.sectors l.first l.here l.own l.taken);
    }
