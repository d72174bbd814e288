-- The sectors below this one were equal.
use Rattle.std.proofs.Common.{◌≡◌, ◌*◌, ◌<◌, length, take}
use Rattle.device.specs.Calls.{Keeps, OfSound}
use Rattle.device.specs.Meaning.{Lawful}
use Rattle.volume.specs.Directory.{Room}
use Rattle.reading.specs.Blocks.{block_bytes}
use Rattle.reading.proofs.comparing.equal_blocks.Given as goal

abbrev pub invariant-loop-i : goal.invariant-loop-i
invariant-loop-i g l =
    let d = g.D.SectorDevice in
    record {
      mine_long : length l.mine ≡ 512;
      theirs_long : length l.theirs ≡ 512;
      keeps : Keeps d l.initial.device l.device;
      equal : OfSound d l.initial.device l.device (λ t m m'. l.one < l.layout.slots → l.other < l.layout.slots → Room l.layout m → Lawful m →
          (m' ≡ m) × (take (512 * l.i) (take l.size (block_bytes l.layout m.sectors l.one)) ≡ take (512 * l.i) (take l.size (block_bytes l.layout m.sectors l.other))));
    }
