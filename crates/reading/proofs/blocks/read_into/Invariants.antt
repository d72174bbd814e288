-- The first bytes are read, up to the end of a sector.
use Rattle.std.proofs.Common.{◌≡◌, ◌+◌, ◌-◌, ◌*◌, ◌/◌, ◌%◌, ◌<◌, ◌≤◌, length, take}
use Rattle.device.specs.Calls.{Keeps}
use Rattle.device.specs.Meaning.{Lawful, MayAccept}
use Rattle.layout.specs.Bytes.{part as part_of}
use Rattle.volume.specs.Directory.{OfSlot}
use Rattle.reading.specs.Buffers.{over}
use Rattle.reading.specs.Blocks.{block_bytes}
use Rattle.reading.proofs.blocks.read_into.Given as goal

abbrev pub invariant-loop-done : goal.invariant-loop-done
invariant-loop-done g l =
    let d = g.D.SectorDevice in
    let n = length l.initial.part in
    record {
      within : l.done ≤ n;
      whole : l.done < n → l.done ≡ 512 * ((l.place + l.done) / 512 - l.place / 512) - l.place % 512;
      keeps : Keeps d l.initial.device l.device;
      reads : OfSlot d l.layout l.slot l.initial.device l.device (λ t m m'. Lawful m →
          (m' ≡ m) × (0 < l.done → MayAccept m.condition)
          × (l.part ≡ over (take l.done (part_of (block_bytes l.layout m.sectors l.slot) l.place n)) l.initial.part));
    }

abbrev pub decreases-loop-done : goal.decreases-loop-done
decreases-loop-done g l = length l.initial.part - l.done
