-- After the first sectors: the device with those filled, and the other bytes left.
use Rattle.std.proofs.Common.{◌≡◌, ◌*◌, ◌≤◌, length, drop}
use Rattle.std.specs.Iterator.Adapters.{enumerate_source, enumerate_count}
use Rattle.std.specs.Slice.Iter.{chunks_rest, chunks_size}
use Rattle.device.specs.Calls.{Keeps}
use Rattle.layout.specs.Extents.{extent_of}
use Rattle.plans.specs.Plans.{filling, chunk}
use Rattle.volume.specs.Directory.{OfSlot}
use Rattle.volume.specs.Performing.{Performed}
use Rattle.volume.proofs.data.write_data.Given as goal

abbrev pub invariant-loop-i : goal.invariant-loop-i
invariant-loop-i g l =
    let d = g.D.SectorDevice in
    let it = goal.iterator-loop-i g in
    let n = enumerate_count l.i-iterator in
    record {
      can : it.can_next l.i-iterator;
      finite : it.is_finite l.i-iterator;
      size : chunks_size (enumerate_source l.i-iterator) ≡ 512;
      rest : chunks_rest (enumerate_source l.i-iterator) ≡ drop (512 * n) l.bytes;
      some : n ≤ (extent_of (length l.bytes)).0;
      keeps : Keeps d l.initial.device l.device;
      runs : OfSlot d l.layout l.slot l.initial.device l.device (λ t m m'. Performed l.layout m m' (filling l.slot l.from (chunk l.bytes) n));
    }
