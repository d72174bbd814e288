use Rattle.std.proofs.Common.{◌≡◌, ◌+◌, ◌-◌, ◌*◌, ◌%◌, ap, arith}
use Rattle.layout.specs.declared.sizes.EntryPlace.{EntryPlace}
use Rattle.places.specs.SlotWrites.{spliced}
use Rattle.volume.proofs.directory.put_entry.Goals as goal

pub returns : goal.returns
unfolding spliced
returns c =
    let o = 32 * (c.args.slot % 16) in
    let p : c.entry_place-at.result.offset ≡ o = ap (λ (x : EntryPlace). x.offset) c.entry_place-at.ensures in
    let e : o + 32 - o ≡ 32 = omega arith in
    simp (p, e, c.copy_from_slice.ensures.after, c.encode.ensures.value)
