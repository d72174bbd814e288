use Rattle.std.proofs.Common.{◌≡◌, ◌-◌, length, arith}
use Rattle.volume.proofs.Filling.{chunk_padded}
use Rattle.volume.proofs.data.padded_sector.Goals as goal

pub returns : goal.returns
returns c =
    let p = c.args.part.now in
    let e : length p - 0 ≡ length p = omega arith in
    simp (e, c.copy_from_slice.ensures.after, c.zero_sector-sector.ensures) (chunk_padded p c.requires)
