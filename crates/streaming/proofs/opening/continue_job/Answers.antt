use Rattle.std.proofs.Common.{◌≡◌, ◌*◌, ◌/◌, ◌%◌, length, take, ap, ◌∙◌, rules}
use Rattle.std.proofs.lemmas.List.{length-take-le}
use Rattle.layout.specs.Bytes.{part}
use Rattle.reading.specs.Blocks.{block_bytes}
use Rattle.streaming.proofs.Openings.{continued_is}
use Rattle.streaming.proofs.opening.continue_job.Goals as goal

pub returns-clause-continues : goal.returns-clause-continues
returns-clause-continues g c = λ u l h.
    let m = g.D.SectorDevice.meaning c.args.device.now in
    let k = c.args.job.now.slot in
    let z = c.from-size.result in
    let w = c.size.ensures.lawful u in
    let r = c.in_ok-read_into.ensures.reads u l h w in
    let n : length (take (z % 512) c.zero_sector-gathered.result) ≡ z % 512 = length-take-le (z % 512) c.zero_sector-gathered.result (search rules) in (
      r.same,
      continued_is c.args.layout.now m k c.args.job.now.entry _ h w l (search rules) (search rules)
          (r.holds ∙ ap (part (block_bytes c.args.layout.now m.sectors k) (512 * (z / 512))) n),
    )
