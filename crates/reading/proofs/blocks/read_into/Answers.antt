use Rattle.std.proofs.Common.{arith, rules}
use Rattle.std.proofs.lemmas.Result.{err_from_is_err_and}
use Rattle.reading.proofs.BlockReads.{next_of, next_in, part_more, part_cut, part_read}
use Rattle.reading.proofs.blocks.read_into.Goals as goal

pub loop-done-preserved : goal.loop-done-preserved
loop-done-preserved g c =
    let i = c.loop-done.invariant in
    let y = c.args.layout.now in
    record {
      within = omega arith;
      whole = omega arith;
      keeps = search rules;
      reads = λ s l h w.
          let x = next_of {c = y} {k = c.args.slot} c.loop-done.part c.loop-done.auto.part c.requires c.loop-done-test.true c.min-end.ensures c.block_sector-sector.ensures in
          let v = i.reads s l h w in
          let r = c.in_ok-read_part.ensures.reads (i.keeps s).0 (next_in y h l x v.0) in
          let z = part_more (g.D.SectorDevice.faults c.loop-done.device) y c.args.slot c.args.place c.args.part.now h w l x c.loop-done.auto.part v.0 v.2 r in
          (z.0, λ _. z.1, z.2);
    }

pub returns-in_err-read_part-clause-reads : goal.returns-in_err-read_part-clause-reads
returns-in_err-read_part-clause-reads g c = λ s l h w.
    let i = c.loop-done.invariant in
    let y = c.args.layout.now in
    let x = next_of {c = y} {k = c.args.slot} c.loop-done.part c.loop-done.auto.part c.requires c.loop-done-test.true c.min-end.ensures c.block_sector-sector.ensures in
    let k = i.keeps s in
    let v = i.reads s l h w in
    let p = err_from_is_err_and c.from_residual.result c.from_residual.ensures.1 in
    rw (p.1, p.2)
    (part_cut y c.args.slot c.args.place c.args.part.now k.1 h w l x (i.whole x.left) v.0 v.2 (c.in_err-read_part.ensures.reads k.0 (next_in y h l x v.0)))

pub returns-clause-reads : goal.returns-clause-reads
returns-clause-reads g c = λ s l h w.
    let v = c.loop-done.invariant.reads s l h w in
    part_read c.args.layout.now c.args.slot c.args.place c.args.part.now h w l c.requires (omega arith) v.0 v.1 v.2
