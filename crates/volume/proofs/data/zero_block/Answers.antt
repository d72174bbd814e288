use Rattle.volume.proofs.Filling.{block_zeroed}
use Rattle.volume.proofs.data.zero_block.Goals as goal

pub returns-clause-runs : goal.returns-clause-runs
returns-clause-runs g c = λ s l h b.
    block_zeroed _ c.args.layout.now (g.D.SectorDevice.meaning c.args.device.now) _ c.args.slot c.args.count c.write_zeros.result
    c.block.ensures c.block_sector.ensures h l b (c.write_zeros.ensures.writes s)
