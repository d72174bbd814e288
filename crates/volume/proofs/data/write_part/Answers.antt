use Rattle.std.proofs.Common.{sym}
use Rattle.volume.proofs.Filling.{chunk_whole, writes_as}
use Rattle.volume.proofs.data.write_part.Goals as goal

pub returns-then-part-eq512-clause-writes : goal.returns-then-part-eq512-clause-writes
returns-then-part-eq512-clause-writes g c = λ s. writes_as (sym (chunk_whole c.args.part.now c.if-part-eq512.true)) (c.write.ensures.writes s)
