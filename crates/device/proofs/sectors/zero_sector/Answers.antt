use Rattle.std.proofs.Common.{refl}
use Rattle.device.specs.Meaning.{zeros}
use Rattle.device.proofs.sectors.zero_sector.Goals as goal

pub returns : goal.returns
unfolding zeros
returns c = refl
