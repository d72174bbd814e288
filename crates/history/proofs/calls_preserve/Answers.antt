use Rattle.history.proofs.Preserving.{calls_preserve_lem}
use Rattle.history.proofs.Zeroing.{wipe_zeroes}
use Rattle.history.proofs.calls_preserve.Goals as goal

pub returns : goal.returns
returns c = record { models = calls_preserve_lem; zeroes = wipe_zeroes }
