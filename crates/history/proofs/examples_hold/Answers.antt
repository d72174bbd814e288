use Rattle.history.proofs.Examples.{streaming, wiping, saving_over}
use Rattle.history.proofs.examples_hold.Goals as goal

pub returns : goal.returns
returns c = record { streaming = streaming; wiping = wiping; saving = saving_over }
