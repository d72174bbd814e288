use Rattle.histories.proofs.Beginning.{new_holds}
use Rattle.histories.proofs.Stepping.{history_holds}
use Rattle.histories.proofs.Upholding.{upheld}
use Rattle.history.specs.Events.{after}
use Rattle.history.specs.Model.{new_model}
use Rattle.layout.specs.Sizes.{layout_of}
use Rattle.histories.proofs.histories_upheld.Goals as goal

pub returns : goal.returns
returns c = λ size st n es st' l.
    upheld size (after (new_model (layout_of size).slots) es) st' (history_holds size (new_model (layout_of size).slots) st (new_holds size st n) es st' l)
