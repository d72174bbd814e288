use Rattle.std.proofs.Common.{sym}
use Rattle.plans.specs.Plans.{card_places}
use Rattle.volume.specs.Kept.{kept}
use Rattle.naming.specs.Named.{padded_plan, named_plan}
use Rattle.naming.proofs.Naming.{finds_as, named_rest}
use Rattle.naming.proofs.named.find_named.Goals as goal

pub returns-clause-finds : goal.returns-clause-finds
returns-clause-finds g c = λ s h.
    let m = g.D.SectorDevice.meaning c.args.device.now in
    let q = kept c.args.memory.now in
    let ps = card_places q m.sectors in
    finds_as (padded_plan ps c.in_ok-padded.field-0) (named_plan ps c.args.name.now) _ m _ q c.find_job.result
    (named_rest ps c.args.name.now (sym c.in_ok-padded.ensures)) (c.find_job.ensures.finds s h)
