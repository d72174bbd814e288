use Rattle.std.proofs.Common.{sym, ◌∙◌}
use Rattle.plans.specs.Plans.{card_places}
use Rattle.volume.specs.Kept.{kept}
use Rattle.naming.specs.Named.{padded_plan, shut_plan}
use Rattle.naming.proofs.Naming.{finds_as, shut_rest}
use Rattle.naming.proofs.named.find_shut.Goals as goal

pub returns-clause-finds : goal.returns-clause-finds
returns-clause-finds g c = λ s h.
    let m = g.D.SectorDevice.meaning c.args.device.now in
    let q = kept c.args.memory.now in
    let ps = card_places q m.sectors in
    finds_as (padded_plan ps c.in_ok-name.name) (shut_plan ps q.job c.args.name.now) _ m _ q c.find_job.result
    (shut_rest ps q.job c.args.name.now (sym c.in_ok-name.ensures) (sym c.is_open.ensures ∙ c.if-is_open.false))
    (c.find_job.ensures.finds s h)
