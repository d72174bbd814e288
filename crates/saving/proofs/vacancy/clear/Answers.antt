use Rattle.std.proofs.Common.{◌≡◌, [], ◌∷◌, sym, ap, ◌∙◌, rules}
use Rattle.entries.specs.declared.state.EntryState.TheVariants.{Erased}
use Rattle.entries.specs.declared.entry.Entry.{Entry}
use Rattle.plans.specs.Plans.{for_entries, entering}
use Rattle.volume.proofs.Filling.{performed_as, runs_as}
use Rattle.volume.proofs.Glue.{performed_none}
use Rattle.saving.proofs.Rooms.{cleared, not_cleared}
use Rattle.saving.proofs.vacancy.clear.Goals as goal

pub returns-then-eq-clause-runs : goal.returns-then-eq-clause-runs
returns-then-eq-clause-runs g c = λ u l h e.
    let x : c.state.result ≡ Erased = search rules in
    let k = c.args.room.now.slot in
    let m = g.D.SectorDevice.meaning c.args.device.now in
    runs_as (g.D.SectorDevice.faults c.args.device.now) c.args.layout.now for_entries m (g.D.SectorDevice.meaning c.write_entry.new.device) c.write_entry.result
    (ap (λ (y : Entry). entering k y ∷ []) c.held.ensures ∙ sym (cleared c.args.layout.now m.sectors k l e c.state.ensures x))
    (c.write_entry.ensures.runs u (h.listed k l) c.args.layout.now)

pub returns-clause-runs : goal.returns-clause-runs
returns-clause-runs g c = λ u l h e.
    let x : c.state.result ≡ Erased → ⊥ = search rules in
    performed_as (sym (not_cleared c.args.layout.now (g.D.SectorDevice.meaning c.args.device.now).sectors c.args.room.now.slot c.state.result l e c.state.ensures x)) (performed_none c.args.layout.now _)
