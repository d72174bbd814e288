use Rattle.std.proofs.Common.{ℕ, ◌<◌, length, sym, ap, subst, rules}
use Rattle.entries.specs.Entry.{resized}
use Rattle.entries.specs.declared.entry.Entry.{Entry}
use Rattle.layout.specs.declared.sizes.EntryPlace.{EntryPlace}
use Rattle.volume.proofs.Entering.{entry_changed}
use Rattle.volume.proofs.directory.resize_entry.Goals as goal

pub returns-clause-runs : goal.returns-clause-runs
returns-clause-runs g c = λ s l h.
    let m = g.D.SectorDevice.meaning c.args.device.now in
    let i = ap (λ (x : EntryPlace). x.sector) c.entry_place-n.ensures in
    entry_changed c.args.layout.now c.args.slot (λ (e : Entry). resized e c.args.size) c.write.result (search rules) l
    (subst (λ (n : ℕ). n < length m.sectors) (sym i) (h.listed c.args.slot l)) (search rules) i (c.in_ok-read.ensures.reads s) c.entry_in.ensures c.resized-entry.ensures
    c.put_entry.ensures (search rules) (c.write.ensures.writes (c.in_ok-read.ensures.stays s))
