use Rattle.std.proofs.Common.{ap, rules}
use Rattle.layout.specs.declared.sizes.EntryPlace.{EntryPlace}
use Rattle.volume.proofs.Entering.{reads_at, entry_read}
use Rattle.volume.proofs.directory.read_entry.Goals as goal

pub returns-clause-reads : goal.returns-clause-reads
returns-clause-reads g c = λ s l h.
    let e = ap (λ (x : EntryPlace). x.sector) c.entry_place.ensures in
    entry_read c.args.layout.now c.args.slot l (search rules) (h.listed c.args.slot l) (reads_at e (c.in_ok-read.ensures.reads s)) c.entry_in.ensures
