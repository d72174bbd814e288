use Rattle.std.proofs.Common.{◌≡◌, ◌+◌, Bool, false, ◌&&◌, ◌||◌, ltb, get_or, ap, ◌∙◌, rules}
use Rattle.entries.specs.declared.state.EntryState.TheVariants.{Live}
use Rattle.listing.specs.Faults.{entry_at}
use Rattle.listing.proofs.Taken.{live_named}
use Rattle.listing.proofs.names.mark_slot.Goals as goal

pub returns-then-eq : goal.returns-then-eq
returns-then-eq c = λ s i h.
    let k = c.args.first + i in
    let live : c.state.result ≡ Live = search rules in
    c.mark_name.ensures i h
    ∙ ap (λ (b : Bool). get_or c.args.taken.now i false || (ltb c.args.slot k && b))
    (live_named (entry_at c.args.here.now k).name c.args.layout.now c.args.slot s c.entry_in-entry.ensures c.state.ensures live)
