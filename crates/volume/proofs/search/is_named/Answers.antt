use Rattle.std.proofs.Common.{◌≡◌, sym, ap, ◌∙◌, rules}
use Rattle.std.specs.Str.{bytes_eq}
use Rattle.entries.specs.declared.state.EntryState.{EntryState}
use Rattle.entries.specs.declared.state.EntryState.TheVariants.{Live}
use Rattle.plans.specs.Slots.{job_in, as_slot, named}
use Rattle.volume.proofs.search.is_named.Goals as goal

pub returns-then-eq : goal.returns-then-eq
unfolding job_in
returns-then-eq c s =
    let live : c.args.state ≡ Live = search rules in
    let same : c.eq-then-eq.result ≡ bytes_eq c.args.name.now c.args.entry.now.name = search rules in
    same ∙ sym (ap (λ (x : EntryState). named c.args.name.now (as_slot x (job_in c.args.entry.now s))) live)
