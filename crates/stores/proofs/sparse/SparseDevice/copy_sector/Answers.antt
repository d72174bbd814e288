use Rattle.std.proofs.Common.{ℕ, List, replicate, Option, unwrap_or, sym, ap, ◌∙◌}
use Rattle.device.specs.Meaning.{zeros}
use Rattle.stores.proofs.SparseTables.{sector_in}
use Rattle.stores.proofs.sparse.SparseDevice.copy_sector.Goals as goal

pub returns-in-Some : goal.returns-in-Some
returns-in-Some c =
    let d = c.args.self.now in
    c.copy_from_slice.ensures.after ∙ ap (λ (o : Option (List ℕ)). unwrap_or o (zeros 512)) c.in-Some.ensures
    ∙ sym (sector_in d.size c.args.n d.places.now c.requires.1)

pub returns-in-None : goal.returns-in-None
unfolding zeros
returns-in-None c =
    let d = c.args.self.now in
    c.fill.ensures.after (λ y h. h) ∙ ap (λ (k : ℕ). replicate k 0) c.requires.0
    ∙ ap (λ (o : Option (List ℕ)). unwrap_or o (zeros 512)) c.in-None.ensures
    ∙ sym (sector_in d.size c.args.n d.places.now c.requires.1)
