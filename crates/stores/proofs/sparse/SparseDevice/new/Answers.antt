use Rattle.std.proofs.Common.{◌≡◌, ℕ, ◌≤◌, length, replicate, None, sym, refl, ap, ◌∙◌, subst, rules}
use Rattle.device.specs.Meaning.{Sectors, zeros, well}
use Rattle.kept.specs.Kept.{Places}
use Rattle.stores.specs.Sparse.{sparse_sectors, SparseSound}
use Rattle.stores.proofs.SparseTables.{sectors_free, sound_free}
use Rattle.stores.proofs.SparseTransfers.{count_few}
use Rattle.stores.proofs.sparse.SparseDevice.new.Goals as goal

pub invariant_of-result : goal.invariant_of-result
invariant_of-result c =
    let k = length c.args.places.now in
    let s = c.count_of.result in
    let e : c.fill.new.self ≡ replicate k None = c.fill.ensures.after (search rules) in
    let few = subst (λ (v : ℕ). v ≤ 268435456) (sym c.count_of.ensures) (count_few c.args.sectors) in
    record { sound = subst (λ (xs : Places). SparseSound xs s) (sym e) (sound_free k s few) }

pub returns : goal.returns
returns c =
    let k = length c.args.places.now in
    let s = c.count_of.result in
    let e : c.fill.new.self ≡ replicate k None = c.fill.ensures.after (search rules) in
    record {
      places = e;
      size = c.count_of.ensures;
      geometry = refl;
      failed = refl;
      meaning =
          ap (λ (v : Sectors). record { sectors = v; geometry = c.args.geometry; condition = well })
          (ap (sparse_sectors s) e ∙ sectors_free s k ∙ ap (λ (v : ℕ). replicate v (zeros 512)) c.count_of.ensures);
    }
