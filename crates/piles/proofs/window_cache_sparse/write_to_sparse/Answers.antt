use Rattle.std.proofs.Common.{◌≡◌, sym, refl, ap, ◌∙◌, subst}
use Rattle.device.specs.Meaning.{Meaning}
use Rattle.caching.specs.Cache.{NothingKept}
use Rattle.stores.specs.Sparse.{sparse_sectors}
use Rattle.piles.proofs.Below.{written_on_zeros}
use Rattle.piles.proofs.window_cache_sparse.write_to_sparse.Goals as goal

pub returns : goal.returns
returns c =
    let p = c.new-pile.result in
    let made = c.new-pile.ensures in
    let card = c.new-card.result in
    let none : NothingKept p.beneath.entries.places = subst (λ x. NothingKept x.entries.places) (sym made.beneath) c.new.ensures.entries in
    let same : p.beneath.beneath ≡ card = ap (λ x. x.beneath) made.beneath ∙ c.new.ensures.beneath in
    let sectors = ap (λ x. sparse_sectors x.size x.places.now) same ∙ ap (λ (x : Meaning). x.sectors) c.new-card.ensures.meaning in
    written_on_zeros _ _ _ _ _ _ _ sectors made.span refl (c.write.ensures.writes (tt, λ n b h. absurd (none n b h)))
