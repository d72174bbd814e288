use Rattle.std.proofs.Common.{sym, subst}
use Rattle.caching.specs.Cache.{NothingKept}
use Rattle.piles.proofs.window_cache_image.pile_over.Goals as goal

pub returns-clause-entries : goal.returns-clause-entries
returns-clause-entries c = subst (λ x. NothingKept x.entries.places) (sym c.new-3.ensures.beneath) c.new-2.ensures.entries
