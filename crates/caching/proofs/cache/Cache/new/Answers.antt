use Rattle.std.proofs.Common.{refl}
use Rattle.caching.proofs.cache.Cache.new.Goals as goal

pub returns : goal.returns
returns g c = record {
  beneath = refl;
  entries = c.none.ensures;
  sound = λ s. (s, λ n b h. elim (c.none.ensures n b h) [ ]);
}
