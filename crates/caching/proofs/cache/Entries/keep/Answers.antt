use Rattle.std.proofs.Common.{◌≡◌, ◌%◌, ◌<◌, set, sym, subst, arith, rules}
use Rattle.kept.specs.Kept.{Places}
use Rattle.caching.specs.Cache.{KeptToo}
use Rattle.caching.proofs.Kept.{entry, kept_given_back}
use Rattle.caching.proofs.cache.Entries.keep.Goals as goal

pub returns : goal.returns
returns c =
    let xs = c.args.self.now.places in
    let n = c.args.n in
    let own : c.unwrap.result ≡ c.args.bytes.now = search rules in
    let four : c.args.self.now.next % 4 < 4 = omega arith in
    subst (λ (ys : Places). KeptToo xs (set ys (c.args.self.now.next % 4) (entry n c.unwrap.result)) n c.args.bytes.now) (sym c.give_back.ensures)
    (kept_given_back xs _ n _ _ (search rules) four own)
