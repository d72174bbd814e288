-- There is at most one proof that what is kept is true of a device, as a ghost field asks.
use Rattle.std.specs.Coded.{Coded-set, coded_list, coded_ℕ, Unit-prop, le_prop}
use Rattle.device.specs.Meaning.{Meaning, Condition, steady, well, failed, MayAccept, sector}
use Rattle.caching.specs.Cache.{TrueOf}
use Rattle.kept.specs.Kept.{Places}

may_accept-prop : (c : Condition) → IsProp (MayAccept c)
may_accept-prop steady = Unit-prop
may_accept-prop well = Unit-prop
may_accept-prop failed = λ x y. absurd x

pub true_of-prop : (m : Meaning) (xs : Places) → IsProp (TrueOf m xs)
true_of-prop m xs x y = λ i n b k. (
  le_prop (x n b k).0 (y n b k).0 i,
  Coded-set (coded_list coded_ℕ) b (sector m n) (x n b k).1 (y n b k).1 i,
  may_accept-prop m.condition (x n b k).2 (y n b k).2 i,
)
