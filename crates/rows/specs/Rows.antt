-- The caller's slice once rows have been offered to a table over it.
use Rattle.std.specs.Prelude.{◌≡◌, ℕ, suc, ◌+◌, min, List, [], ◌∷◌, slice_set}

-- a counter of 64 bits moved on: it stops at 2^64 - 1. The crate has its own, since it stands on no other
abbrev pub one_more : ℕ → ℕ
one_more k = min (k + 1) 18446744073709551615

-- the offered rows, in order, as far as there is room, and past them what lay there
abbrev pub filled : {R : Type 0} → List R → List R → List R
filled [] rows = rows
filled (x ∷ xs) [] = []
filled (x ∷ xs) (r ∷ rows) = x ∷ filled xs rows

-- the rows after those of xs are offered one by one, the first as number n
abbrev pub offered : {R : Type 0} → ℕ → List R → List R → List R
offered n [] rows = rows
offered n (x ∷ xs) rows = offered (suc n) xs (slice_set rows n x)

-- rows offered to an empty table are the first rows of the slice: a full table keeps the first
abbrev pub FirstKept : Type 0 → Type 0
FirstKept R = (xs rows : List R) → offered 0 xs rows ≡ filled xs rows
