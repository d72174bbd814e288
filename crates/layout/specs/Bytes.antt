-- Runs of bytes.
use Rattle.std.specs.Prelude.{ℕ, List, take, drop}

-- the n bytes from the one at k on
abbrev pub part : List ℕ → ℕ → ℕ → List ℕ
part b k n = take n (drop k b)
