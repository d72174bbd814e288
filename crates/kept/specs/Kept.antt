-- Places of kept sectors. In all: xs is the places, n a sector.
use Rattle.std.specs.Prelude.{ℕ, cond, List, [], ◌∷◌, Some, None, Option, ◌==◌}
use Rattle.kept.specs.declared.KeptSector.{KeptSector}

abbrev pub Places : Type 0
Places = List (Option KeptSector)

-- the bytes of sector n, as the first place that keeps it has them
abbrev pub kept_bytes : Places → ℕ → Option (List ℕ)
kept_bytes [] n = None
kept_bytes (None ∷ xs) n = kept_bytes xs n
kept_bytes (Some x ∷ xs) n = cond (x.sector == n) (Some x.bytes) (kept_bytes xs n)

-- a place once sector n is given back
abbrev pub given_back : ℕ → Option KeptSector → Option KeptSector
given_back n None = None
given_back n (Some x) = cond (x.sector == n) None (Some x)
