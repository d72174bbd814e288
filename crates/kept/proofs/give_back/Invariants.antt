use Rattle.std.proofs.Common.{◌≡◌, ℕ, ◌<◌, ◌≤◌, get_or, None}
use Rattle.kept.specs.Kept.{given_back}
use Rattle.kept.proofs.give_back.Given as goal

abbrev pub invariant-loop-place : goal.invariant-loop-place
invariant-loop-place l =
    ((j : ℕ) → j < l.place-index → get_or l.place-items j None ≡ given_back l.n (get_or l.initial.place-items j None))
    × ((j : ℕ) → l.place-index ≤ j → get_or l.place-items j None ≡ get_or l.initial.place-items j None)
