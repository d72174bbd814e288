-- The extent of n bytes: the sectors that they take, and the bytes in the last of these.
use Rattle.std.specs.Prelude.{◌≡◌, ℕ, ◌+◌, ◌-◌, ◌*◌, ◌/◌, ◌<◌, ◌≤◌, cond, Some, None, Option, nat_le}

abbrev pub extent_of : ℕ → ℕ × ℕ
extent_of n = ((n + 511) / 512, n - 512 * ((n + 511) / 512 - 1))

-- the same in words that leave one pair only: all sectors but the last are full, and the last is not empty
pub record Extent (n s b : ℕ) : Type 0 where
  pub none : n ≡ 0 → (s ≡ 0) × (b ≡ 0)
  pub some : 0 < n → (512 * s + b ≡ n + 512) × (1 ≤ b) × (b ≤ 512)

-- the size of a job of n bytes, which its entry stores as a word
abbrev pub size_of : ℕ → Option ℕ
size_of n = cond (nat_le n 65535) (Some n) None
