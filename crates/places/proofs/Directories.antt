-- The directory sector by sector.
use Rattle.std.proofs.Common.{◌≡◌, ℕ, ◌+◌, ◌-◌, ◌*◌, ◌%◌, ◌<◌, ◌≤◌, List, [], get_or, take, drop, ap, ◌∙◌, inl, inr, arith}
use Rattle.std.proofs.lemmas.Bool.{cases_eq}
use Rattle.device.specs.Meaning.{Sectors, zeros}
use Rattle.device.proofs.Zeros.{take-zeros, drop-zeros}
use Rattle.layout.specs.Bytes.{part}
use Rattle.layout.specs.Sizes.{place_of}
use Rattle.layout.specs.declared.sizes.Layout.{Layout}
use Rattle.places.specs.Places.{place}

-- slot 0 is the first of its directory sector
pub inner : (k : ℕ) → ((place_of k).offset ≡ 0 → ⊥) → 0 < k
inner k h = elim (cases_eq k 0) [ inl e ↦ absurd (h (ap (λ (n : ℕ). 32 * (n % 16)) e)) | inr n ↦ omega arith ]

-- a slot that is not the first of its directory sector shares it with the slot before
pub next_same : (k : ℕ) → ((place_of (k + 1)).offset ≡ 0 → ⊥) → (place_of k).sector ≡ (place_of (k + 1)).sector
next_same k h = elim (cases_eq ((k + 1) % 16) 0) [ inl e ↦ absurd (h (ap (λ (n : ℕ). 32 * n) e)) | inr n ↦ omega arith ]

zeros_part : (m n o : ℕ) → o + m ≤ n → take m (drop o (zeros n)) ≡ zeros m
zeros_part m n o h = ap (take m) (drop-zeros o n) ∙ take-zeros m (n - o) (omega arith)

-- in a directory sector of zeros every entry is zeros
pub zero_entry : (c : Layout) (s : Sectors) (k : ℕ) → get_or s (place_of k).sector [] ≡ zeros 512 → (place c s k).entry ≡ zeros 32
unfolding place
zero_entry c s k e = ap (λ (x : List ℕ). part x (place_of k).offset 32) e ∙ zeros_part 32 512 (32 * (k % 16)) (omega arith)
