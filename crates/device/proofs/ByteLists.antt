-- Lists of bytes: their parts are lists of bytes, and so are joined lists.
use Rattle.std.proofs.Common.{ℕ, zero, suc, ◌+◌, List, [], ◌∷◌, ◌++◌, take, drop, arith}
use Rattle.std.proofs.lemmas.List.{get_or-drop}
use Rattle.device.specs.Meaning.{Bytes}

pub no_bytes : Bytes []
no_bytes i = omega arith

pub take-bytes : (n : ℕ) (b : List ℕ) → Bytes b → Bytes (take n b)
take-bytes zero b h i = no_bytes i
take-bytes (suc n) [] h i = no_bytes i
take-bytes (suc n) (x ∷ xs) h zero = h 0
take-bytes (suc n) (x ∷ xs) h (suc i) = take-bytes n xs (λ j. h (suc j)) i

pub drop-bytes : (n : ℕ) (b : List ℕ) → Bytes b → Bytes (drop n b)
drop-bytes n b h i = rw get_or-drop (h (n + i))

pub append-bytes : (a b : List ℕ) → Bytes a → Bytes b → Bytes (a ++ b)
append-bytes [] b p q i = q i
append-bytes (x ∷ xs) b p q zero = p 0
append-bytes (x ∷ xs) b p q (suc i) = append-bytes xs b (λ j. p (suc j)) q i
