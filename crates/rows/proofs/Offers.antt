-- Rows offered one by one.
use Rattle.std.proofs.Common.{◌≡◌, ℕ, suc, List, [], ◌∷◌, ◌++◌, length, set, refl, ap, ◌∙◌}
use Rattle.rows.specs.Rows.{filled, offered}

no_room : {R : Type 0} (n : ℕ) (xs : List R) → offered n xs [] ≡ []
no_room n [] = refl
no_room n (x ∷ xs) = no_room (suc n) xs

behind : {R : Type 0} (n : ℕ) (xs rows : List R) (y : R) → offered (suc n) xs (y ∷ rows) ≡ y ∷ offered n xs rows
behind n [] rows y = refl
behind n (x ∷ xs) rows y = behind (suc n) xs (set rows n x) y

pub first_kept : {R : Type 0} (xs rows : List R) → offered 0 xs rows ≡ filled xs rows
first_kept [] rows = refl
first_kept (x ∷ xs) [] = no_room 1 xs
first_kept {R} (x ∷ xs) (r ∷ rows) = behind 0 xs rows x ∙ ap (λ (t : List R). x ∷ t) (first_kept xs rows)

-- one row more
pub filled_more : {R : Type 0} (xs rows : List R) (y : R) → set (filled xs rows) (length xs) y ≡ filled (xs ++ (y ∷ [])) rows
filled_more [] [] y = refl
filled_more [] (r ∷ rows) y = refl
filled_more (x ∷ xs) [] y = refl
filled_more {R} (x ∷ xs) (r ∷ rows) y = ap (λ (t : List R). x ∷ t) (filled_more xs rows y)
