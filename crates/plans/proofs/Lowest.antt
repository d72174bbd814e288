-- Searches: what the lowest place that passes says of it and of those below; and what slots pass.
use Rattle.std.proofs.Common.{◌≡◌, ℕ, zero, suc, ◌<◌, Bool, true, false, cond, ◌⊎◌, List, [], ◌∷◌, length, get_or, Some, None, Option, refl, inl, inr, arith}
use Rattle.std.specs.Str.{bytes_eq}
use Rattle.plans.specs.Slots.{Job, Slot, empty, held, live, erased, damaged, usable, named, is_live, one_up, lowest}

-- what a found place says: it lies in the list and passes, and nothing below it passes
pub record Lowest {X : Type 0} (p : X → Bool) (xs : List X) (d : X) (k : ℕ) : Type 0 where
  pub inside : k < length xs
  pub passes : p (get_or xs k d) ≡ true
  pub below : (i : ℕ) → i < k → p (get_or xs i d) ≡ false

found_up : {X : Type 0} (p : X → Bool) (x : X) (xs : List X) (d : X) (k : ℕ) → p x ≡ false → Lowest p xs d k → Lowest p (x ∷ xs) d (suc k)
found_up p x xs d k e f = record {
  inside = let h = f.inside in omega arith;
  passes = f.passes;
  below = elim [ zero ↦ λ _. e | suc i ↦ λ l. f.below i (omega arith) ];
}

pub lowest_some : {X : Type 0} (p : X → Bool) (xs : List X) (d : X) (k : ℕ) → lowest p xs ≡ Some k → Lowest p xs d k
lowest_some p [] d k e = cc
lowest_some {X = X} p (x ∷ xs) d k e = at (p x) refl (lowest p xs) (λ i. lowest_some p xs d i) e
  where
    at : (b : Bool) → p x ≡ b → (o : Option ℕ) → ((i : ℕ) → o ≡ Some i → Lowest p xs d i) → cond b (Some 0) (one_up o) ≡ Some k → Lowest p (x ∷ xs) d k
    at true h o g f = let z : k ≡ 0 = cc in rw z record { inside = omega arith; passes = h; below = λ i l. absurd (omega arith) }
    at false h None g f = cc
    at false h (Some i) g f = let z : k ≡ suc i = cc in rw z (found_up p x xs d i h (g i refl))

pub lowest_none : {X : Type 0} (p : X → Bool) (xs : List X) (d : X) → lowest p xs ≡ None → (i : ℕ) → i < length xs → p (get_or xs i d) ≡ false
lowest_none p [] d e i h = absurd (omega arith)
lowest_none p (x ∷ xs) d e i h = at (p x) refl (lowest p xs) (lowest_none p xs d) e i h
  where
    at : (b : Bool) → p x ≡ b → (o : Option ℕ) → (o ≡ None → (i : ℕ) → i < length xs → p (get_or xs i d) ≡ false) → cond b (Some 0) (one_up o) ≡ None →
        (i : ℕ) → i < suc (length xs) → p (get_or (x ∷ xs) i d) ≡ false
    at true g o q f i l = cc
    at false g (Some k) q f i l = cc
    at false g None q f zero l = g
    at false g None q f (suc i) l = q refl i (omega arith)

-- the slots that pass
pub named_live : (n : List ℕ) (y : Slot) → named n y ≡ true → (j : Job) × (y ≡ live j) × (bytes_eq n j.name ≡ true)
named_live n empty e = cc
named_live n (held m) e = cc
named_live n (live j) e = (j, refl, e)
named_live n (erased j) e = cc
named_live n damaged e = cc

pub usable_is : (y : Slot) → usable y ≡ true → (y ≡ empty) ⊎ ((j : Job) × (y ≡ erased j))
usable_is empty e = inl refl
usable_is (held m) e = cc
usable_is (live j) e = cc
usable_is (erased j) e = inr (j, refl)
usable_is damaged e = cc

pub live_is : (y : Slot) → is_live y ≡ true → (j : Job) × (y ≡ live j)
live_is empty e = cc
live_is (held m) e = cc
live_is (live j) e = (j, refl)
live_is (erased j) e = cc
live_is damaged e = cc
