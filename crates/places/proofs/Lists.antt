-- Lists: an entry spliced into a sector, and a list given by a function of the place.
use Rattle.std.proofs.Common.{◌≡◌, ℕ, zero, suc, ◌+◌, ◌<◌, ◌≤◌, ◌≢◌, List, [], ◌∷◌, ◌++◌, length, get_or, take, drop, set, refl, ap, ◌∙◌, ap₂, add-zero, arith}
use Rattle.std.proofs.lemmas.List.{length-append, length-drop, length-take-le, take-append-le, take-take, drop-take, take_at, drop_at}
use Rattle.std.proofs.lemmas.Slice.{drop-put_mid}
use Rattle.places.specs.SlotWrites.{spliced}
use Rattle.places.specs.Places.{counted_up}

pub spliced_here : (x e : List ℕ) (o : ℕ) → length e ≡ 32 → o ≤ length x → take 32 (drop o (spliced x o e)) ≡ e
unfolding spliced
spliced_here x e o h l =
    let d : drop o (take o x ++ (e ++ drop 32 (drop o x))) ≡ e ++ drop 32 (drop o x) = drop_at (take o x) _ o (length-take-le o x l) in
    rw d (take_at e (drop 32 (drop o x)) 32 h)

pub spliced_below : (x e : List ℕ) (o p : ℕ) → p + 32 ≤ o → o ≤ length x → take 32 (drop p (spliced x o e)) ≡ take 32 (drop p x)
unfolding spliced
spliced_below x e o p h l =
    let n : p + 32 ≤ length (take o x) = rw (length-take-le o x l) h in
    rw (← drop-take p 32 (take o x ++ (e ++ drop 32 (drop o x))), take-append-le (p + 32) (take o x) (e ++ drop 32 (drop o x)) n, take-take (p + 32) o x h, drop-take p 32 x)

pub spliced_above : (x e : List ℕ) (o p : ℕ) → o + 32 ≤ p → o ≤ length x → length e ≡ 32 → take 32 (drop p (spliced x o e)) ≡ take 32 (drop p x)
unfolding spliced
spliced_above x e o p h l w = ap (take 32) (drop-put_mid o 32 x e p h l w)

pub length-spliced : (x e : List ℕ) (o : ℕ) → o + 32 ≤ length x → length e ≡ 32 → length (spliced x o e) ≡ length x
unfolding spliced
length-spliced x e o h w =
    simp (length-append, length-drop) (omega (arith, length-take-le o x (omega arith)))

pub counted_same : {X : Type 0} (f g : ℕ → X) (i n : ℕ) → ((k : ℕ) → i ≤ k → k < i + n → f k ≡ g k) → counted_up f i n ≡ counted_up g i n
counted_same f g i zero h = refl
counted_same f g i (suc n) h = rw (h i (omega arith) (omega arith), counted_same f g (suc i) n (λ k l u. h k (omega arith) (omega arith)))

pub counted_set : {X : Type 0} (f g : ℕ → X) (i n k : ℕ) (v : X) → k < n →
    ((j : ℕ) → i ≤ j → j < i + n → j ≢ i + k → f j ≡ g j) → f (i + k) ≡ v → counted_up f i n ≡ set (counted_up g i n) k v
counted_set f g i (suc n) zero v l h e =
    ap₂ ◌∷◌ (rw add-zero at e) (counted_same f g (suc i) n (λ j a b. h j (omega arith) (omega arith) (omega arith)))
counted_set f g i (suc n) (suc k) v l h e =
    ap₂ ◌∷◌ (h i (omega arith) (omega arith) (omega arith)) (counted_set f g (suc i) n k v (omega arith) (λ j a b c. h j (omega arith) (omega arith) (omega arith)) (let q : i + suc k ≡ suc i + k = omega arith in rw q at e))
counted_set f g i zero k v l h e = absurd (omega arith)

pub length-counted : {X : Type 0} (f : ℕ → X) (i n : ℕ) → length (counted_up f i n) ≡ n
length-counted f i zero = refl
length-counted f i (suc n) = ap suc (length-counted f (suc i) n)

pub get_or-counted : {X : Type 0} (f : ℕ → X) (i n k : ℕ) (d : X) → k < n → get_or (counted_up f i n) k d ≡ f (i + k)
get_or-counted f i zero k d l = absurd (omega arith)
get_or-counted f i (suc n) zero d l = rw add-zero
get_or-counted f i (suc n) (suc k) d l = get_or-counted f (suc i) n k d (omega arith) ∙ ap f (omega arith)

-- a list counted up, in two parts, and one further
pub counted_split : {X : Type 0} (f : ℕ → X) (i j n : ℕ) → counted_up f i (j + n) ≡ counted_up f i j ++ counted_up f (i + j) n
counted_split f i zero n =
    let x : 0 + n ≡ n = omega arith in
    let y : i ≡ i + 0 = omega arith in
    ap₂ (counted_up f) y x
counted_split f i (suc j) n =
    let x : suc j + n ≡ suc (j + n) = omega arith in
    let y : suc i + j ≡ i + suc j = omega arith in
    ap (counted_up f i) x ∙ ap (λ t. f i ∷ t) (counted_split f (suc i) j n ∙ ap (λ (a : ℕ). counted_up f (suc i) j ++ counted_up f a n) y)

pub counted_more : {X : Type 0} (f : ℕ → X) (i n : ℕ) → counted_up f i (n + 1) ≡ counted_up f i n ++ (f (i + n) ∷ [])
counted_more f i n = counted_split f i n 1
