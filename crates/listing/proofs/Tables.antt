-- Tables that are offered the rows that a list has, as far as it is known.
use Rattle.std.proofs.Common.{◌≡◌, ℕ, ◌+◌, ◌-◌, ◌<◌, ◌≤◌, List, [], ◌∷◌, ◌++◌, length, take, set, Some, None, Option, sym, refl, ap, ◌∙◌, subst, ap₂, append-nil, zero-add, arith}
use Rattle.std.proofs.lemmas.List.{length-append, take_at}
use Rattle.places.specs.Places.{counted_up}
use Rattle.places.proofs.Lists.{length-counted, counted_split, counted_more}
use Rattle.plans.specs.Rows.{kept}
use Rattle.rows.specs.Rows.{one_more}
use Rattle.rows.specs.declared.table.RowTable.{RowTable}
use Rattle.rows.proofs.Offers.{filled_more}
use Rattle.listing.specs.Tables.{Offered, Holds, HoldsFirst}

-- THE ROWS OF THE FIRST PLACES

-- of the places below k those that have a row
abbrev pub rows_below : {R : Type 0} → (ℕ → Option R) → ℕ → List R
rows_below f k = kept (counted_up f 0 k)

kept_append : {R : Type 0} (xs ys : List (Option R)) → kept (xs ++ ys) ≡ kept xs ++ kept ys
kept_append [] ys = refl
kept_append (None ∷ xs) ys = kept_append xs ys
kept_append {R} (Some r ∷ xs) ys = ap (λ (t : List R). r ∷ t) (kept_append xs ys)

length-kept : {R : Type 0} (xs : List (Option R)) → length (kept xs) ≤ length xs
length-kept [] = omega arith
length-kept (None ∷ xs) = omega (arith, length-kept xs)
length-kept (Some r ∷ xs) = omega (arith, length-kept xs)

pub rows_more : {R : Type 0} (f : ℕ → Option R) (k : ℕ) → rows_below f (k + 1) ≡ rows_below f k ++ kept (f k ∷ [])
rows_more f k =
    ap kept (counted_more f 0 k) ∙ kept_append (counted_up f 0 k) (f (0 + k) ∷ [])
    ∙ ap (λ (i : ℕ). rows_below f k ++ kept (f i ∷ [])) (zero-add k)

pub few_rows : {R : Type 0} (f : ℕ → Option R) (k : ℕ) → length (rows_below f k) ≤ k
few_rows f k = omega (arith, length-kept (counted_up f 0 k), length-counted f 0 k)

pub rows_rest : {R : Type 0} (f : ℕ → Option R) (k n : ℕ) → k ≤ n → rows_below f n ≡ rows_below f k ++ kept (counted_up f (0 + k) (n - k))
rows_rest f k n h =
    let e : n ≡ k + (n - k) = omega arith in
    ap (rows_below f) e ∙ ap kept (counted_split f 0 k (n - k)) ∙ kept_append (counted_up f 0 k) (counted_up f (0 + k) (n - k))

-- THE TABLE

pub holds_none : {R : Type 0} {old : List R} {t : RowTable R} → t.total ≡ 0 → t.rows.now ≡ old → Holds [] old t
holds_none e f = record { total = e; slice = f }

pub holds_offered : {R : Type 0} (o : Option R) {xs old : List R} {t t' : RowTable R} → length xs < 18446744073709551615 → Holds xs old t → Offered o t t' → Holds (xs ++ kept (o ∷ [])) old t'
holds_offered {R = R} None {xs = xs} {old = old} {t' = t'} h p o =
    subst (λ (ys : List R). Holds ys old t') (sym (append-nil xs)) (record { total = o.0 ∙ p.total; slice = o.1 ∙ p.slice })
holds_offered {R = R} (Some r) {xs = xs} {old = old} h p o =
    record {
      total = o.0 ∙ ap one_more p.total ∙ omega (arith, length-append xs (r ∷ []));
      slice = o.1 ∙ ap₂ (λ (s : List R) (i : ℕ). set s i r) p.slice p.total ∙ filled_more xs old r;
    }

-- the row of place k is offered behind those of the places below
pub holds_more : {R : Type 0} (f : ℕ → Option R) (k : ℕ) (o : Option R) {old : List R} {t t' : RowTable R} → k < 18446744073709551615 → o ≡ f k →
    Holds (rows_below f k) old t → Offered o t t' → Holds (rows_below f (k + 1)) old t'
holds_more {R = R} f k o {old = old} {t' = t'} h e p x =
    subst (λ (ys : List R). Holds ys old t') (ap (λ (z : Option R). rows_below f k ++ kept (z ∷ [])) e ∙ sym (rows_more f k))
    (holds_offered o (omega (arith, few_rows f k)) p x)

-- the rows of the places below k are the first of all
pub holds_first : {R : Type 0} (f : ℕ → Option R) (k n : ℕ) {rows old : List R} {t : RowTable R} → k ≤ n → rows ≡ rows_below f n → Holds (rows_below f k) old t → HoldsFirst rows old t
holds_first {R = R} f k n {rows = rows} {old = old} {t = t} h e p =
    let ys = kept (counted_up f (0 + k) (n - k)) in
    let q : rows ≡ rows_below f k ++ ys = e ∙ rows_rest f k n h in
    let i = length (rows_below f k) in
    record {
      count = i;
      some = omega (arith, ap length q, length-append (rows_below f k) ys);
      holds = subst (λ (xs : List R). Holds xs old t) (sym (ap (take i) q ∙ take_at (rows_below f k) ys i refl)) p;
    }
