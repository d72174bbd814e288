-- The table of a sparse card: what its places make of the sectors, and what a write does to them.
use Rattle.std.proofs.Common.{◌≡◌, ℕ, zero, suc, ◌<◌, ◌≤◌, Bool, true, false, cond, eqb, List, [], ◌∷◌, map, length, get_or, set, replicate, Some, None, Option, unwrap_or, sym, refl, ap, ◌∙◌, subst, inl, inr, arith}
use Rattle.std.proofs.lemmas.Bool.{cases_eq, cases_lt, eqb-true, eqb-false}
use Rattle.std.proofs.lemmas.List.{length-set, length-replicate, get_or-set_same, get_or-set_other, get_or_past, get_or-replicate, set-set, set_comm}
use Rattle.std.proofs.Math.ListN.{get_or-map}
use Rattle.device.specs.Meaning.{zeros}
use Rattle.kept.specs.Kept.{Places, kept_bytes, given_back}
use Rattle.kept.specs.declared.KeptSector.{KeptSector}
use Rattle.stores.specs.Sparse.{sparse_sectors, KeptIn, KeptSound, PlaceSound, SparseSound, PlaceFor, Full, Slot}

none : (i : ℕ) → i < 0 → ⊥
none i h = omega arith

up : {i n : ℕ} → i < n → suc i < suc n
up h = omega arith

down : {i n : ℕ} → suc i < suc n → i < n
down h = omega arith

start : (n : ℕ) → 0 < suc n
start n = omega arith

pub length_sparse : (s : ℕ) (xs : Places) → length (sparse_sectors s xs) ≡ s
unfolding sparse_sectors
length_sparse s [] = length-replicate s (zeros 512)
length_sparse s (None ∷ xs) = length_sparse s xs
length_sparse s (Some x ∷ xs) = length-set (sparse_sectors s xs) x.sector x.bytes ∙ length_sparse s xs

inside : (s n : ℕ) (xs : Places) → n < s → n < length (sparse_sectors s xs)
inside s n xs h = subst (λ (v : ℕ). n < v) (sym (length_sparse s xs)) h

first_kept : (s n : ℕ) (x : KeptSector) (xs : Places) → n < s → get_or (sparse_sectors s xs) n [] ≡ unwrap_or (kept_bytes xs n) (zeros 512) →
    (t : Bool) → eqb x.sector n ≡ t →
    get_or (set (sparse_sectors s xs) x.sector x.bytes) n [] ≡ unwrap_or (cond t (Some x.bytes) (kept_bytes xs n)) (zeros 512)
first_kept s n x xs h e true t =
    ap (λ (v : ℕ). get_or (set (sparse_sectors s xs) v x.bytes) n []) (eqb-true x.sector n t)
    ∙ get_or-set_same (sparse_sectors s xs) n x.bytes [] (inside s n xs h)
first_kept s n x xs h e false t = get_or-set_other (sparse_sectors s xs) x.sector n x.bytes [] (λ d. eqb-false x.sector n t (sym d)) ∙ e

-- sector n is what the first place that keeps it has, or else zeros
pub sector_in : (s n : ℕ) (xs : Places) → n < s → get_or (sparse_sectors s xs) n [] ≡ unwrap_or (kept_bytes xs n) (zeros 512)
unfolding sparse_sectors
sector_in s n [] h = get_or-replicate s n (zeros 512) [] h
sector_in s n (None ∷ xs) h = sector_in s n xs h
sector_in s n (Some x ∷ xs) h = first_kept s n x xs h (sector_in s n xs h) (eqb x.sector n) refl

-- what is true of zeros and of each kept sector is true of each sector
pub sector_each : (P : List ℕ → Type 0) (s k : ℕ) (xs : Places) → k < s → P (zeros 512) → ((x : KeptSector) → KeptSound s x → P x.bytes) →
    ((i : ℕ) → PlaceSound s (get_or xs i None)) → P (get_or (sparse_sectors s xs) k [])
unfolding sparse_sectors
sector_each P s k [] h z p a = subst P (sym (get_or-replicate s k (zeros 512) [] h)) z
sector_each P s k (None ∷ xs) h z p a = sector_each P s k xs h z p (λ i. a (suc i))
sector_each P s k (Some x ∷ xs) h z p a =
    elim (cases_eq k x.sector) [
      | inl e ↦
          subst P (sym (ap (λ (v : ℕ). get_or (set (sparse_sectors s xs) x.sector x.bytes) v []) e
          ∙ get_or-set_same (sparse_sectors s xs) x.sector x.bytes [] (inside s x.sector xs (a 0).there))) (p x (a 0))
      | inr o ↦
          subst P (sym (get_or-set_other (sparse_sectors s xs) x.sector k x.bytes [] o)) (sector_each P s k xs h z p (λ i. a (suc i)))
    ]

-- place i is given to sector n
sectors_set : (s i n : ℕ) (xs : Places) (b : List ℕ) → i < length xs → ((j : ℕ) → j < i → KeptIn (get_or xs j None) n → ⊥) →
    ((k : ℕ) → KeptIn (get_or xs i None) k → k ≡ n) →
    sparse_sectors s (set xs i (Some (record { sector = n; bytes = b }))) ≡ set (sparse_sectors s xs) n b
unfolding sparse_sectors
sectors_set s i n [] b l k o = absurd (none i l)
sectors_set s zero n (None ∷ xs) b l k o = refl
sectors_set s zero n (Some x ∷ xs) b l k o =
    sym (ap (λ (v : ℕ). set (set (sparse_sectors s xs) v x.bytes) n b) (o x.sector refl) ∙ set-set (sparse_sectors s xs) n x.bytes b)
sectors_set s (suc i) n (None ∷ xs) b l k o = sectors_set s i n xs b (down l) (λ j m. k (suc j) (up m)) o
sectors_set s (suc i) n (Some x ∷ xs) b l k o =
    ap (λ (v : List (List ℕ)). set v x.sector x.bytes) (sectors_set s i n xs b (down l) (λ j m. k (suc j) (up m)) o)
    ∙ set_comm (sparse_sectors s xs) n x.sector b x.bytes (λ e. k 0 (start i) (sym e))

before : {i j : ℕ} → j < i → i ≤ j → ⊥
before h k = omega arith

pub sectors_placed : (s i n : ℕ) (xs : Places) (b : List ℕ) → PlaceFor xs n i →
    sparse_sectors s (set xs i (Some (record { sector = n; bytes = b }))) ≡ set (sparse_sectors s xs) n b
sectors_placed s i n xs b p = sectors_set s i n xs b p.there (λ j l k. before l (p.first j k).0) p.no_other

set-replicate : {A : Type 0} (s n : ℕ) (z : A) → replicate s z ≡ set (replicate s z) n z
set-replicate zero n z = refl
set-replicate (suc s) zero z = refl
set-replicate {A = A} (suc s) (suc n) z = ap (λ (v : List A). z ∷ v) (set-replicate s n z)

back_one : (s n : ℕ) (x : KeptSector) (xs ys : Places) → sparse_sectors s ys ≡ set (sparse_sectors s xs) n (zeros 512) → (t : Bool) → eqb x.sector n ≡ t →
    sparse_sectors s (cond t None (Some x) ∷ ys) ≡ set (sparse_sectors s (Some x ∷ xs)) n (zeros 512)
unfolding sparse_sectors
back_one s n x xs ys e true t =
    e ∙ sym (ap (λ (v : ℕ). set (set (sparse_sectors s xs) v x.bytes) n (zeros 512)) (eqb-true x.sector n t)
    ∙ set-set (sparse_sectors s xs) n x.bytes (zeros 512))
back_one s n x xs ys e false t =
    ap (λ (v : List (List ℕ)). set v x.sector x.bytes) e
    ∙ set_comm (sparse_sectors s xs) n x.sector (zeros 512) x.bytes (λ d. eqb-false x.sector n t (sym d))

-- every place of sector n is given back
pub sectors_given_back : (s n : ℕ) (xs : Places) → sparse_sectors s (map (given_back n) xs) ≡ set (sparse_sectors s xs) n (zeros 512)
unfolding sparse_sectors
sectors_given_back s n [] = set-replicate s n (zeros 512)
sectors_given_back s n (None ∷ xs) = sectors_given_back s n xs
sectors_given_back s n (Some x ∷ xs) =
    back_one s n x xs (map (given_back n) xs) (sectors_given_back s n xs) (eqb x.sector n) refl

-- a table of free places
pub sectors_free : (s k : ℕ) → sparse_sectors s (replicate k None) ≡ replicate s (zeros 512)
unfolding sparse_sectors
sectors_free s zero = refl
sectors_free s (suc k) = sectors_free s k

free : (k i : ℕ) → get_or {A = Option KeptSector} (replicate k None) i None ≡ None
free zero i = refl
free (suc k) zero = refl
free (suc k) (suc i) = free k i

pub sound_free : (k s : ℕ) → s ≤ 268435456 → SparseSound (replicate k None) s
sound_free k s h = record {
  few = h;
  each = λ i. subst (PlaceSound s) (sym (free k i)) tt;
  once = λ i j n p q. absurd (subst (λ (o : Option KeptSector). KeptIn o n) (free k i) p);
}

back_sound : (s n : ℕ) (o : Option KeptSector) → PlaceSound s o → PlaceSound s (given_back n o)
back_sound s n None p = p
back_sound s n (Some x) p = back (eqb x.sector n)
  where
    back : (t : Bool) → PlaceSound s (cond t None (Some x))
    back true = tt
    back false = p

back_kept : (n k : ℕ) (o : Option KeptSector) → KeptIn (given_back n o) k → KeptIn o k
back_kept n k None p = p
back_kept n k (Some x) p = back (eqb x.sector n) p
  where
    back : (t : Bool) → KeptIn (cond t None (Some x)) k → x.sector ≡ k
    back true q = absurd q
    back false q = q

pub sound_given_back : (s n : ℕ) (xs : Places) → SparseSound xs s → SparseSound (map (given_back n) xs) s
sound_given_back s n xs p =
    let kept : (i k : ℕ) → KeptIn (get_or (map (given_back n) xs) i None) k → KeptIn (get_or xs i None) k =
    λ i k q. back_kept n k (get_or xs i None) (subst (λ (o : Option KeptSector). KeptIn o k) (get_or-map (given_back n) xs i None) q) in
    record {
      few = p.few;
      each = λ i. subst (PlaceSound s) (sym (get_or-map (given_back n) xs i None)) (back_sound s n (get_or xs i None) (p.each i));
      once = λ i j k q r. p.once i j k (kept i k q) (kept j k r);
    }

pub sound_placed : (s i n : ℕ) (xs : Places) (b : List ℕ) → SparseSound xs s → PlaceFor xs n i → KeptSound s (record { sector = n; bytes = b }) →
    SparseSound (set xs i (Some (record { sector = n; bytes = b }))) s
sound_placed s i n xs b p f k = record { few = p.few; each = each; once = once }
  where
    ys : Places
    ys = set xs i (Some (record { sector = n; bytes = b }))

    here : (j : ℕ) → j ≡ i → get_or ys j None ≡ Some (record { sector = n; bytes = b })
    here j e = ap (λ (v : ℕ). get_or ys v None) e ∙ get_or-set_same xs i (Some (record { sector = n; bytes = b })) None f.there

    there : (j : ℕ) → (j ≡ i → ⊥) → get_or ys j None ≡ get_or xs j None
    there j o = get_or-set_other xs i j (Some (record { sector = n; bytes = b })) None o

    each : (j : ℕ) → PlaceSound s (get_or ys j None)
    each j = elim (cases_eq j i) [ inl e ↦ subst (PlaceSound s) (sym (here j e)) k | inr o ↦ subst (PlaceSound s) (sym (there j o)) (p.each j) ]

    kept_here : (j m : ℕ) → j ≡ i → KeptIn (get_or ys j None) m → n ≡ m
    kept_here j m e q = subst (λ (o : Option KeptSector). KeptIn o m) (here j e) q

    kept_there : (j m : ℕ) → (j ≡ i → ⊥) → KeptIn (get_or ys j None) m → KeptIn (get_or xs j None) m
    kept_there j m o q = subst (λ (v : Option KeptSector). KeptIn v m) (there j o) q

    meets : (j m : ℕ) → n ≡ m → KeptIn (get_or xs j None) m → i ≡ j
    meets j m e q =
        let q' : KeptIn (get_or xs j None) n = subst (λ (v : ℕ). KeptIn (get_or xs j None) v) (sym e) q in
        p.once i j n (f.first j q').1 q'

    once : (j l m : ℕ) → KeptIn (get_or ys j None) m → KeptIn (get_or ys l None) m → j ≡ l
    once j l m q r =
        elim (cases_eq j i) [
          | inl e ↦ elim (cases_eq l i) [ inl d ↦ e ∙ sym d | inr o ↦ e ∙ meets l m (kept_here j m e q) (kept_there l m o r) ]
          | inr o ↦
              elim (cases_eq l i) [
                | inl d ↦ sym (d ∙ meets j m (kept_here l m d r) (kept_there j m o q))
                | inr u ↦ p.once j l m (kept_there j m o q) (kept_there l m u r)
              ]
        ]

-- of the first e places, one that is free
abbrev pub Free : Places → ℕ → Option ℕ → Type 0
Free xs e (Some i) = (i < e) × (get_or xs i None ≡ None)
Free xs e None = (j : ℕ) → j < e → get_or xs j None ≡ None → ⊥

under : {i e n : ℕ} → i < e → e ≤ n → i < n
under h l = omega arith

le_trans : {a b c : ℕ} → a ≤ b → b ≤ c → a ≤ c
le_trans h k = omega arith

not_kept : (xs : Places) (n e : ℕ) → length xs ≤ e → ((j : ℕ) → j < e → KeptIn (get_or xs j None) n → ⊥) → (j : ℕ) → KeptIn (get_or xs j None) n → ⊥
not_kept xs n e l h j a =
    elim (cases_lt j e) [ inl k ↦ h j k a | inr k ↦ subst (λ (o : Option KeptSector). KeptIn o n) (get_or_past xs j None (le_trans l k)) a ]

-- the whole table is looked through, and no place keeps sector n
pub slot_of : (xs : Places) (n e : ℕ) (free : Option ℕ) → length xs ≤ e → e ≤ length xs →
    ((j : ℕ) → j < e → KeptIn (get_or xs j None) n → ⊥) → Free xs e free → Slot xs n free
slot_of xs n e (Some i) l l' h f = record {
  there = under f.0 l';
  no_other = λ k a. absurd (subst (λ (o : Option KeptSector). KeptIn o k) f.1 a);
  first = λ j a. absurd (not_kept xs n e l h j a);
}
slot_of xs n e None l l' h f = record { not_kept = not_kept xs n e l h; none_free = λ j k. f j (under k l) }

one_sector : (o : Option KeptSector) (n k : ℕ) → KeptIn o n → KeptIn o k → k ≡ n
one_sector (Some x) n k p q = sym q ∙ p
one_sector None n k p q = absurd p

-- place i is the first that keeps sector n
pub slot_kept : (xs : Places) (n i : ℕ) → i < length xs → ((j : ℕ) → j < i → KeptIn (get_or xs j None) n → ⊥) → KeptIn (get_or xs i None) n →
    Slot xs n (Some i)
slot_kept xs n i l h a = record {
  there = l;
  no_other = λ k b. one_sector (get_or xs i None) n k a b;
  first = λ j b. (elim (cases_lt j i) [ inl k ↦ absurd (h j k b) | inr k ↦ k ], a);
}

no_place : (o : Option KeptSector) (n : ℕ) → ((k : ℕ) → KeptIn o k → k ≡ n) → (KeptIn o n → ⊥) → (o ≡ None → ⊥) → ⊥
no_place None n p q r = r refl
no_place (Some x) n p q r = q (p x.sector refl)

pub not_full : (xs : Places) (n i : ℕ) → PlaceFor xs n i → Full xs n → ⊥
not_full xs n i p f = no_place (get_or xs i None) n p.no_other (f.not_kept i) (f.none_free i p.there)
