-- What the cache keeps, and that it stays true of the device beneath.
use Rattle.std.proofs.Common.{◌≡◌, ℕ, zero, suc, ◌<◌, ◌≤◌, Bool, true, false, cond, eqb, ◌≢◌, List, [], ◌∷◌, map, length, get_or, set, Some, None, Ok, Err, Option, Result, sym, refl, ap, ◌∙◌, subst, inl, inr, arith}
use Rattle.std.proofs.lemmas.Option.{none-some}
use Rattle.std.proofs.lemmas.Bool.{cases_eq, eqb-true, eqb-false}
use Rattle.std.proofs.lemmas.List.{length-set, length-map, get_or-set_same, get_or-set_other}
use Rattle.std.proofs.Math.ListN.{get_or-map}
use Rattle.device.specs.Faults.{Faults}
use Rattle.device.specs.Meaning.{Meaning, sector}
use Rattle.device.specs.Transfers.{Reads, Writes}
use Rattle.device.specs.declared.faults.Fault.{Fault}
use Rattle.layers.specs.Layer.{passed_answer}
use Rattle.caching.specs.Cache.{InPlace, Kept, KeptToo, Followed, TrueOf}
use Rattle.kept.specs.Kept.{Places, kept_bytes, given_back}
use Rattle.kept.specs.declared.KeptSector.{KeptSector}

abbrev pub entry : ℕ → List ℕ → Option KeptSector
entry n b = Some (record { sector = n; bytes = b })

first_place : (x : KeptSector) (xs : Places) (n : ℕ) (b : List ℕ) (t : Bool) → eqb x.sector n ≡ t → cond t (Some x.bytes) (kept_bytes xs n) ≡ Some b →
    (kept_bytes xs n ≡ Some b → (i : ℕ) × (i < length xs) × InPlace (get_or xs i None) n b) →
    (i : ℕ) × (i < suc (length xs)) × InPlace (get_or (Some x ∷ xs) i None) n b
first_place x xs n b true t e h = (0, (omega arith), (eqb-true x.sector n t, (let q : x.bytes ≡ b = cc in q)))
first_place x xs n b false t e h = let p = h e in (suc p.0, (omega (arith, p.1)), p.2)

kept_at : (xs : Places) (n : ℕ) (b : List ℕ) → kept_bytes xs n ≡ Some b → (i : ℕ) × (i < length xs) × InPlace (get_or xs i None) n b
kept_at [] n b e = absurd (none-some b e)
kept_at (None ∷ xs) n b e = let p = kept_at xs n b e in (suc p.0, (omega (arith, p.1)), p.2)
kept_at (Some x ∷ xs) n b e = first_place x xs n b (eqb x.sector n) refl e (kept_at xs n b)

-- what the search finds is kept
pub kept_found : (xs : Places) (n : ℕ) (b : List ℕ) → length xs ≡ 4 → kept_bytes xs n ≡ Some b → Kept xs n b
kept_found xs n b l e = let p = kept_at xs n b e in (p.0, subst (λ (v : ℕ). p.0 < v) l p.1, p.2)

not_first : (x : KeptSector) (xs : Places) (n : ℕ) (t : Bool) → eqb x.sector n ≡ t → cond t (Some x.bytes) (kept_bytes xs n) ≡ None →
    (x.sector ≡ n → ⊥) × (kept_bytes xs n ≡ None)
not_first x xs n true t e = absurd (none-some x.bytes (sym e))
not_first x xs n false t e = (λ d. eqb-false x.sector n t d, e)

-- and what it does not find is not
pub not_found : (xs : Places) (n : ℕ) → kept_bytes xs n ≡ None → (i : ℕ) (b : List ℕ) → InPlace (get_or xs i None) n b → ⊥
not_found [] n e i b h = h
not_found (None ∷ xs) n e zero b h = h
not_found (None ∷ xs) n e (suc i) b h = not_found xs n e i b h
not_found (Some x ∷ xs) n e zero b h = (not_first x xs n (eqb x.sector n) refl e).0 h.0
not_found (Some x ∷ xs) n e (suc i) b h = not_found xs n (not_first x xs n (eqb x.sector n) refl e).1 i b h

-- what a place still keeps once sector n is given back
left : (n k : ℕ) (x : List ℕ) (o : Option KeptSector) → InPlace (given_back n o) k x → InPlace o k x × (k ≢ n)
left n k x None h = absurd h
left n k x (Some e) h = by_sector (eqb e.sector n) refl h
  where
    by_sector : (t : Bool) → eqb e.sector n ≡ t → InPlace (cond t None (Some e)) k x → ((e.sector ≡ k) × (e.bytes ≡ x)) × (k ≢ n)
    by_sector true t h = absurd h
    by_sector false t h = (h, λ d. eqb-false e.sector n t (h.0 ∙ d))

-- place a is set to sector n, after what was kept of that sector below i was let go
pub kept_too : (xs ys : Places) (a n i : ℕ) (own b : List ℕ) → a < length ys → a < 4 → 4 ≤ i → own ≡ b →
    ((j k : ℕ) (x : List ℕ) → InPlace (get_or ys j None) k x → InPlace (get_or xs j None) k x × (j < i → k ≢ n)) →
    KeptToo xs (set ys a (entry n own)) n b
kept_too xs ys a n i own b la four li q inv = record {
  here = (a, four, subst (λ (v : Option KeptSector). InPlace v n b) (sym (get_or-set_same ys a (entry n own) None la)) (refl, q));
  others = λ k x h.
      let j = h.0 in
      elim (cases_eq j a) [
        | inl same ↦
            let e = ap (λ (v : ℕ). get_or (set ys a (entry n own)) v None) same ∙ get_or-set_same ys a (entry n own) None la in
            let s : InPlace (entry n own) k x = subst (λ (v : Option KeptSector). InPlace v k x) e h.2 in
            inl (sym s.0, sym s.1 ∙ q)
        | inr other ↦
            let p = inv j k x (subst (λ (v : Option KeptSector). InPlace v k x) (get_or-set_other ys a j (entry n own) None other) h.2) in
            inr (p.1 (omega (arith, li, h.1)), (j, h.1, p.0))
      ];
}

-- the same of the places with that sector given back
pub kept_given_back : (xs : Places) (a n : ℕ) (own b : List ℕ) → length xs ≡ 4 → a < 4 → own ≡ b →
    KeptToo xs (set (map (given_back n) xs) a (entry n own)) n b
kept_given_back xs a n own b l four q =
    let ys = map (given_back n) xs in
    kept_too xs ys a n 4 own b (omega (arith, length-map xs (given_back n))) four (omega arith) q (λ j k x h.
    let p = left n k x (get_or xs j None) (subst (λ (v : Option KeptSector). InPlace v k x) (get_or-map (given_back n) xs j None) h) in
    (p.0, λ _. p.1))

apart : {a b : ℕ} → a ≤ b → b < a → ⊥
apart h k = omega arith

-- a read of a kept sector
pub kept_read : {t : Faults} {m : Meaning} {n : ℕ} {b b' : List ℕ} {u : Unit {0}} (xs : Places) → TrueOf m xs →
    Kept xs n b' → length b ≡ 512 → Reads t m m n b b' (Ok u)
kept_read {n = n} {b' = b'} xs k h l =
    let q = k n b' h in
    record {
      wrong_length = λ ne. elim (ne l) [ ];
      out_of_range = λ _ o. elim (apart o q.0) [ ];
      otherwise = λ _ _. (q.2, q.1, refl);
    }

-- after an accepted read, with its sector kept
true_after_read : {t : Faults} {m m' : Meaning} {n : ℕ} {b b' : List ℕ} {u : Unit {0}} (xs ys : Places) →
    TrueOf m xs → KeptToo xs ys n b' → length b ≡ 512 → n < length m.sectors → Reads t m m' n b b' (Ok u) → TrueOf m' ys
true_after_read {m = m} {n = n} xs ys k too l h r =
    let a = r.otherwise l h in
    subst (λ (v : Meaning). TrueOf v ys) (sym a.2)
    (λ j x here. elim (too.others j x here) [
      | inl p ↦
          (subst (λ (v : ℕ). v < length m.sectors) (sym p.0) h, p.1 ∙ a.1 ∙ ap (λ (v : ℕ). sector m v) (sym p.0), a.0)
      | inr p ↦ k j x p.1
    ])

-- after an accepted write, with its sector kept
true_after_write : {t : Faults} {m m' : Meaning} {n : ℕ} {b : List ℕ} {u : Unit {0}} (xs ys : Places) →
    TrueOf m xs → KeptToo xs ys n b → length b ≡ 512 → n < length m.sectors → Writes t m m' n b (Ok u) → TrueOf m' ys
true_after_write {m = m} {n = n} {b = b} xs ys k too l h r =
    let a = r.otherwise l h in
    let e = length-set m.sectors n b in
    subst (λ (v : Meaning). TrueOf v ys) (sym a.1)
    (λ j x here. elim (too.others j x here) [
      | inl p ↦ (
        subst (λ (v : ℕ). v < length (set m.sectors n b)) (sym p.0) (subst (λ (v : ℕ). n < v) (sym e) h),
        p.1 ∙ sym (get_or-set_same m.sectors n b [] h) ∙ ap (λ (v : ℕ). get_or (set m.sectors n b) v []) (sym p.0),
        a.0,
      )
      | inr p ↦
          let q = k j x p.1 in
          (subst (λ (v : ℕ). j < v) (sym e) q.0, q.1 ∙ sym (get_or-set_other m.sectors n j b [] p.0), q.2)
    ])

-- after a read that the device beneath answered with a, followed by the cache
pub true_after_reads : {t : Faults} {m m' : Meaning} {n : ℕ} {b b' : List ℕ} (a : Result (Unit {0}) Fault) (xs ys : Places) →
    TrueOf m xs → Followed xs ys n b' a → length b ≡ 512 → n < length m.sectors → Reads t m m' n b b' a → TrueOf m' ys
true_after_reads (Ok u) xs ys k too l h r = true_after_read xs ys k too l h r
true_after_reads (Err f) xs ys k none l h r = λ n b here. absurd (none n b here)

pub true_after_writes : {t : Faults} {m m' : Meaning} {n : ℕ} {b : List ℕ} (a : Result (Unit {0}) Fault) (xs ys : Places) →
    TrueOf m xs → Followed xs ys n b a → length b ≡ 512 → n < length m.sectors → Writes t m m' n b a → TrueOf m' ys
true_after_writes (Ok u) xs ys k too l h r = true_after_write xs ys k too l h r
true_after_writes (Err f) xs ys k none l h r = λ n b here. absurd (none n b here)

-- what was accepted is kept
pub kept_after : (n : ℕ) (b : List ℕ) (a : Result (Unit {0}) Fault) (xs ys : Places) → Followed xs ys n b a →
    passed_answer a ≡ Ok tt → Kept ys n b
kept_after n b (Ok u) xs ys too e = too.here
kept_after n b (Err f) xs ys none e = absurd (let z : ◌≡◌ {A = ℕ} 0 1 = cc in omega arith)
