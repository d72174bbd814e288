-- A sector written to a device that refuses nothing, and read back.
use Rattle.std.proofs.Common.{◌≡◌, ℕ, ◌+◌, ◌*◌, ◌/◌, ◌<◌, ◌≤◌, List, [], length, take, drop, set, Ok, Err, Result, sym, refl, ap, ◌∙◌, subst, inl, inr, arith}
use Rattle.std.proofs.lemmas.Bool.{cases_eq, cases_lt}
use Rattle.std.proofs.lemmas.List.{length-set, get_or-set_same}
use Rattle.device.specs.Faults.{Faults, fault}
use Rattle.device.specs.Meaning.{Meaning, Sectors, MayRefuse, steady, sector}
use Rattle.device.specs.Transfers.{Reads, Writes, WriteAnswer}
use Rattle.device.specs.declared.faults.Fault.{Fault}
use Rattle.device.specs.declared.faults.Geometry.{Geometry}
use Rattle.device.specs.declared.faults.Cause.TheVariants.{Length, Range}
use Rattle.device.specs.declared.faults.Act.TheVariants.{Write}
use Rattle.stores.specs.Image.{image_count, image_of}
use Rattle.stores.proofs.Images.{length-sectors_in}
use Rattle.layers.specs.Layer.{passed_answer}
use Rattle.layers.specs.declared.window.Span.{Span}
use Rattle.layers.specs.Window.{window_count, WritesBeneath}
use Rattle.layers.proofs.Windows.{length_window}
use Rattle.piles.specs.WindowOnImage.{pile_count, ReadsBack, InImage, image_sectors, WritesThrough}

count_pile : (bs bs₀ : List ℕ) (v v₀ : Span) → bs ≡ bs₀ → v ≡ v₀ →
    window_count (length (image_sectors bs)) v.first v.count ≡ pile_count (length bs₀) v₀.first v₀.count
count_pile bs bs₀ v v₀ e p =
    ap (λ (j : ℕ). window_count j v.first v.count) (length-sectors_in (image_count (length bs)) bs ∙ ap (λ (x : List ℕ). image_count (length x)) e)
    ∙ ap (λ (x : Span). pile_count (length bs₀) x.first x.count) p

-- the sectors of the pile, made of the bytes bs₀ and the span v₀
pub length_pile : (bs bs₀ : List ℕ) (v v₀ : Span) → bs ≡ bs₀ → v ≡ v₀ →
    length (take (window_count (length (image_sectors bs)) v.first v.count) (drop v.first (image_sectors bs)))
    ≡ pile_count (length bs₀) v₀.first v₀.count
length_pile bs bs₀ v v₀ e p = length_window (image_sectors bs) v.first v.count ∙ count_pile bs bs₀ v v₀ e p

ok_err : {u : Unit {0}} {f : Fault} → ◌≡◌ {A = Result (Unit {0}) Fault} (Ok u) (Err f) → ⊥
ok_err e = let z : ◌≡◌ {A = ℕ} 0 1 = cc in omega arith

-- what an accepted write was asked
accepted : {t : Faults} {m m' : Meaning} {n : ℕ} {b : List ℕ} {u : Unit {0}} → Writes t m m' n b (Ok u) →
    (length b ≡ 512) × (n < length m.sectors)
accepted {m = m} {n = n} {b = b} w =
    elim (cases_eq (length b) 512) [
      | inl e ↦ elim (cases_lt n (length m.sectors)) [ inl h ↦ (e, h) | inr h ↦ absurd (ok_err (w.out_of_range e h).0) ]
      | inr ne ↦ absurd (ok_err (w.wrong_length ne).0)
    ]

-- the write was refused
pub write_refused : {t : Faults} {m m' : Meaning} {s n : ℕ} {b : List ℕ} {f : Fault} →
    Writes t m m' n b (Err f) → m.condition ≡ steady → length m.sectors ≡ s → ReadsBack s n b (Err f)
write_refused {m = m} {s = s} {n = n} {f = f} w c e = record {
  wrong_length = λ ne. let q : f ≡ fault Length Write n = cc (w.wrong_length ne).0 in ap Err q;
  out_of_range = λ l h.
      let h' : length m.sectors ≤ n = omega arith in
      let q : f ≡ fault Range Write n = cc (w.out_of_range l h').0 in
      ap Err q;
  otherwise = λ l h. let h' : n < length m.sectors = omega arith in absurd (subst MayRefuse c (w.otherwise l h').0);
}

-- the read was refused, which it never is
pub read_refused : {t t' : Faults} {m m' m'' : Meaning} {n : ℕ} {b b₀ b' : List ℕ} {u : Unit {0}} {f : Fault} →
    Writes t m m' n b (Ok u) → Reads t' m' m'' n b₀ b' (Err f) → m.condition ≡ steady → length b₀ ≡ 512 → ⊥
read_refused {m = m} {m' = m'} {n = n} {b = b} w r c l₀ =
    let p = accepted w in
    let q = (w.otherwise p.0 p.1).1 in
    let h : n < length m'.sectors =
    subst (λ (x : Meaning). n < length x.sectors) (sym q) (subst (λ (j : ℕ). n < j) (sym (length-set m.sectors n b)) p.1) in
    subst MayRefuse (ap (λ (x : Meaning). x.condition) q ∙ c) (r.otherwise l₀ h).0

-- both were accepted
pub read_back : {t t' : Faults} {m m' m'' : Meaning} {s n : ℕ} {b b₀ b' : List ℕ} {u v : Unit {0}} →
    Writes t m m' n b (Ok u) → Reads t' m' m'' n b₀ b' (Ok v) → length m.sectors ≡ s → length b₀ ≡ 512 → ReadsBack s n b (Ok b')
read_back {m = m} {m' = m'} {s = s} {n = n} {b = b} w r e l₀ =
    let p = accepted w in
    let q = (w.otherwise p.0 p.1).1 in
    let h : n < length m'.sectors =
    subst (λ (x : Meaning). n < length x.sectors) (sym q) (subst (λ (j : ℕ). n < j) (sym (length-set m.sectors n b)) p.1) in
    record {
      wrong_length = λ ne. elim (ne p.0) [ ];
      out_of_range = λ _ o. absurd (omega (arith, p.1));
      otherwise = λ _ _. ap Ok ((r.otherwise l₀ h).1 ∙ ap (λ (x : Meaning). sector x n) q ∙ get_or-set_same m.sectors n b [] p.1);
    }

whole_count : (k j : ℕ) → j ≤ 268435456 → k ≡ 512 * j → image_count k ≡ j
whole_count k j h e = grind arith

within : (s f k n : ℕ) → f + k ≤ s → n < k → n < window_count s f k
within s f k n h l = grind arith

-- lawful places are among the sectors of the pile
pub in_pile : {k first count n : ℕ} → InImage k first count n → n < pile_count k first count
in_pile {k = k} {first = first} {count = count} {n = n} h =
    let j = h.image.0 in
    let e : image_count k ≡ j = whole_count k j h.image.2 h.image.3 in
    let d : k / 512 ≡ j = omega (arith, h.image.3) in
    within (image_count k) first count n (let i : first + count ≤ image_count k = omega (arith, h.window.inside) in i) h.sector

accepted_beneath : (t : Faults) (m m' : Meaning) (n : ℕ) (b : List ℕ) (a r : Result (Unit {0}) Fault) → m.condition ≡ steady →
    r ≡ passed_answer a → WriteAnswer t m m' n b a → (r ≡ Ok tt) × (m'.sectors ≡ set m.sectors n b)
accepted_beneath t m m' n b (Ok u) r c q p = (q, ap (λ (x : Meaning). x.sectors) p.1)
accepted_beneath t m m' n b (Err f) r c q p = absurd (subst MayRefuse c p.0)

-- a write of the pile made of the bytes bs₀ and the span v₀, which leaves the bytes bs''
pub written_through : {t t' : Faults} {m m' : Meaning} {g g' : Geometry} (bs bs₀ bs' bs'' : List ℕ) (v v₀ : Span) {n : ℕ} {b : List ℕ}
    {r : Result (Unit {0}) Fault} → bs ≡ bs₀ → v ≡ v₀ → bs'' ≡ bs' → length m.sectors ≡ pile_count (length bs₀) v₀.first v₀.count →
    Writes t m m' n b r → WritesBeneath t' (image_of bs g) (image_of bs' g') v.first v.count n b r →
    WritesThrough v₀.first (pile_count (length bs₀) v₀.first v₀.count) n b bs₀ bs'' r
written_through {t' = t'} {m = m} {g = g} {g' = g'} bs bs₀ bs' bs'' v v₀ {n = n} {b = b} {r = r} e p z size w u =
    let count = count_pile bs bs₀ v v₀ e p in
    let same : image_of bs' g' ≡ image_of bs g → image_sectors bs'' ≡ image_sectors bs₀ =
    λ d. ap image_sectors z ∙ ap (λ (x : Meaning). x.sectors) d ∙ ap image_sectors e in
    record {
      wrong_length = λ ne. ((w.wrong_length ne).0, same (u.wrong_length ne));
      out_of_range = λ l h.
          ((w.out_of_range l (subst (λ (j : ℕ). j ≤ n) (sym size) h)).0, same (u.out_of_range l (subst (λ (j : ℕ). j ≤ n) (sym count) h)));
      otherwise = λ l h.
          let o = u.otherwise l (subst (λ (j : ℕ). n < j) (sym count) h) in
          let d = accepted_beneath t' (image_of bs g) (image_of bs' g') (v.first + n) b o.0 r refl o.1 o.2 in (
            d.0,
            ap image_sectors z ∙ d.1 ∙ ap (λ (x : Sectors). set x (v.first + n) b) (ap image_sectors e)
                ∙ ap (λ (x : Span). set (image_sectors bs₀) (x.first + n) b) p,
          );
    }
