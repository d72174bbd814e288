-- A piece put behind the bytes that are gathered, sector by sector.
use Rattle.std.proofs.Common.{◌≡◌, ℕ, zero, suc, ◌+◌, ◌-◌, ◌*◌, ◌/◌, ◌%◌, ◌<◌, ◌≤◌, List, [], ◌∷◌, ◌++◌, length, take, drop, sym, refl, ap, ◌∙◌, ap₂, append_assoc, append-nil, add-zero, arith}
use Rattle.std.proofs.lemmas.List.{length-append, length-take-le, length-drop, drop_all, drop_at, drop-append-le, take-append-le, take-append-drop}
use Rattle.std.proofs.Math.Seq.{drop-append-add}
use Rattle.device.specs.Faults.{Faults, Within}
use Rattle.device.specs.Meaning.{Meaning, zeros}
use Rattle.device.specs.declared.faults.Fault.{Fault}
use Rattle.layout.specs.Extents.{extent_of}
use Rattle.layout.specs.declared.sizes.Layout.{Layout}
use Rattle.places.specs.Places.{counted_up}
use Rattle.places.specs.SlotWrites.{SlotWrite, fill}
use Rattle.plans.specs.Memory.{OpenJob}
use Rattle.plans.specs.Plans.{never, filling, chunk, to_slot, put_writes, after_put}
use Rattle.plans.proofs.Blocks.{write_at}
use Rattle.volume.specs.Performing.{Performed, Cut}
use Rattle.volume.proofs.Filling.{performed_as, cut_of}
use Rattle.volume.proofs.Glue.{performed_performed, performed_cut, cut_more}

-- LISTS COUNTED UP

counted_shift : {X : Type 0} (g h : ℕ → X) (a b n : ℕ) → ((i : ℕ) → i < n → g (a + i) ≡ h (b + i)) → counted_up g a n ≡ counted_up h b n
counted_shift g h a b zero e = refl
counted_shift {X = X} g h a b (suc n) e =
    let x : g a ≡ h b = ap g (sym (add-zero a)) ∙ e 0 (omega arith) ∙ ap h (add-zero b) in
    let further : (i : ℕ) → i < n → g (suc a + i) ≡ h (suc b + i) = λ i l.
    let p : suc a + i ≡ a + suc i = omega arith in
    let q : b + suc i ≡ suc b + i = omega arith in
    ap g p ∙ e (suc i) (omega arith) ∙ ap h q in
    ap₂ (λ (y : X) (ys : List X). y ∷ ys) x (counted_shift g h (suc a) (suc b) n further)

-- SECTORS OF BYTES

chunk_front : (b t : List ℕ) (i : ℕ) → 512 * (i + 1) ≤ length b → chunk (b ++ t) i ≡ chunk b i
unfolding chunk
chunk_front b t i h =
    let l : length (drop (512 * i) b) ≡ length b - 512 * i = length-drop (512 * i) b in
    let m : 512 ≤ length (drop (512 * i) b) = omega (arith, l) in
    ap (λ (z : List ℕ). take 512 (z ++ zeros 512)) (drop-append-le (512 * i) b t (omega arith))
    ∙ ap (take 512) (append_assoc (drop (512 * i) b) t (zeros 512))
    ∙ take-append-le 512 (drop (512 * i) b) (t ++ zeros 512) m ∙ sym (take-append-le 512 (drop (512 * i) b) (zeros 512) m)

chunk_behind : (a b : List ℕ) (i : ℕ) → length a ≡ 512 → chunk (a ++ b) (i + 1) ≡ chunk b i
unfolding chunk
chunk_behind a b i h =
    let e : 512 * (i + 1) ≡ length a + 512 * i = omega (arith, h) in
    ap (λ (z : List ℕ). take 512 (z ++ zeros 512)) (ap (λ (n : ℕ). drop n (a ++ b)) e ∙ drop-append-add a b (512 * i))

-- A PIECE CUT WHERE SECTORS END

-- the sector a begins with the gathered bytes g and goes on with the piece x; `whole` fills n more, and `tail` is left
pub record Cuts (g x a whole tail : List ℕ) (n : ℕ) : Type 0 where
  pub parts : g ++ x ≡ a ++ (whole ++ tail)
  pub first : length a ≡ 512
  pub full : length whole ≡ 512 * n
  pub short : length tail < 512

cut_length : {g x a whole tail : List ℕ} {n : ℕ} → Cuts g x a whole tail n → length g + length x ≡ 512 * (n + 1) + length tail
cut_length {g = g} {x = x} {a = a} {whole = w} {tail = t} c =
    sym (length-append g x) ∙ ap length c.parts ∙ length-append a (w ++ t) ∙ omega (arith, length-append w t, c.first, c.full)

pub cut_count : {g x a whole tail : List ℕ} {n : ℕ} → Cuts g x a whole tail n → (length g + length x) / 512 ≡ n + 1
cut_count c = omega (arith, cut_length c, c.short)

-- the writes: of that sector, and of the whole ones
pub cut_writes : (k f : ℕ) {g x a whole tail : List ℕ} {n : ℕ} → Cuts g x a whole tail n →
    filling k f (chunk (g ++ x)) ((length g + length x) / 512) ≡ filling k f (chunk a) ((length a + 511) / 512) ++ filling k (f + 1) (chunk whole) ((length whole + 511) / 512)
unfolding filling
cut_writes k f {g = g} {x = x} {a = a} {whole = w} {tail = t} {n = n} c =
    let one : (length a + 511) / 512 ≡ 1 = omega (arith, c.first) in
    let many : (length w + 511) / 512 ≡ n = omega (arith, c.full) in
    let all : (length g + length x) / 512 ≡ suc n = omega (arith, cut_count c) in
    let head : chunk (a ++ (w ++ t)) 0 ≡ chunk a 0 = chunk_front a (w ++ t) 0 (omega (arith, c.first)) in
    let rest : (i : ℕ) → i < n → write_at k f (chunk (a ++ (w ++ t))) (1 + i) ≡ write_at k (f + 1) (chunk w) (0 + i) = λ i l.
    let p : f + (1 + i) ≡ f + 1 + (0 + i) = omega arith in
    let q : 1 + i ≡ i + 1 = omega arith in
    let z : i ≡ 0 + i = omega arith in
    ap₂ (λ (j : ℕ) (y : List ℕ). to_slot k (fill j y)) p
    (ap (chunk (a ++ (w ++ t))) q ∙ chunk_behind a (w ++ t) i c.first ∙ chunk_front w t i (omega (arith, c.full)) ∙ ap (chunk w) z) in
    rw (c.parts, all, one, many)
    (ap₂ (λ (y : List ℕ) (ys : List SlotWrite). to_slot k (fill (f + 0) y) ∷ ys) head
    (counted_shift (write_at k f (chunk (a ++ (w ++ t)))) (write_at k (f + 1) (chunk w)) 1 0 n rest))

-- what is left
pub cut_left : {g x a whole tail : List ℕ} {n : ℕ} → Cuts g x a whole tail n → drop (512 * ((length g + length x) / 512)) (g ++ x) ≡ tail
cut_left {g = g} {x = x} {a = a} {whole = w} {tail = t} {n = n} c =
    let e : 512 * ((length g + length x) / 512) ≡ length (a ++ w) = omega (arith, cut_count c, c.first, c.full, length-append a w) in
    ap₂ drop e (c.parts ∙ sym (append_assoc a w t)) ∙ drop_at (a ++ w) t (length (a ++ w)) refl

-- as the code cuts it: p bytes are gathered at the front of b
pub cuts : (b x : List ℕ) (p : ℕ) {a head rest whole tail : List ℕ} → length b ≡ 512 → p < 512 → 512 ≤ p + length x → head ≡ take (512 - p) x → rest ≡ drop (512 - p) x →
    a ≡ take p b ++ (head ++ drop (p + length head) b) → whole ≡ take (length rest - length rest % 512) rest → tail ≡ drop (length rest - length rest % 512) rest →
    Cuts (take p b) x a whole tail (length whole / 512)
cuts b x p {a = a} {head = h} {rest = r} {whole = w} {tail = t} l s m d e f g z =
    let n : length r - length r % 512 ≤ length r = omega arith in
    let lh : length h ≡ 512 - p = ap length d ∙ length-take-le (512 - p) x (omega arith) in
    let lp : length (take p b) ≡ p = length-take-le p b (omega arith) in
    let lw : length w ≡ length r - length r % 512 = ap length g ∙ length-take-le (length r - length r % 512) r n in
    let lt : length t ≡ length r - (length r - length r % 512) = ap length z ∙ length-drop (length r - length r % 512) r in
    let none : drop (p + length h) b ≡ [] = drop_all (p + length h) b (omega (arith, lh)) in
    let same : a ≡ take p b ++ h = f ∙ ap (λ (y : List ℕ). take p b ++ y) (ap (λ (y : List ℕ). h ++ y) none ∙ append-nil h) in
    let piece : x ≡ h ++ (w ++ t) =
    sym (take-append-drop (512 - p) x)
    ∙ ap₂ ◌++◌ (sym d) (sym e ∙ (sym (take-append-drop (length r - length r % 512) r) ∙ ap₂ ◌++◌ (sym g) (sym z))) in
    record {
      parts = ap (λ (y : List ℕ). take p b ++ y) piece ∙ sym (append_assoc (take p b) h (w ++ t)) ∙ ap (λ (y : List ℕ). y ++ (w ++ t)) (sym same);
      first = ap length same ∙ length-append (take p b) h ∙ omega (arith, lp, lh);
      full = omega (arith, lw);
      short = omega (arith, lt);
    }

-- WHAT PUT WRITES

pub put_none : (o : OpenJob) (x : List ℕ) → length o.gathered + length x < 512 → put_writes o x ≡ []
unfolding put_writes filling
put_none o x h = let e : (length o.gathered + length x) / 512 ≡ 0 = omega arith in rw e refl

pub put_two : (o : OpenJob) (x : List ℕ) {a whole tail : List ℕ} {n : ℕ} → Cuts o.gathered x a whole tail n →
    put_writes o x ≡ filling o.slot o.full (chunk a) (extent_of (length a)).0 ++ filling o.slot (o.full + 1) (chunk whole) (extent_of (length whole)).0
unfolding put_writes
put_two o x c = cut_writes o.slot o.full c

pub put_runs : (c : Layout) {m m₁ m₂ : Meaning} (o : OpenJob) (x : List ℕ) {a whole tail : List ℕ} {n : ℕ} → Cuts o.gathered x a whole tail n →
    Performed c m m₁ (filling o.slot o.full (chunk a) (extent_of (length a)).0) → Performed c m₁ m₂ (filling o.slot (o.full + 1) (chunk whole) (extent_of (length whole)).0) → Performed c m m₂ (put_writes o x)
put_runs c o x e p q = performed_as (sym (put_two o x e)) (performed_performed p q)

pub put_cut_first : {t : Faults} (c : Layout) {m m₁ : Meaning} (o : OpenJob) (x : List ℕ) {a whole tail : List ℕ} {n : ℕ} {y : Fault} → Cuts o.gathered x a whole tail n →
    Cut t c never m m₁ (filling o.slot o.full (chunk a) (extent_of (length a)).0) y → Cut t c never m m₁ (put_writes o x) y
put_cut_first c o x {whole = w} e p =
    cut_of (sym (put_two o x e)) (cut_more (filling o.slot (o.full + 1) (chunk w) (extent_of (length w)).0) (λ j l z. absurd z) p)

pub put_cut_later : {t u : Faults} (c : Layout) {m m₁ m₂ : Meaning} (o : OpenJob) (x : List ℕ) {a whole tail : List ℕ} {n : ℕ} {y : Fault} → Cuts o.gathered x a whole tail n → Within u t →
    Performed c m m₁ (filling o.slot o.full (chunk a) (extent_of (length a)).0) → Cut u c never m₁ m₂ (filling o.slot (o.full + 1) (chunk whole) (extent_of (length whole)).0) y →
    Cut t c never m m₂ (put_writes o x) y
put_cut_later c o x e w p q = cut_of (sym (put_two o x e)) (performed_cut w (λ j z. absurd z) p q)

-- WHAT THE JOB IS THEN

pub same_job : {s s' f f' w w' : ℕ} {n n' g g' : List ℕ} → s ≡ s' → n ≡ n' → f ≡ f' → g ≡ g' → w ≡ w' →
    ◌≡◌ {A = OpenJob} (record { slot = s; name = n; full = f; gathered = g; waiting = w }) (record { slot = s'; name = n'; full = f'; gathered = g'; waiting = w' })
same_job a b c d e = cc

pub put_gathers : (o : OpenJob) (x : List ℕ) {a whole tail : List ℕ} {n : ℕ} → Cuts o.gathered x a whole tail n → {o' : OpenJob} → o'.slot ≡ o.slot → o'.name ≡ o.name → o'.full ≡ o.full + 1 + n → o'.gathered ≡ tail →
    o'.waiting ≡ o.waiting + length x → o' ≡ after_put o x
put_gathers o x {n = n} c {o' = o'} s e f g w =
    let full : o'.full ≡ o.full + (length o.gathered + length x) / 512 = omega (arith, f, cut_count c) in
    let left : o'.gathered ≡ drop (512 * ((length o.gathered + length x) / 512)) (o.gathered ++ x) = g ∙ sym (cut_left c) in
    same_job s e full left w
