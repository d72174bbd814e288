-- The rows of a check, sector by sector.
use Rattle.std.proofs.Common.{◌≡◌, ℕ, zero, suc, ◌+◌, ◌-◌, ◌*◌, ◌/◌, ◌<◌, ◌≤◌, Bool, false, List, [], ◌∷◌, ◌++◌, length, get_or, Ok, Err, Option, sym, refl, ap, ◌∙◌, subst, ap₂, append_assoc, append-nil, add-zero, arith}
use Rattle.std.proofs.lemmas.List.{length-append}
use Rattle.device.specs.Faults.{Faults, Within}
use Rattle.device.specs.Meaning.{Meaning, Sectors, MayAccept}
use Rattle.device.specs.Transfers.{Reads}
use Rattle.device.specs.declared.faults.Fault.{Fault}
use Rattle.layout.specs.Sizes.{layout_of, place_of, block_of}
use Rattle.layout.specs.declared.sizes.Layout.{Layout}
use Rattle.refusals.specs.declared.Refusal.TheVariants.{Device}
use Rattle.places.specs.Places.{place, places, counted_up, entries_listed}
use Rattle.plans.specs.Calls.{Answer, faults, check}
use Rattle.plans.specs.Memory.{Memory, card_layout}
use Rattle.plans.specs.Rows.{fault_in, finding, finding_at, findings, kept}
use Rattle.plans.specs.Slots.{slots_in}
use Rattle.rows.specs.declared.finding.Finding.{Finding}
use Rattle.rows.specs.declared.table.RowTable.{RowTable}
use Rattle.volume.specs.Directory.{Room, ReadRefused, directory_sector}
use Rattle.volume.specs.Outcomes.{Performs}
use Rattle.volume.proofs.Glue.{room, room_same}
use Rattle.listing.specs.Faults.{entry_at, finding_in, findings_in, taken_below, TakenNames}
use Rattle.listing.specs.Tables.{Offered, Holds, HoldsFirst, OfferedAll, Checks}
use Rattle.listing.proofs.Endings.{refused_from, reading_ends, reading_refused}
use Rattle.listing.proofs.Tables.{rows_below, rows_more, rows_rest, few_rows, holds_offered, holds_first}

-- ONE SECTOR

abbrev row_in : Layout → List ℕ → List Bool → ℕ → ℕ → Option Finding
row_in c b taken k i = finding_in c b (get_or taken i false) (k + i)

pub offered_none : (c : Layout) (b : List ℕ) (taken : List Bool) (k : ℕ) {t t' : RowTable Finding} → t' ≡ t → OfferedAll (findings_in c b taken k 0) t t'
unfolding findings_in
offered_none c b taken k {t = t} {t' = t'} e = record {
  holds = λ before old l h.
      subst (λ (xs : List Finding). Holds xs old t') (sym (append-nil before)) (subst (Holds before old) (sym e) h);
}

-- the row of entry k + i follows
pub offered_more : (c : Layout) (b : List ℕ) (taken : List Bool) (k i : ℕ) {o : Option Finding} {t t' t'' : RowTable Finding} → i < 16 → o ≡ finding_in c b (get_or taken i false) (k + i) →
    OfferedAll (findings_in c b taken k i) t t' → Offered o t' t'' → OfferedAll (findings_in c b taken k (i + 1)) t t''
unfolding findings_in
offered_more c b taken k i {o = o} {t'' = t''} l e p x = record {
  holds = λ before old n h.
      let f = row_in c b taken k in
      let rows = rows_below f i in
      let q : (before ++ rows) ++ kept (o ∷ []) ≡ before ++ rows_below f (i + 1) =
      append_assoc before rows (kept (o ∷ [])) ∙ ap (λ (z : Option Finding). before ++ (rows ++ kept (z ∷ []))) e ∙ ap (λ (xs : List Finding). before ++ xs) (sym (rows_more f i)) in
      subst (λ (xs : List Finding). Holds xs old t'') q
      (holds_offered o (omega (arith, length-append before rows, few_rows f i)) (p.holds before old n h) x);
}

-- SECTOR BY SECTOR

-- the row of entry k, by its directory sector and by whether its name is taken
same_finding : (c : Layout) (s : Sectors) (k : ℕ) {b : List ℕ} {taken : Bool} → b ≡ directory_sector s k → taken ≡ taken_below (slots_in (places c s)) (entry_at b k).name k →
    finding_at c s k ≡ finding_in c b taken k
unfolding place
same_finding c s k {b = b} e f =
    ap (λ (x : List ℕ). finding k (fault_in c.slots (taken_below (slots_in (places c s)) (entry_at x k).name k) k (block_of c k) (entry_at x k))) (sym e)
    ∙ ap (λ (x : Bool). finding_in c b x k) (sym f)

counted_moved : {X : Type 0} (f g : ℕ → X) (a b n : ℕ) → ((i : ℕ) → i < n → f (a + i) ≡ g (b + i)) → counted_up f a n ≡ counted_up g b n
counted_moved f g a b zero h = refl
counted_moved {X = X} f g a b (suc n) h =
    let e : f a ≡ g b = ap f (sym (add-zero a)) ∙ h 0 (omega arith) ∙ ap g (add-zero b) in
    ap₂ (λ (x : X) (xs : List X). x ∷ xs) e
    (counted_moved f g (suc a) (suc b) n (λ i l. let p : suc a + i ≡ a + suc i = omega arith in let q : b + suc i ≡ suc b + i = omega arith in ap f p ∙ h (suc i) (omega arith) ∙ ap g q))

-- the rows of the n entries from number a on
pub sector_rows : (c : Layout) (s : Sectors) (b : List ℕ) (taken : List Bool) (a n : ℕ) → ((i : ℕ) → i < n → b ≡ directory_sector s (a + i)) →
    ((i : ℕ) → i < n → get_or taken i false ≡ taken_below (slots_in (places c s)) (entry_at b (a + i)).name (a + i)) →
    rows_below (finding_at c s) a ++ findings_in c b taken a n ≡ rows_below (finding_at c s) (a + n)
unfolding findings_in
sector_rows c s b taken a n e f =
    let x : a + n - a ≡ n = omega arith in
    sym
    (rows_rest (finding_at c s) a (a + n) (omega arith)
    ∙ ap (λ (xs : List (Option Finding)). rows_below (finding_at c s) a ++ kept xs)
    (ap (counted_up (finding_at c s) (0 + a)) x
    ∙ counted_moved (finding_at c s) (row_in c b taken a) (0 + a) 0 n
    (λ i l.
    let p : 0 + a + i ≡ a + i = omega arith in
    let q : i ≡ 0 + i = omega arith in
    ap (finding_at c s) p ∙ same_finding c s (a + i) (e i l) (f i l) ∙ ap (row_in c b taken a) q)))

-- the sectors below n were looked at, and the table holds the rows of their entries
pub record Checked (c : Layout) (m m' : Meaning) (n : ℕ) (old : List Finding) (t : RowTable Finding) : Type 0 where
  pub same : m' ≡ m
  pub accepted : 1 < n → MayAccept m.condition
  pub holds : Holds (rows_below (finding_at c m.sectors) (16 * (n - 1))) old t

pub checked_none : (c : Layout) (m : Meaning) {old : List Finding} {t : RowTable Finding} → t.total ≡ 0 → t.rows.now ≡ old → Checked c m m 1 old t
checked_none c m e f = record { same = refl; accepted = λ h. absurd (omega arith); holds = record { total = e; slice = f } }

-- sector n of the directory is on the device
pub in_card : (s : ℕ) (m : Meaning) {c : Layout} {n : ℕ} → c ≡ layout_of s → 1 ≤ n → n < c.area → s ≤ length m.sectors → n < length m.sectors
in_card s m {c = c} {n = n} e l h r =
    let q : c.area ≡ (layout_of s).area = ap (λ (y : Layout). y.area) e in
    omega arith

pub in_room : (s : ℕ) (m : Meaning) {c : Layout} → c ≡ layout_of s → s ≤ length m.sectors → Room c m
in_room s m e h = subst (λ (y : Layout). Room y m) (sym e) (room s m h)

-- the rows of the sectors below one of the directory
pub few_below : (s : ℕ) (x : Sectors) {c : Layout} {n : ℕ} → c ≡ layout_of s → n < c.area → length (rows_below (finding_at c x) (16 * (n - 1))) ≤ 65520
few_below s x {c = c} {n = n} e h =
    let q : c.area ≡ (layout_of s).area = ap (λ (y : Layout). y.area) e in
    omega (arith, few_rows (finding_at c x) (16 * (n - 1)))

pub checked_more : {u : Faults} {c : Layout} {m m₁ m₂ m₃ : Meaning} {n : ℕ} {b b' : List ℕ} {taken : List Bool} {old : List Finding} {t t' : RowTable Finding} → 1 ≤ n → n < length m.sectors → length b ≡ 512 → Room c m →
    Checked c m m₁ n old t → Reads u m₁ m₂ n b b' (Ok tt) →
    (Room c m₂ → (place_of (16 * (n - 1))).offset ≡ 0 → b' ≡ directory_sector m₂.sectors (16 * (n - 1)) → TakenNames c m₂ m₃ (16 * (n - 1)) b' taken) →
    length (rows_below (finding_at c m.sectors) (16 * (n - 1))) ≤ 65520 → OfferedAll (findings_in c b' taken (16 * (n - 1)) 16) t t' → Checked c m m₃ (n + 1) old t'
checked_more {c = c} {m = m} {m₁ = m₁} {m₂ = m₂} {m₃ = m₃} {n = n} {b' = b'} {taken = taken} {old = old} {t' = t'} l h w r p x y few o =
    let a = 16 * (n - 1) in
    let s = m.sectors in
    let z = x.otherwise w (subst (λ (y : Meaning). n < length y.sectors) (sym p.same) h) in
    let same : m₂ ≡ m = z.2 ∙ p.same in
    let d : b' ≡ get_or s n [] = z.1 ∙ ap (λ (y : Meaning). get_or y.sectors n []) p.same in
    let i : 1 + a / 16 ≡ n = omega arith in
    let first : b' ≡ directory_sector m₂.sectors a = z.1 ∙ ap (λ (y : Meaning). get_or y.sectors n []) (sym z.2) ∙ ap (λ (j : ℕ). get_or m₂.sectors j []) (sym i) in
    let v = subst (λ (y : Meaning). TakenNames c y m₃ a b' taken) same (y (room_same same r) (omega arith) first) in
    let e : rows_below (finding_at c s) a ++ findings_in c b' taken a 16 ≡ rows_below (finding_at c s) (16 * (n + 1 - 1)) =
    sector_rows c s b' taken a 16 (λ j k. let q : n ≡ 1 + (a + j) / 16 = omega arith in d ∙ ap (λ (i : ℕ). get_or s i []) q) v.each
    ∙ (let q : a + 16 ≡ 16 * (n + 1 - 1) = omega arith in ap (rows_below (finding_at c s)) q) in
    record {
      same = v.same;
      accepted = λ _. subst (λ (y : Meaning). MayAccept y.condition) p.same z.0;
      holds = subst (λ (xs : List Finding). Holds xs old t') e (o.holds (rows_below (finding_at c s) a) old few p.holds);
    }

-- THE CALL

all_findings : (c : Layout) (s : Sectors) → findings c s ≡ rows_below (finding_at c s) (entries_listed c)
unfolding findings
all_findings c s = refl

pub checked : (t : Faults) (m m' : Meaning) (q : Memory) {c : Layout} {n k : ℕ} {old : List Finding} {r : RowTable Finding} → c ≡ layout_of q.size → n ≡ c.area → k ≡ r.total →
    (q.size ≤ length m.sectors → Checked c m m' n old r) → Performs t (Checks old r) check m m' q q (Ok k)
checked t m m' q {c = c} {n = n} {old = old} {r = r} e f g x =
    record {
      ends = λ h.
          let y = x h in
          let s = m.sectors in
          let l = layout_of q.size in
          let a : n ≡ l.area = f ∙ ap (λ (z : Layout). z.area) e in
          let w : rows_below (finding_at c s) (16 * (n - 1)) ≡ findings l s =
          ap₂ (λ (z : Layout) (j : ℕ). rows_below (finding_at z s) (16 * (j - 1))) e a ∙ sym (all_findings l s) in
          let z : Holds (findings l s) old r = subst (λ (xs : List Finding). Holds xs old r) w y.holds in
          reading_ends l (Checks old r) (faults (findings l s)) q
          (record { rows = findings l s; answer = refl; total = g ∙ z.total; holds = z })
          (record { same = y.same; was_read = λ i. y.accepted (omega (arith, a, i)) });
    }

pub check_refused : (t : Faults) (m m' : Meaning) (q : Memory) {A : Type 0} (V : A → Answer → Type 0) {f : Fault} → (q.size ≤ length m.sectors → (k : ℕ) × ReadRefused t m m' k f) → Performs t V check m m' q q (Err (Device f))
check_refused t m m' q V x =
    record { ends = λ h. reading_refused t (card_layout q) (faults (findings (card_layout q) m.sectors)) q (x h).1 }

pub check_first : (m m' : Meaning) (q : Memory) {c : Layout} {n : ℕ} {old : List Finding} {r : RowTable Finding} → c ≡ layout_of q.size → n < c.area → Checked c m m' n old r →
    HoldsFirst (findings (card_layout q) m.sectors) old r
check_first m m' q {c = c} {n = n} {old = old} {r = r} e h x =
    let w : findings (layout_of q.size) m.sectors ≡ rows_below (finding_at c m.sectors) (entries_listed c) =
    ap (λ (z : Layout). findings z m.sectors) (sym e) ∙ all_findings c m.sectors in
    holds_first (finding_at c m.sectors) (16 * (n - 1)) (entries_listed c) (omega arith) w x.holds

-- the read of a lower sector is refused
pub lower_refused : {t u v : Faults} {c : Layout} {m m₁ m₂ m' : Meaning} {n : ℕ} {b b' : List ℕ} {old : List Finding} {r : RowTable Finding} {f : Fault} → Within v t → 1 ≤ n → n < length m.sectors → length b ≡ 512 → Room c m →
    Checked c m m₁ n old r → Reads u m₁ m₂ n b b' (Ok tt) →
    (Room c m₂ → (place_of (16 * (n - 1))).offset ≡ 0 → b' ≡ directory_sector m₂.sectors (16 * (n - 1)) → (k : ℕ) × ReadRefused v m₂ m' k f) → (k : ℕ) × ReadRefused t m m' k f
lower_refused {m₂ = m₂} {n = n} {b' = b'} g l h w r p x y =
    let a = 16 * (n - 1) in
    let z = x.otherwise w (subst (λ (y : Meaning). n < length y.sectors) (sym p.same) h) in
    let i : 1 + a / 16 ≡ n = omega arith in
    let first : b' ≡ directory_sector m₂.sectors a = z.1 ∙ ap (λ (y : Meaning). get_or y.sectors n []) (sym z.2) ∙ ap (λ (j : ℕ). get_or m₂.sectors j []) (sym i) in
    let f = y (room_same (z.2 ∙ p.same) r) (omega arith) first in
    (f.0, refused_from g (z.2 ∙ p.same) f.1)
