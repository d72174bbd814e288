-- The writes of a format, put together; and what each first part of them leaves.
use Rattle.std.proofs.Common.{◌≡◌, ℕ, zero, suc, ◌+◌, ◌-◌, ◌<◌, ◌≤◌, ◌≢◌, ◌⊎◌, List, [], ◌∷◌, ◌++◌, length, get_or, take, set, true, Some, Option, Result, sym, refl, ap, ◌∙◌, subst, ap₂, inl, inr, arith, length-append}
use native.Mathlib.Nat.{sub-zero}
use Rattle.std.proofs.lemmas.List.{length-set, get_or-set_same, get_or-set_other, take-append-le, take_all}
use Rattle.std.proofs.lemmas.Bool.{cases_lt}
use Rattle.std.proofs.lemmas.Option.{cond_some}
use Rattle.device.specs.Faults.{Faults, Within}
use Rattle.device.specs.Meaning.{Meaning, Sectors, zeros}
use Rattle.device.specs.Transfers.{Writes}
use Rattle.device.specs.declared.faults.Fault.{Fault}
use Rattle.device.specs.declared.faults.Geometry.{Geometry}
use Rattle.layout.specs.DiskIds.{lawful_id, id_of}
use Rattle.layout.specs.Label.{label_sector, bad_field, read_label, LawfulLabel}
use Rattle.layout.specs.Names.{lawful_name, name_of}
use Rattle.layout.specs.Sizes.{layout_of, area_of, slots_of}
use Rattle.layout.specs.declared.label.Label.{Label}
use Rattle.layout.specs.declared.names.Name.{Name}
use Rattle.layout.specs.declared.disk_ids.DiskId.{DiskId}
use Rattle.layout.specs.declared.sizes.Layout.{Layout}
use Rattle.layout.proofs.Labels.{label_back, zeros_bad}
use Rattle.runs.specs.Writes.{SectorWrite, write_of, applied, failed_with, zeroing, Completed, Interrupted, Written}
use Rattle.runs.proofs.Runs.{applied_more, length-applied, length-zeroing, take-zeroing, zeroed_within, zeroed_outside}
use Rattle.runs.proofs.Sequences.{completed_written, interrupted_more, completed_length, one_written}
use Rattle.formatting.specs.Format.{new_label, format_writes, NewCard, NoCard}

-- the zeros end where the data area starts
zeros_to : (P : List SectorWrite → Type 0) (x a n : ℕ) → x ≡ a → a ≤ n → (x ≤ n → P (zeroing 0 (x - 0))) → P (zeroing 0 a)
zeros_to P x a n e h w =
    let k : x ≤ n = omega arith in
    subst (λ (y : ℕ). P (zeroing 0 y)) (sub-zero x ∙ e) (w k)

-- the zeros are refused
pub card_unzeroed : {t : Faults} {m m₁ : Meaning} {f : Fault} (l : Label) (x : ℕ) → x ≡ l.layout.area → l.layout.area ≤ length m.sectors →
    (x ≤ length m.sectors → Interrupted t m m₁ (zeroing 0 (x - 0)) f) → Interrupted t m m₁ (format_writes l) f
unfolding format_writes
card_unzeroed {t = t} {m = m} {m₁ = m₁} {f = f} l x e h z =
    interrupted_more (write_of 0 (label_sector l) ∷ []) (zeros_to (λ ws. Interrupted t m m₁ ws f) x l.layout.area (length m.sectors) e h z)

-- the zeros are written, and then the label is or is not
pub card_written : {t u : Faults} {m m₁ m₂ : Meaning} (l : Label) (x : ℕ) (b : List ℕ) (r : Result (Unit {0}) Fault) → x ≡ l.layout.area → l.layout.area ≤ length m.sectors →
    0 < length m.sectors → b ≡ label_sector l → length b ≡ 512 → Within u t →
    (x ≤ length m.sectors → Completed m m₁ (zeroing 0 (x - 0))) → Writes u m₁ m₂ 0 b r → Written t m m₂ (format_writes l) r
unfolding format_writes
card_written {t = t} {u = u} {m = m} {m₁ = m₁} {m₂ = m₂} l x b r e h k same len y z w =
    let done = zeros_to (Completed m m₁) x l.layout.area (length m.sectors) e h z in
    completed_written m₂ (write_of 0 (label_sector l) ∷ []) r y done (one_written r (ap length (sym same) ∙ len) (completed_length done k) (subst (λ (c : List ℕ). Writes u m₁ m₂ 0 c r) same w))

-- the sectors once the first j writes of a format persist
abbrev after : Sectors → Label → ℕ → Sectors
after s l j = applied s (take j (format_writes l))

-- a card that l can be the label of
pub record FitsCard (s : Sectors) (l : Label) : Type 0 where
  pub name : length l.name ≡ 16
  pub id : length l.id ≡ 4
  pub lawful : LawfulLabel l (length s)
  pub area : l.layout.area ≤ length s
  pub directory : 1 ≤ l.layout.area
  pub some : 0 < length s

no_card : (s : Sectors) (l : Label) (j : ℕ) → FitsCard s l → 1 ≤ j → NoCard (applied s (zeroing 0 j))
no_card s l j p h =
    let first : get_or (applied s (zeroing 0 j)) 0 [] ≡ zeros 512 = zeroed_within s 0 j 0 (omega arith) (omega arith) p.some in
    ap (bad_field (length (applied s (zeroing 0 j)))) first ∙ zeros_bad (length (applied s (zeroing 0 j)))

new_card : (s : Sectors) (l : Label) → FitsCard s l → NewCard s (applied s (format_writes l)) l
unfolding format_writes
new_card s l p =
    let a = l.layout.area in
    let z = applied s (zeroing 0 a) in
    let whole : applied s (zeroing 0 a ++ (write_of 0 (label_sector l) ∷ [])) ≡ set z 0 (label_sector l) = applied_more s (zeroing 0 a) (write_of 0 (label_sector l)) in
    let len : length z ≡ length s = length-applied s (zeroing 0 a) in
    let here : 0 < length z = omega (arith, len, p.some) in
    subst (λ (x : Sectors). NewCard s x l) (sym whole) (record {
      label =
          ap₂ read_label (length-set z 0 (label_sector l) ∙ len) (get_or-set_same z 0 (label_sector l) [] here)
          ∙ label_back l (length s) p.name p.id p.lawful;
      directory = λ k h b.
          let apart : k ≢ 0 = omega arith in
          get_or-set_other z 0 k (label_sector l) [] apart ∙ zeroed_within s 0 a k (omega arith) (omega arith) (omega (arith, p.area));
      others = λ k h.
          let apart : k ≢ 0 = omega (arith, p.directory) in
          let out : 0 + a ≤ k = omega arith in
          get_or-set_other z 0 k (label_sector l) [] apart ∙ zeroed_outside s 0 a k (inr out);
    })

length-format_writes : (l : Label) → length (format_writes l) ≡ l.layout.area + 1
unfolding format_writes
length-format_writes l = length-append (zeroing 0 l.layout.area) (write_of 0 (label_sector l) ∷ []) ∙ ap (λ (n : ℕ). n + 1) (length-zeroing 0 l.layout.area)

take-format_writes : (l : Label) (j : ℕ) → j ≤ l.layout.area → take j (format_writes l) ≡ zeroing 0 j
unfolding format_writes
take-format_writes l j h =
    let a = l.layout.area in
    let le : j ≤ length (zeroing 0 a) = omega (arith, length-zeroing 0 a) in
    take-append-le j (zeroing 0 a) (write_of 0 (label_sector l) ∷ []) le ∙ take-zeroing 0 a j h

abbrev pub Found : Sectors → Sectors → Label → Type 0
Found s s' l = (s' ≡ s) ⊎ (NoCard s' ⊎ NewCard s s' l)

nothing_applied : (s : Sectors) (l : Label) → after s l 0 ≡ s
unfolding applied
nothing_applied s l = refl

-- broken off after any number of writes
found_after : (s : Sectors) (l : Label) (j : ℕ) → FitsCard s l → Found s (after s l j) l
found_after s l zero p = inl (nothing_applied s l)
found_after s l (suc j) p =
    elim (cases_lt l.layout.area (suc j)) [
      | inl h ↦
          let all : length (format_writes l) ≤ suc j = omega (arith, length-format_writes l) in
          inr (inr (subst (λ (ws : List SectorWrite). NewCard s (applied s ws) l) (sym (take_all (suc j) (format_writes l) all)) (new_card s l p)))
      | inr h ↦
          inr (inl (subst (λ (ws : List SectorWrite). NoCard (applied s ws)) (sym (take-format_writes l (suc j) h)) (no_card s l (suc j) p (omega arith))))
    ]

pub completed_leaves : {m m' : Meaning} (l : Label) → FitsCard m.sectors l → Completed m m' (format_writes l) → NewCard m.sectors m'.sectors l
completed_leaves {m = m} l p d =
    subst (λ (x : Sectors). NewCard m.sectors x l) (sym (ap (λ (x : Meaning). x.sectors) d.leaves)) (new_card m.sectors l p)

pub interrupted_leaves : {t : Faults} {m m' : Meaning} {f : Fault} (l : Label) → FitsCard m.sectors l → Interrupted t m m' (format_writes l) f →
    Found m.sectors m'.sectors l
interrupted_leaves {m = m} l p i =
    let at = λ (j : ℕ) (x : Meaning) (e : x ≡ failed_with m (after m.sectors l j)).
    subst (λ (y : Sectors). Found m.sectors y l) (sym (ap (λ (y : Meaning). y.sectors) e)) (found_after m.sectors l j p) in
    elim i.leaves [ inl e ↦ at i.which _ e | inr e ↦ at (i.which + 1) _ e.1 ]

-- what format knows once its tests have passed: its label l is that of the new card, on which a file has room
pub record Passed (m : Meaning) (name id : List ℕ) (l : Label) : Type 0 where
  pub lawful_name : lawful_name name ≡ true
  pub lawful_id : lawful_id id ≡ true
  pub label : l ≡ new_label (length m.sectors) m.geometry name id
  pub room : l.layout.slots ≢ 0
  pub name_length : length l.name ≡ 16
  pub id_length : length l.id ≡ 4

-- the parts of that label, as the tests give them
pub passed : {m : Meaning} {name id : List ℕ} {l : Layout} {g : Geometry} {x y : List ℕ} {k : ℕ} {a : Option Name} {b : Option DiskId} {n : Name} {i : DiskId} →
    a ≡ name_of name → a ≡ Some n → b ≡ id_of id → b ≡ Some i → l ≡ layout_of k → k ≡ length m.sectors → g ≡ m.geometry → x ≡ n.bytes → y ≡ i.bytes →
    l.slots ≢ 0 → length x ≡ 16 → length y ≡ 4 → Passed m name id (record { layout = l; geometry = g; name = x; id = y })
passed {name = name} {id = id} {n = n} {i = i} ea en eb ei el ek eg ex ey some lx ly =
    let good_name = cond_some (lawful_name name) _ n (sym ea ∙ en) in
    let good_id = cond_some (lawful_id id) _ i (sym eb ∙ ei) in
    let same_name = good_name.1 in
    let same_id = good_id.1 in
    record { lawful_name = good_name.0; lawful_id = good_id.0; label = cc; room = some; name_length = lx; id_length = ly }

area_inside : (n : ℕ) → 0 < slots_of n → area_of n ≤ n
area_inside n h = omega arith

fits : {m : Meaning} {name id : List ℕ} {l : Label} → Passed m name id l → FitsCard m.sectors l
fits {m = m} {l = l} p =
    let n = length m.sectors in
    let lay : l.layout ≡ layout_of n = ap (λ (x : Label). x.layout) p.label in
    let sec : l.layout.sectors ≡ n = ap (λ (x : Layout). x.sectors) lay in
    let area : l.layout.area ≡ area_of n = ap (λ (x : Layout). x.area) lay in
    let slots : l.layout.slots ≡ slots_of n = ap (λ (x : Layout). x.slots) lay in
    let room : 0 < slots_of n = omega (arith, p.room) in
    let inside = area_inside n room in
    record {
      name = p.name_length;
      id = p.id_length;
      lawful = record {
        layout = lay ∙ ap layout_of (sym sec);
        sectors = omega arith;
        slots = subst (λ (x : ℕ). 0 < slots_of x) (sym sec) room;
      };
      area = omega arith;
      directory = omega arith;
      some = omega arith;
    }

-- a promise of the writes under those premises
abbrev Promised : Sectors → Label → Type 0 → Type 0
Promised s l P = 0 < length s → l.layout.area ≤ length s → P

pub leaves_new : {m m' : Meaning} {name id : List ℕ} {l : Label} → Passed m name id l → Promised m.sectors l (Completed m m' (format_writes l)) →
    NewCard m.sectors m'.sectors (new_label (length m.sectors) m.geometry name id)
leaves_new {m = m} {m' = m'} {l = l} p d =
    let f = fits p in subst (λ (k : Label). NewCard m.sectors m'.sectors k) p.label (completed_leaves l f (d f.some f.area))

pub leaves_found : {t : Faults} {m m' : Meaning} {name id : List ℕ} {l : Label} {f : Fault} → Passed m name id l → Promised m.sectors l (Interrupted t m m' (format_writes l) f) →
    Found m.sectors m'.sectors (new_label (length m.sectors) m.geometry name id)
leaves_found {m = m} {m' = m'} {l = l} p d =
    let f = fits p in subst (λ (k : Label). Found m.sectors m'.sectors k) p.label (interrupted_leaves l f (d f.some f.area))
