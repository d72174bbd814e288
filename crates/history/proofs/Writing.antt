-- Lists of writes: their first parts, those to one slot, and what they leave of a card.
use Rattle.std.proofs.Common.{◌≡◌, ℕ, zero, suc, ◌+◌, ◌-◌, ◌<◌, ◌≤◌, List, [], ◌∷◌, ◌++◌, length, get_or, take, set, sym, refl, ap, ◌∙◌, subst, ap₂, inl, inr, arith}
use Rattle.std.proofs.Math.Seq.{take-nil}
use Rattle.std.proofs.lemmas.List.{set-get_or, set-set, get_or-set_same, length-set, take-append-le, take_all}
use Rattle.std.proofs.lemmas.Bool.{cases_lt}
use Rattle.device.specs.Meaning.{Sectors, Bytes}
use Rattle.layout.specs.Sizes.{layout_of}
use Rattle.layout.specs.Label.{read_label}
use Rattle.layout.specs.declared.sizes.Layout.{Layout}
use Rattle.places.specs.Places.{Place, places, no_place, acted, moved, all_moved, Fits, counted_up}
use Rattle.places.specs.SlotWrites.{SlotAct, SlotWrite, enter, fill, all_written}
use Rattle.places.proofs.Frames.{layouts_sound, writes_refine_lem, length-all_written, label_kept}
use Rattle.plans.specs.Memory.{Memory}
use Rattle.plans.specs.Plans.{to_slot, filling, place_in}
use Rattle.plans.proofs.Blocks.{ran, take_app}
use Rattle.history.specs.Model.{Model}
use Rattle.history.specs.Agreement.{Agrees, Knows, Holds}
use Rattle.history.specs.Preserved.{entries_written, entries_act}

-- what holds of each first part of xs, and of xs with each first part of ys behind it, holds of each first part of both
pub parts_append : {X : Type 0} (P : List X → Type 0) (xs ys : List X) → ((j : ℕ) → j ≤ length xs → P (take j xs)) → ((j : ℕ) → P (xs ++ take j ys)) →
    (j : ℕ) → P (take j (xs ++ ys))
parts_append P xs ys f g j = elim (cases_lt (length xs) j) [
  | inr h ↦ subst P (sym (take-append-le j xs ys h)) (f j h)
  | inl h ↦
      let e : take j (xs ++ ys) ≡ xs ++ take (j - length xs) ys = take_app j xs ys ∙ ap (λ (z : List _). z ++ take (j - length xs) ys) (take_all j xs (omega arith)) in
      subst P (sym e) (g (j - length xs))
]

-- of a single write
pub parts_one : {X : Type 0} (P : List X → Type 0) (x : X) → P [] → P (x ∷ []) → (j : ℕ) → P (take j (x ∷ []))
parts_one P x a b zero = a
parts_one P x a b (suc j) = subst (λ (z : List _). P (x ∷ z)) (sym (take-nil j)) b

-- DIRECTORY WRITES

pub entries_append : (xs ys : List SlotWrite) → entries_written (xs ++ ys) ≡ entries_written xs + entries_written ys
entries_append [] ys = omega arith
entries_append (x ∷ xs) ys = by x.act (entries_append xs ys)
  where
    by : (a : SlotAct) → entries_written (xs ++ ys) ≡ entries_written xs + entries_written ys → entries_act a (entries_written (xs ++ ys)) ≡ entries_act a (entries_written xs) + entries_written ys
    by (enter e) h = omega arith
    by (fill i x) h = h

entries_fill : (k f : ℕ) (x : ℕ → List ℕ) (i n : ℕ) → entries_written (counted_up (λ i. to_slot k (fill (f + i) (x i))) i n) ≡ 0
entries_fill k f x i zero = refl
entries_fill k f x i (suc n) = entries_fill k f x (suc i) n

pub entries_filling : (k f : ℕ) (x : ℕ → List ℕ) (n : ℕ) → entries_written (filling k f x n) ≡ 0
unfolding filling
entries_filling k f x n = entries_fill k f x 0 n

-- WRITES TO ONE SLOT

abbrev pub ToSlot : ℕ → List SlotWrite → Type 0
ToSlot k [] = Unit {0}
ToSlot k (w ∷ ws) = (w.slot ≡ k) × ToSlot k ws

pub to_slot_append : (k : ℕ) (xs ys : List SlotWrite) → ToSlot k xs → ToSlot k ys → ToSlot k (xs ++ ys)
to_slot_append k [] ys f g = g
to_slot_append k (x ∷ xs) ys f g = (f.0, to_slot_append k xs ys f.1 g)

pub to_slot_take : (k j : ℕ) (xs : List SlotWrite) → ToSlot k xs → ToSlot k (take j xs)
to_slot_take k zero xs f = tt
to_slot_take k (suc j) [] f = tt
to_slot_take k (suc j) (x ∷ xs) f = (f.0, to_slot_take k j xs f.1)

to_slot_fill : (k f : ℕ) (x : ℕ → List ℕ) (i n : ℕ) → ToSlot k (counted_up (λ i. to_slot k (fill (f + i) (x i))) i n)
to_slot_fill k f x i zero = tt
to_slot_fill k f x i (suc n) = (refl, to_slot_fill k f x (suc i) n)

pub to_slot_filling : (k f : ℕ) (x : ℕ → List ℕ) (n : ℕ) → ToSlot k (filling k f x n)
unfolding filling
to_slot_filling k f x n = to_slot_fill k f x 0 n

-- they change that slot's place and no other
pub moved_one : (ps : List Place) (k : ℕ) (ws : List SlotWrite) → k < length ps → ToSlot k ws → all_moved ps ws ≡ set ps k (ran (place_in ps k) ws)
moved_one ps k [] h f = sym (set-get_or ps k no_place)
moved_one ps k (w ∷ ws) h f =
    let q : Place = acted (get_or ps k no_place) w.act in
    let e : moved ps w ≡ set ps k q = ap (λ (i : ℕ). set ps i (acted (get_or ps i no_place) w.act)) f.0 in
    ap (λ (z : List Place). all_moved z ws) e
    ∙ (moved_one (set ps k q) k ws (omega (arith, length-set ps k q)) f.1
    ∙ (set-set ps k q (ran (get_or (set ps k q) k no_place) ws) ∙ ap (λ (z : Place). set ps k (ran z ws)) (get_or-set_same ps k q no_place h)))

pub moved_append : (ps : List Place) (xs ys : List SlotWrite) → all_moved ps (xs ++ ys) ≡ all_moved (all_moved ps xs) ys
moved_append ps [] ys = refl
moved_append ps (x ∷ xs) ys = moved_append (moved ps x) xs ys

-- WRITES THAT FIT

pub fits_append : (c : Layout) (xs ys : List SlotWrite) → Fits c xs → Fits c ys → Fits c (xs ++ ys)
fits_append c [] ys f g = g
fits_append c (x ∷ xs) ys f g = (f.0, f.1, fits_append c xs ys f.2 g)

pub fits_take : (c : Layout) (j : ℕ) (xs : List SlotWrite) → Fits c xs → Fits c (take j xs)
fits_take c zero xs f = tt
fits_take c (suc j) [] f = tt
fits_take c (suc j) (x ∷ xs) f = (f.0, f.1, fits_take c j xs f.2)

fits_fill : (c : Layout) (k f : ℕ) (x : ℕ → List ℕ) (i n : ℕ) → k < c.slots → f + i + n ≤ 128 → ((i : ℕ) → (length (x i) ≡ 512) × Bytes (x i)) →
    Fits c (counted_up (λ i. to_slot k (fill (f + i) (x i))) i n)
fits_fill c k f x i zero h r g = tt
fits_fill c k f x i (suc n) h r g =
    let room : f + i < 128 = omega arith in
    let rest : f + suc i + n ≤ 128 = omega arith in
    (h, ((g i).0, (g i).1, room), fits_fill c k f x (suc i) n h rest g)

pub fits_filling : (c : Layout) (k f : ℕ) (x : ℕ → List ℕ) (n : ℕ) → k < c.slots → f + n ≤ 128 → ((i : ℕ) → (length (x i) ≡ 512) × Bytes (x i)) → Fits c (filling k f x n)
unfolding filling
fits_filling c k f x n h r g = fits_fill c k f x 0 n h (omega arith) g

-- WHAT THEY LEAVE OF A CARD

-- the card once writes that fit persist: only its places are owed
pub holds_after : (size : ℕ) (m m' : Model) (s : Sectors) (q q' : Memory) (ws : List SlotWrite) → Holds size m s q → Fits (layout_of size) ws →
    Agrees m'.slots m'.waiting (all_moved (places (layout_of size) s) ws) q'.job → Knows m'.mounted size q' →
    Holds size m' (all_written (layout_of size) s ws) q'
holds_after size m m' s q q' ws h f a k =
    let c : Layout = layout_of size in
    let r = writes_refine_lem c (layouts_sound size) s h.shaped ws f in
    record {
      shaped = r.0;
      label = (
        h.label.0,
        ap₂ read_label (length-all_written c s ws) (label_kept c (layouts_sound size) s ws) ∙ h.label.1,
        h.label.2,
      );
      agrees = rw r.1 a;
      knows = k;
    }
