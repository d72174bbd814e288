-- A new card agrees with the new model: every slot is empty.
use Rattle.std.proofs.Common.{◌≡◌, ℕ, zero, suc, ◌+◌, ◌<◌, ◌≤◌, Bool, true, false, cond, ltb, leb, List, [], ◌∷◌, map, length, get_or, replicate, Some, None, Ok, Option, Result, sym, refl, ap, ◌∙◌, subst, ap₂, inl, inr, arith}
use Rattle.std.proofs.lemmas.List.{get_or_past, get_or-replicate, length-replicate}
use Rattle.std.proofs.lemmas.Bool.{and_parts, leb-true, cases_lt}
use Rattle.device.specs.Meaning.{Meaning, Sectors, Lawful, zeros}
use Rattle.layout.specs.Label.{Field, field, checks_of, first_failing, bad_field, label_in, answered, read_label}
use Rattle.layout.specs.Sizes.{layout_of, slots_of, place_of}
use Rattle.layout.specs.Words.{double_at}
use Rattle.layout.specs.declared.label.Label.{Label}
use Rattle.layout.specs.declared.sizes.Layout.{Layout}
use Rattle.entries.specs.Entry.{entry_in, hold_entry}
use Rattle.places.specs.Places.{Place, place, places, counted_up, Shaped}
use Rattle.places.proofs.Directories.{zero_entry}
use Rattle.places.proofs.Frames.{layouts_sound, dir_below}
use Rattle.plans.specs.Slots.{Job, empty, live, slot_by, decoded, slots_in}
use Rattle.plans.proofs.Entries.{emptied_by}
use Rattle.history.specs.Agreement.{seen, Agrees, Holds}
use Rattle.history.specs.Model.{new_model}
use Rattle.histories.specs.Steps.{State, New}

-- THE LABEL

-- where no field is at fault, each holds
each_holds : (fs : List Field) → first_failing fs ≡ None → (i : ℕ) → (get_or fs i (field 0 true)).holds ≡ true
each_holds [] e i = refl
each_holds (f ∷ fs) e i = at f.holds refl (each_holds fs) e i
  where
    at : (b : Bool) → f.holds ≡ b → (first_failing fs ≡ None → (i : ℕ) → (get_or fs i (field 0 true)).holds ≡ true) → cond b (first_failing fs) (Some f.offset) ≡ None →
        (i : ℕ) → (get_or (f ∷ fs) i (field 0 true)).holds ≡ true
    at false h r e i = cc
    at true h r e zero = h
    at true h r e (suc i) = r e i

-- a card whose label is read lies on its device
label_fits : (n : ℕ) (b : List ℕ) → bad_field n b ≡ None → double_at b 15 ≤ n
unfolding bad_field
label_fits n b e =
    let s : ℕ = double_at b 15 in
    leb-true s n (and_parts (leb s n) (ltb 0 (slots_of s)) (each_holds (checks_of n s b) e 2)).0

none_bad : (o : Option ℕ) (x l : Label) → answered o x ≡ Ok l → (o ≡ None) × (x ≡ l)
none_bad None x l e = (refl, same e)
  where
    same : {a c : Label} → ◌≡◌ {A = Result Label ℕ} (Ok a) (Ok c) → a ≡ c
    same e = cc
none_bad (Some k) x l e = cc

size_fits : (n : ℕ) (b : List ℕ) (l : Label) (size : ℕ) → read_label n b ≡ Ok l → l.layout ≡ layout_of size → size ≤ n
unfolding label_in
size_fits n b l size e f =
    let r = none_bad (bad_field n b) (label_in b) l e in
    let s : double_at b 15 ≡ size = ap (λ (x : Label). x.layout.sectors) r.1 ∙ ap (λ (c : Layout). c.sectors) f in
    omega (arith, label_fits n b r.0)

-- EMPTY SLOTS

zeros_entry : entry_in (zeros 32) ≡ hold_entry 0
unfolding entry_in hold_entry zeros
zeros_entry = refl

new_place : (c : Layout) (s : Sectors) (k : ℕ) → get_or s (place_of k).sector [] ≡ zeros 512 → decoded (place c s k) ≡ empty
unfolding decoded
new_place c s k e =
    let p = place c s k in
    ap (λ (x : List ℕ). slot_by p.slot p.first (entry_in x) p.sectors) (zero_entry c s k e)
    ∙ ap (λ x. slot_by p.slot p.first x p.sectors) zeros_entry ∙ emptied_by p.slot p.first p.sectors

new_slots : (f : ℕ → Place) (i n : ℕ) → ((k : ℕ) → k < i + n → decoded (f k) ≡ empty) → slots_in (counted_up f i n) ≡ map seen (replicate n empty)
new_slots f i zero h = refl
new_slots f i (suc n) h = ap₂ ◌∷◌ (h i (omega arith)) (new_slots f (suc i) n (λ k l. h k (omega arith)))

none_live : (n i : ℕ) (j : Job) → get_or (replicate n empty) i empty ≡ live j → ⊥
none_live n i j e = elim (cases_lt i n) [
  | inl h ↦ let z = get_or-replicate n i empty empty h in cc
  | inr h ↦ let z : get_or (replicate n empty) i empty ≡ empty = get_or_past (replicate n empty) i empty (omega (arith, length-replicate n empty)) in cc
]

new_shaped : (size : ℕ) (m : Meaning) → Lawful m → size ≤ length m.sectors → Shaped (layout_of size) m.sectors
new_shaped size m l h = record { many = h; whole = l.whole; bytes = l.bytes }

pub new_holds : (size : ℕ) (st : State) → New size st → Holds size (new_model (layout_of size).slots) st.device.sectors st.memory
unfolding places
new_holds size st n =
    let s : Sectors = st.device.sectors in
    let c : Layout = layout_of size in
    let fits : size ≤ length s = size_fits (length s) (get_or s 0 []) n.label.0 size n.label.1 n.label.2 in
    record {
      shaped = new_shaped size st.device n.lawful fits;
      label = n.label;
      agrees = subst (λ q. Agrees (replicate c.slots empty) None (counted_up (place c s) 0 c.slots) q.job) (sym n.memory) record {
        same = new_slots (place c s) 0 c.slots (λ k h. new_place c s k (n.directory (place_of k).sector (omega arith) (dir_below c (layouts_sound size) k (omega arith))));
        unique = λ i k a b p q e. absurd (none_live c.slots i a p);
        open' = tt;
      };
      knows = n.memory;
    }
