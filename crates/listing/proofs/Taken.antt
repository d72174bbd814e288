-- Names that are live in a lower slot.
use Rattle.std.proofs.Common.{◌≡◌, ℕ, ◌+◌, ◌<◌, ◌≤◌, min, Bool, true, false, ◌&&◌, ◌||◌, ltb, ◌⊎◌, ◌≢◌, List, [], length, get_or, replicate, set, drop, is_some, Some, None, Option, sym, refl, ap, ◌∙◌, ap₂, inl, inr, arith}
use Rattle.std.proofs.lemmas.Bool.{cases_eq, cases_lt, lt-ltb, le-ltb}
use Rattle.std.proofs.lemmas.List.{take-take, take_all, length-map, get_or-replicate, get_or-set_same, get_or-set_other}
use Rattle.std.specs.Bool.{then_some}
use Rattle.std.specs.Str.{bytes_eq}
use Rattle.std.specs.Option.{option_or}
use Rattle.device.specs.Meaning.{Sectors}
use Rattle.layout.specs.Bytes.{part}
use Rattle.layout.specs.Sizes.{place_of}
use Rattle.layout.specs.declared.sizes.Layout.{Layout}
use Rattle.entries.specs.Entry.{entry_in}
use Rattle.entries.specs.State.{state_of}
use Rattle.entries.specs.declared.entry.Entry.{Entry}
use Rattle.entries.specs.declared.state.EntryState.{EntryState}
use Rattle.entries.specs.declared.state.EntryState.TheVariants.{Live}
use Rattle.places.specs.Places.{Place, places}
use Rattle.places.proofs.Frames.{length-places}
use Rattle.plans.specs.Plans.{place_in}
use Rattle.plans.specs.Slots.{Slot, as_slot, decoded, job_in, lowest, named, slots_in}
use Rattle.volume.specs.Directory.{directory_sector}
use Rattle.volume.proofs.Passes.{below_more, read_off}
use Rattle.listing.specs.Faults.{entry_at, taken_below}

-- the name stands at the front of an entry
pub name_at : (b : List ℕ) (k : ℕ) → (entry_at b k).name ≡ part b (place_of k).offset 16
unfolding entry_in
name_at b k = take-take 16 32 (drop (place_of k).offset b) (omega arith)

-- a live job has the name of its entry
pub live_named : (n : List ℕ) (c : Layout) (k : ℕ) {e e' : Entry} {x : EntryState} (s : Sectors) → e' ≡ e → x ≡ state_of c k e' → x ≡ Live →
    bytes_eq n e'.name ≡ named n (as_slot (state_of c k e) (job_in e s))
unfolding job_in
live_named n c k {e = e} s q f l =
    ap (λ (y : Entry). bytes_eq n y.name) q
    ∙ sym (ap (λ (y : EntryState). named n (as_slot y (job_in e s))) (ap (state_of c k) (sym q) ∙ sym f ∙ l))

-- MARKS

-- those of the first k places that pass are marked, the others are as they were
abbrev pub MarkedTo : (old : List Bool) (p : ℕ → Bool) (k : ℕ) (marks : List Bool) → Type 0
MarkedTo old p k marks = (i : ℕ) → i < 16 → get_or marks i false ≡ (get_or old i false || (ltb i k && p i))

ltb_more : (i k : ℕ) → i ≢ k → ltb i (k + 1) ≡ ltb i k
ltb_more i k n =
    elim (cases_lt i k) [
      | inl h ↦ lt-ltb i (k + 1) (omega arith) ∙ sym (lt-ltb i k h)
      | inr h ↦ le-ltb i (k + 1) (omega arith) ∙ sym (le-ltb i k h)
    ]

or_true : (b : Bool) → true ≡ (b || true)
or_true true = refl
or_true false = refl

pub marked_more : (old : List Bool) (p : ℕ → Bool) (k : ℕ) (marks : List Bool) → length marks ≡ 16 → k < 16 → p k ≡ true → MarkedTo old p k marks → MarkedTo old p (k + 1) (set marks k true)
marked_more old p k marks l h e f = λ i j.
    elim (cases_eq i k) [
      | inl q ↦
          ap (λ (n : ℕ). get_or (set marks k true) n false) q ∙ get_or-set_same marks k true false (omega arith) ∙ or_true (get_or old i false)
          ∙ ap (λ (b : Bool). get_or old i false || b) (sym (ap₂ ◌&&◌ (lt-ltb i (k + 1) (omega arith)) (ap p q ∙ e)))
      | inr n ↦
          get_or-set_other marks k i true false n ∙ f i j
          ∙ ap (λ (b : Bool). get_or old i false || (b && p i)) (sym (ltb_more i k n))
    ]

pub marked_same : (old : List Bool) (p : ℕ → Bool) (k : ℕ) (marks : List Bool) → p k ≡ false → MarkedTo old p k marks → MarkedTo old p (k + 1) marks
marked_same old p k marks e f = λ i j.
    elim (cases_eq i k) [
      | inl q ↦
          f i j
          ∙ ap (λ (b : Bool). get_or old i false || b)
          (ap (λ (b : Bool). b && p i) (le-ltb i k (omega arith)) ∙ sym (ap₂ ◌&&◌ (lt-ltb i (k + 1) (omega arith)) (ap p q ∙ e)))
      | inr n ↦ f i j ∙ ap (λ (b : Bool). get_or old i false || (b && p i)) (sym (ltb_more i k n))
    ]

-- NAMES IN LOWER SLOTS

some_or : (o : Option ℕ) (h : Bool) (k : ℕ) → is_some (option_or o (then_some h k)) ≡ (is_some o || h)
some_or (Some j) h k = refl
some_or None true k = refl
some_or None false k = refl

taken_more : (ps : List Place) (n : List ℕ) (k : ℕ) → k < length ps → taken_below (slots_in ps) n (k + 1) ≡ (taken_below (slots_in ps) n k || named n (decoded (place_in ps k)))
taken_more ps n k h = ap is_some (below_more (named n) ps k h) ∙ some_or _ (named n (decoded (place_in ps k))) k

-- the slots below k were looked at, for the sixteen entries from number a on in their directory sector b: those are
-- marked whose name is live in one of them, and lower than the entry
pub record Marked (c : Layout) (s : Sectors) (a : ℕ) (b : List ℕ) (k : ℕ) (marks : List Bool) : Type 0 where
  pub each : (i : ℕ) → i < 16 → get_or marks i false ≡ taken_below (slots_in (places c s)) (entry_at b (a + i)).name (min k (a + i))

none_marked : (i n : ℕ) → i < n → get_or (replicate n false) i false ≡ false
none_marked i n h = get_or-replicate n i false false h

pub marked_none : (c : Layout) (s : Sectors) (a : ℕ) (b : List ℕ) → Marked c s a b 0 (replicate 16 false)
marked_none c s a b = record {
  each = λ i h.
      let e : min 0 (a + i) ≡ 0 = omega arith in
      none_marked i 16 h ∙ ap (taken_below (slots_in (places c s)) (entry_at b (a + i)).name) (sym e);
}

-- slot k, whose directory sector is x
pub marked_slot : (c : Layout) (s : Sectors) (a : ℕ) (b : List ℕ) (k : ℕ) {x : List ℕ} {marks : List Bool} (marks' : List Bool) → k < c.slots → x ≡ directory_sector s k →
    (((y : Sectors) (i : ℕ) → i < 16 → get_or marks' i false ≡ (get_or marks i false || (ltb k (a + i) && named (entry_at b (a + i)).name (as_slot (state_of c k (entry_at x k)) (job_in (entry_at x k) y)))))) →
    Marked c s a b k marks → Marked c s a b (k + 1) marks'
marked_slot c s a b k {x = x} {marks = marks} marks' h d f m = record {
  each = λ i j.
      let ps = places c s in
      let n = (entry_at b (a + i)).name in
      let o = read_off c s k {e = entry_at x k} {x = state_of c k (entry_at x k)} h d refl refl in
      let g : get_or marks' i false ≡ (get_or marks i false || (ltb k (a + i) && named n (decoded (place_in ps k)))) =
      f (place_in ps k).sectors i j ∙ ap (λ (y : Slot). get_or marks i false || (ltb k (a + i) && named n y)) (sym o.slot) in
      elim (cases_lt k (a + i)) [
        | inl l ↦
            let p : min k (a + i) ≡ k = omega arith in
            let q : k + 1 ≡ min (k + 1) (a + i) = omega arith in
            g
            ∙ ap₂ (λ (u v : Bool). u || (v && named n (decoded (place_in ps k)))) (m.each i j ∙ ap (taken_below (slots_in ps) n) p) (lt-ltb k (a + i) l)
            ∙ sym (taken_more ps n k (omega (arith, length-places c s))) ∙ ap (taken_below (slots_in ps) n) q
        | inr l ↦
            let p : min k (a + i) ≡ min (k + 1) (a + i) = omega arith in
            g
            ∙ ap (λ (v : Bool). get_or marks i false || (v && named n (decoded (place_in ps k)))) (le-ltb k (a + i) l)
            ∙ or_false (get_or marks i false) ∙ m.each i j ∙ ap (taken_below (slots_in ps) n) p
      ];
}
  where
    or_false : (b : Bool) → (b || false) ≡ b
    or_false true = refl
    or_false false = refl

-- no slot is left
past : (xs : List Slot) (n : List ℕ) (j k : ℕ) → length xs ≤ j → length xs ≤ k → taken_below xs n j ≡ taken_below xs n k
past xs n j k h l = ap (λ (ys : List Slot). is_some (lowest (named n) ys)) (take_all j xs h ∙ sym (take_all k xs l))

slots_long : (c : Layout) (s : Sectors) → length (slots_in (places c s)) ≡ c.slots
slots_long c s = length-map (places c s) decoded ∙ length-places c s

-- the lower sectors are done: the entries' own follows
pub marked_lower : (c : Layout) (s : Sectors) (a : ℕ) (b : List ℕ) (k : ℕ) {marks : List Bool} → k ≤ a → min a c.slots ≤ k → Marked c s a b k marks → Marked c s a b a marks
marked_lower c s a b k h l m = record {
  each = λ i j.
      let xs = slots_in (places c s) in
      let n = (entry_at b (a + i)).name in
      m.each i j
      ∙ elim (cases_lt k a) [
        | inl q ↦ past xs n (min k (a + i)) (min a (a + i)) (omega (arith, slots_long c s)) (omega (arith, slots_long c s))
        | inr q ↦ let e : k ≡ a = omega arith in ap (λ (y : ℕ). taken_below xs n (min y (a + i))) e
      ];
}

-- all slots that may lie below one of the entries are done
pub marked_all : (c : Layout) (s : Sectors) (a : ℕ) (b : List ℕ) (k : ℕ) {marks : List Bool} → (a + 16 ≤ k) ⊎ (c.slots ≤ k) → Marked c s a b k marks →
    (i : ℕ) → i < 16 → get_or marks i false ≡ taken_below (slots_in (places c s)) (entry_at b (a + i)).name (a + i)
marked_all c s a b k h m = λ i j.
    let xs = slots_in (places c s) in
    let n = (entry_at b (a + i)).name in
    m.each i j
    ∙ elim (cases_lt k (a + i)) [
      | inl q ↦ elim h [
        | inl o ↦ absurd (omega arith)
        | inr o ↦ past xs n (min k (a + i)) (a + i) (omega (arith, slots_long c s)) (omega (arith, slots_long c s))
      ]
      | inr q ↦ let e : min k (a + i) ≡ a + i = omega arith in ap (taken_below xs n) e
    ]

-- the entries from number a on stand in one directory sector
pub own_sector : (s : Sectors) (a k : ℕ) {b : List ℕ} → (place_of a).offset ≡ 0 → a ≤ k → k < a + 16 → b ≡ directory_sector s a → b ≡ directory_sector s k
own_sector s a k z h l e =
    let q : (place_of a).sector ≡ (place_of k).sector = omega arith in
    e ∙ ap (λ (n : ℕ). get_or s n []) q
