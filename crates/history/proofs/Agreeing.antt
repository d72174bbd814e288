-- Agreement of model and card, slot by slot: what the card shows of a slot, and a slot changed in both.
use Rattle.std.proofs.Common.{◌≡◌, ℕ, zero, suc, ◌<◌, Bool, true, false, cond, ◌≢◌, List, [], ◌∷◌, map, length, get_or, set, Some, None, Option, sym, refl, ap, ◌∙◌, ap₂, inl, inr, arith}
use Rattle.std.proofs.lemmas.List.{map-set, length-map, length-set, get_or-map, get_or-set_same, get_or-set_other, get_or_past}
use Rattle.std.proofs.lemmas.Slice.Eq.{bytes_eq-Decides}
use Rattle.std.proofs.lemmas.Bool.{cases_lt, cases_eq, false≢true}
use Rattle.std.specs.Str.{bytes_eq}
use Rattle.places.specs.Places.{Place, no_place}
use Rattle.plans.specs.Slots.{Job, Slot, empty, held, live, erased, damaged, decoded, slots_in, usable, named, is_live, lowest, one_up}
use Rattle.plans.specs.Memory.{OpenJob}
use Rattle.plans.specs.Plans.{place_in}
use Rattle.plans.proofs.Lowest.{Lowest, lowest_some, lowest_none, named_live}
use Rattle.plans.proofs.Named.{live_same}
use Rattle.history.specs.Model.{Waiting}
use Rattle.history.specs.Agreement.{seen, Unique, Opens, Agrees}

-- WHAT THE CARD SHOWS

pub usable_seen : (x : Slot) → usable (seen x) ≡ usable x
usable_seen empty = refl
usable_seen (held n) = refl
usable_seen (live j) = refl
usable_seen (erased j) = refl
usable_seen damaged = refl

pub named_seen : (n : List ℕ) (x : Slot) → named n (seen x) ≡ named n x
named_seen n empty = refl
named_seen n (held k) = refl
named_seen n (live j) = refl
named_seen n (erased j) = refl
named_seen n damaged = refl

-- what is shown as live is so
pub seen_live : (x : Slot) (j : Job) → seen x ≡ live j → x ≡ live j
seen_live empty j e = e
seen_live (held n) j e = e
seen_live (live i) j e = e
seen_live (erased i) j e = cc
seen_live damaged j e = e

lowest_seen : (p : Slot → Bool) → ((x : Slot) → p (seen x) ≡ p x) → (xs : List Slot) → lowest p (map seen xs) ≡ lowest p xs
lowest_seen p h [] = refl
lowest_seen p h (x ∷ xs) = ap₂ (λ (b : Bool) (o : Option ℕ). cond b (Some 0) (one_up o)) (h x) (lowest_seen p h xs)

pub get_or-seen : (xs : List Slot) (k : ℕ) → get_or (map seen xs) k empty ≡ seen (get_or xs k empty)
get_or-seen [] k = refl
get_or-seen (x ∷ xs) zero = refl
get_or-seen (x ∷ xs) (suc k) = get_or-seen xs k

-- a search on the card finds what it finds in the model
pub lowest_same : {xs : List Slot} {w : Option Waiting} {ps : List Place} {o : Option OpenJob} → Agrees xs w ps o → (p : Slot → Bool) → ((x : Slot) → p (seen x) ≡ p x) →
    lowest p (slots_in ps) ≡ lowest p xs
lowest_same {xs = xs} a p h = ap (lowest p) a.same ∙ lowest_seen p h xs

pub slot_shown : {xs : List Slot} {w : Option Waiting} {ps : List Place} {o : Option OpenJob} → Agrees xs w ps o → (k : ℕ) → k < length ps →
    decoded (place_in ps k) ≡ seen (get_or xs k empty)
slot_shown {xs = xs} {ps = ps} a k h = sym (get_or-map decoded ps k no_place empty h) ∙ (ap (λ (z : List Slot). get_or z k empty) a.same ∙ get_or-seen xs k)

pub same_length : {xs : List Slot} {w : Option Waiting} {ps : List Place} {o : Option OpenJob} → Agrees xs w ps o → length xs ≡ length ps
same_length {xs = xs} {ps = ps} a = sym (length-map xs seen) ∙ (ap length (sym a.same) ∙ length-map ps decoded)

-- a slot found by a search, in the model and on the card
pub record Hit (xs : List Slot) (ps : List Place) (p : Slot → Bool) (k : ℕ) : Type 0 where
  pub inside : k < length ps
  pub within : k < length xs
  pub at : lowest p xs ≡ Some k
  pub passes : p (get_or xs k empty) ≡ true
  pub shows : decoded (place_in ps k) ≡ seen (get_or xs k empty)

pub hit : {xs : List Slot} {w : Option Waiting} {ps : List Place} {o : Option OpenJob} → Agrees xs w ps o → (p : Slot → Bool) → ((x : Slot) → p (seen x) ≡ p x) → (k : ℕ) →
    lowest p (slots_in ps) ≡ Some k → Hit xs ps p k
hit {xs = xs} {ps = ps} a p h k e =
    let q : lowest p xs ≡ Some k = sym (lowest_same a p h) ∙ e in
    let f : Lowest p xs empty k = lowest_some p xs empty k q in
    let i : k < length ps = omega (arith, f.inside, same_length a) in
    record { inside = i; within = f.inside; at = q; passes = f.passes; shows = slot_shown a k i }

-- SEARCHES BY NAME

-- the slot of a name that is live: its job
pub record Named (xs : List Slot) (ps : List Place) (n : List ℕ) (k : ℕ) (j : Job) : Type 0 where
  pub inside : k < length ps
  pub within : k < length xs
  pub at : lowest (named n) xs ≡ Some k
  pub slot : get_or xs k empty ≡ live j
  pub name : j.name ≡ n
  pub shows : decoded (place_in ps k) ≡ live j

pub named_hit : {xs : List Slot} {w : Option Waiting} {ps : List Place} {o : Option OpenJob} → Agrees xs w ps o → (n : List ℕ) (k : ℕ) →
    lowest (named n) (slots_in ps) ≡ Some k → (j : Job) × Named xs ps n k j
named_hit {xs = xs} a n k e =
    let f = hit a (named n) (named_seen n) k e in
    let l = named_live n (get_or xs k empty) f.passes in (
      l.0,
      record {
        inside = f.inside;
        within = f.within;
        at = f.at;
        slot = l.1;
        name = sym ((bytes_eq-Decides n l.0.name).0 l.2);
        shows = f.shows ∙ ap seen l.1;
      },
    )

-- a name that no slot of the card has, no slot of the model has
pub not_named : {xs : List Slot} {w : Option Waiting} {ps : List Place} {o : Option OpenJob} → Agrees xs w ps o → (n : List ℕ) → lowest (named n) (slots_in ps) ≡ None →
    (i : ℕ) (a : Job) → get_or xs i empty ≡ live a → a.name ≢ n
not_named {xs = xs} g n e i a l f =
    elim (cases_lt i (length xs)) [
      | inr h ↦ let z = get_or_past xs i empty h in cc
      | inl h ↦
          let t : named n (get_or xs i empty) ≡ true = ap (named n) l ∙ (ap (bytes_eq n) f ∙ (bytes_eq-Decides n n).1 refl) in
          false≢true (sym (lowest_none (named n) xs empty (sym (lowest_same g (named n) (named_seen n)) ∙ e) i h) ∙ t)
    ]

-- A SLOT CHANGED

pub same_set : (xs : List Slot) (ps : List Place) → slots_in ps ≡ map seen xs → (k : ℕ) (y : Slot) (p : Place) → decoded p ≡ seen y → slots_in (set ps k p) ≡ map seen (set xs k y)
same_set xs ps e k y p d = map-set decoded ps k p ∙ (ap₂ (λ (z : List Slot) (u : Slot). set z k u) e d ∙ sym (map-set seen xs k y))

-- a slot that gets no live job, or one of a name that no other has
pub unique_set : (xs : List Slot) → Unique xs → (k : ℕ) (y : Slot) → ((j : Job) → y ≡ live j → (i : ℕ) (a : Job) → i ≢ k → get_or xs i empty ≡ live a → a.name ≢ j.name) →
    Unique (set xs k y)
unique_set xs u k y h i l a b p q e =
    elim (cases_eq i k) [
      | inl f ↦ elim (cases_eq l k) [
        | inl g ↦ f ∙ sym g
        | inr g ↦ absurd (h a (new i a f p) l b g (sym (get_or-set_other xs k l y empty g) ∙ q) (sym e))
      ]
      | inr f ↦ elim (cases_eq l k) [
        | inl g ↦ absurd (h b (new l b g q) i a f (sym (get_or-set_other xs k i y empty f) ∙ p) e)
        | inr g ↦ u i l a b (sym (get_or-set_other xs k i y empty f) ∙ p) (sym (get_or-set_other xs k l y empty g) ∙ q) e
      ]
    ]
  where
    new : (i : ℕ) (a : Job) → i ≡ k → get_or (set xs k y) i empty ≡ live a → y ≡ live a
    new i a f p = elim (cases_lt k (length xs)) [
      | inl h ↦ sym (get_or-set_same xs k y empty h) ∙ (ap (λ (z : ℕ). get_or (set xs k y) z empty) (sym f) ∙ p)
      | inr h ↦ let z : get_or (set xs k y) i empty ≡ empty = get_or_past (set xs k y) i empty (omega (arith, length-set xs k y)) in cc
    ]

-- the open job is in another slot than k
abbrev pub Apart : Option Waiting → ℕ → Type 0
Apart None k = Unit {0}
Apart (Some w) k = w.slot ≢ k

pub opens_apart : (o : Option OpenJob) (w : Option Waiting) (xs : List Slot) (ps : List Place) (k : ℕ) (y : Slot) (p : Place) → Apart w k → Opens o w xs ps →
    Opens o w (set xs k y) (set ps k p)
opens_apart None None xs ps k y p f g = tt
opens_apart None (Some w) xs ps k y p f g = absurd g
opens_apart (Some o) None xs ps k y p f g = absurd g
opens_apart (Some o) (Some w) xs ps k y p f g = rw (get_or-set_other xs k w.slot y empty f, get_or-set_other ps k w.slot p no_place f) g

pub agrees_set : {xs : List Slot} {w : Option Waiting} {ps : List Place} {o : Option OpenJob} → Agrees xs w ps o → (k : ℕ) (y : Slot) (p : Place) → decoded p ≡ seen y →
    Unique (set xs k y) → Apart w k → Agrees (set xs k y) w (set ps k p) o
agrees_set {xs = xs} {w = w} {ps = ps} {o = o} a k y p d u f =
    record { same = same_set xs ps a.same k y p d; unique = u; open' = opens_apart o w xs ps k y p f a.open' }

-- a slot without a live job is not the open one
pub not_live_apart : (o : Option OpenJob) (w : Option Waiting) (xs : List Slot) (ps : List Place) (k : ℕ) → is_live (get_or xs k empty) ≡ false → Opens o w xs ps → Apart w k
not_live_apart o None xs ps k f g = tt
not_live_apart None (Some w) xs ps k f g = absurd g
not_live_apart (Some o) (Some w) xs ps k f g =
    λ e. false≢true (sym f ∙ (ap (λ (z : ℕ). is_live (get_or xs z empty)) (sym e) ∙ ap is_live g.lives))

pub usable_not_live : (x : Slot) → usable x ≡ true → is_live x ≡ false
usable_not_live empty e = refl
usable_not_live (held n) e = refl
usable_not_live (live j) e = cc
usable_not_live (erased j) e = refl
usable_not_live damaged e = refl

-- the open job is not one of another name
abbrev pub OtherName : Option OpenJob → List ℕ → Type 0
OtherName None n = Unit {0}
OtherName (Some o) n = o.name ≢ n

pub other_apart : (o : Option OpenJob) (w : Option Waiting) (xs : List Slot) (ps : List Place) (k : ℕ) (j : Job) → get_or xs k empty ≡ live j → OtherName o j.name → Opens o w xs ps →
    Apart w k
other_apart o None xs ps k j l f g = tt
other_apart None (Some w) xs ps k j l f g = absurd g
other_apart (Some o) (Some w) xs ps k j l f g =
    λ e. f (g.name ∙ ap (λ (i : Job). i.name) (live_same (sym g.lives ∙ (ap (λ (z : ℕ). get_or xs z empty) e ∙ l))))
