-- Searches through the slots of a card: what a slot that is found says of its job, and what it says if none is.
use Rattle.std.proofs.Common.{◌≡◌, ℕ, ◌<◌, ◌≤◌, true, false, ◌≢◌, ◌⊎◌, List, length, get_or, Some, None, sym, ap, ◌∙◌, subst, inl, inr, arith}
use Rattle.std.proofs.lemmas.Slice.Eq.{bytes_eq-Decides}
use Rattle.std.proofs.lemmas.List.{get_or-map, get_or_past, length-map}
use Rattle.std.proofs.lemmas.Bool.{both_ways, cases_lt, cases_order}
use Rattle.layout.specs.Names.{padded}
use Rattle.places.specs.Places.{Place, no_place}
use Rattle.plans.specs.Slots.{Job, Slot, empty, live, erased, decoded, slots_in, usable, named, is_live, is_erased, job_of, lowest}
use Rattle.plans.specs.Plans.{place_in, slot_named}
use Rattle.plans.specs.Cases.{Not, LiveAt, HasJob, NamedJob, UsableAt}
use Rattle.plans.proofs.Lowest.{lowest_some, lowest_none, named_live, usable_is}

-- SLOTS

pub live_same : {i j : Job} → live i ≡ live j → i ≡ j
live_same e = cc

-- a place on the card and its slot
pub slot_at : (ps : List Place) (k : ℕ) → k < length ps → get_or (slots_in ps) k empty ≡ decoded (place_in ps k)
slot_at ps k h = get_or-map decoded ps k no_place empty h

-- past the last slot all are empty
taken_inside : (ps : List Place) (k : ℕ) → get_or (slots_in ps) k empty ≢ empty → k < length ps
taken_inside ps k f = at (cases_lt k (length ps))
  where
    at : (k < length ps) ⊎ (length ps ≤ k) → k < length ps
    at (inl h) = h
    at (inr h) = absurd (f (get_or_past (slots_in ps) k empty (omega (arith, length-map ps decoded))))

live_inside : (ps : List Place) (k : ℕ) (j : Job) → LiveAt ps k j → k < length ps
live_inside ps k j e = taken_inside ps k (λ h. let z = ap is_live (sym h ∙ e) in cc)

pub erased_inside : (ps : List Place) (k : ℕ) (j : Job) → get_or (slots_in ps) k empty ≡ erased j → k < length ps
erased_inside ps k j e = taken_inside ps k (λ h. let z = ap is_erased (sym h ∙ e) in cc)

-- JOBS OF A PADDED NAME

slots_inside : (ps : List Place) (k : ℕ) → k < length ps → k < length (slots_in ps)
slots_inside ps k h = omega (arith, length-map ps decoded)

pub live_found : (ps : List Place) (m : List ℕ) (k : ℕ) → lowest (named m) (slots_in ps) ≡ Some k → (j : Job) × LiveAt ps k j × (j.name ≡ m)
live_found ps m k e =
    let p = named_live m (get_or (slots_in ps) k empty) (lowest_some (named m) (slots_in ps) empty k e).passes in
    (p.0, p.1, sym ((bytes_eq-Decides m p.0.name).0 p.2))

-- a live job that does not pass the test has another name
other_name : (ps : List Place) (m : List ℕ) (k : ℕ) (j : Job) → LiveAt ps k j → named m (get_or (slots_in ps) k empty) ≡ false → j.name ≢ m
other_name ps m k j l e f =
    both_ways (named m (live j)) (ap (named m) (sym l) ∙ e) ((bytes_eq-Decides m j.name).1 (sym f))

pub live_missing : (ps : List Place) (m : List ℕ) → lowest (named m) (slots_in ps) ≡ None → (k : ℕ) (j : Job) → LiveAt ps k j → j.name ≢ m
live_missing ps m e k j l =
    other_name ps m k j l (lowest_none (named m) (slots_in ps) empty e k (slots_inside ps k (live_inside ps k j l)))

-- JOBS OF A NAME

pub named_found : (ps : List Place) (n : List ℕ) (k : ℕ) → slot_named ps n ≡ Some k → NamedJob ps n (job_of (decoded (place_in ps k)))
named_found ps n k e =
    let p = live_found ps (padded n) k e in
    let w = lowest_some (named (padded n)) (slots_in ps) empty k e in
    let here : decoded (place_in ps k) ≡ live p.0 = sym (slot_at ps k (live_inside ps k p.0 p.1)) ∙ p.1 in
    subst (NamedJob ps n) (sym (ap job_of here))
    (record { slot = k; lives = p.1; name = p.2; lowest = λ i other h l. other_name ps (padded n) i other l (w.below i h) })

pub named_has : (ps : List Place) (n : List ℕ) (j : Job) → NamedJob ps n j → HasJob ps n
named_has ps n j d = (d.slot, j, d.lives, d.name)

pub has_found : (ps : List Place) (n : List ℕ) (k : ℕ) → slot_named ps n ≡ Some k → HasJob ps n
has_found ps n k e = let p = live_found ps (padded n) k e in (k, p.0, p.1, p.2)

pub has_missing : (ps : List Place) (n : List ℕ) → slot_named ps n ≡ None → Not (HasJob ps n)
has_missing ps n e d = live_missing ps (padded n) e d.0 d.1 d.2 d.3

-- a name means one job
pub named_once : (ps : List Place) (n : List ℕ) (i j : Job) → NamedJob ps n i → NamedJob ps n j → i ≡ j
named_once ps n i j a b = at (cases_order a.slot b.slot)
  where
    at : (a.slot ≡ b.slot) ⊎ ((a.slot < b.slot) ⊎ (b.slot < a.slot)) → i ≡ j
    at (inl e) = live_same (sym a.lives ∙ (ap (λ k. get_or (slots_in ps) k empty) e ∙ b.lives))
    at (inr (inl h)) = absurd (b.lowest a.slot i h a.lives a.name)
    at (inr (inr h)) = absurd (a.lowest b.slot j h b.lives b.name)

-- SLOTS FOR NEW JOBS

pub usable_found : (ps : List Place) (k : ℕ) → lowest usable (slots_in ps) ≡ Some k → UsableAt ps k
usable_found ps k e =
    let w = lowest_some usable (slots_in ps) empty k e in
    (omega (arith, w.inside, length-map ps decoded), usable_is (get_or (slots_in ps) k empty) w.passes)

is_usable : (y : Slot) → (y ≡ empty) ⊎ ((j : Job) × (y ≡ erased j)) → usable y ≡ true
is_usable y (inl e) = ap usable e
is_usable y (inr e) = ap usable e.1

pub usable_missing : (ps : List Place) → lowest usable (slots_in ps) ≡ None → (k : ℕ) → Not (UsableAt ps k)
usable_missing ps e k u =
    let y = get_or (slots_in ps) k empty in
    both_ways (usable y) (lowest_none usable (slots_in ps) empty e k (slots_inside ps k u.0)) (is_usable y u.1)
