-- Passes over the directory, slot by slot, and what they find.
use Rattle.std.proofs.Common.{◌≡◌, ℕ, suc, ◌+◌, ◌<◌, ◌≤◌, Bool, true, false, cond, List, [], ◌∷◌, ◌++◌, length, get_or, take, drop, Some, None, Option, sym, refl, ap, ◌∙◌, subst, ap₂, inl, inr, arith}
use Rattle.std.proofs.lemmas.List.{length-map, get_or-map, take_more, take_all, length-take-le, take-append-drop}
use Rattle.std.proofs.lemmas.Bool.{cases_eq}
use Rattle.std.specs.Option.{option_or}
use Rattle.std.specs.Bool.{then_some}
use Rattle.device.specs.Meaning.{Meaning, Sectors, MayAccept}
use Rattle.layout.specs.Bytes.{part}
use Rattle.layout.specs.Sizes.{place_of}
use Rattle.layout.specs.declared.sizes.Layout.{Layout}
use Rattle.entries.specs.Entry.{entry_in}
use Rattle.entries.specs.State.{state_of}
use Rattle.entries.specs.declared.entry.Entry.{Entry}
use Rattle.entries.specs.declared.state.EntryState.{EntryState}
use Rattle.places.specs.Places.{Place, places, no_place}
use Rattle.places.proofs.Directories.{inner, next_same}
use Rattle.places.proofs.Frames.{length-places}
use Rattle.plans.specs.Plans.{place_in, entry_of}
use Rattle.plans.specs.Slots.{Slot, empty, job_in, as_slot, decoded, slots_in, one_up, lowest}
use Rattle.volume.specs.Directory.{Room, directory_sector, Turned, found_in, Passed, InSlots}
use Rattle.volume.specs.declared.found.Found.{Found}
use Rattle.volume.proofs.Glue.{room_same, entry_at, decoded_as}

-- THE DIRECTORY SECTOR BY SECTOR

-- the slots below k were looked at, and the buffer holds the sector of slot k unless k is its first
pub record Looked (m m₁ : Meaning) (k : ℕ) (b : List ℕ) : Type 0 where
  pub same : m₁ ≡ m
  pub accepted : 0 < k → MayAccept m.condition
  pub holds : ((place_of k).offset ≡ 0 → ⊥) → b ≡ directory_sector m.sectors k

pub looked_none : (m : Meaning) (b : List ℕ) → Looked m m 0 b
looked_none m b = record { same = refl; accepted = λ h. absurd (omega arith); holds = λ h. absurd (h refl) }

-- the buffer turned to slot k holds its directory sector
pub turned_to : {m m₁ m₂ : Meaning} {k : ℕ} {b b' : List ℕ} → Looked m m₁ k b → Turned m₁ m₂ k b b' → b' ≡ directory_sector m.sectors k
turned_to {m₂ = m₂} {k = k} {b = b} {b' = b'} p q =
    let q' = subst (λ (z : Meaning). Turned z m₂ k b b') p.same q in
    elim (cases_eq (place_of k).offset 0) [ inl e ↦ (q'.first_there e).1 | inr e ↦ q'.further e ∙ p.holds e ]

pub looked_more : {m m₁ m₂ : Meaning} {k : ℕ} {b b' : List ℕ} → Looked m m₁ k b → Turned m₁ m₂ k b b' → Looked m m₂ (k + 1) b'
looked_more {m = m} {m₂ = m₂} {k = k} {b = b} {b' = b'} p q =
    let q' = subst (λ (z : Meaning). Turned z m₂ k b b') p.same q in
    record {
      same = q'.same;
      accepted = λ _. elim (cases_eq (place_of k).offset 0) [ inl e ↦ (q'.first_there e).0 | inr e ↦ p.accepted (inner k e) ];
      holds = λ e. turned_to p q ∙ ap (λ (n : ℕ). get_or m.sectors n []) (next_same k e);
    }

-- the sector of a slot is still there
pub looked_in : {c : Layout} {m m₁ : Meaning} {k : ℕ} {b : List ℕ} → Looked m m₁ k b → Room c m → k < c.slots → (place_of k).sector < length m₁.sectors
looked_in {c = c} {k = k} p h l = (room_same {c = c} p.same h).listed k l

-- the pass is over
pub passed : {c : Layout} {m m₁ : Meaning} {k : ℕ} {b : List ℕ} → Looked m m₁ k b → (0 < c.slots → 0 < k) → Passed c m m₁
passed p h = record { same = p.same; was_read = λ z. p.accepted (h z) }

-- THE ENTRY AND ITS STATE

-- entry and state of slot k, on the sectors s
pub record ReadOff (c : Layout) (s : Sectors) (k : ℕ) (e : Entry) (x : EntryState) : Type 0 where
  pub entry : e ≡ entry_of (place_in (places c s) k)
  pub slot : decoded (place_in (places c s) k) ≡ as_slot x (job_in e (place_in (places c s) k).sectors)

pub read_off : (c : Layout) (s : Sectors) (k : ℕ) {b : List ℕ} {e : Entry} {x : EntryState} → k < c.slots → b ≡ directory_sector s k → e ≡ entry_in (part b (place_of k).offset 32) → x ≡ state_of c k e → ReadOff c s k e x
read_off c s k {e = y} h d e f =
    let i : y ≡ entry_of (place_in (places c s) k) = e ∙ ap (λ (z : List ℕ). entry_in (part z (place_of k).offset 32)) d ∙ sym (entry_at c s k h) in
    record { entry = i; slot = decoded_as c s k h i f }

-- THE LOWEST THAT PASSES

-- one more at the end
one_up_or : (o : Option ℕ) (h : Bool) (n : ℕ) → one_up (option_or o (then_some h n)) ≡ option_or (one_up o) (then_some h (suc n))
one_up_or (Some k) h n = refl
one_up_or None true n = refl
one_up_or None false n = refl

lowest_push : {X : Type 0} (p : X → Bool) (ys : List X) (y : X) → lowest p (ys ++ (y ∷ [])) ≡ option_or (lowest p ys) (then_some (p y) (length ys))
lowest_push p [] y = at (p y)
  where
    at : (b : Bool) → cond {A = Option ℕ} b (Some 0) None ≡ then_some b 0
    at true = refl
    at false = refl
lowest_push p (x ∷ ys) y = at (p x) (lowest_push p ys y)
  where
    at : (b : Bool) → lowest p (ys ++ (y ∷ [])) ≡ option_or (lowest p ys) (then_some (p y) (length ys)) →
        cond b (Some 0) (one_up (lowest p (ys ++ (y ∷ [])))) ≡ option_or (cond b (Some 0) (one_up (lowest p ys))) (then_some (p y) (suc (length ys)))
    at true e = refl
    at false e = ap one_up e ∙ one_up_or (lowest p ys) (p y) (length ys)

lowest_first : {X : Type 0} (p : X → Bool) (ys zs : List X) (k : ℕ) → lowest p ys ≡ Some k → lowest p (ys ++ zs) ≡ Some k
lowest_first p [] zs k e = cc
lowest_first p (x ∷ ys) zs k e = at (p x) (lowest p ys) (lowest_first p ys zs) k e
  where
    at : (b : Bool) (o : Option ℕ) → ((j : ℕ) → o ≡ Some j → lowest p (ys ++ zs) ≡ Some j) → (k : ℕ) → cond b (Some 0) (one_up o) ≡ Some k → cond b (Some 0) (one_up (lowest p (ys ++ zs))) ≡ Some k
    at true o f k e = e
    at false None f k e = cc
    at false (Some j) f k e = ap one_up (f j refl) ∙ e

-- the lowest of the first k slots that passes
abbrev pub lowest_below : (Slot → Bool) → List Place → ℕ → Option ℕ
lowest_below p ps k = lowest p (take k (slots_in ps))

pub below_more : (p : Slot → Bool) (ps : List Place) (k : ℕ) → k < length ps → lowest_below p ps (k + 1) ≡ option_or (lowest_below p ps k) (then_some (p (decoded (place_in ps k))) k)
below_more p ps k h =
    let n : k < length (slots_in ps) = rw length-map h in
    let l : length (take k (slots_in ps)) ≡ k = length-take-le k (slots_in ps) (omega arith) in
    ap (lowest p) (take_more (slots_in ps) k empty n)
    ∙ lowest_push p (take k (slots_in ps)) (get_or (slots_in ps) k empty)
    ∙ ap₂ (λ (y : Slot) (i : ℕ). option_or (lowest_below p ps k) (then_some (p y) i)) (get_or-map decoded ps k no_place empty h) l

below_all : (p : Slot → Bool) (ps : List Place) (k : ℕ) → length ps ≤ k → lowest_below p ps k ≡ lowest p (slots_in ps)
below_all p ps k h = ap (lowest p) (take_all k (slots_in ps) (rw length-map h))

below_found : (p : Slot → Bool) (ps : List Place) (k j : ℕ) → lowest_below p ps k ≡ Some j → lowest p (slots_in ps) ≡ Some j
below_found p ps k j e =
    ap (lowest p) (sym (take-append-drop k (slots_in ps))) ∙ lowest_first p (take k (slots_in ps)) (drop k (slots_in ps)) j e

-- WHAT A PASS FINDS

abbrev found_at : ℕ → Entry → Found
found_at k e = record { slot = k; entry = e }

found_or : (ps : List Place) (o : Option ℕ) (h : Bool) (k : ℕ) → found_in ps (option_or o (then_some h k)) ≡ option_or (found_in ps o) (then_some h (found_at k (entry_of (place_in ps k))))
found_or ps (Some j) h k = refl
found_or ps None true k = refl
found_or ps None false k = refl

inside : (c : Layout) (s : Sectors) (k : ℕ) → k < c.slots → k < length (places c s)
inside c s k h = rw (length-places c s) h

-- one slot further
pub found_more : (p : Slot → Bool) (c : Layout) (s : Sectors) (k : ℕ) {e : Entry} {x : EntryState} {h : Bool} {o o' : Option Found} {w : Option Found} → k < c.slots → ReadOff c s k e x →
    h ≡ p (as_slot x (job_in e (place_in (places c s) k).sectors)) → w ≡ then_some h (found_at k e) → o' ≡ option_or o w →
    o ≡ found_in (places c s) (lowest_below p (places c s) k) → o' ≡ found_in (places c s) (lowest_below p (places c s) (k + 1))
found_more p c s k l r h w q z =
    let ps = places c s in
    q
    ∙ ap₂ option_or z (w ∙ ap₂ (λ (b : Bool) (y : Entry). then_some b (found_at k y)) (h ∙ ap p (sym r.slot)) r.entry)
    ∙ sym (ap (found_in ps) (below_more p ps k (inside c s k l)) ∙ found_or ps (lowest_below p ps k) (p (decoded (place_in ps k))) k)

-- all slots
pub found_all : (p : Slot → Bool) (c : Layout) (s : Sectors) (k : ℕ) {o : Option Found} → k ≡ c.slots → o ≡ found_in (places c s) (lowest_below p (places c s) k) →
    o ≡ found_in (places c s) (lowest p (slots_in (places c s)))
found_all p c s k e z = z ∙ ap (found_in (places c s)) (below_all p (places c s) k (omega (arith, e, length-places c s)))

-- slot k is the first that passes, or does not pass either
pub sought_here : (p : Slot → Bool) (c : Layout) (s : Sectors) (k : ℕ) {e : Entry} {x : EntryState} → k < c.slots → ReadOff c s k e x → lowest_below p (places c s) k ≡ None →
    p (as_slot x (job_in e (place_in (places c s) k).sectors)) ≡ true → Some (found_at k e) ≡ found_in (places c s) (lowest p (slots_in (places c s)))
sought_here p c s k l r n h =
    let ps = places c s in
    let e : lowest_below p ps (k + 1) ≡ Some k =
    below_more p ps k (inside c s k l) ∙ ap₂ (λ (o : Option ℕ) (b : Bool). option_or o (then_some b k)) n (ap p r.slot ∙ h) in
    ap (λ (y : Entry). Some (found_at k y)) r.entry ∙ ap (found_in ps) (sym (below_found p ps (k + 1) k e))

pub sought_not : (p : Slot → Bool) (c : Layout) (s : Sectors) (k : ℕ) {e : Entry} {x : EntryState} → k < c.slots → ReadOff c s k e x → lowest_below p (places c s) k ≡ None →
    p (as_slot x (job_in e (place_in (places c s) k).sectors)) ≡ false → lowest_below p (places c s) (k + 1) ≡ None
sought_not p c s k l r n h =
    below_more p (places c s) k (inside c s k l) ∙ ap₂ (λ (o : Option ℕ) (b : Bool). option_or o (then_some b k)) n (ap p r.slot ∙ h)

pub sought_all : (p : Slot → Bool) (c : Layout) (s : Sectors) (k : ℕ) → k ≡ c.slots → lowest_below p (places c s) k ≡ None → None ≡ found_in (places c s) (lowest p (slots_in (places c s)))
sought_all p c s k e z = found_all p c s k e (ap (found_in (places c s)) (sym z))

-- WHATEVER THE DEVICE

in_or : (o : Option Found) (h : Bool) (k : ℕ) (e : Entry) → InSlots k o → InSlots (k + 1) (option_or o (then_some h (found_at k e)))
in_or (Some v) h k e p = omega arith
in_or None true k e p = omega arith
in_or None false k e p = tt

pub in_more : (o : Option Found) {o' w : Option Found} (h : Bool) (k : ℕ) (e : Entry) → w ≡ then_some h (found_at k e) → o' ≡ option_or o w → InSlots k o → InSlots (k + 1) o'
in_more o h k e w q p = subst (InSlots (k + 1)) (sym (q ∙ ap (option_or o) w)) (in_or o h k e p)
