-- Erased jobs that are live once a letter stands first in their name: their name is that of the restored entry.
use Rattle.std.proofs.Common.{◌≡◌, ℕ, ◌<◌, ◌≤◌, min, Bool, true, false, cond, ◌&&◌, eqb, ltb, ◌⊎◌, List, ◌∷◌, ◌++◌, length, get_or, take, set, sym, refl, ap, ◌∙◌, inl, inr, arith}
use Rattle.std.proofs.lemmas.List.{length-set, length-take, length-append, length-take-le, take_at, take_all, get_or-take, get_or_at, get_or_past}
use Rattle.std.proofs.lemmas.Bool.{lt-ltb, ltb-true, cases_lt, and_parts, and_from}
use Rattle.device.specs.Meaning.{Sectors}
use Rattle.layout.specs.Names.{lawful_name}
use Rattle.entries.specs.Entry.{entry_in, entry_rest, entry_bytes, first_set}
use Rattle.entries.specs.State.{lawful_fields, state_by}
use Rattle.entries.specs.declared.entry.Entry.{Entry}
use Rattle.entries.specs.declared.state.EntryState.{EntryState}
use Rattle.entries.specs.declared.state.EntryState.TheVariants.{Empty, Held, Erased, Live, Damaged}
use Rattle.places.specs.Places.{Place}
use Rattle.plans.specs.Slots.{Job, Slot, empty, held, live, erased, damaged, job_in, as_slot, slot_by, decoded, is_live, is_erased}
use Rattle.plans.specs.Plans.{place_in, restored, restored_slot}
use Rattle.plans.specs.Cases.{Restorable}
use Rattle.plans.proofs.Lowest.{live_is}
use Rattle.plans.proofs.Named.{live_same, slot_at, erased_inside}
use Rattle.plans.proofs.Words.{lawful_name_decides, name_byte_decides}

erased_is : (y : Slot) → is_erased y ≡ true → (j : Job) × (y ≡ erased j)
erased_is empty e = cc
erased_is (held m) e = cc
erased_is (live j) e = cc
erased_is (erased j) e = (j, refl)
erased_is damaged e = cc

-- THE NAME OF A LIVE SLOT

abbrev says_live : EntryState → Bool
says_live Empty = false
says_live (Held n) = false
says_live Erased = false
says_live Live = true
says_live Damaged = false

live_state : (t : EntryState) (i j : Job) → as_slot t i ≡ live j → (says_live t ≡ true) × (i ≡ j)
live_state Empty i j e = let z = ap is_live e in cc
live_state (Held n) i j e = let z = ap is_live e in cc
live_state Erased i j e = let z = ap is_live e in cc
live_state Live i j e = (refl, live_same e)
live_state Damaged i j e = let z = ap is_live e in cc

live_lawful : (b : Bool) (e : Entry) → says_live (state_by b e) ≡ true → b ≡ true
unfolding state_by
live_lawful true e h = refl
live_lawful false e h = at (eqb (get_or e.name 0 0) 0) (eqb e.sectors 0) (eqb (get_or e.name 0 0) 127) h
  where
    at : (x y z : Bool) → says_live (cond x (cond y Empty (Held (min 128 e.sectors))) (cond z Erased (cond false Live Damaged))) ≡ true → false ≡ true
    at true true z h = h
    at true false z h = h
    at false y true h = h
    at false y false h = h

live_name : (k a : ℕ) (e : Entry) (s : Sectors) (j : Job) → slot_by k a e s ≡ live j → (lawful_name e.name ≡ true) × (j.name ≡ e.name)
unfolding slot_by lawful_fields job_in
live_name k a e s j h =
    let p = live_state (state_by (lawful_fields k a e) e) (job_in e s) j h in
    ((and_parts (lawful_name e.name) _ (live_lawful (lawful_fields k a e) e p.0)).0, ap (λ (i : Job). i.name) (sym p.1))

-- an entry too short for a name has no lawful one: the zero behind it is no byte of a name
short_unlawful : (x : List ℕ) (y : ℕ) (ys : List ℕ) → length x < 16 → y ≡ 0 → lawful_name (take 16 (x ++ y ∷ ys)) ≡ true → ⊥
short_unlawful x y ys h z e =
    let l = (lawful_name_decides (take 16 (x ++ y ∷ ys))).0 e in
    let long : length x < length (take 16 (x ++ y ∷ ys)) = rw (length-take 16 (x ++ y ∷ ys), length-append x (y ∷ ys)) (omega arith) in
    let ended : get_or (take 16 (x ++ y ∷ ys)) (length x) 0 ≡ 0 = get_or-take 16 (x ++ y ∷ ys) (length x) 0 h ∙ (get_or_at x y ys 0 (length x) refl ∙ z) in
    let z = (name_byte_decides 0).1 (rw ended at (l.each (length x) long)) in cc

restored_whole : (b : List ℕ) (letter : ℕ) → lawful_name (entry_in (entry_bytes (first_set (entry_in b) letter))).name ≡ true → 16 ≤ length b
unfolding entry_in entry_rest
restored_whole b letter e = at (cases_lt (length b) 16)
  where
    at : (length b < 16) ⊎ (16 ≤ length b) → 16 ≤ length b
    at (inl h) =
        let short : length b ≤ 16 = omega arith in
        let x = set (take 16 b) 0 letter in
        let size : length x ≡ length b = length-set (take 16 b) 0 letter ∙ ap length (take_all 16 b short) in
        absurd (short_unlawful x (get_or b 16 0) _ (omega (arith, size)) (get_or_past b 16 0 short) e)
    at (inr h) = h

-- so the restored job has the restored entry's name
pub restored_name : (p : Place) (letter : ℕ) (j : Job) → restored_slot p letter ≡ live j → j.name ≡ (restored p letter).name
unfolding decoded entry_in
restored_name p letter j e =
    let b = entry_bytes (restored p letter) in
    let n = live_name p.slot p.first (entry_in b) p.sectors j e in
    let whole : 16 ≤ length p.entry = restored_whole p.entry letter n.0 in
    let x = set (take 16 p.entry) 0 letter in
    let size : length x ≡ 16 = length-set (take 16 p.entry) 0 letter ∙ length-take-le 16 p.entry whole in
    n.1 ∙ take_at x (entry_rest (restored p letter)) 16 size

-- THE TEST

abbrev pub restores : List Place → (k letter : ℕ) → Bool
restores ps k letter =
    ltb k (length ps) && (is_erased (decoded (place_in ps k)) && is_live (restored_slot (place_in ps k) letter))

pub restorable_found : (ps : List Place) (k letter : ℕ) → restores ps k letter ≡ true → (j : Job) × Restorable ps k letter j
restorable_found ps k letter e =
    let a = and_parts (ltb k (length ps)) _ e in
    let c = and_parts (is_erased (decoded (place_in ps k))) _ a.1 in
    let gone = erased_is (decoded (place_in ps k)) c.0 in
    let back = live_is (restored_slot (place_in ps k) letter) c.1 in
    (back.0, ((gone.0, slot_at ps k (ltb-true k (length ps) a.0) ∙ gone.1), back.1))

pub restorable_passes : (ps : List Place) (k letter : ℕ) (j : Job) → Restorable ps k letter j → restores ps k letter ≡ true
restorable_passes ps k letter j r =
    let inside = erased_inside ps k r.0.0 r.0.1 in
    and_from (ltb k (length ps)) _ (lt-ltb k (length ps) inside)
    (and_from (is_erased (decoded (place_in ps k))) _ (ap is_erased (sym (slot_at ps k inside) ∙ r.0.1)) (ap is_live r.1))
