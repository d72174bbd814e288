-- Steps put together: what follows all of some writes, and what cuts them off.
use Rattle.std.proofs.Common.{◌≡◌, ℕ, zero, suc, ◌+◌, ◌<◌, ◌≤◌, Bool, ◌&&◌, ltb, List, [], ◌∷◌, ◌++◌, length, take, drop, Ok, Err, Result, sym, refl, ap, ◌∙◌, subst, ap₂, inl, inr, arith, length-append, lt-ltb, zero-add}
use Rattle.std.proofs.lemmas.Bool.{cases_lt}
use Rattle.std.proofs.lemmas.List.{get_or-append-add, get_or_append_left, take-append-le}
use Rattle.device.specs.Faults.{Faults, Within}
use Rattle.device.specs.Meaning.{Meaning, Sectors, MayAccept}
use Rattle.device.specs.declared.faults.Act.TheVariants.{Read, Write}
use Rattle.device.specs.declared.faults.Fault.{Fault}
use Rattle.layout.specs.Bytes.{part}
use Rattle.layout.specs.Sizes.{layout_of, place_of, block_of}
use Rattle.layout.specs.declared.sizes.Layout.{Layout}
use Rattle.runs.specs.Writes.{with_sectors, failed_with}
use Rattle.std.proofs.Math.Seq.{take-append-add}
use Rattle.entries.specs.Entry.{entry_in}
use Rattle.entries.specs.State.{lawful_fields, live_entry, state_by, state_of}
use Rattle.entries.specs.declared.entry.Entry.{Entry}
use Rattle.entries.specs.declared.state.EntryState.{EntryState}
use Rattle.places.specs.Places.{Place, place, places}
use Rattle.places.specs.SlotWrites.{SlotWrite, written, all_written}
use Rattle.places.proofs.Frames.{place_at, place_slot, place_first, length-all_written}
use Rattle.plans.specs.Plans.{Reads, never, for_entries, at_first, between, place_in, entry_of}
use Rattle.plans.specs.Slots.{job_in, as_slot, slot_by, decoded}
use Rattle.volume.specs.Directory.{Room, directory_sector, ReadRefused}
use Rattle.volume.specs.Performing.{Performed, sector_of, no_write, Enters, Looks, Cut, at_write, at_read, Runs}

pub written_append : (c : Layout) (s : Sectors) (ws vs : List SlotWrite) → all_written c s (ws ++ vs) ≡ all_written c (all_written c s ws) vs
written_append c s [] vs = refl
written_append c s (w ∷ ws) vs = written_append c (written c s w) ws vs

-- nothing to write
pub performed_none : (c : Layout) (m : Meaning) → Performed c m m []
performed_none c m = record { leaves = refl; accepted = λ h. absurd (omega arith) }

-- some writes, and then some more
pub performed_performed : {c : Layout} {m m₁ m₂ : Meaning} {ws vs : List SlotWrite} → Performed c m m₁ ws → Performed c m₁ m₂ vs → Performed c m m₂ (ws ++ vs)
performed_performed {c = c} {m = m} {m₁ = m₁} {ws = ws} {vs = vs} p q = record {
  leaves =
      q.leaves
      ∙ (ap (λ (x : Meaning). with_sectors x (all_written c x.sectors vs)) p.leaves
      ∙ ap (with_sectors m) (sym (written_append c m.sectors ws vs)));
  accepted = λ h. by ws vs p.accepted (λ k. subst MayAccept (ap (λ (x : Meaning). x.condition) p.leaves) (q.accepted k)) h;
}
  where
    by : (ws vs : List SlotWrite) → (0 < length ws → MayAccept m.condition) → (0 < length vs → MayAccept m.condition) → 0 < length (ws ++ vs) → MayAccept m.condition
    by [] vs f g h = g h
    by (w ∷ ws) vs f g h = f (omega arith)

-- the condition after writes that were performed
pub performed_condition : {c : Layout} {m m₁ : Meaning} {ws : List SlotWrite} → Performed c m m₁ ws → m₁.condition ≡ m.condition
performed_condition p = ap (λ (x : Meaning). x.condition) p.leaves

-- a first part of the second writes, in the whole
put_on : (c : Layout) (m : Meaning) (ws vs : List SlotWrite) (j : ℕ) →
    failed_with m (all_written c (all_written c m.sectors ws) (take j vs)) ≡ failed_with m (all_written c m.sectors (take (length ws + j) (ws ++ vs)))
put_on c m ws vs j = ap (failed_with m) (sym (ap (all_written c m.sectors) (take-append-add ws vs j) ∙ written_append c m.sectors ws (take j vs)))

after_cut : {t u : Faults} {c : Layout} {rs rs' : Reads} {m m₂ : Meaning} (ws : List SlotWrite) {vs : List SlotWrite} {f : Fault} → Within u t →
    ((j : ℕ) → Looks rs vs j → Looks rs' (ws ++ vs) (length ws + j)) → (0 < length ws → MayAccept m.condition) →
    Cut u c rs (with_sectors m (all_written c m.sectors ws)) m₂ vs f → Cut t c rs' m m₂ (ws ++ vs) f
after_cut {u = u} {c = c} {m = m} ws {vs = vs} {f = f} w k a (at_write x) =
    let j = x.which in
    let n : length ws + (j + 1) ≡ length ws + j + 1 = omega arith in
    at_write (record {
      which = length ws + j;
      is_one = rw length-append (omega (arith, x.is_one));
      accepted = λ h. elim (cases_lt 0 (length ws)) [ inl l ↦ a l | inr l ↦ x.accepted (omega arith) ];
      refusable = x.refusable;
      names = w Write _ f (subst (λ (v : SlotWrite). u Write (sector_of c v) f) (sym (get_or-append-add ws vs j no_write)) x.names);
      leaves = elim x.leaves [
        | inl e ↦ inl (e ∙ put_on c m ws vs j)
        | inr e ↦ inr (e.0, e.1 ∙ put_on c m ws vs (j + 1) ∙ ap (λ (k : ℕ). failed_with m (all_written c m.sectors (take k (ws ++ vs)))) n)
      ];
    })
after_cut {c = c} {m = m} ws {vs = vs} {f = f} w k a (at_read x) =
    let j = x.after in
    at_read (record {
      after = length ws + j;
      are_some = rw length-append (omega (arith, x.are_some));
      looks = k j x.looks;
      accepted = λ h. elim (cases_lt 0 (length ws)) [ inl l ↦ a l | inr l ↦ x.accepted (omega arith) ];
      refusable = x.refusable;
      sector = x.sector;
      names = w Read _ f x.names;
      leaves = x.leaves ∙ put_on c m ws vs j;
    })

-- some writes, and then a cut in more of them; k says where the later reads stand in the whole
pub performed_cut : {t u : Faults} {c : Layout} {rs rs' : Reads} {m m₁ m₂ : Meaning} {ws vs : List SlotWrite} {f : Fault} → Within u t →
    ((j : ℕ) → Looks rs vs j → Looks rs' (ws ++ vs) (length ws + j)) →
    Performed c m m₁ ws → Cut u c rs m₁ m₂ vs f → Cut t c rs' m m₂ (ws ++ vs) f
performed_cut {u = u} {c = c} {rs = rs} {m₂ = m₂} {ws = ws} {vs = vs} {f = f} w k p x =
    after_cut ws w k p.accepted (subst (λ (y : Meaning). Cut u c rs y m₂ vs f) p.leaves x)

-- a cut ends all of a longer list; k says where its reads stand in the whole
pub cut_more : {t : Faults} {c : Layout} {rs rs' : Reads} {m m₁ : Meaning} {ws : List SlotWrite} {f : Fault} (vs : List SlotWrite) →
    ((j : ℕ) → j ≤ length ws → Looks rs ws j → Looks rs' (ws ++ vs) j) → Cut t c rs m m₁ ws f → Cut t c rs' m m₁ (ws ++ vs) f
cut_more {t = t} {c = c} {m = m} {ws = ws} {f = f} vs k (at_write x) =
    let j = x.which in
    at_write (record {
      which = j;
      is_one = rw length-append (omega (arith, x.is_one));
      accepted = x.accepted;
      refusable = x.refusable;
      names = subst (λ (v : SlotWrite). t Write (sector_of c v) f) (sym (get_or_append_left ws vs no_write j x.is_one)) x.names;
      leaves = elim x.leaves [
        | inl e ↦ inl (e ∙ ap (λ (ys : List SlotWrite). failed_with m (all_written c m.sectors ys)) (sym (take-append-le j ws vs (omega (arith, x.is_one)))))
        | inr e ↦ inr (e.0, e.1 ∙ ap (λ (ys : List SlotWrite). failed_with m (all_written c m.sectors ys)) (sym (take-append-le (j + 1) ws vs (omega (arith, x.is_one)))))
      ];
    })
cut_more {c = c} {m = m} {ws = ws} vs k (at_read x) =
    let j = x.after in
    at_read (record {
      after = j;
      are_some = rw length-append (omega (arith, x.are_some));
      looks = k j x.are_some x.looks;
      accepted = x.accepted;
      refusable = x.refusable;
      sector = x.sector;
      names = x.names;
      leaves = x.leaves ∙ ap (λ (ys : List SlotWrite). failed_with m (all_written c m.sectors ys)) (sym (take-append-le j ws vs x.are_some));
    })

-- the same cut, of a call that reads at more places and may name more faults
pub cut_within : {t u : Faults} {c : Layout} {rs : Reads} {m m₁ : Meaning} {ws : List SlotWrite} {f : Fault} → Within u t → Cut u c rs m m₁ ws f → Cut t c rs m m₁ ws f
cut_within w (at_write x) =
    at_write (record { which = x.which; is_one = x.is_one; accepted = x.accepted; refusable = x.refusable; names = w Write _ _ x.names; leaves = x.leaves })
cut_within w (at_read x) =
    at_read (record {
      after = x.after;
      are_some = x.are_some;
      looks = x.looks;
      accepted = x.accepted;
      refusable = x.refusable;
      sector = x.sector;
      names = w Read _ _ x.names;
      leaves = x.leaves;
    })

pub cut_as : {t : Faults} {c : Layout} {rs rs' : Reads} {m m₁ : Meaning} {ws : List SlotWrite} {f : Fault} → ((j : ℕ) → Looks rs ws j → Looks rs' ws j) → Cut t c rs m m₁ ws f → Cut t c rs' m m₁ ws f
cut_as k (at_write x) = at_write x
cut_as k (at_read x) =
    at_read (record {
      after = x.after;
      are_some = x.are_some;
      looks = k x.after x.looks;
      accepted = x.accepted;
      refusable = x.refusable;
      sector = x.sector;
      names = x.names;
      leaves = x.leaves;
    })

-- a read refused after no write, of a call that reads there
pub read_cut_at : {t : Faults} {c : Layout} (rs : Reads) {m m' : Meaning} {n : ℕ} (ws : List SlotWrite) {f : Fault} → Looks rs ws 0 → ReadRefused t m m' n f → Cut t c rs m m' ws f
read_cut_at rs {n = n} ws k r =
    at_read (record {
      after = 0;
      are_some = omega arith;
      looks = k;
      accepted = λ h. absurd (omega arith);
      refusable = r.refusable;
      sector = n;
      names = r.names;
      leaves = r.leaves;
    })

pub read_cut : {t : Faults} {c : Layout} {m m' : Meaning} {n : ℕ} {ws : List SlotWrite} {f : Fault} → ReadRefused t m m' n f → Cut t c at_first m m' ws f
read_cut {ws = ws} r = read_cut_at at_first ws (inl refl) r

-- some writes, and then a step with more of them
pub performed_runs : {A : Type 0} {t u : Faults} {c : Layout} (rs rs' : Reads) {m m₁ : Meaning} (m₂ : Meaning) {ws : List SlotWrite} (vs : List SlotWrite) (r : Result A Fault) → Within u t →
    ((j : ℕ) → Looks rs vs j → Looks rs' (ws ++ vs) (length ws + j)) → Performed c m m₁ ws → Runs u c rs m₁ m₂ vs r → Runs t c rs' m m₂ (ws ++ vs) r
performed_runs rs rs' m₂ vs (Ok a) w k p x = performed_performed p x
performed_runs rs rs' m₂ vs (Err f) w k p x = performed_cut w k p x

-- carried back to where nothing had changed yet
pub performed_from : {c : Layout} {m m₁ m' : Meaning} {ws : List SlotWrite} → m₁ ≡ m → Performed c m₁ m' ws → Performed c m m' ws
performed_from {c = c} {m' = m'} {ws = ws} e p = subst (λ (x : Meaning). Performed c x m' ws) e p

pub cut_from : {t : Faults} {c : Layout} {rs : Reads} {m m₁ m' : Meaning} {ws : List SlotWrite} {f : Fault} → m₁ ≡ m → Cut t c rs m₁ m' ws f → Cut t c rs m m' ws f
cut_from {t = t} {c = c} {rs = rs} {m' = m'} {ws = ws} {f = f} e p = subst (λ (x : Meaning). Cut t c rs x m' ws f) e p

-- WHERE A CALL READS

-- an entry that is written after some writes, and one among the first
pub enters_later : (ws vs : List SlotWrite) (j : ℕ) → Enters vs j → Enters (ws ++ vs) (length ws + j)
enters_later [] vs j h = rw zero-add h
enters_later (w ∷ ws) vs j h =
    let e : suc (length ws + j) ≡ suc (length ws) + j = omega arith in
    subst (Enters (w ∷ (ws ++ vs))) e (enters_later ws vs j h)

pub enters_first : (ws vs : List SlotWrite) (j : ℕ) → Enters ws j → Enters (ws ++ vs) j
enters_first [] vs j h = absurd h
enters_first (w ∷ ws) vs zero h = h
enters_first (w ∷ ws) vs (suc j) h = enters_first ws vs j h

-- a call that reads nowhere
pub looks_never : (rs : Reads) (ws vs : List SlotWrite) (j i : ℕ) → Looks never ws j → Looks rs vs i
looks_never rs ws vs j i h = absurd h

-- for entries in later writes
pub looks_later : (ws vs : List SlotWrite) (j : ℕ) → Looks for_entries vs j → Looks for_entries (ws ++ vs) (length ws + j)
looks_later ws vs j h = enters_later ws vs j h

pub looks_later_first : (ws vs : List SlotWrite) (j : ℕ) → Looks for_entries vs j → Looks at_first (ws ++ vs) (length ws + j)
looks_later_first ws vs j h = inr (enters_later ws vs j h)

-- among the first writes
pub looks_first : (rs : Reads) (ws vs : List SlotWrite) (j : ℕ) → Looks rs ws j → Looks rs (ws ++ vs) j
looks_first never ws vs j h = h
looks_first for_entries ws vs j h = enters_first ws vs j h
looks_first at_first ws vs j (inl e) = inl e
looks_first at_first ws vs j (inr h) = inr (enters_first ws vs j h)
looks_first between ws vs j (inl e) = inl e
looks_first between ws vs j (inr (inl h)) = inr (inl (enters_first ws vs j h))
looks_first between ws vs j (inr (inr h)) = inr (inr (h.0, h.1, enters_first ws vs h.0 h.2))

-- a call that also reads at first, and one that also reads between
pub looks_at_first : (ws : List SlotWrite) (j : ℕ) → Looks for_entries ws j → Looks at_first ws j
looks_at_first ws j h = inr h

pub looks_between : (ws : List SlotWrite) (j : ℕ) → Looks at_first ws j → Looks between ws j
looks_between ws j (inl e) = inl e
looks_between ws j (inr h) = inr (inl h)

-- ROOM

pub room : (n : ℕ) (m : Meaning) → n ≤ length m.sectors → Room (layout_of n) m
room n m h = record { listed = λ k l. omega arith; blocks = λ k i l j. omega arith }

-- the writes leave as many sectors as there were
pub performed_length : {c : Layout} {m m₁ : Meaning} {ws : List SlotWrite} → Performed c m m₁ ws → length m₁.sectors ≡ length m.sectors
performed_length {c = c} {m = m} {ws = ws} p = ap (λ (x : Meaning). length x.sectors) p.leaves ∙ length-all_written c m.sectors ws

pub room_after : {c : Layout} {m m₁ : Meaning} {ws : List SlotWrite} → Room c m → Performed c m m₁ ws → Room c m₁
room_after {c = c} r p =
    let e = performed_length p in
    record {
      listed = λ k h. subst (λ (n : ℕ). (place_of k).sector < n) (sym e) (r.listed k h);
      blocks = λ k i h l. subst (λ (n : ℕ). block_of c k + i < n) (sym e) (r.blocks k i h l);
    }

pub room_same : {c : Layout} {m m₁ : Meaning} → m₁ ≡ m → Room c m → Room c m₁
room_same {c = c} e r = subst (λ (x : Meaning). Room c x) (sym e) r

-- PLACES

-- the entry of a slot lies in its directory sector
pub entry_at : (c : Layout) (s : Sectors) (k : ℕ) → k < c.slots → entry_of (place_in (places c s) k) ≡ entry_in (part (directory_sector s k) (place_of k).offset 32)
unfolding place
entry_at c s k h = ap (λ (p : Place). entry_in p.entry) (place_at c s k h)

-- the bytes of its entry, and the sectors of its block
pub entry_bytes_at : (c : Layout) (s : Sectors) (k : ℕ) → k < c.slots → (place_in (places c s) k).entry ≡ part (directory_sector s k) (place_of k).offset 32
unfolding place
entry_bytes_at c s k h = ap (λ (p : Place). p.entry) (place_at c s k h)

pub sectors_at : (c : Layout) (s : Sectors) (k : ℕ) → k < c.slots → (place_in (places c s) k).sectors ≡ take 128 (drop (block_of c k) s)
unfolding place
sectors_at c s k h = ap (λ (p : Place). p.sectors) (place_at c s k h)

below : (k n : ℕ) (b : Bool) → k < n → (ltb k n && b) ≡ b
below k n b h = ap (λ (x : Bool). x && b) (lt-ltb k n h)

-- what stands in a slot, by the state of its entry
pub decoded_at : (c : Layout) (s : Sectors) (k : ℕ) → k < c.slots →
    decoded (place_in (places c s) k) ≡ as_slot (state_of c k (entry_of (place_in (places c s) k))) (job_in (entry_of (place_in (places c s) k)) (place_in (places c s) k).sectors)
unfolding decoded slot_by live_entry lawful_fields state_of state_by
decoded_at c s k h =
    let p = place_in (places c s) k in
    let e = entry_of p in
    ap (λ (b : Bool). as_slot (state_by b e) (job_in e p.sectors))
    (ap₂ (λ (j a : ℕ). lawful_fields j a e) (place_slot c s k h) (place_first c s k h) ∙ sym (below k c.slots (lawful_fields k (block_of c k) e) h))

-- the same for code that has the entry and its state
pub decoded_as : (c : Layout) (s : Sectors) (k : ℕ) {e : Entry} {x : EntryState} → k < c.slots → e ≡ entry_of (place_in (places c s) k) → x ≡ state_of c k e →
    decoded (place_in (places c s) k) ≡ as_slot x (job_in e (place_in (places c s) k).sectors)
decoded_as c s k {e = y} h e f =
    decoded_at c s k h
    ∙ ap (λ (z : Entry). as_slot (state_of c k z) (job_in z (place_in (places c s) k).sectors)) (sym e)
    ∙ ap (λ (z : EntryState). as_slot z (job_in y (place_in (places c s) k).sectors)) (sym f)
