-- A sweep: the held slots emptied one after another, upwards.
use Rattle.std.proofs.Common.{◌≡◌, ℕ, zero, suc, ◌+◌, ◌*◌, ◌/◌, ◌%◌, ◌<◌, ◌≤◌, min, Bool, true, false, cond, eqb, ◌⊎◌, List, [], ◌∷◌, ◌++◌, length, get_or, take, drop, set, sym, refl, ap, ap₂, ◌∙◌, subst, inl, inr, append_assoc, append-nil, add-zero, arith}
use Rattle.std.proofs.lemmas.Bool.{cases_eq}
use Rattle.std.proofs.lemmas.List.{length-append, length-map, length-take-le, take_more, take_all, take-append-drop, get_or-set_same, get_or-set_other}
use Rattle.device.specs.Faults.{Faults, Within}
use Rattle.device.specs.Meaning.{Meaning, Sectors, MayAccept, zeros}
use Rattle.device.specs.declared.faults.Fault.{Fault}
use Rattle.layout.specs.Bytes.{part}
use Rattle.layout.specs.Sizes.{layout_of, place_of, block_of}
use Rattle.layout.specs.declared.sizes.Layout.{Layout}
use Rattle.entries.specs.Entry.{entry_in, entry_bytes}
use Rattle.entries.specs.State.{live_entry, state_by, state_of}
use Rattle.entries.specs.declared.entry.Entry.{Entry}
use Rattle.entries.specs.declared.state.EntryState.{EntryState}
use Rattle.entries.specs.declared.state.EntryState.TheVariants.{Empty, Held, Erased, Live, Damaged}
use Rattle.refusals.specs.declared.Refusal.TheVariants.{Device}
use Rattle.places.specs.Places.{Sound, places, counted_up}
use Rattle.places.specs.SlotWrites.{SlotWrite, enter, spliced, written, all_written}
use Rattle.places.proofs.Directories.{next_same}
use Rattle.places.proofs.Frames.{dir_below, length-all_written, length-places, layouts_sound}
use Rattle.places.proofs.Lists.{spliced_above}
use Rattle.plans.specs.Calls.{sweep}
use Rattle.plans.specs.Memory.{Memory, card_layout}
use Rattle.plans.specs.Plans.{for_entries, at_first, between, plan, to_slot, entering, filling, zero_chunk, no_entry, emptying, sweep_slot, sweep_writes, place_in, entry_of}
use Rattle.plans.specs.Slots.{Job, Slot, empty, held, live, erased, damaged, as_slot, job_in, decoded, slots_in}
use Rattle.plans.proofs.Blocks.{write_at, length-filling}
use Rattle.plans.proofs.Entries.{hold_fits, entered_fits}
use Rattle.plans.proofs.Named.{slot_at}
use Rattle.volume.specs.Directory.{Room, directory_sector, ReadRefused, Turned}
use Rattle.volume.specs.Outcomes.{AcceptedBy, RefusedBy, Plain}
use Rattle.volume.specs.Performing.{Performed, Enters, Looks, Cut}
use Rattle.volume.proofs.Filling.{performed_as, cut_of}
use Rattle.volume.proofs.Glue.{performed_performed, performed_cut, performed_condition, cut_more, read_cut_at, enters_first, enters_later, looks_first, written_append, room, room_after, entry_at, decoded_as}
use Rattle.volume.proofs.Passes.{Looked, turned_to, looked_more}

-- THE WRITES

sweep_append : (k : ℕ) (xs ys : List Slot) → sweep_writes k (xs ++ ys) ≡ sweep_writes k xs ++ sweep_writes (k + length xs) ys
sweep_append k [] ys = ap (λ (i : ℕ). sweep_writes i ys) (sym (add-zero k))
sweep_append k (x ∷ xs) ys =
    let e : suc k + length xs ≡ k + suc (length xs) = omega arith in
    ap (λ (ws : List SlotWrite). sweep_slot k x ++ ws) (sweep_append (suc k) xs ys ∙ ap (λ (i : ℕ). sweep_writes (suc k) xs ++ sweep_writes i ys) e)
    ∙ sym (append_assoc (sweep_slot k x) (sweep_writes (suc k) xs) (sweep_writes (k + suc (length xs)) ys))

-- those of the first k slots
abbrev pub below : List Slot → ℕ → List SlotWrite
below xs k = sweep_writes 0 (take k xs)

below_more : (xs : List Slot) (k : ℕ) {y : Slot} → k < length xs → get_or xs k empty ≡ y → below xs (k + 1) ≡ below xs k ++ sweep_slot k y
below_more xs k {y = y} h e =
    let l : 0 + length (take k xs) ≡ k = omega (arith, length-take-le k xs (omega arith)) in
    ap (sweep_writes 0) (take_more xs k empty h) ∙ sweep_append 0 (take k xs) (get_or xs k empty ∷ [])
    ∙ ap₂ (λ (i : ℕ) (z : Slot). below xs k ++ sweep_writes i (z ∷ [])) l e ∙ ap (λ (ws : List SlotWrite). below xs k ++ ws) (append-nil (sweep_slot k y))

below_rest : (xs : List Slot) (k : ℕ) → k ≤ length xs → below xs k ++ sweep_writes k (drop k xs) ≡ sweep_writes 0 xs
below_rest xs k h =
    let l : k ≡ 0 + length (take k xs) = omega (arith, length-take-le k xs h) in
    ap (λ (i : ℕ). below xs k ++ sweep_writes i (drop k xs)) l ∙ sym (sweep_append 0 (take k xs) (drop k xs)) ∙ ap (sweep_writes 0) (take-append-drop k xs)

below_all : (xs : List Slot) (k : ℕ) → length xs ≤ k → below xs k ≡ sweep_writes 0 xs
below_all xs k h = ap (sweep_writes 0) (take_all k xs h)

-- a slot that is not held needs none
unheld : (k : ℕ) (x : EntryState) (j : Job) → ((n : ℕ) → x ≡ Held n → ⊥) → sweep_slot k (as_slot x j) ≡ []
unheld k Empty j f = refl
unheld k (Held n) j f = absurd (f n refl)
unheld k Erased j f = refl
unheld k Live j f = refl
unheld k Damaged j f = refl

-- a held mark counts as 128 at most
held_most : (b : Bool) (e : Entry) (n : ℕ) → Held n ≡ state_by b e → n ≤ 128
unfolding state_by
held_most b e n h = by (eqb (get_or e.name 0 0) 0) (eqb e.sectors 0) (eqb (get_or e.name 0 0) 127) b h
  where
    by : (x y z b : Bool) → Held n ≡ cond x (cond y Empty (Held (min 128 e.sectors))) (cond z Erased (cond b Live Damaged)) → n ≤ 128
    by true true z b h = cc
    by true false z b h = let i : n ≡ min 128 e.sectors = cc in omega arith
    by false y true b h = cc
    by false y false true h = cc
    by false y false false h = cc

pub few : (c : Layout) (k : ℕ) (e : Entry) (n : ℕ) {x : EntryState} → x ≡ Held n → x ≡ state_of c k e → n ≤ 128
unfolding state_of
few c k e n h f = held_most (live_entry c k e) e n (sym h ∙ f)

-- WHERE A SWEEP READS

length-emptying : (k n : ℕ) → length (emptying k n) ≡ n + 1
unfolding emptying
length-emptying k n = length-append (filling k 0 zero_chunk n) (entering k no_entry ∷ []) ∙ omega (arith, length-filling k 0 zero_chunk n)

enters_last : (k n : ℕ) → Enters (emptying k n) n
unfolding emptying
enters_last k n =
    let l : length (filling k 0 zero_chunk n) + 0 ≡ n = omega (arith, length-filling k 0 zero_chunk n) in
    subst (Enters (emptying k n)) l (enters_later (filling k 0 zero_chunk n) (entering k no_entry ∷ []) 0 tt)

-- some writes are none, or end with an entry
abbrev EndsEntered : List SlotWrite → Type 0
EndsEntered ws = (length ws ≡ 0) ⊎ ((i : ℕ) × (length ws ≡ suc i) × Enters ws i)

entered_then : (k n : ℕ) (vs : List SlotWrite) → EndsEntered vs → EndsEntered (emptying k n ++ vs)
entered_then k n vs (inl e) = inr (n, length-append (emptying k n) vs ∙ omega (arith, length-emptying k n), enters_first (emptying k n) vs n (enters_last k n))
entered_then k n vs (inr x) = inr (
  length (emptying k n) + x.0,
  length-append (emptying k n) vs ∙ omega (arith, x.1),
  enters_later (emptying k n) vs x.0 x.2,
)

ends_entered : (k : ℕ) (xs : List Slot) → EndsEntered (sweep_writes k xs)
ends_entered k [] = inl refl
ends_entered k (empty ∷ xs) = ends_entered (suc k) xs
ends_entered k (held n ∷ xs) = entered_then k n (sweep_writes (suc k) xs) (ends_entered (suc k) xs)
ends_entered k (live j ∷ xs) = ends_entered (suc k) xs
ends_entered k (erased j ∷ xs) = ends_entered (suc k) xs
ends_entered k (damaged ∷ xs) = ends_entered (suc k) xs

-- so the next read comes between
looks_next : (ws vs : List SlotWrite) → EndsEntered ws → (j : ℕ) → Looks at_first vs j → Looks between (ws ++ vs) (length ws + j)
looks_next ws vs (inl e) j (inl z) = inl (omega (arith, e, z))
looks_next ws vs (inr x) j (inl z) = inr (inr (x.0, omega (arith, x.1, z), enters_first ws vs x.0 x.2))
looks_next ws vs e j (inr h) = inr (inl (enters_later ws vs j h))

unread_cut : {t u : Faults} {c : Layout} {m m₁ m' : Meaning} (xs : List Slot) (k : ℕ) {n : ℕ} {f : Fault} → k ≤ length xs → Within u t → Performed c m m₁ (below xs k) → ReadRefused u m₁ m' n f → Cut t c between m m' (sweep_writes 0 xs) f
unread_cut xs k h w p r =
    cut_of (below_rest xs k h)
    (performed_cut w (looks_next (below xs k) (sweep_writes k (drop k xs)) (ends_entered 0 (take k xs))) p (read_cut_at at_first (sweep_writes k (drop k xs)) (inl refl) r))

emptied_cut : {t u : Faults} {c : Layout} {m m₁ m' : Meaning} (xs : List Slot) (k n : ℕ) {f : Fault} → k < length xs → get_or xs k empty ≡ held n → Within u t → Performed c m m₁ (below xs k) → Cut u c for_entries m₁ m' (emptying k n) f →
    Cut t c between m m' (sweep_writes 0 xs) f
emptied_cut {t = t} {c = c} {m = m} {m' = m'} xs k n {f = f} h e w p x =
    let vs = sweep_writes (k + 1) (drop (k + 1) xs) in
    let y : Cut t c between m m' (below xs k ++ emptying k n) f = performed_cut w (λ j z. inr (inl (enters_later (below xs k) (emptying k n) j z))) p x in
    let z : Cut t c between m m' (below xs (k + 1)) f = cut_of (sym (below_more xs k h e)) y in
    cut_of (below_rest xs (k + 1) (omega arith)) (cut_more vs (λ j _. looks_first between (below xs (k + 1)) vs j) z)

-- THE ENTRIES OF HIGHER SLOTS

-- the entry of slot i, as it lies on the sectors s
abbrev pub entry_part : Sectors → ℕ → List ℕ
entry_part s i = part (directory_sector s i) (place_of i).offset 32

filled_counted : (c : Layout) → Sound c → (s : Sectors) (k j n i : ℕ) → i < c.slots → directory_sector (all_written c s (counted_up (write_at k 0 zero_chunk) j n)) i ≡ directory_sector s i
filled_counted c v s k j zero i h = refl
filled_counted c v s k j (suc n) i h =
    filled_counted c v (set s (block_of c k + (0 + j)) (zeros 512)) k (suc j) n i h
    ∙ get_or-set_other s (block_of c k + (0 + j)) (1 + i / 16) (zeros 512) [] (omega (arith, dir_below c v i h))

filled_same : (c : Layout) → Sound c → (s : Sectors) (k n i : ℕ) → i < c.slots → directory_sector (all_written c s (filling k 0 zero_chunk n)) i ≡ directory_sector s i
unfolding filling
filled_same c v s k n i h = filled_counted c v s k 0 n i h

entered_same : (c : Layout) (s : Sectors) (k i : ℕ) (e : List ℕ) → length e ≡ 32 → k < i → (place_of k).sector < length s → length (directory_sector s k) ≡ 512 → entry_part (written c s (to_slot k (enter e))) i ≡ entry_part s i
entered_same c s k i e l h r w =
    let x : List ℕ = get_or s (1 + k / 16) [] in
    let y : List ℕ = spliced x (32 * (k % 16)) e in
    let w' : length x ≡ 512 = w in
    elim (cases_eq (i / 16) (k / 16)) [
      | inl d ↦
          let q : 1 + i / 16 ≡ 1 + k / 16 = omega arith in
          ap (λ (a : ℕ). part (get_or (set s (1 + k / 16) y) a []) (32 * (i % 16)) 32) q
          ∙ ap (λ (z : List ℕ). part z (32 * (i % 16)) 32) (get_or-set_same s (1 + k / 16) y [] r)
          ∙ spliced_above x e (32 * (k % 16)) (32 * (i % 16)) (omega arith) (omega arith) l
          ∙ ap (λ (a : ℕ). part (get_or s a []) (32 * (i % 16)) 32) (sym q)
      | inr d ↦ ap (λ (z : List ℕ). part z (32 * (i % 16)) 32) (get_or-set_other s (1 + k / 16) (1 + i / 16) y [] (omega arith))
    ]

emptied_same : (c : Layout) → Sound c → (s : Sectors) (k n i : ℕ) → i < c.slots → k < i → (place_of k).sector < length s → length (directory_sector s k) ≡ 512 → entry_part (all_written c s (emptying k n)) i ≡ entry_part s i
unfolding emptying
emptied_same c v s k n i h l r w =
    let s' = all_written c s (filling k 0 zero_chunk n) in
    let g : k < c.slots = omega arith in
    let long : length (entry_bytes no_entry) ≡ 32 = (entered_fits no_entry (hold_fits 0 (omega arith))).0 in
    let r' : (place_of k).sector < length s' = omega (arith, r, length-all_written c s (filling k 0 zero_chunk n)) in
    ap (λ (z : Sectors). entry_part z i) (written_append c s (filling k 0 zero_chunk n) (entering k no_entry ∷ []))
    ∙ entered_same c s' k i (entry_bytes no_entry) long l r' (ap length (filled_same c v s k n k g) ∙ w)
    ∙ ap (λ (z : List ℕ). part z (place_of i).offset 32) (filled_same c v s k n i h)

-- SLOT BY SLOT

-- the held slots below k were emptied, the entries from k on are as they were, and the buffer holds the directory
-- sector of slot k unless k is its first
pub record Swept (c : Layout) (m m₁ : Meaning) (k : ℕ) (b : List ℕ) : Type 0 where
  pub writes : Performed c m m₁ (below (slots_in (places c m.sectors)) k)
  pub looked : Looked m₁ m₁ k b
  pub later : (i : ℕ) → k ≤ i → i < c.slots → entry_part m₁.sectors i ≡ entry_part m.sectors i

-- slot k is looked at: the buffer holds its directory sector
pub record Seen (c : Layout) (m m₁ : Meaning) (k : ℕ) (b : List ℕ) : Type 0 where
  pub writes : Performed c m m₁ (below (slots_in (places c m.sectors)) k)
  pub later : (i : ℕ) → k ≤ i → i < c.slots → entry_part m₁.sectors i ≡ entry_part m.sectors i
  pub holds : b ≡ directory_sector m₁.sectors k
  pub next : Looked m₁ m₁ (k + 1) b

pub seen : {c : Layout} {m m₁ m₂ : Meaning} {k : ℕ} {b b' : List ℕ} → Swept c m m₁ k b → Turned m₁ m₂ k b b' → Seen c m m₂ k b'
seen {c = c} {m = m} {m₁ = m₁} {m₂ = m₂} {k = k} {b = b} {b' = b'} x q =
    let x' = subst (λ (z : Meaning). Swept c m z k b) (sym q.same) x in
    let q' = subst (λ (z : Meaning). Turned z m₂ k b b') (sym q.same) q in
    record { writes = x'.writes; later = x'.later; holds = turned_to x'.looked q'; next = looked_more x'.looked q' }

inside : (c : Layout) (s : Sectors) (k : ℕ) → k < c.slots → k < length (slots_in (places c s))
inside c s k h = omega (arith, h, length-map (places c s) decoded, length-places c s)

-- what stands in slot k, by the state of its entry as it was
pub stood : {c : Layout} {m m₁ : Meaning} {k : ℕ} {b : List ℕ} {e : Entry} {x : EntryState} → k < c.slots → Seen c m m₁ k b → e ≡ entry_in (part b (place_of k).offset 32) → x ≡ state_of c k e →
    get_or (slots_in (places c m.sectors)) k empty ≡ as_slot x (job_in e (place_in (places c m.sectors) k).sectors)
stood {c = c} {m = m} {k = k} {e = e} h v i y =
    let j : e ≡ entry_of (place_in (places c m.sectors) k) =
    i ∙ ap (λ (z : List ℕ). entry_in (part z (place_of k).offset 32)) v.holds ∙ ap entry_in (v.later k (omega arith) h) ∙ sym (entry_at c m.sectors k h) in
    slot_at (places c m.sectors) k (omega (arith, h, length-places c m.sectors)) ∙ decoded_as c m.sectors k h j y

-- it is not held
pub passed_over : {c : Layout} {m m₁ : Meaning} {k : ℕ} {b : List ℕ} {x : EntryState} (j : Job) → k < c.slots → Seen c m m₁ k b → get_or (slots_in (places c m.sectors)) k empty ≡ as_slot x j → ((n : ℕ) → x ≡ Held n → ⊥) → Swept c m m₁ (k + 1) b
passed_over {c = c} {m = m} {k = k} {x = x} j h v e f =
    let xs = slots_in (places c m.sectors) in
    let i : below xs k ≡ below xs (k + 1) =
    sym (append-nil (below xs k)) ∙ ap (λ (ws : List SlotWrite). below xs k ++ ws) (sym (unheld k x j f)) ∙ sym (below_more xs k (inside c m.sectors k h) e) in
    record { writes = performed_as i v.writes; looked = v.next; later = λ i l. v.later i (omega arith) }

-- it is held, and was emptied
pub emptied : {c : Layout} {m m₁ m₂ : Meaning} {k n : ℕ} {b b' : List ℕ} → Sound c → Room c m → k < c.slots → length b ≡ 512 → Seen c m m₁ k b → get_or (slots_in (places c m.sectors)) k empty ≡ held n →
    Performed c m₁ m₂ (emptying k n) → b' ≡ directory_sector m₂.sectors k → Swept c m m₂ (k + 1) b'
emptied {c = c} {m = m} {m₁ = m₁} {m₂ = m₂} {k = k} {n = n} s r h l v e p z =
    let xs = slots_in (places c m.sectors) in
    let w : length (directory_sector m₁.sectors k) ≡ 512 = sym (ap length v.holds) ∙ l in
    let leaves : m₂.sectors ≡ all_written c m₁.sectors (emptying k n) = ap (λ (y : Meaning). y.sectors) p.leaves in
    record {
      writes = performed_as (sym (below_more xs k (inside c m.sectors k h) e)) (performed_performed v.writes p);
      looked = record {
        same = refl;
        accepted = λ _. subst MayAccept (sym (performed_condition p)) (v.next.accepted (omega arith));
        holds = λ o. z ∙ ap (λ (a : ℕ). get_or m₂.sectors a []) (next_same k o);
      };
      later = λ i a y.
          ap (λ (q : Sectors). entry_part q i) leaves ∙ emptied_same c s m₁.sectors k n i y (omega arith) ((room_after r v.writes).listed k h) w
          ∙ v.later i (omega arith) y;
    }

-- ENDS

pub sound : {l : Layout} (n : ℕ) → l ≡ layout_of n → Sound l
sound n e = subst Sound (sym e) (layouts_sound n)

pub on_card : {l : Layout} {m : Meaning} (q : Memory) → l ≡ layout_of q.size → q.size ≤ length m.sectors → Room l m
on_card {m = m} q e h = subst (λ (c : Layout). Room c m) (sym e) (room q.size m h)

pub sweep_refused : {t : Faults} {m m' : Meaning} (q : Memory) {l : Layout} {f : Fault} → l ≡ layout_of q.size → Cut t l between m m' (sweep_writes 0 (slots_in (places l m.sectors))) f →
    RefusedBy t (card_layout q) (plan m.sectors q sweep) (Device f) m m' q q
sweep_refused {t = t} {m = m} {m' = m'} q {f = f} e x = record {
  by_device = subst (λ (c : Layout). Cut t c between m m' (sweep_writes 0 (slots_in (places c m.sectors))) f) e x;
  memory = refl;
}

pub sweep_accepted : {m m' : Meaning} (q : Memory) {l : Layout} {k : ℕ} {b : List ℕ} → l ≡ layout_of q.size → k ≡ l.slots → Swept l m m' k b → AcceptedBy (card_layout q) Plain (plan m.sectors q sweep) tt m m' q
sweep_accepted {m = m} {m' = m'} q {l = l} {k = k} e z x =
    let xs = slots_in (places l m.sectors) in
    let n : length xs ≤ k = omega (arith, z, length-map (places l m.sectors) decoded, length-places l m.sectors) in
    record {
      answer = refl;
      writes = subst (λ (c : Layout). Performed c m m' (sweep_writes 0 (slots_in (places c m.sectors)))) e (performed_as (below_all xs k n) x.writes);
      was_read = subst (λ (c : Layout). 0 < c.slots → MayAccept m.condition) e (λ h. subst MayAccept (performed_condition x.writes) (x.looked.accepted (omega (arith, z, h))));
      memory = refl;
    }

-- the exits of the pass
pub turn_refused : {t u : Faults} {m m₁ m' : Meaning} (q : Memory) {l : Layout} {k n : ℕ} {b : List ℕ} {f : Fault} → l ≡ layout_of q.size → k < l.slots → Within u t → Swept l m m₁ k b → ReadRefused u m₁ m' n f →
    RefusedBy t (card_layout q) (plan m.sectors q sweep) (Device f) m m' q q
turn_refused {m = m} q {l = l} {k = k} e h w x r =
    let i = inside l m.sectors k h in
    sweep_refused q e (unread_cut (slots_in (places l m.sectors)) k (omega arith) w x.writes r)

pub empty_refused : {t u : Faults} {m m₁ m' : Meaning} (q : Memory) {l : Layout} {k n : ℕ} {b : List ℕ} {f : Fault} → l ≡ layout_of q.size → k < l.slots → Within u t → Seen l m m₁ k b →
    get_or (slots_in (places l m.sectors)) k empty ≡ held n → Cut u l for_entries m₁ m' (emptying k n) f → RefusedBy t (card_layout q) (plan m.sectors q sweep) (Device f) m m' q q
empty_refused {m = m} q {l = l} {k = k} {n = n} e h w v i x =
    sweep_refused q e (emptied_cut (slots_in (places l m.sectors)) k n (inside l m.sectors k h) i w v.writes x)

-- slot k is held, by the state x of its entry
pub held_at : {c : Layout} {m m₁ : Meaning} {k : ℕ} {b : List ℕ} {e : Entry} {x : EntryState} (n : ℕ) → k < c.slots → Seen c m m₁ k b → e ≡ entry_in (part b (place_of k).offset 32) → x ≡ state_of c k e → x ≡ Held n →
    get_or (slots_in (places c m.sectors)) k empty ≡ held n
held_at {c = c} {m = m} {k = k} {e = e} n h v i y z =
    stood h v i y ∙ ap (λ (s : EntryState). as_slot s (job_in e (place_in (places c m.sectors) k).sectors)) z
