-- Every call keeps the model: its plan followed test by test, down to what its writes owe.
use Rattle.std.proofs.Common.{◌≡◌, ℕ, zero, suc, ◌+◌, ◌<◌, Bool, true, false, cond, ◌&&◌, eqb, ltb, leb, List, [], ◌∷◌, ◌++◌, length, get_or, take, set, Some, None, Ok, Option, Result, sym, refl, ap, ◌∙◌, subst, inl, inr, arith}
use Rattle.std.proofs.Math.Seq.{take-nil}
use Rattle.std.proofs.lemmas.Slice.Eq.{bytes_eq-Decides}
use Rattle.std.proofs.lemmas.List.{set-get_or}
use Rattle.std.proofs.lemmas.Bool.{and_parts, eqb-true, eqb-false, leb-true, ltb-true, false≢true}
use Rattle.std.specs.Str.{bytes_eq}
use Rattle.device.specs.Meaning.{Sectors, Bytes}
use Rattle.layout.specs.Label.{bad_field, read_label, label_in, answered}
use Rattle.layout.specs.Names.{lawful_name, name_char, padded}
use Rattle.layout.specs.Sizes.{layout_of}
use Rattle.layout.specs.Words.{double_at}
use Rattle.layout.specs.declared.label.Label.{Label}
use Rattle.layout.specs.declared.sizes.Layout.{Layout}
use Rattle.refusals.specs.declared.Refusal.{Refusal}
use Rattle.refusals.specs.declared.Refusal.TheVariants.{Name, FileType, NotOpen, TooLong, Open, NoJob, NotSequential, NotErased, NameTaken, NoSlot, OutOfBounds}
use Rattle.places.specs.Places.{Place, places, all_moved}
use Rattle.places.specs.SlotWrites.{SlotWrite, all_written}
use Rattle.plans.specs.Slots.{Job, Slot, empty, decoded, slots_in, usable, named, is_live, is_erased, job_of, lowest}
use Rattle.plans.specs.Rows.{known_kind}
use Rattle.plans.specs.Memory.{OpenJob, Memory, mounted, unmounted, with_job, job_length}
use Rattle.plans.specs.Calls.{Call, mount, save, open', put, commit, finish, rename, erase, wipe, sweep, undelete, load, read, list, same, check, done as ok}
use Rattle.plans.specs.Plans.{Plan, decline, refuse, go, between, sweep_writes, plan, unless, found, vacant, all_shut, named_shut, held_open, slot_named, place_in, card_places, mount_plan, mount_by, save_plan, open_plan, open_at, put_plan, put_by, commit_plan, finish_by, rename_plan, erase_plan, wipe_plan, undelete_plan, load_plan, read_plan, same_plan, restored, restored_slot, job_saved, put_writes, sectors_full, filling, chunk, after_put, after_commit, commit_writes, continued, opened_new, new_job, entering, saved_entry, entry_of}
use Rattle.plans.proofs.Words.{known_type_decides, name_byte_decides}
use Rattle.plans.proofs.Entries.{lawful_short}
use Rattle.history.specs.Model.{Waiting, Model, changed, saved, wiped, counted, done, slot_of, waiting_at, with_waiting, with_slots, opened, none_yet, open_slot}
use Rattle.history.specs.Agreement.{Agrees, Knows, Holds}
use Rattle.history.specs.Preserved.{entries_written, Typed, Preserved, Preserves, CallsPreserve}
use Rattle.history.proofs.Writing.{fits_take, holds_after}
use Rattle.history.proofs.Agreeing.{hit, usable_seen, Named, named_hit, named_seen, lowest_same, Apart, OtherName, other_apart}
use Rattle.history.proofs.Carried.{LaidOut, laid_out, Carried}
use Rattle.history.proofs.OneSlot.{erase_carried, rename_carried, undelete_carried, padded_lawful, length-padded}
use Rattle.history.proofs.Saving.{save_carried, open_carried}
use Rattle.history.proofs.Streams.{put_carried, commit_carried, commit_nothing}
use Rattle.history.proofs.Handles.{continued_agrees, finished_agrees, finished_other, finished_none}
use Rattle.history.proofs.Wiping.{wipe_carried}
use Rattle.history.proofs.Sweeping.{swept_none, sweep_carried}

-- A CALL OF WHICH NO ENTRY IS WRITTEN

changed_none : (xs : List Slot) (o : Option ℕ) (f : Slot → Slot) → ((x : Slot) → f x ≡ x) → changed xs o f ≡ xs
changed_none xs None f h = refl
changed_none xs (Some k) f h = ap (set xs k) (h (get_or xs k empty)) ∙ set-get_or xs k empty

abbrev slots_as : Model → List Slot → Model
slots_as m xs = record { mounted = m.mounted; slots = xs; waiting = m.waiting }

pub counted_none : (m : Model) (call : Call) → counted m call 0 ≡ m
counted_none m mount = refl
counted_none m (save n t a b) = ap (slots_as m) (changed_none m.slots _ (saved (job_saved n t a b) 0) (λ x. refl))
counted_none m (open' n) = refl
counted_none m (put h x) = refl
counted_none m (commit h) = refl
counted_none m (finish h) = refl
counted_none m (rename o n) = ap (slots_as m) (changed_none m.slots _ _ (λ x. refl))
counted_none m (erase n) = ap (slots_as m) (changed_none m.slots _ _ (λ x. refl))
counted_none m (wipe n) = ap (slots_as m) (changed_none m.slots _ (wiped 0) (λ x. refl))
counted_none m sweep = ap (slots_as m) (swept_none m.slots)
counted_none m (undelete k l) = ap (slots_as m) (changed_none m.slots (Some k) _ (λ x. refl))
counted_none m (load n r) = refl
counted_none m (read n i r) = refl
counted_none m list = refl
counted_none m (same o n) = refl
counted_none m check = refl

-- no call but mount mounts
pub counted_mounted : (m : Model) (call : Call) (d : ℕ) → (counted m call d).mounted ≡ m.mounted
counted_mounted m mount d = refl
counted_mounted m (save n t a b) d = refl
counted_mounted m (open' n) zero = refl
counted_mounted m (open' n) (suc d) = refl
counted_mounted m (put h x) d = refl
counted_mounted m (commit h) zero = refl
counted_mounted m (commit h) (suc d) = refl
counted_mounted m (finish h) d = refl
counted_mounted m (rename o n) d = refl
counted_mounted m (erase n) d = refl
counted_mounted m (wipe n) d = refl
counted_mounted m sweep d = refl
counted_mounted m (undelete k l) d = refl
counted_mounted m (load n r) d = refl
counted_mounted m (read n i r) d = refl
counted_mounted m list d = refl
counted_mounted m (same o n) d = refl
counted_mounted m check d = refl

pub done_mounted : (m : Model) (call : Call) → m.mounted ≡ true → (done m call).mounted ≡ true
done_mounted m mount e = refl
done_mounted m (save n t a b) e = e
done_mounted m (open' n) e = e
done_mounted m (put h x) e = e
done_mounted m (commit h) e = e
done_mounted m (finish h) e = e
done_mounted m (rename o n) e = e
done_mounted m (erase n) e = e
done_mounted m (wipe n) e = e
done_mounted m sweep e = e
done_mounted m (undelete k l) e = e
done_mounted m (load n r) e = e
done_mounted m (read n i r) e = e
done_mounted m list e = e
done_mounted m (same o n) e = e
done_mounted m check e = e

-- TESTS OF PLANS

-- what holds of every refusal holds of a plan if it holds where its tests pass
module _ (P : Plan → Type 0) (declines : (r : Refusal) → P (decline r)) (refuses : (r : Refusal) → P (refuse r)) where
  pub unless_keeps : (b : Bool) (r : Refusal) (p : Plan) → (b ≡ true → P p) → P (unless b r p)
  unless_keeps true r p f = f refl
  unless_keeps false r p f = declines r

  pub found_keeps : (o : Option ℕ) (r : Refusal) (g : ℕ → Plan) → ((k : ℕ) → o ≡ Some k → P (g k)) → P (found o r g)
  found_keeps None r g f = refuses r
  found_keeps (Some k) r g f = f k refl

  pub vacant_keeps : (o : Option ℕ) (p : Plan) → (o ≡ None → P p) → P (vacant o p)
  vacant_keeps None p f = f refl
  vacant_keeps (Some k) p f = refuses NameTaken

  pub all_shut_keeps : (o : Option OpenJob) (p : Plan) → (o ≡ None → P p) → P (all_shut o p)
  all_shut_keeps None p f = f refl
  all_shut_keeps (Some o) p f = declines Open

  pub cond_keeps : (b : Bool) (p q : Plan) → (b ≡ true → P p) → (b ≡ false → P q) → P (cond b p q)
  cond_keeps true p q f g = f refl
  cond_keeps false p q f g = g refl

  pub named_shut_keeps : (o : Option OpenJob) (n : List ℕ) (p : Plan) → (OtherName o n → P p) → P (named_shut o n p)
  named_shut_keeps None n p f = f tt
  named_shut_keeps (Some o) n p f =
      cond_keeps (bytes_eq n o.name) (decline Open) p (λ _. declines Open) (λ e. f (λ q. false≢true (sym e ∙ (bytes_eq-Decides n o.name).1 (sym q))))

  pub held_open_keeps : (o : Option OpenJob) (h : ℕ) (g : OpenJob → Plan) → ((x : OpenJob) → o ≡ Some x → x.slot ≡ h → P (g x)) → P (held_open o h g)
  held_open_keeps None h g f = declines NotOpen
  held_open_keeps (Some o) h g f = cond_keeps (eqb o.slot h) (g o) (decline NotOpen) (λ e. f o refl (eqb-true o.slot h e)) (λ _. declines NotOpen)

-- FROM PLACES TO THE CARD

knows_counted : (size : ℕ) (m : Model) (q : Memory) (call : Call) (d : ℕ) → Knows m.mounted size q → Knows (counted m call d).mounted size q
knows_counted size m q call d k = subst (λ (b : Bool). Knows b size q) (sym (counted_mounted m call d)) k

-- writes that are carried, on a mounted card
carried_preserved : (m : Model) (s : Sectors) (q q' : Memory) (call : Call) (ws : List SlotWrite) → Holds q.size m s q → m.mounted ≡ true → q'.size ≡ q.size →
    Carried (layout_of q.size) m (places (layout_of q.size) s) q.job call ws q'.job → Preserved q.size m s q call ws q'
carried_preserved m s q q' call ws h e z r = record {
  fits = r.fits;
  part = λ j. holds_after q.size m (counted m call (entries_written (take j ws))) s q q (take j ws) h (fits_take (layout_of q.size) j ws r.fits) (r.part j)
      (knows_counted q.size m q call (entries_written (take j ws)) h.knows);
  whole = holds_after q.size m (done m call) s q q' ws h r.fits r.whole (subst (λ (b : Bool). Knows b q.size q') (sym (done_mounted m call e)) z);
}

-- nothing written
holds_told : (size : ℕ) (m m' : Model) (s : Sectors) (q q' : Memory) → Holds size m s q → Agrees m'.slots m'.waiting (places (layout_of size) s) q'.job →
    Knows m'.mounted size q' → Holds size m' s q'
holds_told size m m' s q q' h a k = record { shaped = h.shaped; label = h.label; agrees = a; knows = k }

nothing_preserved : (size : ℕ) (m : Model) (s : Sectors) (q q' : Memory) (call : Call) → Holds size m s q → Holds size (done m call) s q' → Preserved size m s q call [] q'
nothing_preserved size m s q q' call h w = record {
  fits = tt;
  part = λ j.
      subst (λ (ws : List SlotWrite). Holds size (counted m call (entries_written ws)) (all_written (layout_of size) s ws) q) (sym (take-nil j))
      (subst (λ (z : Model). Holds size z s q) (sym (counted_none m call)) h);
  whole = w;
}

-- MOUNT

label_size : (n : ℕ) (b : List ℕ) (l : Label) (size : ℕ) → read_label n b ≡ Ok l → l.layout ≡ layout_of size → bad_field n b ≡ None → double_at b 15 ≡ size
unfolding label_in
label_size n b l size e f g =
    let h : Ok (label_in b) ≡ Ok l = ap (λ (o : Option ℕ). answered o (label_in b)) (sym g) ∙ e in
    let i : label_in b ≡ l = same h in
    ap (λ (z : Label). z.layout.sectors) i ∙ ap (λ (c : Layout). c.sectors) f
  where
    same : {a c : Label} → ◌≡◌ {A = Result Label ℕ} (Ok a) (Ok c) → a ≡ c
    same e = cc

mount_preserves : (size : ℕ) (m : Model) (s : Sectors) (q : Memory) → Holds size m s q → Preserves size m s q mount (mount_plan s)
unfolding mount_plan
mount_preserves size m [] q h = tt
mount_preserves size m (x ∷ xs) q h = by (bad_field (suc (length xs)) x) refl
  where
    by : (o : Option ℕ) → bad_field (suc (length xs)) x ≡ o → Preserves size m (x ∷ xs) q mount (mount_by o (double_at x 15))
    by (Some k) e = refl
    by None e =
        nothing_preserved size m (x ∷ xs) q (mounted (double_at x 15)) mount h
        (holds_told size m (done m mount) (x ∷ xs) q (mounted (double_at x 15)) h
        record { same = h.agrees.same; unique = h.agrees.unique; open' = tt }
        (label_size (suc (length xs)) x h.label.0 size h.label.1 h.label.2 e))

-- with no job open nothing waits
none_waits : (xs : List Slot) (w : Option Waiting) (ps : List Place) → Agrees xs w ps None → (w ≡ None) × Agrees xs None ps None
none_waits xs None ps a = (refl, a)
none_waits xs (Some w) ps a = absurd a.open'

name_bound : (l : ℕ) → name_char l ≡ true → l < 256
name_bound l e = elim ((name_byte_decides l).0 e) [
  | inl a ↦ let b = a.1 in omega arith
  | inr t ↦ elim t [ inl a ↦ let b = a.1 in omega arith | inr u ↦ elim u [ inl a ↦ omega arith | inr a ↦ omega arith ] ]
]

-- CALLS ON A MOUNTED CARD

module _ (m : Model) (s : Sectors) (q : Memory) (h : Holds q.size m s q) (e : m.mounted ≡ true) where
  abbrev ps : List Place
  ps = places (layout_of q.size) s

  abbrev Kept : Call → Plan → Type 0
  Kept call p = Preserves q.size m s q call p

  laid : LaidOut (layout_of q.size) (places (layout_of q.size) s)
  laid = laid_out q.size s h.shaped

  agreed : Agrees m.slots m.waiting (places (layout_of q.size) s) q.job
  agreed = h.agrees

  refused : (call : Call) (r : Refusal) → Kept call (refuse r)
  refused call r = counted_none m call

  -- a call that only reads
  read_only : (call : Call) → done m call ≡ m → Preserved q.size m s q call [] q
  read_only call d = nothing_preserved q.size m s q q call h (subst (λ (z : Model). Holds q.size z s q) (sym d) h)

  known-bound : (t : ℕ) → known_kind t ≡ true → t < 256
  known-bound t g = elim ((known_type_decides t).0 g) [ inl a ↦ omega arith | inr b ↦ elim b [ inl a ↦ omega arith | inr a ↦ omega arith ] ]

  save-preserves : (n : List ℕ) (t a : ℕ) (b : List ℕ) → a < 65536 → Bytes b → Kept (save n t a b) (save_plan ps q (job_saved n t a b) n)
  unfolding save_plan
  save-preserves n t a b ha hb =
      let P : Plan → Type 0 = Kept (save n t a b) in
      let d : (r : Refusal) → P (decline r) = λ r. tt in
      let f : (r : Refusal) → P (refuse r) = refused (save n t a b) in
      unless_keeps P d f (lawful_name n) Name _ λ ln.
      unless_keeps P d f (known_kind t) FileType _ λ lt.
      unless_keeps P d f (leb (length b) 65535) TooLong _ λ lb.
      vacant_keeps P d f (slot_named ps n) _ λ v.
      found_keeps P d f (lowest usable (slots_in ps)) NoSlot _ λ k g.
      carried_preserved m s q q (save n t a b) _ h e refl
      (save_carried (layout_of q.size) m ps q.job laid agreed n t a b
      record {
        name = padded_lawful n ln;
        long = length-padded n (lawful_short n ln);
        kind = known-bound t lt;
        address = ha;
        few = leb-true (length b) 65535 lb;
        bytes = hb;
      }
      v k (hit agreed usable usable_seen k g))

  load-preserves : (n : List ℕ) (r : ℕ) → Kept (load n r) (load_plan ps q n r)
  unfolding load_plan
  load-preserves n r =
      let P : Plan → Type 0 = Kept (load n r) in
      let d : (r : Refusal) → P (decline r) = λ r. tt in
      let f : (r : Refusal) → P (refuse r) = refused (load n r) in
      unless_keeps P d f (lawful_name n) Name _ λ _.
      found_keeps P d f (slot_named ps n) NoJob _ λ k _.
      cond_keeps P d f (leb (length (job_of (decoded (place_in ps k))).bytes) r) _ _ (λ _. read_only (load n r) refl) (λ _. f OutOfBounds)

  read-preserves : (n : List ℕ) (i r : ℕ) → Kept (read n i r) (read_plan ps q n i r)
  unfolding read_plan
  read-preserves n i r =
      let P : Plan → Type 0 = Kept (read n i r) in
      let d : (r : Refusal) → P (decline r) = λ r. tt in
      let f : (r : Refusal) → P (refuse r) = refused (read n i r) in
      unless_keeps P d f (lawful_name n) Name _ λ _.
      found_keeps P d f (slot_named ps n) NoJob _ λ k _.
      cond_keeps P d f (leb i (length (job_of (decoded (place_in ps k))).bytes)) _ _ (λ _. read_only (read n i r) refl) (λ _. f OutOfBounds)

  same-preserves : (a b : List ℕ) → Kept (same a b) (same_plan ps q a b)
  unfolding same_plan
  same-preserves a b =
      let P : Plan → Type 0 = Kept (same a b) in
      let d : (r : Refusal) → P (decline r) = λ r. tt in
      let f : (r : Refusal) → P (refuse r) = refused (same a b) in
      unless_keeps P d f (lawful_name a && lawful_name b) Name _ λ _.
      found_keeps P d f (slot_named ps a) NoJob _ λ i _.
      found_keeps P d f (slot_named ps b) NoJob _ λ k _.
      read_only (same a b) refl

  -- the slot of a name is not the open one
  pub apart_from : (n : List ℕ) → OtherName q.job (padded n) → (k : ℕ) (j : Job) → Named m.slots ps (padded n) k j → Apart m.waiting k
  apart_from n o k j w =
      other_apart q.job m.waiting m.slots ps k j w.slot (subst (λ (z : List ℕ). OtherName q.job z) (sym w.name) o) agreed.open'

  erase-preserves : (n : List ℕ) → Kept (erase n) (erase_plan ps q n)
  unfolding erase_plan
  erase-preserves n =
      let P : Plan → Type 0 = Kept (erase n) in
      let d : (r : Refusal) → P (decline r) = λ r. tt in
      let f : (r : Refusal) → P (refuse r) = refused (erase n) in
      unless_keeps P d f (lawful_name n) Name _ λ _.
      named_shut_keeps P d f q.job (padded n) _ λ o.
      found_keeps P d f (slot_named ps n) NoJob _ λ k g.
      let w = named_hit agreed (padded n) k g in
      carried_preserved m s q q (erase n) _ h e refl
      (erase_carried (layout_of q.size) m ps q.job laid agreed n k w.0 w.1 (apart_from n o k w.0 w.1))

  wipe-preserves : (n : List ℕ) → Kept (wipe n) (wipe_plan ps q n)
  unfolding wipe_plan
  wipe-preserves n =
      let P : Plan → Type 0 = Kept (wipe n) in
      let d : (r : Refusal) → P (decline r) = λ r. tt in
      let f : (r : Refusal) → P (refuse r) = refused (wipe n) in
      unless_keeps P d f (lawful_name n) Name _ λ _.
      named_shut_keeps P d f q.job (padded n) _ λ o.
      found_keeps P d f (slot_named ps n) NoJob _ λ k g.
      let w = named_hit agreed (padded n) k g in
      carried_preserved m s q q (wipe n) _ h e refl
      (wipe_carried (layout_of q.size) m ps q.job laid agreed n k w.0 w.1 (apart_from n o k w.0 w.1))

  rename-preserves : (old new : List ℕ) → Kept (rename old new) (rename_plan ps q old new)
  unfolding rename_plan
  rename-preserves old new =
      let P : Plan → Type 0 = Kept (rename old new) in
      let d : (r : Refusal) → P (decline r) = λ r. tt in
      let f : (r : Refusal) → P (refuse r) = refused (rename old new) in
      unless_keeps P d f (lawful_name old && lawful_name new) Name _ λ l.
      named_shut_keeps P d f q.job (padded old) _ λ o.
      found_keeps P d f (slot_named ps old) NoJob _ λ k g.
      vacant_keeps P d f (slot_named ps new) _ λ v.
      let w = named_hit agreed (padded old) k g in
      carried_preserved m s q q (rename old new) _ h e refl
      (rename_carried (layout_of q.size) m ps q.job laid agreed old new (and_parts (lawful_name old) (lawful_name new) l).1 k w.0 w.1 (apart_from old o k w.0 w.1) v)

  undelete-preserves : (k l : ℕ) → Kept (undelete k l) (undelete_plan ps q k l)
  unfolding undelete_plan
  undelete-preserves k l =
      let P : Plan → Type 0 = Kept (undelete k l) in
      let d : (r : Refusal) → P (decline r) = λ r. tt in
      let f : (r : Refusal) → P (refuse r) = refused (undelete k l) in
      let p : Place = place_in ps k in
      unless_keeps P d f (name_char l) Name _ λ nl.
      unless_keeps P d f (ltb k (length ps)) NotErased _ λ i.
      cond_keeps P d f (is_erased (decoded p) && is_live (restored_slot p l)) _ (refuse NotErased)
      (λ t.
      let b = and_parts (is_erased (decoded p)) _ t in
      vacant_keeps P d f (lowest (named (restored p l).name) (slots_in ps)) _ λ v.
      carried_preserved m s q q (undelete k l) _ h e refl
      (undelete_carried (layout_of q.size) m ps q.job laid agreed k l (name_bound l nl) (ltb-true k (length ps) i) b.0 b.1 v))
      (λ _. f NotErased)

  sweep-preserves : Kept sweep (plan s q sweep)
  sweep-preserves = carried_preserved m s q q sweep _ h e refl (sweep_carried (layout_of q.size) m ps q.job laid agreed e)

  -- with no job open nothing waits
  shut-agrees : q.job ≡ None → (m.waiting ≡ None) × Agrees m.slots None ps None
  shut-agrees o = none_waits m.slots m.waiting ps (subst (λ (z : Option OpenJob). Agrees m.slots m.waiting ps z) o agreed)

  open-at-preserves : (n : List ℕ) → lawful_name n ≡ true → q.job ≡ None → (o : Option ℕ) → slot_named ps n ≡ o → Kept (open' n) (open_at ps q n o)
  open-at-preserves n l z None g =
      let P : Plan → Type 0 = Kept (open' n) in
      let d : (r : Refusal) → P (decline r) = λ r. tt in
      let f : (r : Refusal) → P (refuse r) = refused (open' n) in
      let a : Agrees m.slots m.waiting ps None = subst (λ (o : Option OpenJob). Agrees m.slots m.waiting ps o) z agreed in
      let v : slot_of m n ≡ None = sym (lowest_same agreed (named (padded n)) (named_seen (padded n))) ∙ g in
      found_keeps P d f (lowest usable (slots_in ps)) NoSlot _ λ k i.
      carried_preserved m s q (with_job q (Some (opened_new k n))) (open' n) _ h e refl
      (subst (λ (o : Option OpenJob). Carried (layout_of q.size) m ps o (open' n) (entering k (saved_entry (place_in ps k) (new_job n)) ∷ []) (Some (opened_new k n))) (sym z)
      (open_carried (layout_of q.size) m ps laid a n l g v k (hit agreed usable usable_seen k i)))
  open-at-preserves n l z (Some k) g =
      let P : Plan → Type 0 = Kept (open' n) in
      let d : (r : Refusal) → P (decline r) = λ r. tt in
      let f : (r : Refusal) → P (refuse r) = refused (open' n) in
      let w = named_hit agreed (padded n) k g in
      let j : Job = w.0 in
      let a = shut-agrees z in
      let same-job : job_of (decoded (place_in ps k)) ≡ j = ap job_of w.1.shows in
      let v : slot_of m n ≡ Some k = w.1.at in
      let c : Agrees m.slots (waiting_at k []) ps (Some (continued k (job_of (decoded (place_in ps k))))) =
      subst (λ (i : Job). Agrees m.slots (waiting_at k []) ps (Some (continued k i))) (sym same-job)
      (continued_agrees (layout_of q.size) m.slots ps laid a.1 (padded n) k j w.1) in
      let model : done m (open' n) ≡ with_waiting m (waiting_at k []) =
      ap (λ (o : Option ℕ). with_waiting (with_slots m (opened m.slots n o)) (none_yet (open_slot m.slots o))) v in
      cond_keeps P d f (eqb (job_of (decoded (place_in ps k))).kind 0x82) _ _
      (λ _.
      nothing_preserved q.size m s q (with_job q (Some (continued k (job_of (decoded (place_in ps k)))))) (open' n) h
      (subst (λ (z : Model). Holds q.size z s (with_job q (Some (continued k (job_of (decoded (place_in ps k))))))) (sym model)
      (holds_told q.size m (with_waiting m (waiting_at k [])) s q (with_job q (Some (continued k (job_of (decoded (place_in ps k)))))) h c
      (subst (λ (b : Bool). Knows b q.size (with_job q (Some (continued k (job_of (decoded (place_in ps k))))))) (sym e) refl))))
      (λ _. f NotSequential)

  open-preserves : (n : List ℕ) → Kept (open' n) (open_plan ps q n)
  unfolding open_plan
  open-preserves n =
      let P : Plan → Type 0 = Kept (open' n) in
      let d : (r : Refusal) → P (decline r) = λ r. tt in
      let f : (r : Refusal) → P (refuse r) = refused (open' n) in
      unless_keeps P d f (lawful_name n) Name _ λ l.
      all_shut_keeps P d f q.job _ λ z.
      open-at-preserves n l z (slot_named ps n) refl

  -- told from memory, with another open job or none
  told : (call : Call) (o : Option OpenJob) → Agrees (done m call).slots (done m call).waiting ps o → Holds q.size (done m call) s (with_job q o)
  told call o a = holds_told q.size m (done m call) s q (with_job q o) h a (subst (λ (b : Bool). Knows b q.size (with_job q o)) (sym (done_mounted m call e)) refl)

  put-by-preserves : (i : ℕ) (x : List ℕ) (o : OpenJob) (n : ℕ) → sectors_full o x ≡ n →
      Carried (layout_of q.size) m ps q.job (put i x) (put_writes o x) (Some (after_put o x)) →
      Kept (put i x) (put_by n (put_writes o x) (with_job q (Some (after_put o x))))
  unfolding put_writes filling
  put-by-preserves i x o zero z c =
      told (put i x) (Some (after_put o x))
      (subst (λ (n : ℕ). Agrees m.slots (done m (put i x)).waiting (all_moved ps (filling o.slot o.full (chunk (o.gathered ++ x)) n)) (Some (after_put o x))) z c.whole)
  put-by-preserves i x o (suc n) z c = carried_preserved m s q (with_job q (Some (after_put o x))) (put i x) _ h e refl c

  put-preserves : (i : ℕ) (x : List ℕ) → Bytes x → Kept (put i x) (put_plan q i x)
  unfolding put_plan
  put-preserves i x b =
      let P : Plan → Type 0 = Kept (put i x) in
      let d : (r : Refusal) → P (decline r) = λ r. tt in
      let f : (r : Refusal) → P (refuse r) = refused (put i x) in
      held_open_keeps P d f q.job i _ λ o z _.
      unless_keeps P d f (leb (job_length o + length x) 65535) TooLong _ λ l.
      let a : Agrees m.slots m.waiting ps (Some o) = subst (λ (t : Option OpenJob). Agrees m.slots m.waiting ps t) z agreed in
      put-by-preserves i x o (sectors_full o x) refl
      (subst (λ (t : Option OpenJob). Carried (layout_of q.size) m ps t (put i x) (put_writes o x) (Some (after_put o x))) (sym z)
      (put_carried (layout_of q.size) m ps o laid a i x (leb-true (job_length o + length x) 65535 l) b))

  commit-preserves : (i : ℕ) → Kept (commit i) (commit_plan ps q i)
  unfolding commit_plan
  commit-preserves i =
      let P : Plan → Type 0 = Kept (commit i) in
      let d : (r : Refusal) → P (decline r) = λ r. tt in
      let f : (r : Refusal) → P (refuse r) = refused (commit i) in
      held_open_keeps P d f q.job i _ λ o z _.
      let a : Agrees m.slots m.waiting ps (Some o) = subst (λ (t : Option OpenJob). Agrees m.slots m.waiting ps t) z agreed in
      cond_keeps P d f (eqb o.waiting 0) _ _
      (λ w. told (commit i) q.job
      (subst (λ (t : Option OpenJob). Agrees (done m (commit i)).slots (done m (commit i)).waiting ps t) (sym z)
      (commit_nothing (layout_of q.size) m ps o laid a i (eqb-true o.waiting 0 w))))
      (λ _. carried_preserved m s q (with_job q (Some (after_commit o))) (commit i) _ h e refl
      (subst (λ (t : Option OpenJob). Carried (layout_of q.size) m ps t (commit i) (commit_writes o (entry_of (place_in ps o.slot))) (Some (after_commit o))) (sym z)
      (commit_carried (layout_of q.size) m ps o laid a i)))

  finish-preserves : (i : ℕ) (o : Option OpenJob) → q.job ≡ o → Kept (finish i) (finish_by q i o)
  finish-preserves i None z =
      let a : Agrees m.slots m.waiting ps None = subst (λ (t : Option OpenJob). Agrees m.slots m.waiting ps t) z agreed in
      told (finish i) q.job (subst (λ (w : Option Waiting). Agrees m.slots w ps q.job) (sym (finished_none m.slots m.waiting ps a i)) agreed)
  finish-preserves i (Some o) z =
      let P : Plan → Type 0 = Kept (finish i) in
      let d : (r : Refusal) → P (decline r) = λ r. tt in
      let f : (r : Refusal) → P (refuse r) = refused (finish i) in
      let a : Agrees m.slots m.waiting ps (Some o) = subst (λ (t : Option OpenJob). Agrees m.slots m.waiting ps t) z agreed in
      cond_keeps P d f (eqb o.slot i) _ _
      (λ t. told (finish i) None (finished_agrees m.slots m.waiting ps o a i (eqb-true o.slot i t)))
      (λ t. told (finish i) q.job
      (subst (λ (w : Option Waiting). Agrees m.slots w ps q.job) (sym (finished_other m.slots m.waiting ps o a i (eqb-false o.slot i t))) agreed))

  mounted-preserves : (call : Call) → Typed call → Kept call (plan s q call)
  mounted-preserves mount t = mount_preserves q.size m s q h
  mounted-preserves (save n k a b) t = save-preserves n k a b t.0 t.1
  mounted-preserves (open' n) t = open-preserves n
  mounted-preserves (put i x) t = put-preserves i x t
  mounted-preserves (commit i) t = commit-preserves i
  mounted-preserves (finish i) t = finish-preserves i q.job refl
  mounted-preserves (rename a b) t = rename-preserves a b
  mounted-preserves (erase n) t = erase-preserves n
  mounted-preserves (wipe n) t = wipe-preserves n
  mounted-preserves sweep t = sweep-preserves
  mounted-preserves (undelete k l) t = undelete-preserves k l
  mounted-preserves (load n r) t = load-preserves n r
  mounted-preserves (read n i r) t = read-preserves n i r
  mounted-preserves list t = read_only list refl
  mounted-preserves (same a b) t = same-preserves a b
  mounted-preserves check t = read_only check refl

-- CALLS BEFORE THE FIRST MOUNT

-- a card of no sectors has no slots
pub no_places : (s : Sectors) → card_places unmounted s ≡ []
unfolding places
no_places s = refl

module _ (size : ℕ) (m : Model) (s : Sectors) (h : Holds size m s unmounted) (e : m.mounted ≡ false) where
  abbrev Stays : Call → Plan → Type 0
  Stays call p = Preserves size m s unmounted call p

  stays-refused : (call : Call) (r : Refusal) → Stays call (refuse r)
  stays-refused call r = counted_none m call

  -- a call that sees no slot and writes nothing
  idle : (call : Call) → done m call ≡ m → Preserved size m s unmounted call [] unmounted
  idle call d = nothing_preserved size m s unmounted unmounted call h (subst (λ (z : Model). Holds size z s unmounted) (sym d) h)

  declines : (call : Call) (r : Refusal) → Stays call (decline r)
  declines call r = tt

  save-stays : (n : List ℕ) (t a : ℕ) (b : List ℕ) → Stays (save n t a b) (save_plan [] unmounted (job_saved n t a b) n)
  unfolding save_plan
  save-stays n t a b =
      let P : Plan → Type 0 = Stays (save n t a b) in
      let d = declines (save n t a b) in
      let f = stays-refused (save n t a b) in
      unless_keeps P d f (lawful_name n) Name _ λ _.
      unless_keeps P d f (known_kind t) FileType _ λ _.
      unless_keeps P d f (leb (length b) 65535) TooLong _ λ _. f NoSlot

  open_stays : (n : List ℕ) → Stays (open' n) (open_plan [] unmounted n)
  unfolding open_plan
  open_stays n = unless_keeps (Stays (open' n)) (declines (open' n)) (stays-refused (open' n)) (lawful_name n) Name _ λ _. stays-refused (open' n) NoSlot

  rename-stays : (a b : List ℕ) → Stays (rename a b) (rename_plan [] unmounted a b)
  unfolding rename_plan
  rename-stays a b =
      unless_keeps (Stays (rename a b)) (declines (rename a b)) (stays-refused (rename a b)) (lawful_name a && lawful_name b) Name _ λ _. stays-refused (rename a b) NoJob

  erase-stays : (n : List ℕ) → Stays (erase n) (erase_plan [] unmounted n)
  unfolding erase_plan
  erase-stays n = unless_keeps (Stays (erase n)) (declines (erase n)) (stays-refused (erase n)) (lawful_name n) Name _ λ _. stays-refused (erase n) NoJob

  wipe-stays : (n : List ℕ) → Stays (wipe n) (wipe_plan [] unmounted n)
  unfolding wipe_plan
  wipe-stays n = unless_keeps (Stays (wipe n)) (declines (wipe n)) (stays-refused (wipe n)) (lawful_name n) Name _ λ _. stays-refused (wipe n) NoJob

  undelete-stays : (k l : ℕ) → Stays (undelete k l) (undelete_plan [] unmounted k l)
  unfolding undelete_plan
  undelete-stays k l =
      let P : Plan → Type 0 = Stays (undelete k l) in
      let d = declines (undelete k l) in
      let f = stays-refused (undelete k l) in
      unless_keeps P d f (name_char l) Name _ λ _.
      unless_keeps P d f (ltb k 0) NotErased _ λ t. let z = ltb-true k 0 t in absurd (omega arith)

  load-stays : (n : List ℕ) (r : ℕ) → Stays (load n r) (load_plan [] unmounted n r)
  unfolding load_plan
  load-stays n r = unless_keeps (Stays (load n r)) (declines (load n r)) (stays-refused (load n r)) (lawful_name n) Name _ λ _. stays-refused (load n r) NoJob

  read_stays : (n : List ℕ) (i r : ℕ) → Stays (read n i r) (read_plan [] unmounted n i r)
  unfolding read_plan
  read_stays n i r = unless_keeps (Stays (read n i r)) (declines (read n i r)) (stays-refused (read n i r)) (lawful_name n) Name _ λ _. stays-refused (read n i r) NoJob

  same-stays : (a b : List ℕ) → Stays (same a b) (same_plan [] unmounted a b)
  unfolding same_plan
  same-stays a b = unless_keeps (Stays (same a b)) (declines (same a b)) (stays-refused (same a b)) (lawful_name a && lawful_name b) Name _ λ _. stays-refused (same a b) NoJob

  put-stays : (i : ℕ) (x : List ℕ) → Stays (put i x) (put_plan unmounted i x)
  unfolding put_plan
  put-stays i x = tt

  commit-stays : (i : ℕ) → Stays (commit i) (commit_plan [] unmounted i)
  unfolding commit_plan
  commit-stays i = tt

  sweep-stays : Stays sweep (go between (sweep_writes 0 (slots_in [])) ok unmounted)
  sweep-stays = idle sweep (ap (λ (b : Bool). counted m sweep (cond b (length m.slots) 0)) e ∙ counted_none m sweep)

  finish-stays : (i : ℕ) → Stays (finish i) (finish_by unmounted i None)
  finish-stays i =
      subst (λ (z : Model). Holds size z s unmounted)
      (ap (with_waiting m) (sym (finished_none m.slots m.waiting (places (layout_of size) s) h.agrees i))) h

  -- without a slot to see
  blind : (call : Call) (p : List Place → Plan) → Stays call (p []) → Stays call (p (card_places unmounted s))
  blind call p x = subst (λ (z : List Place). Stays call (p z)) (sym (no_places s)) x

  unmounted-preserves : (call : Call) → Stays call (plan s unmounted call)
  unmounted-preserves mount = mount_preserves size m s unmounted h
  unmounted-preserves (save n t a b) = blind (save n t a b) (λ ps. save_plan ps unmounted (job_saved n t a b) n) (save-stays n t a b)
  unmounted-preserves (open' n) = blind (open' n) (λ ps. open_plan ps unmounted n) (open_stays n)
  unmounted-preserves (put i x) = put-stays i x
  unmounted-preserves (commit i) = blind (commit i) (λ ps. commit_plan ps unmounted i) (commit-stays i)
  unmounted-preserves (finish i) = finish-stays i
  unmounted-preserves (rename a b) = blind (rename a b) (λ ps. rename_plan ps unmounted a b) (rename-stays a b)
  unmounted-preserves (erase n) = blind (erase n) (λ ps. erase_plan ps unmounted n) (erase-stays n)
  unmounted-preserves (wipe n) = blind (wipe n) (λ ps. wipe_plan ps unmounted n) (wipe-stays n)
  unmounted-preserves sweep = blind sweep (λ ps. go between (sweep_writes 0 (slots_in ps)) ok unmounted) sweep-stays
  unmounted-preserves (undelete k l) = blind (undelete k l) (λ ps. undelete_plan ps unmounted k l) (undelete-stays k l)
  unmounted-preserves (load n r) = blind (load n r) (λ ps. load_plan ps unmounted n r) (load-stays n r)
  unmounted-preserves (read n i r) = blind (read n i r) (λ ps. read_plan ps unmounted n i r) (read_stays n i r)
  unmounted-preserves list = idle list refl
  unmounted-preserves (same a b) = blind (same a b) (λ ps. same_plan ps unmounted a b) (same-stays a b)
  unmounted-preserves check = idle check refl

-- ALL CALLS

by_mounted : (size : ℕ) (m : Model) (s : Sectors) (q : Memory) → Holds size m s q → (b : Bool) → m.mounted ≡ b → (call : Call) → Typed call → Preserves size m s q call (plan s q call)
by_mounted size m s q h true e call t =
    let k : q.size ≡ size = subst (λ (b : Bool). Knows b size q) e h.knows in
    let P : ℕ → Type 0 = λ n. Holds n m s q → Preserves n m s q call (plan s q call) in
    let r : P q.size = λ g. mounted-preserves m s q g e call t in
    subst P k r h
by_mounted size m s q h false e call t =
    let k : q ≡ unmounted = subst (λ (b : Bool). Knows b size q) e h.knows in
    let P : Memory → Type 0 = λ q. Holds size m s q → Preserves size m s q call (plan s q call) in
    let r : P unmounted = λ g. unmounted-preserves size m s g e call in
    subst P (sym k) r h

pub calls_preserve_lem : CallsPreserve
calls_preserve_lem size m s q h call t = by_mounted size m s q h m.mounted refl call t
