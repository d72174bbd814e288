-- Every step of a history keeps card and model in agreement.
use Rattle.std.proofs.Common.{◌≡◌, ℕ, suc, ◌≤◌, Bool, true, false, ◌&&◌, ltb, leb, ◌⊎◌, List, [], ◌∷◌, length, take, Some, None, Ok, Err, Option, Result, sym, refl, ap, ◌∙◌, subst, inl, inr, le_refl, arith}
use Rattle.std.proofs.lemmas.List.{take_all}
use Rattle.std.proofs.lemmas.Bool.{and_parts, ltb-true}
use Rattle.device.specs.Meaning.{Meaning, Sectors}
use Rattle.device.specs.declared.faults.Fault.{Fault}
use Rattle.layout.specs.Names.{lawful_name, name_char}
use Rattle.layout.specs.Sizes.{layout_of}
use Rattle.layout.specs.declared.sizes.Layout.{Layout}
use Rattle.refusals.specs.Refusals.{IsByDevice}
use Rattle.refusals.specs.declared.Refusal.{Refusal}
use Rattle.refusals.specs.declared.Refusal.TheVariants.{Name, DiskId, FileType, NotOpen, TooLong, TooSmall, Field, Open, NoJob, NotSequential, NotErased, NameTaken, NoSlot, OutOfBounds, Device}
use Rattle.places.specs.Places.{Place}
use Rattle.places.specs.SlotWrites.{SlotWrite, all_written}
use Rattle.plans.specs.Calls.{Call, mount, save, open', put, commit, finish, rename, erase, wipe, sweep, undelete, load, read, list, same, check, Answer, done as ok}
use Rattle.plans.specs.Memory.{Memory, unmounted, card_layout}
use Rattle.plans.specs.Plans.{Plan, tell, decline, refuse, go, Reads, at_first, between, sweep_writes, plan, card_places, place_in, restored_slot, mount_plan, mount_by, save_plan, open_plan, put_plan, commit_plan, rename_plan, erase_plan, wipe_plan, undelete_plan, load_plan, read_plan, same_plan, job_saved}
use Rattle.plans.specs.Rows.{known_kind}
use Rattle.plans.specs.Slots.{decoded, slots_in, is_erased, is_live}
use Rattle.volume.specs.Outcomes.{Ended, Performs}
use Rattle.volume.specs.Performing.{Cut, at_write, at_read}
use Rattle.history.specs.Agreement.{Knows, Holds}
use Rattle.history.specs.Events.{Outcome, accepted, refused, broken, Event, called, pulled, next, after}
use Rattle.history.specs.Model.{Model, counted, done}
use Rattle.history.specs.Preserved.{Typed, entries_written, Preserves}
use Rattle.std.proofs.Math.Seq.{take-nil}
use Rattle.history.proofs.Preserving.{calls_preserve_lem, counted_none, no_places, unless_keeps, cond_keeps}
use Rattle.layout.specs.Label.{bad_field}
use Rattle.layout.specs.Words.{double_at}
use Rattle.histories.specs.Steps.{State, any_fault, writes_of, FoundBroken, TakenRefusal, Taken, Called, Renewed, Leads}

-- A CARD THAT IS NOT MOUNTED

-- no call on it writes anything
abbrev Idle : Plan → Type 0
Idle p = writes_of p ≡ []

idle_declined : (r : Refusal) → Idle (decline r)
idle_declined r = refl

idle_refused : (r : Refusal) → Idle (refuse r)
idle_refused r = refl

save_idle : (n : List ℕ) (t a : ℕ) (b : List ℕ) → Idle (save_plan [] unmounted (job_saved n t a b) n)
unfolding save_plan
save_idle n t a b =
    unless_keeps Idle idle_declined idle_refused (lawful_name n) Name _ λ _.
    unless_keeps Idle idle_declined idle_refused (known_kind t) FileType _ λ _.
    unless_keeps Idle idle_declined idle_refused (leb (length b) 65535) TooLong _ λ _. refl

open_idle : (n : List ℕ) → Idle (open_plan [] unmounted n)
unfolding open_plan
open_idle n = unless_keeps Idle idle_declined idle_refused (lawful_name n) Name _ λ _. refl

rename_idle : (a b : List ℕ) → Idle (rename_plan [] unmounted a b)
unfolding rename_plan
rename_idle a b = unless_keeps Idle idle_declined idle_refused (lawful_name a && lawful_name b) Name _ λ _. refl

erase_idle : (n : List ℕ) → Idle (erase_plan [] unmounted n)
unfolding erase_plan
erase_idle n = unless_keeps Idle idle_declined idle_refused (lawful_name n) Name _ λ _. refl

wipe_idle : (n : List ℕ) → Idle (wipe_plan [] unmounted n)
unfolding wipe_plan
wipe_idle n = unless_keeps Idle idle_declined idle_refused (lawful_name n) Name _ λ _. refl

undelete_idle : (k l : ℕ) → Idle (undelete_plan [] unmounted k l)
unfolding undelete_plan
undelete_idle k l =
    unless_keeps Idle idle_declined idle_refused (name_char l) Name _ λ _.
    unless_keeps Idle idle_declined idle_refused (ltb k 0) NotErased _ λ t. let z = ltb-true k 0 t in absurd (omega arith)

load_idle : (n : List ℕ) (r : ℕ) → Idle (load_plan [] unmounted n r)
unfolding load_plan
load_idle n r = unless_keeps Idle idle_declined idle_refused (lawful_name n) Name _ λ _. refl

read_idle : (n : List ℕ) (i r : ℕ) → Idle (read_plan [] unmounted n i r)
unfolding read_plan
read_idle n i r = unless_keeps Idle idle_declined idle_refused (lawful_name n) Name _ λ _. refl

same_idle : (a b : List ℕ) → Idle (same_plan [] unmounted a b)
unfolding same_plan
same_idle a b = unless_keeps Idle idle_declined idle_refused (lawful_name a && lawful_name b) Name _ λ _. refl

put_idle : (i : ℕ) (x : List ℕ) → Idle (put_plan unmounted i x)
unfolding put_plan
put_idle i x = refl

commit_idle : (i : ℕ) → Idle (commit_plan [] unmounted i)
unfolding commit_plan
commit_idle i = refl

mount_idle : (s : Sectors) → Idle (mount_plan s)
unfolding mount_plan
mount_idle [] = refl
mount_idle (x ∷ xs) = by (bad_field (suc (length xs)) x)
  where
    by : (o : Option ℕ) → Idle (mount_by o (double_at x 15))
    by None = refl
    by (Some k) = refl

blind : (s : Sectors) (p : List Place → Plan) → Idle (p []) → Idle (p (card_places unmounted s))
blind s p x = subst (λ (z : List Place). Idle (p z)) (sym (no_places s)) x

idle : (s : Sectors) (call : Call) → Idle (plan s unmounted call)
idle s mount = mount_idle s
idle s (save n t a b) = blind s (λ ps. save_plan ps unmounted (job_saved n t a b) n) (save_idle n t a b)
idle s (open' n) = blind s (λ ps. open_plan ps unmounted n) (open_idle n)
idle s (put i x) = put_idle i x
idle s (commit i) = blind s (λ ps. commit_plan ps unmounted i) (commit_idle i)
idle s (finish i) = refl
idle s (rename a b) = blind s (λ ps. rename_plan ps unmounted a b) (rename_idle a b)
idle s (erase n) = blind s (λ ps. erase_plan ps unmounted n) (erase_idle n)
idle s (wipe n) = blind s (λ ps. wipe_plan ps unmounted n) (wipe_idle n)
idle s sweep = blind s (λ ps. go between (sweep_writes 0 (slots_in ps)) ok unmounted) refl
idle s (undelete k l) = blind s (λ ps. undelete_plan ps unmounted k l) (undelete_idle k l)
idle s (load n r) = blind s (λ ps. load_plan ps unmounted n r) (load_idle n r)
idle s (read n i r) = blind s (λ ps. read_plan ps unmounted n i r) (read_idle n i r)
idle s list = refl
idle s (same a b) = blind s (λ ps. same_plan ps unmounted a b) (same_idle a b)
idle s check = refl

-- ONE STEP

-- the program's layout is that of the card wherever a write is wanted
same_written : (size : ℕ) (b : Bool) (q : Memory) → Knows b size q → (s : Sectors) (call : Call) (j : ℕ) →
    all_written (card_layout q) s (take j (writes_of (plan s q call))) ≡ all_written (layout_of size) s (take j (writes_of (plan s q call)))
same_written size true q k s call j = ap (λ (n : ℕ). all_written (layout_of n) s (take j (writes_of (plan s q call)))) k
same_written size false q k s call j =
    let none : take j (writes_of (plan s q call)) ≡ [] = ap (λ (x : Memory). take j (writes_of (plan s x call))) k ∙ (ap (take j) (idle s call) ∙ take-nil j) in
    ap (all_written (card_layout q) s) none ∙ sym (ap (all_written (layout_of size) s) none)

pub known_size : (size : ℕ) (b : Bool) (q : Memory) (n : ℕ) → Knows b size q → size ≤ n → q.size ≤ n
known_size size true q n k h = omega arith
known_size size false q n k h = let z : q.size ≡ 0 = ap (λ (x : Memory). x.size) k in omega arith

-- a refusal by the device leaves the first writes
taken_device : (st : State) (call : Call) (st' : State) (o : Outcome) (Q : Fault → Type 0) (r : Refusal) → IsByDevice Q r → TakenRefusal st call r st' o → FoundBroken st call st' o
taken_device st call st' o Q Name b t = absurd b
taken_device st call st' o Q DiskId b t = absurd b
taken_device st call st' o Q FileType b t = absurd b
taken_device st call st' o Q NotOpen b t = absurd b
taken_device st call st' o Q TooLong b t = absurd b
taken_device st call st' o Q TooSmall b t = absurd b
taken_device st call st' o Q (Field k) b t = absurd b
taken_device st call st' o Q Open b t = absurd b
taken_device st call st' o Q NoJob b t = absurd b
taken_device st call st' o Q NotSequential b t = absurd b
taken_device st call st' o Q NotErased b t = absurd b
taken_device st call st' o Q NameTaken b t = absurd b
taken_device st call st' o Q NoSlot b t = absurd b
taken_device st call st' o Q OutOfBounds b t = absurd b
taken_device st call st' o Q (Device f) b t = t

taken_cases : (st : State) (call : Call) (st' : State) (o : Outcome) (r : Refusal) → TakenRefusal st call r st' o → (o ≡ refused) ⊎ FoundBroken st call st' o
taken_cases st call st' o Name t = inl t
taken_cases st call st' o DiskId t = inl t
taken_cases st call st' o FileType t = inl t
taken_cases st call st' o NotOpen t = inl t
taken_cases st call st' o TooLong t = inl t
taken_cases st call st' o TooSmall t = inl t
taken_cases st call st' o (Field k) t = inl t
taken_cases st call st' o Open t = inl t
taken_cases st call st' o NoJob t = inl t
taken_cases st call st' o NotSequential t = inl t
taken_cases st call st' o NotErased t = inl t
taken_cases st call st' o NameTaken t = inl t
taken_cases st call st' o NoSlot t = inl t
taken_cases st call st' o OutOfBounds t = inl t
taken_cases st call st' o (Device f) t = inr t

-- the model and the card after a step, by the plan p
module _ (size : ℕ) (m : Model) (st : State) (call : Call) (h : Holds size m st.device.sectors st.memory) (st' : State) where
  abbrev s : Sectors
  s = st.device.sectors

  abbrev c : Layout
  c = card_layout st.memory

  -- what of a plan's writes is found
  abbrev Found : Plan → Outcome → Type 0
  Found p o = (j : ℕ) × (st'.device.sectors ≡ all_written c s (take j (writes_of p))) × (o ≡ broken (entries_written (take j (writes_of p))))

  -- the plan's writes are those of the card
  abbrev Same : Plan → Type 0
  Same p = (j : ℕ) → all_written c s (take j (writes_of p)) ≡ all_written (layout_of size) s (take j (writes_of p))

  abbrev Goal : Outcome → Type 0
  Goal o = Holds size (next m (called call o)) st'.device.sectors st'.memory

  held : (m' : Model) (t : Sectors) (q : Memory) → Holds size m' t q → st'.device.sectors ≡ t → st'.memory ≡ q → Holds size m' st'.device.sectors st'.memory
  held m' t q g e f = rw (e, f) g

  unchanged : (o : Outcome) → st'.device.sectors ≡ s → st'.memory ≡ st.memory → (o ≡ refused) ⊎ (o ≡ broken 0) → Goal o
  unchanged o e f (inl g) = rw g (held m s st.memory h e f)
  unchanged o e f (inr g) = rw (g, counted_none m call) (held m s st.memory h e f)

  none_found : (p : Plan) (o : Outcome) → writes_of p ≡ [] → Found p o → (st'.device.sectors ≡ s) × (o ≡ broken 0)
  none_found p o z f =
      let e : take f.0 (writes_of p) ≡ [] = ap (take f.0) z ∙ take-nil f.0 in
      (f.1 ∙ ap (all_written c s) e, f.2 ∙ ap (λ (x : List SlotWrite). broken (entries_written x)) e)

  refused-goal : (p : Plan) (o : Outcome) → writes_of p ≡ [] → st'.device.sectors ≡ s → st'.memory ≡ st.memory → (o ≡ refused) ⊎ Found p o → Goal o
  refused-goal p o z e f (inl g) = unchanged o e f (inl g)
  refused-goal p o z e f (inr g) = unchanged o e f (inr (none_found p o z g).1)

  sectors-of : (x : Meaning) → st'.device ≡ x → st'.device.sectors ≡ x.sectors
  sectors-of x e = ap (λ (y : Meaning). y.sectors) e

  accepted-goal : (p : Plan) → Preserves size m s st.memory call p → Same p → (v : Answer) →
      Ended any_fault c ◌≡◌ p st.device st'.device st.memory st'.memory (Ok v) → Goal accepted
  accepted-goal (tell a q) g w' v e = held (done m call) s q g (sectors-of st.device e.1.device) e.1.memory
  accepted-goal (decline r) g w' v e = absurd e
  accepted-goal (refuse r) g w' v e = absurd e
  accepted-goal (go rs ws a q) g w' v e =
      let all : take (length ws) ws ≡ ws = take_all (length ws) ws (le_refl (length ws)) in
      let w : all_written c s ws ≡ all_written (layout_of size) s ws =
      ap (all_written c s) (sym all) ∙ (w' (length ws) ∙ ap (all_written (layout_of size) s) all) in
      held (done m call) (all_written (layout_of size) s ws) q g.whole (ap (λ (y : Meaning). y.sectors) e.writes.leaves ∙ w) e.memory

  -- a read that was refused before anything was written
  cut-nothing : (rs : Reads) (f : Fault) → Cut any_fault c rs st.device st'.device [] f → st'.device.sectors ≡ s
  cut-nothing rs f (at_write x) = let z = x.is_one in absurd (omega arith)
  cut-nothing rs f (at_read x) = sectors-of _ x.leaves ∙ ap (all_written c s) (take-nil x.after)

  device-nothing : (rs : Reads) (r : Refusal) → IsByDevice (Cut any_fault c rs st.device st'.device []) r → st'.device.sectors ≡ s
  device-nothing rs Name b = absurd b
  device-nothing rs DiskId b = absurd b
  device-nothing rs FileType b = absurd b
  device-nothing rs NotOpen b = absurd b
  device-nothing rs TooLong b = absurd b
  device-nothing rs TooSmall b = absurd b
  device-nothing rs (Field k) b = absurd b
  device-nothing rs Open b = absurd b
  device-nothing rs NoJob b = absurd b
  device-nothing rs NotSequential b = absurd b
  device-nothing rs NotErased b = absurd b
  device-nothing rs NameTaken b = absurd b
  device-nothing rs NoSlot b = absurd b
  device-nothing rs OutOfBounds b = absurd b
  device-nothing rs (Device f) b = cut-nothing rs f b

  -- refused or broken; a cut in writes is always found
  refusal-goal : (p : Plan) → Preserves size m s st.memory call p → Same p → (r : Refusal) (o : Outcome) →
      Ended any_fault c ◌≡◌ p st.device st'.device st.memory st'.memory (Err r) → (o ≡ refused) ⊎ Found p o →
      ((Q : Fault → Type 0) → IsByDevice Q r → Found p o) → Goal o
  refusal-goal (tell a q) g w' r o e t d = absurd e
  refusal-goal (decline x) g w' r o e t d = refused-goal (decline x) o refl (sectors-of st.device e.1.device) e.1.memory t
  refusal-goal (refuse x) g w' r o (inl e) t d = refused-goal (refuse x) o refl (sectors-of st.device e.device) e.memory t
  refusal-goal (refuse x) g w' r o (inr e) t d = refused-goal (refuse x) o refl (device-nothing at_first r e.by_device) e.memory t
  refusal-goal (go rs ws a q) g w' r o e t d =
      let f = d _ e.by_device in
      rw f.2 (held (counted m call (entries_written (take f.0 ws))) (all_written (layout_of size) s (take f.0 ws)) st.memory (g.part f.0) (f.1 ∙ w' f.0) e.memory)

-- the writes that are found, as three facts
abbrev FoundOf : State → Call → State → Outcome → Type 0
FoundOf st call st' o =
    (j : ℕ) × (st'.device.sectors ≡ all_written (card_layout st.memory) st.device.sectors (take j (writes_of (plan st.device.sectors st.memory call))))
    × (o ≡ broken (entries_written (take j (writes_of (plan st.device.sectors st.memory call)))))

found_of : (st : State) (call : Call) (st' : State) (o : Outcome) → FoundBroken st call st' o → FoundOf st call st' o
found_of st call st' o f = (f.persisted, f.found, f.outcome)

refused_or_found : (st : State) (call : Call) (st' : State) (o : Outcome) → (o ≡ refused) ⊎ FoundBroken st call st' o → (o ≡ refused) ⊎ FoundOf st call st' o
refused_or_found st call st' o (inl e) = inl e
refused_or_found st call st' o (inr f) = inr (found_of st call st' o f)

by_answer : (size : ℕ) (m : Model) (st : State) (call : Call) → Holds size m st.device.sectors st.memory → (st' : State) (o : Outcome) (r : Result Answer Refusal) →
    Typed call → Performs any_fault ◌≡◌ call st.device st'.device st.memory st'.memory r → Taken st call r st' o → Holds size (next m (called call o)) st'.device.sectors st'.memory
by_answer size m st call h st' o (Ok v) y x t =
    subst (λ (z : Outcome). Holds size (next m (called call z)) st'.device.sectors st'.memory) (sym t)
    (accepted-goal size m st call h st' (plan st.device.sectors st.memory call) (calls_preserve_lem size m st.device.sectors st.memory h call y)
    (same_written size m.mounted st.memory h.knows st.device.sectors call) v
    (x.ends (known_size size m.mounted st.memory (length st.device.sectors) h.knows h.shaped.many)))
by_answer size m st call h st' o (Err r) y x t =
    refusal-goal size m st call h st' (plan st.device.sectors st.memory call) (calls_preserve_lem size m st.device.sectors st.memory h call y)
    (same_written size m.mounted st.memory h.knows st.device.sectors call) r o
    (x.ends (known_size size m.mounted st.memory (length st.device.sectors) h.knows h.shaped.many))
    (refused_or_found st call st' o (taken_cases st call st' o r t)) (λ Q b. found_of st call st' o (taken_device st call st' o Q r b t))

pub step_holds : (size : ℕ) (m : Model) (st : State) → Holds size m st.device.sectors st.memory → (call : Call) (o : Outcome) (st' : State) → Called st call o st' →
    Holds size (next m (called call o)) st'.device.sectors st'.memory
step_holds size m st h call o st' x = by_answer size m st call h st' o x.answer x.typed x.did x.taken

-- a card begun with anew
pub renewed_holds : (size : ℕ) (m : Model) (st st' : State) → Holds size m st.device.sectors st.memory → Renewed st st' →
    Holds size (next m pulled) st'.device.sectors st'.memory
renewed_holds size m st st' h x =
    rw (x.sectors, x.memory) record {
      shaped = h.shaped;
      label = h.label;
      agrees = record { same = h.agrees.same; unique = h.agrees.unique; open' = tt };
      knows = refl;
    }

-- a whole history
pub history_holds : (size : ℕ) (m : Model) (st : State) → Holds size m st.device.sectors st.memory → (es : List Event) (st' : State) → Leads st es st' →
    Holds size (after m es) st'.device.sectors st'.memory
history_holds size m st h [] st' l = rw l h
history_holds size m st h (called call o ∷ es) st' l = history_holds size (next m (called call o)) l.0 (step_holds size m st h call o l.0 l.1) es st' l.2
history_holds size m st h (pulled ∷ es) st' l = history_holds size (next m pulled) l.0 (renewed_holds size m st l.0 h l.1) es st' l.2
