-- What agreement of card and model says of the next call.
use Rattle.std.proofs.Common.{◌≡◌, ℕ, ◌<◌, Bool, true, false, ◌&&◌, ltb, leb, ◌⊎◌, ◌↔◌, List, [], map, length, get_or, set, Some, Ok, Err, Result, sym, refl, ap, ◌∙◌, subst, inl, inr, arith}
use Rattle.std.proofs.lemmas.Slice.Eq.{bytes_eq-Decides}
use Rattle.std.proofs.lemmas.List.{get_or-set_same}
use Rattle.std.proofs.lemmas.Bool.{and_parts, ltb-true}
use Rattle.device.specs.Meaning.{MayRefuse}
use Rattle.device.specs.declared.faults.Fault.{Fault}
use Rattle.layout.specs.Names.{lawful_name, name_char, padded}
use Rattle.refusals.specs.Refusals.{IsByDevice, refusal_number}
use Rattle.refusals.specs.declared.Refusal.{Refusal}
use Rattle.refusals.specs.declared.Refusal.TheVariants.{Name, DiskId, FileType, NotOpen, TooLong, TooSmall, Field, Open, NoJob, NotSequential, NotErased, NameTaken, NoSlot, OutOfBounds, Device}
use Rattle.rows.specs.declared.job_row.JobRow.{JobRow}
use Rattle.places.specs.Places.{Place}
use Rattle.places.specs.SlotWrites.{SlotWrite}
use Rattle.plans.specs.Slots.{Job, Slot, empty, live, erased, decoded, slots_in, named, is_live, is_erased, job_of, lowest}
use Rattle.plans.specs.Calls.{Call, load, list, undelete, Answer, done as ok, loaded, jobs}
use Rattle.plans.specs.Cases.{IsLawfulName, First, cases, Refuses}
use Rattle.plans.specs.Memory.{Memory, unmounted, card_layout}
use Rattle.plans.specs.Plans.{Plan, tell, decline, refuse, go, Reads, at_first, plan, card_places, place_in, slot_named, restored, restored_slot, load_plan, undelete_plan}
use Rattle.plans.specs.Rows.{job_rows}
use Rattle.plans.proofs.Lowest.{lowest_some, named_live}
use Rattle.plans.proofs.Named.{live_same}
use Rattle.plans.proofs.Refusing.{refuses_as_listed_lem}
use Rattle.plans.proofs.Words.{lawful_name_decides}
use Rattle.volume.specs.Outcomes.{Ended}
use Rattle.volume.specs.Performing.{Cut, at_write, at_read}
use Rattle.history.specs.Agreement.{seen, Knows, Holds}
use Rattle.history.specs.Events.{accepted}
use Rattle.history.specs.Model.{Model, with_name, slot_of, done}
use Rattle.history.proofs.Agreeing.{named_hit, slot_shown, same_length}
use Rattle.history.proofs.OneSlot.{seen_erased}
use Rattle.history.proofs.Preserving.{no_places, unless_keeps, found_keeps, vacant_keeps, cond_keeps}
use Rattle.histories.specs.Steps.{State, any_fault, Did, Called}
use Rattle.histories.specs.Theorem.{HasLive, Shows, Upheld}
use Rattle.histories.proofs.Rows.{shows_live, live_shows}
use Rattle.histories.proofs.Stepping.{known_size, step_holds}

-- what a call promises, once its card is known to lie on its device
ended : (size : ℕ) (m : Model) (st : State) → Holds size m st.device.sectors st.memory → (call : Call) (r : Result Answer Refusal) (st' : State) → Did st call r st' →
    Ended any_fault (card_layout st.memory) ◌≡◌ (plan st.device.sectors st.memory call) st.device st'.device st.memory st'.memory r
ended size m st h call r st' d = d.ends (known_size size m.mounted st.memory (length st.device.sectors) h.knows h.shaped.many)

-- LOAD

same_loaded : (i j : Job) → loaded i ≡ loaded j → i ≡ j
same_loaded i j e = cc

abbrev Loaded : Model → List ℕ → Job → Type 0
Loaded m n j = (k : ℕ) × (slot_of m n ≡ Some k) × HasLive m k j

-- a plan that ends with the job j
abbrev Gives : State → State → (goal : Type 0) → Answer → Plan → Type 0
Gives st st' goal a p = Ended any_fault (card_layout st.memory) ◌≡◌ p st.device st'.device st.memory st'.memory (Ok a) → goal

mounted_loads : (m : Model) (st st' : State) → Holds st.memory.size m st.device.sectors st.memory → (n : List ℕ) (room : ℕ) (j : Job) →
    Gives st st' (Loaded m n j) (loaded j) (load_plan (card_places st.memory st.device.sectors) st.memory n room)
unfolding load_plan
mounted_loads m st st' h n room j =
    let ps : List Place = card_places st.memory st.device.sectors in
    let P : Plan → Type 0 = Gives st st' (Loaded m n j) (loaded j) in
    let d : (r : Refusal) → P (decline r) = λ r e. absurd e in
    let f : (r : Refusal) → P (refuse r) = λ r e. absurd e in
    unless_keeps P d f (lawful_name n) Name _ λ _.
    found_keeps P d f (slot_named ps n) NoJob _ λ k g.
    let w = named_hit h.agrees (padded n) k g in
    cond_keeps P d f (leb (length (job_of (decoded (place_in ps k))).bytes) room) _ _
    (λ _ e.
    let same-job : j ≡ w.0 = same_loaded j (job_of (decoded (place_in ps k))) e.answer ∙ ap job_of w.1.shows in
    (k, w.1.at, w.1.slot ∙ ap live (sym same-job)))
    (λ _. f OutOfBounds)

unmounted_loads : (m : Model) (st st' : State) (n : List ℕ) (room : ℕ) (j : Job) → Gives st st' (Loaded m n j) (loaded j) (load_plan [] st.memory n room)
unfolding load_plan
unmounted_loads m st st' n room j =
    let P : Plan → Type 0 = Gives st st' (Loaded m n j) (loaded j) in
    unless_keeps P (λ r e. absurd e) (λ r e. absurd e) (lawful_name n) Name _ λ _ e. absurd e

-- a card that is not mounted shows no slots
no_slots : (st : State) → st.memory ≡ unmounted → card_places st.memory st.device.sectors ≡ []
no_slots st e = ap (λ (q : Memory). card_places q st.device.sectors) e ∙ no_places st.device.sectors

loads_by : (size : ℕ) (m : Model) (st st' : State) → Holds size m st.device.sectors st.memory → (b : Bool) → m.mounted ≡ b → (n : List ℕ) (room : ℕ) (j : Job) →
    Gives st st' (Loaded m n j) (loaded j) (plan st.device.sectors st.memory (load n room))
loads_by size m st st' h true e n room j =
    let k : st.memory.size ≡ size = subst (λ (b : Bool). Knows b size st.memory) e h.knows in
    mounted_loads m st st' (subst (λ (z : ℕ). Holds z m st.device.sectors st.memory) (sym k) h) n room j
loads_by size m st st' h false e n room j =
    let k : st.memory ≡ unmounted = subst (λ (b : Bool). Knows b size st.memory) e h.knows in
    subst (λ (ps : List Place). Gives st st' (Loaded m n j) (loaded j) (load_plan ps st.memory n room)) (sym (no_slots st k)) (unmounted_loads m st st' n room j)

loads : (size : ℕ) (m : Model) (st : State) → Holds size m st.device.sectors st.memory → (n : List ℕ) (room : ℕ) (j : Job) (st' : State) →
    Did st (load n room) (Ok (loaded j)) st' → Loaded m n j
loads size m st h n room j st' d = loads_by size m st st' h m.mounted refl n room j (ended size m st h (load n room) (Ok (loaded j)) st' d)

-- LIST

same_rows : (xs ys : List JobRow) → jobs xs ≡ jobs ys → xs ≡ ys
same_rows xs ys e = cc

lists : (size : ℕ) (m : Model) (st : State) → Holds size m st.device.sectors st.memory → m.mounted ≡ true → (rows : List JobRow) (st' : State) →
    Did st list (Ok (jobs rows)) st' → (k : ℕ) (n : List ℕ) → IsLawfulName n → Shows rows k (padded n) ↔ ((j : Job) × HasLive m k j × (j.name ≡ padded n))
lists size m st h e rows st' d k n l =
    let z : st.memory.size ≡ size = subst (λ (b : Bool). Knows b size st.memory) e h.knows in
    let g : Holds st.memory.size m st.device.sectors st.memory = subst (λ (z : ℕ). Holds z m st.device.sectors st.memory) (sym z) h in
    let a = ended size m st h list (Ok (jobs rows)) st' d in
    let r : rows ≡ job_rows (map seen m.slots) = same_rows rows _ a.answer ∙ ap job_rows g.agrees.same in
    let t : lawful_name n ≡ true = (lawful_name_decides n).1 l in (
      λ w. shows_live m.slots k n t (subst (λ (x : List JobRow). Shows x k (padded n)) r w),
      λ w. subst (λ (x : List JobRow). Shows x k (padded n)) (sym r) (live_shows m.slots k n w.0 w.1 w.2),
    )

-- UNDELETE

-- the slot is erased, and is one
abbrev ErasedThere : Model → ℕ → Type 0
ErasedThere m k = (j : Job) × (get_or m.slots k empty ≡ erased j) × (k < length m.slots)

mounted_undeletes : (m : Model) (st st' : State) → Holds st.memory.size m st.device.sectors st.memory → (k l : ℕ) →
    Gives st st' (ErasedThere m k) ok (undelete_plan (card_places st.memory st.device.sectors) st.memory k l)
unfolding undelete_plan
mounted_undeletes m st st' h k l =
    let ps : List Place = card_places st.memory st.device.sectors in
    let p : Place = place_in ps k in
    let P : Plan → Type 0 = Gives st st' (ErasedThere m k) ok in
    let d : (r : Refusal) → P (decline r) = λ r e. absurd e in
    let f : (r : Refusal) → P (refuse r) = λ r e. absurd e in
    unless_keeps P d f (name_char l) Name _ λ _.
    unless_keeps P d f (ltb k (length ps)) NotErased _ λ a.
    cond_keeps P d f (is_erased (decoded p) && is_live (restored_slot p l)) _ (refuse NotErased)
    (λ t.
    let b = and_parts (is_erased (decoded p)) _ t in
    let i : k < length ps = ltb-true k (length ps) a in
    let s = seen_erased (get_or m.slots k empty) (ap is_erased (sym (slot_shown h.agrees k i)) ∙ b.0) in
    vacant_keeps P d f (lowest (named (restored p l).name) (slots_in ps)) _ λ v e. (s.0, s.1, omega (arith, same_length h.agrees)))
    (λ _. f NotErased)

unmounted_undeletes : (m : Model) (st st' : State) (k l : ℕ) → Gives st st' (ErasedThere m k) ok (undelete_plan [] st.memory k l)
unfolding undelete_plan
unmounted_undeletes m st st' k l =
    let P : Plan → Type 0 = Gives st st' (ErasedThere m k) ok in
    let d : (r : Refusal) → P (decline r) = λ r e. absurd e in
    let f : (r : Refusal) → P (refuse r) = λ r e. absurd e in
    unless_keeps P d f (name_char l) Name _ λ _.
    unless_keeps P d f (ltb k 0) NotErased _ λ t. let z = ltb-true k 0 t in absurd (omega arith)

undeletes_by : (size : ℕ) (m : Model) (st st' : State) → Holds size m st.device.sectors st.memory → (b : Bool) → m.mounted ≡ b → (k l : ℕ) →
    Gives st st' (ErasedThere m k) ok (plan st.device.sectors st.memory (undelete k l))
undeletes_by size m st st' h true e k l =
    let z : st.memory.size ≡ size = subst (λ (b : Bool). Knows b size st.memory) e h.knows in
    mounted_undeletes m st st' (subst (λ (z : ℕ). Holds z m st.device.sectors st.memory) (sym z) h) k l
undeletes_by size m st st' h false e k l =
    let z : st.memory ≡ unmounted = subst (λ (b : Bool). Knows b size st.memory) e h.knows in
    subst (λ (ps : List Place). Gives st st' (ErasedThere m k) ok (undelete_plan ps st.memory k l)) (sym (no_slots st z)) (unmounted_undeletes m st st' k l)

-- the job that a name finds has that name
found_name : (m : Model) (n : List ℕ) (k : ℕ) (i : Job) → slot_of m n ≡ Some k → get_or m.slots k empty ≡ live i → i.name ≡ padded n
found_name m n k i e f =
    let l = lowest_some (named (padded n)) m.slots empty k e in
    let w = named_live (padded n) (get_or m.slots k empty) l.passes in
    ap (λ (j : Job). j.name) (live_same (sym f ∙ w.1)) ∙ sym ((bytes_eq-Decides (padded n) w.0.name).0 w.2)

undeletes : (size : ℕ) (m : Model) (st : State) → Holds size m st.device.sectors st.memory → (k letter : ℕ) (st' : State) → Did st (undelete k letter) (Ok ok) st' →
    (j : Job) × (get_or m.slots k empty ≡ erased j)
    × ((n : List ℕ) (room : ℕ) (i : Job) (st'' : State) → padded n ≡ set j.name 0 letter → Did st' (load n room) (Ok (loaded i)) st'' → i.bytes ≡ j.bytes)
undeletes size m st h k letter st' d =
    let t = undeletes_by size m st st' h m.mounted refl k letter (ended size m st h (undelete k letter) (Ok ok) st' d) in
    let j : Job = t.0 in
    let m' : Model = done m (undelete k letter) in
    let c : Called st (undelete k letter) accepted st' = record { typed = tt; answer = Ok ok; did = d; taken = refl } in
    let h' = step_holds size m st h (undelete k letter) accepted st' c in
    let there : get_or m'.slots k empty ≡ live (with_name j (set j.name 0 letter)) =
    get_or-set_same m.slots k _ empty t.2 ∙ ap (λ (x : Slot). live (with_name (job_of x) (set (job_of x).name 0 letter))) t.1 in (
      j,
      t.1,
      λ n room i st'' e g.
          let r = loads size m' st' h' n room i st'' g in
          let name : i.name ≡ set j.name 0 letter = found_name m' n r.0 i r.1 r.2 ∙ e in
          let at : r.0 ≡ k = h'.agrees.unique r.0 k i (with_name j (set j.name 0 letter)) r.2 there name in
          ap (λ (x : Job). x.bytes) (live_same (sym r.2 ∙ (ap (λ (z : ℕ). get_or m'.slots z empty) at ∙ there))),
    )

-- REFUSALS

-- refused in the first listed case that holds, or by a device that may refuse
abbrev RefusedRightly : State → Call → Refusal → Type 0
RefusedRightly st call r =
    First (cases st.device.sectors st.memory call) (refusal_number r)
    ⊎ ((f : Fault) × (r ≡ Device f) × MayRefuse st.device.condition)

cut_refusable : (st st' : State) (rs : Reads) (ws : List SlotWrite) (f : Fault) → Cut any_fault (card_layout st.memory) rs st.device st'.device ws f → MayRefuse st.device.condition
cut_refusable st st' rs ws f (at_write x) = x.refusable
cut_refusable st st' rs ws f (at_read x) = x.refusable

by_device : (st st' : State) (call : Call) (rs : Reads) (ws : List SlotWrite) (r : Refusal) →
    IsByDevice (Cut any_fault (card_layout st.memory) rs st.device st'.device ws) r → RefusedRightly st call r
by_device st st' call rs ws Name b = absurd b
by_device st st' call rs ws DiskId b = absurd b
by_device st st' call rs ws FileType b = absurd b
by_device st st' call rs ws NotOpen b = absurd b
by_device st st' call rs ws TooLong b = absurd b
by_device st st' call rs ws TooSmall b = absurd b
by_device st st' call rs ws (Field k) b = absurd b
by_device st st' call rs ws Open b = absurd b
by_device st st' call rs ws NoJob b = absurd b
by_device st st' call rs ws NotSequential b = absurd b
by_device st st' call rs ws NotErased b = absurd b
by_device st st' call rs ws NameTaken b = absurd b
by_device st st' call rs ws NoSlot b = absurd b
by_device st st' call rs ws OutOfBounds b = absurd b
by_device st st' call rs ws (Device f) b = inr (f, refl, cut_refusable st st' rs ws f b)

by_plan : (st st' : State) (call : Call) (r : Refusal) (p : Plan) → (Refuses p (refusal_number r) → First (cases st.device.sectors st.memory call) (refusal_number r)) →
    Ended any_fault (card_layout st.memory) ◌≡◌ p st.device st'.device st.memory st'.memory (Err r) → RefusedRightly st call r
by_plan st st' call r (tell a q) f e = absurd e
by_plan st st' call r (decline x) f e = inl (f (ap refusal_number (sym e.0)))
by_plan st st' call r (refuse x) f (inl e) = inl (f (ap refusal_number (sym e.with_it)))
by_plan st st' call r (refuse x) f (inr e) = by_device st st' call at_first [] r e.by_device
by_plan st st' call r (go rs ws a q) f e = by_device st st' call rs ws r e.by_device

refuses : (size : ℕ) (m : Model) (st : State) → Holds size m st.device.sectors st.memory → (call : Call) (r : Refusal) (st' : State) → Did st call (Err r) st' → RefusedRightly st call r
refuses size m st h call r st' d =
    by_plan st st' call r (plan st.device.sectors st.memory call) (refuses_as_listed_lem st.device.sectors st.memory call (refusal_number r)).0 (ended size m st h call (Err r) st' d)

pub upheld : (size : ℕ) (m : Model) (st : State) → Holds size m st.device.sectors st.memory → Upheld st m
upheld size m st h = record { loads = loads size m st h; lists = lists size m st h; undeletes = undeletes size m st h; refuses = refuses size m st h }
