-- Call by call: the plan refuses as its cases are listed.
use Rattle.std.proofs.Common.{◌≡◌, ℕ, zero, suc, ◌+◌, ◌<◌, Bool, true, false, cond, ◌&&◌, eqb, ltb, leb, ◌≢◌, List, [], ◌∷◌, length, get_or, take, drop, Some, None, Option, sym, refl, ap, ◌∙◌, subst, arith}
use Rattle.std.proofs.lemmas.Bool.{both_ways, and_parts, and_from, leb-true, leb-false, eqb-true, eqb-false, true≢false, cond_both}
use Rattle.device.specs.Meaning.{Sectors}
use Rattle.layout.specs.Label.{Field, field, checks_of, first_failing, bad_field}
use Rattle.layout.specs.Names.{padded}
use Rattle.layout.specs.Words.{double_at}
use Rattle.refusals.specs.declared.Refusal.TheVariants.{Name, FileType, TooLong, NoJob, NotSequential, NotErased, NoSlot, OutOfBounds}
use Rattle.places.specs.Places.{Place}
use Rattle.places.specs.SlotWrites.{SlotWrite}
use Rattle.plans.specs.Slots.{Job, decoded, slots_in, usable, named, is_live, is_erased, job_of, lowest}
use Rattle.plans.specs.Memory.{OpenJob, Memory, job_length}
use Rattle.plans.specs.Calls.{Call, mount, save, open', put, commit, finish, rename, erase, wipe, sweep, undelete, load, read, list, same, check, Answer, loaded, bytes}
use Rattle.plans.specs.Plans.{place_in, slot_named, job_saved, mount_by, put_by, finish_by, sectors_full, open_at, reading, mount_plan, save_plan, open_plan, put_plan, commit_plan, rename_plan, erase_plan, wipe_plan, undelete_plan, load_plan, read_plan, same_plan, restored, restored_slot, card_places, plan}
use Rattle.plans.specs.Cases.{Not, IsLawfulName, HasJob, NamedJob, Restorable, UsableAt, FieldFails, case, cases_on, cases, RefusesAsListed}
use Rattle.std.proofs.lemmas.Option.{same_Some}
use Rattle.plans.proofs.Named.{named_found, named_once, named_has, live_found, live_missing, has_found, has_missing, usable_found, usable_missing}
use Rattle.plans.proofs.Firsts.{AsListed, two_first, goes, tells, passes, refuses, declines, unless_first, unless_decided, cond_first, found_first, two_found_first, vacant_first, all_shut_first, named_shut_first, held_open_first}
use Rattle.plans.proofs.Words.{name_byte_decides, lawful_name_decides, two_lawful_decide, known_type_decides}
use Rattle.plans.proofs.Restoring.{restores, restorable_found, restorable_passes, restored_name}

-- MOUNT

failing_found : (fs : List Field) (k : ℕ) → first_failing fs ≡ Some k → (i : ℕ) × (i < length fs) × ((get_or fs i (field 0 false)).holds ≡ false)
failing_found [] k e = cc
failing_found (f ∷ fs) k e = at f.holds refl (failing_found fs k) e
  where
    at : (b : Bool) → f.holds ≡ b → (first_failing fs ≡ Some k → (i : ℕ) × (i < length fs) × ((get_or fs i (field 0 false)).holds ≡ false)) →
        cond b (first_failing fs) (Some f.offset) ≡ Some k →
        (i : ℕ) × (i < suc (length fs)) × ((get_or (f ∷ fs) i (field 0 false)).holds ≡ false)
    at true h g x = let p = g x in (suc p.0, omega (arith, p.1), p.2)
    at false h g x = (0, omega arith, h)

none_failing : (fs : List Field) → first_failing fs ≡ None → (i : ℕ) → i < length fs → (get_or fs i (field 0 false)).holds ≡ true
none_failing [] e i h = absurd (omega arith)
none_failing (f ∷ fs) e i h = at f.holds refl (none_failing fs) e i h
  where
    at : (b : Bool) → f.holds ≡ b → (first_failing fs ≡ None → (i : ℕ) → i < length fs → (get_or fs i (field 0 false)).holds ≡ true) →
        cond b (first_failing fs) (Some f.offset) ≡ None → (i : ℕ) → i < suc (length fs) → (get_or (f ∷ fs) i (field 0 false)).holds ≡ true
    at true h g x zero l = h
    at true h g x (suc i) l = g x i (omega arith)
    at false h g x i l = cc

mount_by_listed : (o : Option ℕ) (k : ℕ) (P : Type 0) (n : ℕ) → (o ≡ None → Not P) → ((i : ℕ) → o ≡ Some i → P) →
    AsListed (mount_by o k) (case 7 P ∷ []) n
mount_by_listed None k P n f g = passes (f refl) goes
mount_by_listed (Some i) k P n f g = refuses (g i refl)

mount_listed : (s : Sectors) (ps : List Place) (q : Memory) (n : ℕ) → AsListed (mount_plan s) (cases_on s ps q mount) n
unfolding mount_plan bad_field
mount_listed [] ps q n = declines (0, omega arith, refl)
mount_listed (x ∷ xs) ps q n =
    let fs = checks_of (suc (length xs)) (double_at x 15) x in
    mount_by_listed (first_failing fs) (double_at x 15) (FieldFails (x ∷ xs)) n
    (λ e f. true≢false (sym (none_failing fs e f.0 f.1) ∙ f.2)) (failing_found fs)

-- NEW JOBS AND NAMES

save_listed : (s : Sectors) (ps : List Place) (q : Memory) (m : List ℕ) (t a : ℕ) (b : List ℕ) (n : ℕ) →
    AsListed (save_plan ps q (job_saved m t a b) m) (cases_on s ps q (save m t a b)) n
unfolding save_plan
save_listed s ps q m t a b n =
    unless_decided Name (lawful_name_decides m)
    (unless_decided FileType (known_type_decides t)
    (unless_first (leb (length b) 65535) TooLong (λ e h. let k = leb-true (length b) 65535 e in omega arith) (leb-false (length b) 65535) λ _.
    vacant_first (slot_named ps m) (has_missing ps m) (has_found ps m) λ _.
    found_first (lowest usable (slots_in ps)) NoSlot (λ k e f. f k (usable_found ps k e)) (usable_missing ps) λ k _. goes))

rename_listed : (s : Sectors) (ps : List Place) (q : Memory) (old new : List ℕ) (n : ℕ) →
    AsListed (rename_plan ps q old new) (cases_on s ps q (rename old new)) n
unfolding rename_plan
rename_listed s ps q old new n =
    unless_decided Name (two_lawful_decide old new)
    (named_shut_first q.job (padded old)
    (found_first (slot_named ps old) NoJob (λ k e f. f (has_found ps old k e)) (has_missing ps old) λ k _.
    vacant_first (slot_named ps new) (has_missing ps new) (has_found ps new) λ _. goes))

erase_listed : (s : Sectors) (ps : List Place) (q : Memory) (m : List ℕ) (n : ℕ) → AsListed (erase_plan ps q m) (cases_on s ps q (erase m)) n
unfolding erase_plan
erase_listed s ps q m n =
    unless_decided Name (lawful_name_decides m)
    (named_shut_first q.job (padded m)
    (found_first (slot_named ps m) NoJob (λ k e f. f (has_found ps m k e)) (has_missing ps m) λ k _. goes))

wipe_listed : (s : Sectors) (ps : List Place) (q : Memory) (m : List ℕ) (n : ℕ) → AsListed (wipe_plan ps q m) (cases_on s ps q (wipe m)) n
unfolding wipe_plan
wipe_listed s ps q m n =
    unless_decided Name (lawful_name_decides m)
    (named_shut_first q.job (padded m)
    (found_first (slot_named ps m) NoJob (λ k e f. f (has_found ps m k e)) (has_missing ps m) λ k _. goes))

-- OPEN JOBS

open_at_listed : (ps : List Place) (q : Memory) (m : List ℕ) (o : Option ℕ) → slot_named ps m ≡ o → (n : ℕ) →
    AsListed (open_at ps q m o)
    (case 10 ((j : Job) × NamedJob ps m j × (j.kind ≢ 0x82)) ∷ case 13 (Not (HasJob ps m) × ((k : ℕ) → Not (UsableAt ps k))) ∷ []) n
open_at_listed ps q m None e n =
    passes (λ x. has_missing ps m e (named_has ps m x.0 x.1))
    (found_first (lowest usable (slots_in ps)) NoSlot (λ k u f. f.1 k (usable_found ps k u)) (λ u. (has_missing ps m e, usable_missing ps u)) λ k _. goes)
open_at_listed ps q m (Some k) e n =
    let j = job_of (decoded (place_in ps k)) in
    let d : NamedJob ps m j = named_found ps m k e in
    cond_first (eqb j.kind 0x82) NotSequential
    (λ h x. x.2 (ap (λ (i : Job). i.kind) (named_once ps m x.0 j x.1 d) ∙ eqb-true j.kind 0x82 h))
    (λ h. (j, d, eqb-false j.kind 0x82 h))
    (λ _. passes (λ x. x.0 (has_found ps m k e)) goes)

open_listed : (s : Sectors) (ps : List Place) (q : Memory) (m : List ℕ) (n : ℕ) → AsListed (open_plan ps q m) (cases_on s ps q (open' m)) n
unfolding open_plan
open_listed s ps q m n =
    unless_decided Name (lawful_name_decides m) (all_shut_first q.job (open_at_listed ps q m (slot_named ps m) refl n))

put_by_listed : (k : ℕ) (ws : List SlotWrite) (q : Memory) (n : ℕ) → AsListed (put_by k ws q) [] n
put_by_listed zero ws q n = tells
put_by_listed (suc k) ws q n = goes

put_listed : (s : Sectors) (ps : List Place) (q : Memory) (h : ℕ) (x : List ℕ) (n : ℕ) → AsListed (put_plan q h x) (cases_on s ps q (put h x)) n
unfolding put_plan
put_listed s ps q h x n =
    held_open_first q.job h λ o e f.
    unless_first (leb (job_length o + length x) 65535) TooLong
    (λ l y.
    let one : o ≡ y.0 = same_Some o y.0 (sym e ∙ y.1.0) in
    let long : 65535 < job_length o + length x = subst (λ (z : OpenJob). 65535 < job_length z + length x) (sym one) y.2 in
    let short = leb-true (job_length o + length x) 65535 l in
    omega (arith, long, short))
    (λ l. (o, (e, f), leb-false (job_length o + length x) 65535 l))
    (λ _. put_by_listed (sectors_full o x) _ _ n)

commit_listed : (s : Sectors) (ps : List Place) (q : Memory) (h n : ℕ) → AsListed (commit_plan ps q h) (cases_on s ps q (commit h)) n
unfolding commit_plan
commit_listed s ps q h n =
    held_open_first q.job h λ o _ _. cond_both (eqb o.waiting 0) _ _ (λ p. AsListed p [] n) (λ _. tells) (λ _. goes)

finish_listed : (q : Memory) (h : ℕ) (o : Option OpenJob) (n : ℕ) → AsListed (finish_by q h o) [] n
finish_listed q h None n = tells
finish_listed q h (Some o) n = cond_both (eqb o.slot h) _ _ (λ p. AsListed p [] n) (λ _. tells) (λ _. tells)

-- READING

reading_listed : (ps : List Place) (q : Memory) (m : List ℕ) (fits : Job → Bool) (answer : Job → Answer) (P : Job → Type 0) (n : ℕ) →
    ((j : Job) → fits j ≡ true → Not (P j)) → ((j : Job) → fits j ≡ false → P j) →
    AsListed (reading ps q m fits answer)
    (case 1 (Not (IsLawfulName m)) ∷ case 9 (Not (HasJob ps m)) ∷ case 14 ((j : Job) × NamedJob ps m j × P j) ∷ []) n
reading_listed ps q m fits answer P n f g =
    unless_decided Name (lawful_name_decides m)
    (found_first (slot_named ps m) NoJob (λ k e h. h (has_found ps m k e)) (has_missing ps m) λ k e.
    let j = job_of (decoded (place_in ps k)) in
    let d : NamedJob ps m j = named_found ps m k e in
    cond_first (fits j) OutOfBounds (λ h x. f j h (subst P (named_once ps m x.0 j x.1 d) x.2)) (λ h. (j, d, g j h)) (λ _. goes))

load_listed : (s : Sectors) (ps : List Place) (q : Memory) (m : List ℕ) (room n : ℕ) → AsListed (load_plan ps q m room) (cases_on s ps q (load m room)) n
unfolding load_plan
load_listed s ps q m room n =
    reading_listed ps q m _ loaded (λ j. room < length j.bytes) n
    (λ j e h. let k = leb-true (length j.bytes) room e in omega arith) (λ j. leb-false (length j.bytes) room)

read_listed : (s : Sectors) (ps : List Place) (q : Memory) (m : List ℕ) (place room n : ℕ) →
    AsListed (read_plan ps q m place room) (cases_on s ps q (read m place room)) n
unfolding read_plan
read_listed s ps q m place room n =
    reading_listed ps q m _ (λ j. bytes (take room (drop place j.bytes))) (λ j. length j.bytes < place) n
    (λ j e h. let k = leb-true place (length j.bytes) e in omega arith) (λ j. leb-false place (length j.bytes))

same_listed : (s : Sectors) (ps : List Place) (q : Memory) (one other : List ℕ) (n : ℕ) →
    AsListed (same_plan ps q one other) (cases_on s ps q (same one other)) n
unfolding same_plan
same_listed s ps q one other n =
    unless_decided Name (two_lawful_decide one other)
    (two_found_first (slot_named ps one) (slot_named ps other) NoJob
    (λ i k e f h. h (has_found ps one i e, has_found ps other k f))
    (λ e h. has_missing ps one e h.0)
    (λ e h. has_missing ps other e h.1)
    (λ i k. goes))

undelete_listed : (s : Sectors) (ps : List Place) (q : Memory) (k letter n : ℕ) →
    AsListed (undelete_plan ps q k letter) (cases_on s ps q (undelete k letter)) n
unfolding undelete_plan
undelete_listed s ps q k letter n =
    let p = place_in ps k in
    let name = (restored p letter).name in
    let back = is_erased (decoded p) && is_live (restored_slot p letter) in
    let both : ltb k (length ps) ≡ true → back ≡ true → restores ps k letter ≡ true = λ e f. and_from (ltb k (length ps)) back e f in
    let parts : (j : Job) → Restorable ps k letter j → (ltb k (length ps) ≡ true) × (back ≡ true) = λ j r. and_parts (ltb k (length ps)) back (restorable_passes ps k letter j r) in
    unless_decided Name (name_byte_decides letter)
    (two_first (ltb k (length ps)) back NotErased
    (λ e f g. let r = restorable_found ps k letter (both e f) in g r.0 r.1)
    (λ e j r. both_ways (ltb k (length ps)) e (parts j r).0)
    (λ e j r. both_ways back e (parts j r).1) λ e g.
    vacant_first (lowest (named name) (slots_in ps))
    (λ f x. live_missing ps name f x.2.0 x.2.1 x.2.2 (x.2.3 ∙ restored_name p letter x.0 x.1.1))
    (λ i f.
    let r = restorable_found ps k letter (both e g) in
    let d = live_found ps name i f in
    (r.0, r.1, (i, d.0, d.1, d.2 ∙ sym (restored_name p letter r.0 r.1.1))))
    (λ _. goes))

-- EVERY CALL

listed : (s : Sectors) (q : Memory) (call : Call) (n : ℕ) → AsListed (plan s q call) (cases s q call) n
listed s q mount n = mount_listed s (card_places q s) q n
listed s q (save m t a b) n = save_listed s (card_places q s) q m t a b n
listed s q (open' m) n = open_listed s (card_places q s) q m n
listed s q (put h x) n = put_listed s (card_places q s) q h x n
listed s q (commit h) n = commit_listed s (card_places q s) q h n
listed s q (finish h) n = finish_listed q h q.job n
listed s q (rename old new) n = rename_listed s (card_places q s) q old new n
listed s q (erase m) n = erase_listed s (card_places q s) q m n
listed s q (wipe m) n = wipe_listed s (card_places q s) q m n
listed s q sweep n = goes
listed s q (undelete k letter) n = undelete_listed s (card_places q s) q k letter n
listed s q (load m room) n = load_listed s (card_places q s) q m room n
listed s q (read m place room) n = read_listed s (card_places q s) q m place room n
listed s q list n = goes
listed s q (same one other) n = same_listed s (card_places q s) q one other n
listed s q check n = goes

pub refuses_as_listed_lem : RefusesAsListed
refuses_as_listed_lem s q call n = (listed s q call n).same
