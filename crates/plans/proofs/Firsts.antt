-- A plan's tests against the list of its cases, one test and one case at a time.
use Rattle.std.proofs.Common.{◌≡◌, ℕ, Bool, true, false, cond, eqb, ◌↔◌, List, [], ◌∷◌, Some, None, Decides, Option, sym, refl, ap, ◌∙◌, inl, inr}
use Rattle.std.proofs.lemmas.Slice.Eq.{bytes_eq-Decides}
use Rattle.std.proofs.lemmas.Bool.{eqb-true, eqb-false}
use Rattle.std.proofs.lemmas.Bool.Decides.{not_from_Decides}
use Rattle.std.proofs.lemmas.Option.{same_Some}
use Rattle.std.specs.Str.{bytes_eq}
use Rattle.refusals.specs.Refusals.{refusal_number}
use Rattle.refusals.specs.declared.Refusal.{Refusal}
use Rattle.refusals.specs.declared.Refusal.TheVariants.{NotOpen, Open}
use Rattle.places.specs.SlotWrites.{SlotWrite}
use Rattle.plans.specs.Memory.{OpenJob, Memory}
use Rattle.plans.specs.Calls.{Answer}
use Rattle.plans.specs.Plans.{Reads, Plan, tell, decline, refuse, go, unless, found, vacant, all_shut, named_shut, held_open}
use Rattle.plans.specs.Cases.{Not, Case, case, First, Refuses}

-- the plan refuses with the number n exactly if it is that of the first case that holds
pub record AsListed (p : Plan) (cs : List Case) (n : ℕ) : Type 0 where
  pub same : Refuses p n ↔ First cs n

-- a plan that goes through has no case left
pub goes : {r : Reads} {ws : List SlotWrite} {a : Answer} {q : Memory} {n : ℕ} → AsListed (go r ws a q) [] n
goes = record { same = (λ x. x, λ x. x) }

pub tells : {a : Answer} {q : Memory} {n : ℕ} → AsListed (tell a q) [] n
tells = record { same = (λ x. x, λ x. x) }

-- a case that holds is the first, and one that does not hold leaves the others
holds_first : (k : ℕ) (P : Type 0) (cs : List Case) (n : ℕ) → P → (k ≡ n) ↔ First (case k P ∷ cs) n
holds_first k P cs n p = (λ e. inl (p, e), back)
  where
    back : First (case k P ∷ cs) n → k ≡ n
    back (inl h) = h.1
    back (inr h) = absurd (h.0 p)

pub passes : {p : Plan} {cs : List Case} {k n : ℕ} {P : Type 0} → Not P → AsListed p cs n → AsListed p (case k P ∷ cs) n
passes {p = p} {cs = cs} {k = k} {n = n} {P = P} f h = record { same = (λ x. inr (f, h.same.0 x), back) }
  where
    back : First (case k P ∷ cs) n → Refuses p n
    back (inl x) = absurd (f x.0)
    back (inr x) = h.same.1 x.1

pub refuses : {r : Refusal} {cs : List Case} {n : ℕ} {P : Type 0} → P → AsListed (refuse r) (case (refusal_number r) P ∷ cs) n
refuses {r = r} {cs = cs} {n = n} {P = P} p = record { same = holds_first (refusal_number r) P cs n p }

pub declines : {r : Refusal} {cs : List Case} {n : ℕ} {P : Type 0} → P → AsListed (decline r) (case (refusal_number r) P ∷ cs) n
declines {r = r} {cs = cs} {n = n} {P = P} p = record { same = holds_first (refusal_number r) P cs n p }

-- A test stands over the first case: passed, it rules the case out, and the rest of the plan goes by the other cases;
-- failed, it shows that the case holds.

pub unless_first : (b : Bool) (r : Refusal) {P : Type 0} {p : Plan} {cs : List Case} {n : ℕ} → (b ≡ true → Not P) → (b ≡ false → P) →
    (b ≡ true → AsListed p cs n) → AsListed (unless b r p) (case (refusal_number r) P ∷ cs) n
unless_first true r f g h = passes (f refl) (h refl)
unless_first false r f g h = declines (g refl)

pub unless_decided : {b : Bool} (r : Refusal) {P : Type 0} {p : Plan} {cs : List Case} {n : ℕ} → Decides b P →
    AsListed p cs n → AsListed (unless b r p) (case (refusal_number r) (Not P) ∷ cs) n
unless_decided {b = b} r d h = unless_first b r (λ e f. f (d.0 e)) (not_from_Decides b d) (λ _. h)

pub cond_first : (b : Bool) (r : Refusal) {P : Type 0} {p : Plan} {cs : List Case} {n : ℕ} → (b ≡ true → Not P) → (b ≡ false → P) →
    (b ≡ true → AsListed p cs n) → AsListed (cond b p (refuse r)) (case (refusal_number r) P ∷ cs) n
cond_first true r f g h = passes (f refl) (h refl)
cond_first false r f g h = refuses (g refl)

-- the same of two tests under one case, the first of which needs no read
pub two_first : (b b' : Bool) (r : Refusal) {P : Type 0} {p : Plan} {cs : List Case} {n : ℕ} → (b ≡ true → b' ≡ true → Not P) → (b ≡ false → P) → (b' ≡ false → P) →
    (b ≡ true → b' ≡ true → AsListed p cs n) → AsListed (unless b r (cond b' p (refuse r))) (case (refusal_number r) P ∷ cs) n
two_first true true r f g g' h = passes (f refl refl) (h refl refl)
two_first true false r f g g' h = refuses (g' refl)
two_first false b' r f g g' h = declines (g refl)

pub found_first : (o : Option ℕ) (r : Refusal) {P : Type 0} {f : ℕ → Plan} {cs : List Case} {n : ℕ} →
    ((k : ℕ) → o ≡ Some k → Not P) → (o ≡ None → P) →
    ((k : ℕ) → o ≡ Some k → AsListed (f k) cs n) → AsListed (found o r f) (case (refusal_number r) P ∷ cs) n
found_first None r f g h = refuses (g refl)
found_first (Some k) r f g h = passes (f k refl) (h k refl)

-- two slots that are looked for, one after the other, under one case
pub two_found_first : (o o' : Option ℕ) (r : Refusal) {P : Type 0} {f : ℕ → ℕ → Plan} {cs : List Case} {n : ℕ} →
    ((i k : ℕ) → o ≡ Some i → o' ≡ Some k → Not P) → (o ≡ None → P) → (o' ≡ None → P) → ((i k : ℕ) → AsListed (f i k) cs n) →
    AsListed (found o r (λ i. found o' r (f i))) (case (refusal_number r) P ∷ cs) n
two_found_first None o' r f g g' h = refuses (g refl)
two_found_first (Some i) None r f g g' h = refuses (g' refl)
two_found_first (Some i) (Some k) r f g g' h = passes (f i k refl refl) (h i k)

pub vacant_first : (o : Option ℕ) {P : Type 0} {p : Plan} {cs : List Case} {n : ℕ} → (o ≡ None → Not P) → ((k : ℕ) → o ≡ Some k → P) →
    (o ≡ None → AsListed p cs n) → AsListed (vacant o p) (case 12 P ∷ cs) n
vacant_first None f g h = passes (f refl) (h refl)
vacant_first (Some k) f g h = refuses (g k refl)

-- OPEN JOBS

declined_first : (b : Bool) (r : Refusal) {P : Type 0} {p : Plan} {cs : List Case} {n : ℕ} → (b ≡ true → P) → (b ≡ false → Not P) →
    AsListed p cs n → AsListed (cond b (decline r) p) (case (refusal_number r) P ∷ cs) n
declined_first true r f g h = declines (f refl)
declined_first false r f g h = passes (g refl) h

kept_first : (b : Bool) (r : Refusal) {P : Type 0} {p : Plan} {cs : List Case} {n : ℕ} → (b ≡ true → Not P) → (b ≡ false → P) →
    (b ≡ true → AsListed p cs n) → AsListed (cond b p (decline r)) (case (refusal_number r) P ∷ cs) n
kept_first true r f g h = passes (f refl) (h refl)
kept_first false r f g h = declines (g refl)

pub all_shut_first : (j : Option OpenJob) {p : Plan} {cs : List Case} {n : ℕ} → AsListed p cs n →
    AsListed (all_shut j p) (case 8 ((o : OpenJob) × (j ≡ Some o)) ∷ cs) n
all_shut_first None h = passes (λ x. let z = x.1 in cc) h
all_shut_first (Some o) h = declines (o, refl)

pub named_shut_first : (j : Option OpenJob) (m : List ℕ) {p : Plan} {cs : List Case} {n : ℕ} → AsListed p cs n →
    AsListed (named_shut j m p) (case 8 ((o : OpenJob) × (j ≡ Some o) × (o.name ≡ m)) ∷ cs) n
named_shut_first None m h = passes (λ x. let z = x.1 in cc) h
named_shut_first (Some o) m h =
    let d = bytes_eq-Decides m o.name in
    declined_first (bytes_eq m o.name) Open (λ e. (o, refl, sym (d.0 e)))
    (λ e x. not_from_Decides (bytes_eq m o.name) d e (sym (ap (λ (y : OpenJob). y.name) (same_Some o x.0 x.1) ∙ x.2)))
    h

pub held_open_first : (j : Option OpenJob) (h : ℕ) {f : OpenJob → Plan} {cs : List Case} {n : ℕ} →
    ((o : OpenJob) → j ≡ Some o → o.slot ≡ h → AsListed (f o) cs n) →
    AsListed (held_open j h f) (case 4 ((o : OpenJob) → Not ((j ≡ Some o) × (o.slot ≡ h))) ∷ cs) n
held_open_first None h g = declines (λ o x. let z = x.0 in cc)
held_open_first (Some o) h g =
    kept_first (eqb o.slot h) NotOpen (λ e f. f o (refl, eqb-true o.slot h e))
    (λ e x y. eqb-false o.slot h e (ap (λ (z : OpenJob). z.slot) (same_Some o x y.0) ∙ y.1))
    (λ e. g o refl (eqb-true o.slot h e))
