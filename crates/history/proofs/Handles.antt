-- A job that is there opened, and an open job finished: the card stays, and what waits changes.
use Rattle.std.proofs.Common.{◌≡◌, ℕ, suc, ◌*◌, ◌/◌, ◌<◌, eqb, ◌≢◌, List, [], ◌∷◌, ◌++◌, length, get_or, take, drop, Some, None, Option, sym, refl, ap, ◌∙◌, subst, arith}
use Rattle.std.proofs.lemmas.List.{length-drop, take-take, take-append-drop, append-nil}
use Rattle.std.proofs.lemmas.Bool.{eq-eqb, ne_eqb, cond-false}
use Rattle.device.specs.Meaning.{Sectors, Bytes}
use Rattle.device.proofs.ByteLists.{no_bytes, take-bytes, drop-bytes, append-bytes}
use Rattle.layout.specs.declared.sizes.Layout.{Layout}
use Rattle.places.specs.Places.{Place}
use Rattle.places.proofs.Frames.{Full}
use Rattle.plans.specs.Slots.{Job, Slot, bytes_in}
use Rattle.plans.specs.Memory.{OpenJob}
use Rattle.plans.specs.Plans.{place_in, entry_of, continued}
use Rattle.history.specs.Model.{Waiting, waiting_at, finished}
use Rattle.history.specs.Agreement.{Agrees}
use Rattle.history.proofs.Agreeing.{Named}
use Rattle.history.proofs.Carried.{LaidOut, entry_fits}
use Rattle.history.proofs.OpenPlaces.{live_bytes, live_size}

-- OPEN

sectors_bytes : (s : Sectors) → ((i : ℕ) → i < length s → Bytes (get_or s i [])) → Bytes (bytes_in s)
sectors_bytes [] h = no_bytes
sectors_bytes (x ∷ xs) h = append-bytes x (bytes_in xs) (h 0 (omega arith)) (sectors_bytes xs (λ i l. h (suc i) (omega arith)))

-- a job that is there, opened: it is committed as it is, its part-filled last sector gathered
pub continued_agrees : (c : Layout) (xs : List Slot) (ps : List Place) → LaidOut c ps → Agrees xs None ps None → (n : List ℕ) (k : ℕ) (j : Job) → Named xs ps n k j →
    Agrees xs (waiting_at k []) ps (Some (continued k j))
continued_agrees c xs ps v a n k j f =
    let p : Place = place_in ps k in
    let u : Full p = v.full k f.inside in
    let b : List ℕ = j.bytes in
    let d : List ℕ = bytes_in p.sectors in
    let z : (entry_of p).size ≡ length b = live_size p u j f.shows in
    let few : (entry_of p).size < 65536 = (entry_fits p u).size in
    let e : take (entry_of p).size d ≡ b = live_bytes p j f.shows in
    let m : ℕ = 512 * (length b / 512) in
    let t : take m d ≡ take m b = sym (take-take m (entry_of p).size d (omega arith)) ∙ ap (take m) e in
    let bytes : Bytes b = subst (λ (y : List ℕ). Bytes y) e (take-bytes (entry_of p).size d (sectors_bytes p.sectors (λ i l. u.bytes i (omega (arith, u.many))))) in
    record {
      same = a.same;
      unique = a.unique;
      open' = record {
        slot = refl;
        job = j;
        lives = f.slot;
        name = refl;
        lies = ap (λ (y : List ℕ). y ++ drop m b) t ∙ (take-append-drop m b ∙ sym (append-nil b));
        few = simp length-drop (omega arith);
        short = simp length-drop (omega arith);
        bytes = drop-bytes m b bytes;
        none_waits = λ _. refl;
      };
    }

-- FINISH

-- of the open job: what waits is dropped
pub finished_agrees : (xs : List Slot) (w : Option Waiting) (ps : List Place) (o : OpenJob) → Agrees xs w ps (Some o) → (h : ℕ) → o.slot ≡ h → Agrees xs (finished w h) ps None
finished_agrees xs None ps o a h e = absurd a.open'
finished_agrees xs (Some w) ps o a h e =
    rw (eq-eqb w.slot h (sym a.open'.slot ∙ e)) record { same = a.same; unique = a.unique; open' = tt }

-- of another slot, or where none is open: nothing changes
pub finished_other : (xs : List Slot) (w : Option Waiting) (ps : List Place) (o : OpenJob) → Agrees xs w ps (Some o) → (h : ℕ) → o.slot ≢ h → finished w h ≡ w
finished_other xs None ps o a h e = refl
finished_other xs (Some w) ps o a h e = cond-false (eqb w.slot h) None (Some w) (ne_eqb w.slot h (λ q. e (a.open'.slot ∙ q)))

pub finished_none : (xs : List Slot) (w : Option Waiting) (ps : List Place) → Agrees xs w ps None → (h : ℕ) → finished w h ≡ w
finished_none xs None ps a h = refl
finished_none xs (Some w) ps a h = absurd a.open'
