-- How calls end, test by test: what each exit of the code shows of the plan.
use Rattle.std.proofs.Common.{◌≡◌, ℕ, Bool, true, false, cond, List, Some, None, Option, sym, refl, ap, inr}
use Rattle.std.proofs.lemmas.Option.{cond_some}
use Rattle.device.specs.Faults.{Faults, Within}
use Rattle.device.specs.Meaning.{Meaning}
use Rattle.device.specs.declared.faults.Fault.{Fault}
use Rattle.layout.specs.Names.{lawful_name, padded, name_of}
use Rattle.layout.specs.declared.names.Name.{Name as LawfulName}
use Rattle.layout.specs.declared.sizes.Layout.{Layout}
use Rattle.refusals.specs.declared.Refusal.{Refusal}
use Rattle.refusals.specs.declared.Refusal.TheVariants.{Open, Device}
use Rattle.places.specs.SlotWrites.{SlotWrite}
use Rattle.plans.specs.Calls.{Answer}
use Rattle.plans.specs.Memory.{OpenJob, Memory}
use Rattle.plans.specs.Plans.{Plan, tell, decline, refuse, go, Reads, never, for_entries, at_first, between, found, vacant, named_shut}
use Rattle.naming.specs.Named.{open_named, ReadsFirst}
use Rattle.volume.specs.Directory.{ReadRefused}
use Rattle.volume.specs.Outcomes.{WasRead, AcceptedBy, RefusedBy}
use Rattle.volume.specs.Performing.{Performed, Cut, Looks}
use Rattle.volume.proofs.Glue.{read_cut, cut_as, looks_between, performed_from, cut_from, cut_within}

-- NAMES

pub lawful_some : (n : List ℕ) (x : LawfulName) → name_of n ≡ Some x → (lawful_name n ≡ true) × (x.bytes ≡ padded n)
lawful_some n x e = let p = cond_some (lawful_name n) _ x e in (p.0, ap (λ (y : LawfulName). y.bytes) (sym p.1))

-- PLANS THAT READ FIRST

pub found_reads : (o : Option ℕ) (r : Refusal) (g : ℕ → Plan) → ((k : ℕ) → ReadsFirst (g k)) → ReadsFirst (found o r g)
found_reads None r g h = tt
found_reads (Some k) r g h = h k

pub vacant_reads : (o : Option ℕ) (p : Plan) → ReadsFirst p → ReadsFirst (vacant o p)
vacant_reads None p h = h
vacant_reads (Some k) p h = tt

pub cond_reads : (b : Bool) (p q : Plan) → ReadsFirst p → ReadsFirst q → ReadsFirst (cond b p q)
cond_reads true p q f g = f
cond_reads false p q f g = g

-- a read refused before anything was written ends each of them
pub read_ends : (t : Faults) (c : Layout) (p : Plan) (m m' : Meaning) (q : Memory) (n : ℕ) (f : Fault) → ReadsFirst p → ReadRefused t m m' n f → RefusedBy t c p (Device f) m m' q q
read_ends t c (tell a p) m m' q n f h r = absurd h
read_ends t c (decline x) m m' q n f h r = absurd h
read_ends t c (refuse x) m m' q n f h r = inr (record { by_device = read_cut r; memory = refl })
read_ends t c (go never ws a p) m m' q n f h r = absurd h
read_ends t c (go for_entries ws a p) m m' q n f h r = absurd h
read_ends t c (go at_first ws a p) m m' q n f h r = record { by_device = read_cut r; memory = refl }
read_ends t c (go between ws a p) m m' q n f h r = record { by_device = cut_as (looks_between ws) (read_cut r); memory = refl }

-- ENDS OF A PLAN

-- a plan whose writes follow a pass over the directory, which left the device as it was
pub go_ends : {A : Type 0} (c : Layout) (V : A → Answer → Type 0) (ws : List SlotWrite) (a : Answer) (p : Memory) (m m₁ m' : Meaning) (v : A) → V v a → m₁ ≡ m →
    WasRead c m → Performed c m₁ m' ws → AcceptedBy c V (go at_first ws a p) v m m' p
go_ends c V ws a p m m₁ m' v x e w y = record { answer = x; writes = performed_from e y; was_read = w; memory = refl }

pub go_cut : (t u : Faults) (c : Layout) (rs : Reads) (ws : List SlotWrite) (a : Answer) (p : Memory) (m m₁ m' : Meaning) (q : Memory) (f : Fault) → m₁ ≡ m →
    Within u t → ((j : ℕ) → Looks rs ws j → Looks at_first ws j) → Cut u c rs m₁ m' ws f → RefusedBy t c (go at_first ws a p) (Device f) m m' q q
go_cut t u c rs ws a p m m₁ m' q f e w k y = record { by_device = cut_as k (cut_within w (cut_from e y)); memory = refl }

-- THE OPEN JOB

pub named_shut_not : (o : Option OpenJob) (n : List ℕ) (p : Plan) → open_named o n ≡ false → named_shut o n p ≡ p
named_shut_not None n p e = refl
named_shut_not (Some o) n p e = ap (λ (b : Bool). cond b (decline Open) p) e
