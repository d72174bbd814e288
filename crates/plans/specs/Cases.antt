-- The cases in which calls are refused, in words of the card, and that plans refuse in exactly these.
use Rattle.std.specs.Prelude.{◌≡◌, ℕ, ◌+◌, ◌<◌, ◌≤◌, false, ◌≢◌, ◌⊎◌, ◌↔◌, List, [], ◌∷◌, length, get_or, Some, slice_index, slice_index_or}
use Rattle.device.specs.Meaning.{Sectors}
use Rattle.layout.specs.Label.{field, checks_of}
use Rattle.layout.specs.Names.{padded}
use Rattle.layout.specs.Words.{double_at}
use Rattle.refusals.specs.Refusals.{refusal_number}
use Rattle.places.specs.Places.{Place}
use Rattle.plans.specs.Slots.{Job, empty, live, erased, slots_in}
use Rattle.plans.specs.Memory.{OpenJob, Memory, job_length}
use Rattle.plans.specs.Calls.{Call, mount, save, open', put, commit, finish, rename, erase, wipe, sweep, undelete, load, read, list, same, check}
use Rattle.plans.specs.Plans.{Plan, tell, decline, refuse, go, plan, card_places, place_in, restored_slot}

abbrev pub Not : Type 0 → Type 0
Not P = P → ⊥

-- NAMES AND TYPES

-- a letter A to Z, a digit, a space or a minus
abbrev pub NameByte : ℕ → Type 0
NameByte c = ((65 ≤ c) × (c ≤ 90)) ⊎ (((48 ≤ c) × (c ≤ 57)) ⊎ ((c ≡ 32) ⊎ (c ≡ 45)))

-- at most 16 such bytes, of which one is no space
pub record IsLawfulName (n : List ℕ) : Type 0 where
  pub few : length n ≤ 16
  pub each : (i : ℕ) → i < length n → NameByte (slice_index n i)
  pub shown : (i : ℕ) × (i < length n) × (slice_index n i ≢ 32)

-- BAS, BIN or SEQ
abbrev pub KnownType : ℕ → Type 0
KnownType t = (t ≡ 0x80) ⊎ ((t ≡ 0x81) ⊎ (t ≡ 0x82))

-- JOBS ON THE CARD

-- slot k has the live job j
abbrev pub LiveAt : List Place → ℕ → Job → Type 0
LiveAt ps k j = slice_index_or (slots_in ps) k empty ≡ live j

-- a live job has the name n
abbrev pub HasJob : List Place → List ℕ → Type 0
HasJob ps n = (k : ℕ) × (j : Job) × LiveAt ps k j × (j.name ≡ padded n)

-- j is the job that the name n means: of several live jobs of one name the first counts
pub record NamedJob (ps : List Place) (n : List ℕ) (j : Job) : Type 0 where
  pub slot : ℕ
  pub lives : LiveAt ps slot j
  pub name : j.name ≡ padded n
  pub lowest : (i : ℕ) (other : Job) → i < slot → LiveAt ps i other → other.name ≢ padded n

-- slot k can be taken by a new job
abbrev pub UsableAt : List Place → ℕ → Type 0
UsableAt ps k = (k < length ps) × ((slice_index_or (slots_in ps) k empty ≡ empty) ⊎ ((j : Job) × (slice_index_or (slots_in ps) k empty ≡ erased j)))

-- slot k has an erased job, which is live as j once the letter stands first in its name
abbrev pub Restorable : List Place → (k letter : ℕ) → Job → Type 0
Restorable ps k letter j =
    ((i : Job) × (slice_index_or (slots_in ps) k empty ≡ erased i)) × (restored_slot (place_in ps k) letter ≡ live j)

-- OPEN JOBS

-- the job o is open
abbrev pub IsOpen : Memory → OpenJob → Type 0
IsOpen q o = q.job ≡ Some o

-- the open job o is that of the handle h
abbrev pub Handles : Memory → (h : ℕ) → OpenJob → Type 0
Handles q h o = IsOpen q o × (o.slot ≡ h)

-- the job named n is open
abbrev pub NamedOpen : Memory → List ℕ → Type 0
NamedOpen q n = (o : OpenJob) × IsOpen q o × (o.name ≡ padded n)

-- THE CASES

-- a case of refusal, with its number
pub record Case : Type 1 where
  pub number : ℕ
  pub holds : Type 0

abbrev pub case : ℕ → Type 0 → Case
case n P = record { number = n; holds = P }

-- one of the fields of sector 0 that mount checks does not hold
abbrev pub FieldFails : Sectors → Type 0
FieldFails s =
    let b = get_or s 0 [] in
    let fs = checks_of (length s) (double_at b 15) b in
    (i : ℕ) × (i < length fs) × ((get_or fs i (field 0 false)).holds ≡ false)

abbrev pub cases_on : Sectors → List Place → Memory → Call → List Case
cases_on s ps q mount = case 7 (FieldFails s) ∷ []
cases_on s ps q (save n t a b) =
    case 1 (Not (IsLawfulName n))
    ∷ case 3 (Not (KnownType t))
    ∷ case 5 (65535 < length b)
    ∷ case 12 (HasJob ps n)
    ∷ case 13 ((k : ℕ) → Not (UsableAt ps k))
    ∷ []
cases_on s ps q (open' n) =
    case 1 (Not (IsLawfulName n))
    ∷ case 8 ((o : OpenJob) × IsOpen q o)
    ∷ case 10 ((j : Job) × NamedJob ps n j × (j.kind ≢ 0x82))
    ∷ case 13 (Not (HasJob ps n) × ((k : ℕ) → Not (UsableAt ps k)))
    ∷ []
cases_on s ps q (put h x) =
    case 4 ((o : OpenJob) → Not (Handles q h o))
    ∷ case 5 ((o : OpenJob) × Handles q h o × (65535 < job_length o + length x))
    ∷ []
cases_on s ps q (commit h) = case 4 ((o : OpenJob) → Not (Handles q h o)) ∷ []
cases_on s ps q (finish h) = []
cases_on s ps q (rename m n) =
    case 1 (Not (IsLawfulName m × IsLawfulName n))
    ∷ case 8 (NamedOpen q m)
    ∷ case 9 (Not (HasJob ps m))
    ∷ case 12 (HasJob ps n)
    ∷ []
cases_on s ps q (erase n) = case 1 (Not (IsLawfulName n)) ∷ case 8 (NamedOpen q n) ∷ case 9 (Not (HasJob ps n)) ∷ []
cases_on s ps q (wipe n) = case 1 (Not (IsLawfulName n)) ∷ case 8 (NamedOpen q n) ∷ case 9 (Not (HasJob ps n)) ∷ []
cases_on s ps q sweep = []
cases_on s ps q (undelete k l) =
    case 1 (Not (NameByte l))
    ∷ case 11 ((j : Job) → Not (Restorable ps k l j))
    ∷ case 12 ((j : Job) × Restorable ps k l j × ((i : ℕ) × (other : Job) × LiveAt ps i other × (other.name ≡ j.name)))
    ∷ []
cases_on s ps q (load n room) =
    case 1 (Not (IsLawfulName n))
    ∷ case 9 (Not (HasJob ps n))
    ∷ case 14 ((j : Job) × NamedJob ps n j × (room < length j.bytes))
    ∷ []
cases_on s ps q (read n place room) =
    case 1 (Not (IsLawfulName n))
    ∷ case 9 (Not (HasJob ps n))
    ∷ case 14 ((j : Job) × NamedJob ps n j × (length j.bytes < place))
    ∷ []
cases_on s ps q list = []
cases_on s ps q (same m n) =
    case 1 (Not (IsLawfulName m × IsLawfulName n)) ∷ case 9 (Not (HasJob ps m × HasJob ps n)) ∷ []
cases_on s ps q check = []

-- the cases of a call on a card that keeps q in memory, on a device with the sectors s
abbrev pub cases : Sectors → Memory → Call → List Case
cases s q call = cases_on s (card_places q s) q call

-- n is the number of the first case that holds
abbrev pub First : List Case → ℕ → Type 0
First [] n = ⊥
First (c ∷ cs) n = (c.holds × (c.number ≡ n)) ⊎ (Not c.holds × First cs n)

-- the plan refuses with the number n
abbrev pub Refuses : Plan → ℕ → Type 0
Refuses (tell a q) n = ⊥
Refuses (decline r) n = refusal_number r ≡ n
Refuses (refuse r) n = refusal_number r ≡ n
Refuses (go r ws a q) n = ⊥

-- every call refuses with a number exactly if that case is the first that holds
abbrev pub RefusesAsListed : Type 0
RefusesAsListed = (s : Sectors) (q : Memory) (call : Call) (n : ℕ) → Refuses (plan s q call) n ↔ First (cases s q call) n
