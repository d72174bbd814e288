-- How a call ends, by its plan: accepted, refused with the plan's number and nothing changed, or refused by the device
-- with a first part of its writes on the card.
use Rattle.std.specs.Prelude.{◌≡◌, ◌<◌, ◌≤◌, ◌⊎◌, List, [], length, Ok, Err, Result}
use Rattle.device.specs.Faults.{Faults}
use Rattle.device.specs.Meaning.{Meaning, MayAccept}
use Rattle.layout.specs.declared.sizes.Layout.{Layout}
use Rattle.refusals.specs.Refusals.{IsByDevice}
use Rattle.refusals.specs.declared.Refusal.{Refusal}
use Rattle.places.specs.SlotWrites.{SlotWrite}
use Rattle.plans.specs.Calls.{Call, Answer, done}
use Rattle.plans.specs.Memory.{Memory, card_layout}
use Rattle.plans.specs.Plans.{Reads, never, for_entries, at_first, between, Plan, tell, decline, refuse, go, plan}
use Rattle.volume.specs.Performing.{Performed, Cut}

-- a call that answers nothing but that it succeeded
abbrev pub Plain : Unit {0} → Answer → Type 0
Plain v a = a ≡ done

-- a call that reads the directory was answered by it, where there is a slot to read
abbrev pub WasRead : Layout → Meaning → Type 0
WasRead c m = 0 < c.slots → MayAccept m.condition

abbrev pub WasReadBy : Reads → Layout → Meaning → Type 0
WasReadBy never c m = Unit {0}
WasReadBy for_entries c m = Unit {0}
WasReadBy at_first c m = WasRead c m
WasReadBy between c m = WasRead c m

-- refused by the plan, with nothing changed
pub record Refused (c : Layout) (x r : Refusal) (m m' : Meaning) (q q' : Memory) : Type 0 where
  pub with_it : r ≡ x
  pub was_read : WasRead c m
  pub device : m' ≡ m
  pub memory : q' ≡ q

-- refused by the device
pub record Broken (t : Faults) (c : Layout) (rs : Reads) (ws : List SlotWrite) (r : Refusal) (m m' : Meaning) (q q' : Memory) : Type 0 where
  pub by_device : IsByDevice (Cut t c rs m m' ws) r
  pub memory : q' ≡ q

-- accepted
pub record Accepted {A : Type 0} (c : Layout) (V : A → Answer → Type 0) (rs : Reads) (ws : List SlotWrite) (a : Answer) (p : Memory) (v : A) (m m' : Meaning) (q' : Memory) : Type 0 where
  pub answer : V v a
  pub writes : Performed c m m' ws
  pub was_read : WasReadBy rs c m
  pub memory : q' ≡ p

-- the device is left alone
pub record Untouched (m m' : Meaning) (p q' : Memory) : Type 0 where
  pub device : m' ≡ m
  pub memory : q' ≡ p

-- c: the layout of the mounted card; V: when a value is the answer of a plan; m, q: device and memory before, m', q' after
abbrev pub AcceptedBy : {A : Type 0} → Layout → (A → Answer → Type 0) → Plan → (v : A) (m m' : Meaning) (q' : Memory) → Type 0
AcceptedBy c V (tell a p) v m m' q' = V v a × Untouched m m' p q'
AcceptedBy c V (decline x) v m m' q' = ⊥
AcceptedBy c V (refuse x) v m m' q' = ⊥
AcceptedBy c V (go rs ws a p) v m m' q' = Accepted c V rs ws a p v m m' q'

-- t: the faults that may be named
abbrev pub RefusedBy : Faults → Layout → Plan → (r : Refusal) (m m' : Meaning) (q q' : Memory) → Type 0
RefusedBy t c (tell a p) r m m' q q' = ⊥
RefusedBy t c (decline x) r m m' q q' = (r ≡ x) × Untouched m m' q q'
RefusedBy t c (refuse x) r m m' q q' = Refused c x r m m' q q' ⊎ Broken t c at_first [] r m m' q q'
RefusedBy t c (go rs ws a p) r m m' q q' = Broken t c rs ws r m m' q q'

abbrev pub Ended : {A : Type 0} → Faults → Layout → (A → Answer → Type 0) → Plan → (m m' : Meaning) (q q' : Memory) → Result A Refusal → Type 0
Ended t c V p m m' q q' (Ok v) = AcceptedBy c V p v m m' q'
Ended t c V p m m' q q' (Err r) = RefusedBy t c p r m m' q q'

-- a call on a card that keeps q, which is mounted within the sectors of its device
pub record Performs {A : Type 0} (t : Faults) (V : A → Answer → Type 0) (call : Call) (m m' : Meaning) (q q' : Memory) (r : Result A Refusal) : Type 0 where
  pub ends : q.size ≤ length m.sectors → Ended t (card_layout q) V (plan m.sectors q call) m m' q q' r
