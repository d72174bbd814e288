-- Whole histories of a card: calls with their answers, and pulled cards.
use Rattle.std.specs.Prelude.{◌≡◌, ℕ, ◌<◌, ◌≤◌, List, [], ◌∷◌, length, take, Ok, Err, Result, slice_index_or}
use Rattle.device.specs.Faults.{Faults}
use Rattle.device.specs.Meaning.{Meaning, Lawful, zeros}
use Rattle.layout.specs.Label.{read_label}
use Rattle.layout.specs.Sizes.{layout_of}
use Rattle.layout.specs.declared.label.Label.{Label}
use Rattle.refusals.specs.declared.Refusal.{Refusal}
use Rattle.refusals.specs.declared.Refusal.TheVariants.{Name, DiskId, FileType, NotOpen, TooLong, TooSmall, Field, Open, NoJob, NotSequential, NotErased, NameTaken, NoSlot, OutOfBounds, Device}
use Rattle.places.specs.SlotWrites.{SlotWrite, all_written}
use Rattle.plans.specs.Calls.{Call, Answer}
use Rattle.plans.specs.Memory.{Memory, unmounted, card_layout}
use Rattle.plans.specs.Plans.{Plan, tell, decline, refuse, go, plan}
use Rattle.volume.specs.Outcomes.{Performs}
use Rattle.history.specs.Events.{Outcome, accepted, refused, broken, Event, called, pulled}
use Rattle.history.specs.Preserved.{Typed, entries_written}

-- a card: what its device means, and what the program keeps
pub record State : Type 0 where
  pub device : Meaning
  pub memory : Memory

-- any fault may be named
abbrev pub any_fault : Faults
any_fault a n f = Unit {0}

-- the call was made with this answer: what every call of a card promises
abbrev pub Did : State → Call → Result Answer Refusal → State → Type 0
Did st call r st' = Performs any_fault ◌≡◌ call st.device st'.device st.memory st'.memory r

-- the writes that a plan wants
abbrev pub writes_of : Plan → List SlotWrite
writes_of (tell a q) = []
writes_of (decline r) = []
writes_of (refuse r) = []
writes_of (go rs ws a q) = ws

-- of a broken call the first writes are found on the card, and its outcome counts the directory writes among them
pub record FoundBroken (st : State) (call : Call) (st' : State) (o : Outcome) : Type 0 where
  pub persisted : ℕ
  pub found : st'.device.sectors
      ≡ all_written (card_layout st.memory) st.device.sectors (take persisted (writes_of (plan st.device.sectors st.memory call)))
  pub outcome : o ≡ broken (entries_written (take persisted (writes_of (plan st.device.sectors st.memory call))))

-- how the model takes an answer
abbrev pub TakenRefusal : State → Call → Refusal → State → Outcome → Type 0
TakenRefusal st call Name st' o = o ≡ refused
TakenRefusal st call DiskId st' o = o ≡ refused
TakenRefusal st call FileType st' o = o ≡ refused
TakenRefusal st call NotOpen st' o = o ≡ refused
TakenRefusal st call TooLong st' o = o ≡ refused
TakenRefusal st call TooSmall st' o = o ≡ refused
TakenRefusal st call (Field k) st' o = o ≡ refused
TakenRefusal st call Open st' o = o ≡ refused
TakenRefusal st call NoJob st' o = o ≡ refused
TakenRefusal st call NotSequential st' o = o ≡ refused
TakenRefusal st call NotErased st' o = o ≡ refused
TakenRefusal st call NameTaken st' o = o ≡ refused
TakenRefusal st call NoSlot st' o = o ≡ refused
TakenRefusal st call OutOfBounds st' o = o ≡ refused
TakenRefusal st call (Device f) st' o = FoundBroken st call st' o

abbrev pub Taken : State → Call → Result Answer Refusal → State → Outcome → Type 0
Taken st call (Ok a) st' o = o ≡ accepted
Taken st call (Err r) st' o = TakenRefusal st call r st' o

-- a call made, with arguments of the widths that it takes and some answer, which the model takes as o
pub record Called (st : State) (call : Call) (o : Outcome) (st' : State) : Type 0 where
  pub typed : Typed call
  pub answer : Result Answer Refusal
  pub did : Did st call answer st'
  pub taken : Taken st call answer st' o

-- the card is begun with anew on a device with the same sectors
pub record Renewed (st st' : State) : Type 0 where
  pub sectors : st'.device.sectors ≡ st.device.sectors
  pub memory : st'.memory ≡ unmounted

-- the history es leads from one state to another
abbrev pub Leads : State → List Event → State → Type 0
Leads st [] st' = st' ≡ st
Leads st (called call o ∷ es) st' = (st₁ : State) × Called st call o st₁ × Leads st₁ es st'
Leads st (pulled ∷ es) st' = (st₁ : State) × Renewed st st₁ × Leads st₁ es st'

-- a card of `size` sectors whose format counted: its label is read and its directory is empty; no program has mounted it
pub record New (size : ℕ) (st : State) : Type 0 where
  pub lawful : Lawful st.device
  pub label : (l : Label) × (read_label (length st.device.sectors) (slice_index_or st.device.sectors 0 []) ≡ Ok l) × (l.layout ≡ layout_of size)
  pub directory : (k : ℕ) → 1 ≤ k → k < (layout_of size).area → slice_index_or st.device.sectors k [] ≡ zeros 512
  pub memory : st.memory ≡ unmounted
