-- What holds of every history of a card.
use Rattle.std.specs.Prelude.{◌≡◌, ℕ, ◌<◌, true, ◌⊎◌, ◌↔◌, List, length, Some, Ok, Err, slice_index_or, slice_set}
use Rattle.device.specs.Meaning.{MayRefuse}
use Rattle.device.specs.declared.faults.Fault.{Fault}
use Rattle.layout.specs.Names.{padded}
use Rattle.layout.specs.Sizes.{layout_of}
use Rattle.refusals.specs.Refusals.{refusal_number}
use Rattle.refusals.specs.declared.Refusal.{Refusal}
use Rattle.refusals.specs.declared.Refusal.TheVariants.{Device}
use Rattle.rows.specs.declared.job_row.JobRow.{JobRow}
use Rattle.plans.specs.Slots.{Job, empty, live, erased}
use Rattle.plans.specs.Calls.{Call, load, list, undelete, done, loaded, jobs}
use Rattle.plans.specs.Cases.{IsLawfulName, First, cases}
use Rattle.history.specs.Model.{Model, new_model, slot_of}
use Rattle.history.specs.Events.{Event, after}
use Rattle.histories.specs.Steps.{State, Did, Leads, New}

-- the model has the live job j in slot k
abbrev pub HasLive : Model → ℕ → Job → Type 0
HasLive m k j = slice_index_or m.slots k empty ≡ live j

-- one of the rows shows slot k under the padded name n
abbrev pub Shows : List JobRow → ℕ → List ℕ → Type 0
Shows rows k n = (i : ℕ) × (r : JobRow) × (i < length rows) × (slice_index_or rows i r ≡ r) × (r.slot ≡ k) × (r.name ≡ n)

-- what holds of the calls on a card in state st of which the model is m
pub record Upheld (st : State) (m : Model) : Type 0 where
  -- an accepted load gives exactly what the model has for the live job of that name
  pub loads : (n : List ℕ) (room : ℕ) (j : Job) (st' : State) → Did st (load n room) (Ok (loaded j)) st' →
      (k : ℕ) × (slot_of m n ≡ Some k) × HasLive m k j
  -- on a mounted card an accepted list shows a slot under a lawful name exactly if the model has a live job of that name
  -- there
  pub lists : m.mounted ≡ true → (rows : List JobRow) (st' : State) → Did st list (Ok (jobs rows)) st' →
      (k : ℕ) (n : List ℕ) → IsLawfulName n → Shows rows k (padded n) ↔ ((j : Job) × HasLive m k j × (j.name ≡ padded n))
  -- an accepted undelete finds an erased job in that slot, and an accepted load of it then gives the bytes that it was
  -- erased with
  pub undeletes : (k letter : ℕ) (st' : State) → Did st (undelete k letter) (Ok done) st' →
      (j : Job) × (slice_index_or m.slots k empty ≡ erased j)
      × ((n : List ℕ) (room : ℕ) (i : Job) (st'' : State) → padded n ≡ slice_set j.name 0 letter → Did st' (load n room) (Ok (loaded i)) st'' → i.bytes ≡ j.bytes)
  -- calls refuse in their listed cases only, the first that holds; and the device refuses only if it may
  pub refuses : (call : Call) (r : Refusal) (st' : State) → Did st call (Err r) st' →
      First (cases st.device.sectors st.memory call) (refusal_number r)
      ⊎ ((f : Fault) × (r ≡ Device f) × MayRefuse st.device.condition)

-- every state that a history leads to from a new card upholds all this, with the model that followed the history
abbrev pub HistoriesUpheld : Type 0
HistoriesUpheld =
    (size : ℕ) (st : State) → New size st → (es : List Event) (st' : State) → Leads st es st' →
    Upheld st' (after (new_model (layout_of size).slots) es)
