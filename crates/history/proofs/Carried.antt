-- What the writes of a call owe the model, in terms of places.
use Rattle.std.proofs.Common.{◌≡◌, ℕ, ◌<◌, List, length, take, Option, arith}
use Rattle.device.specs.Meaning.{Sectors}
use Rattle.layout.specs.Sizes.{layout_of}
use Rattle.layout.specs.declared.sizes.Layout.{Layout}
use Rattle.places.specs.Places.{Place, places, all_moved, Fits, Shaped}
use Rattle.places.specs.SlotWrites.{SlotWrite}
use Rattle.places.proofs.Frames.{Full, places_full, place_slot, place_first, layouts_sound, length-places}
use Rattle.plans.specs.Slots.{Job, live, decoded}
use Rattle.plans.specs.Memory.{OpenJob}
use Rattle.plans.specs.Calls.{Call}
use Rattle.plans.specs.Plans.{place_in, entry_of}
use Rattle.plans.proofs.Blocks.{Wide, wide_from}
use Rattle.plans.proofs.Entries.{FitsEntry, in_fits, IsLive, is_live_by}
use Rattle.history.specs.Model.{Model, counted, done}
use Rattle.history.specs.Agreement.{Agrees}
use Rattle.history.specs.Preserved.{entries_written}

-- the places of a card: as many as it has slots, each full, with numbers that an entry can store
pub record LaidOut (c : Layout) (ps : List Place) : Type 0 where
  pub count : length ps ≡ c.slots
  pub full : (k : ℕ) → k < length ps → Full (place_in ps k)
  pub slot : (k : ℕ) → k < length ps → (place_in ps k).slot < 65536
  pub first : (k : ℕ) → k < length ps → (place_in ps k).first < 4294967296

pub laid_out : (size : ℕ) (s : Sectors) → Shaped (layout_of size) s → LaidOut (layout_of size) (places (layout_of size) s)
laid_out size s w =
    let c : Layout = layout_of size in
    let n : length (places c s) ≡ c.slots = length-places c s in
    record {
      count = n;
      full = λ k h. places_full c (layouts_sound size) s w k (omega arith);
      slot = λ k h. omega (arith, place_slot c s k (omega arith));
      first = λ k h. omega (arith, place_first c s k (omega arith));
    }

pub full_wide : (p : Place) → Full p → Wide p.sectors
full_wide p f = wide_from p.sectors (λ i l. f.whole i (omega (arith, f.many)))

pub entry_fits : (p : Place) → Full p → FitsEntry (entry_of p)
entry_fits p f = in_fits p.entry f.entry_long f.entry_bytes

-- what a live slot's entry says
pub live_entry_of : (p : Place) (j : Job) → decoded p ≡ live j → IsLive p.slot p.first (entry_of p) p.sectors j
unfolding decoded
live_entry_of p j d = is_live_by p.slot p.first (entry_of p) p.sectors j d

-- every first part of the writes keeps the model as the directory writes in it count the call, and so do all of them
-- for the accepted call, with the job that is open then
pub record Carried (c : Layout) (m : Model) (ps : List Place) (o : Option OpenJob) (call : Call) (ws : List SlotWrite) (o' : Option OpenJob) : Type 0 where
  pub fits : Fits c ws
  pub part : (j : ℕ) →
      let m' = counted m call (entries_written (take j ws)) in
      Agrees m'.slots m'.waiting (all_moved ps (take j ws)) o
  pub whole : Agrees (done m call).slots (done m call).waiting (all_moved ps ws) o'
