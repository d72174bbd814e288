-- What happens to a card, and how the model follows it.
use Rattle.std.specs.Prelude.{ℕ, false, List, [], ◌∷◌, None}
use Rattle.plans.specs.Calls.{Call}
use Rattle.history.specs.Model.{Model, counted, done}

pub data Outcome : Type 0 where
  accepted : Outcome
  -- refused with nothing changed
  refused : Outcome
  -- refused by the device, with so many of the call's directory writes found on the card
  broken : ℕ → Outcome

pub data Event : Type 0 where
  called : Call → Outcome → Event
  -- the card is pulled, and a program begins with it anew: over any device with the same sectors, and not mounted yet.
  -- With the accepted mount that follows it is a cold start
  pulled : Event

abbrev pub next : Model → Event → Model
next m (called call accepted) = done m call
next m (called call refused) = m
next m (called call (broken d)) = counted m call d
next m pulled = record { mounted = false; slots = m.slots; waiting = None }

abbrev pub after : Model → List Event → Model
after m [] = m
after m (e ∷ es) = after (next m e) es
