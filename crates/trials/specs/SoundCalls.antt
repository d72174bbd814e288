-- What a call promises of a window, a card or a slot of it, on a device of a make each value of which is sound.
use Rattle.std.specs.Prelude.{ℕ, ◌<◌, List, length, Result}
use Rattle.device.specs.Faults.{Faults}
use Rattle.device.specs.Meaning.{Meaning}
use Rattle.device.specs.declared.sector_device.SectorDevice.{Ghosts}
use Rattle.device.specs.declared.faults.Fault.{Fault}
use Rattle.layers.specs.Window.{ReadsBeneath, WritesBeneath}
use Rattle.layers.specs.declared.window.Window.{Window}
use Rattle.layout.specs.Sizes.{place_of}
use Rattle.layout.specs.declared.sizes.Layout.{Layout}
use Rattle.sound.specs.Calls.{Means}
use Rattle.volume.specs.Directory.{Room}

-- what a transfer of sector n of the window does beneath: d is the window before and d' after
abbrev pub AsksRead : {D : Type 0} → Ghosts D → (d d' : Window D) (n : ℕ) (b b' : List ℕ) → Result (Unit {0}) Fault → Type 0
AsksRead g d d' n b b' r =
    ReadsBeneath (g.faults d.beneath) (g.meaning d.beneath) (g.meaning d'.beneath) d.span.first d.span.count n b b' r

abbrev pub AsksWrite : {D : Type 0} → Ghosts D → (d d' : Window D) (n : ℕ) (b : List ℕ) → Result (Unit {0}) Fault → Type 0
AsksWrite g d d' n b r =
    WritesBeneath (g.faults d.beneath) (g.meaning d.beneath) (g.meaning d'.beneath) d.span.first d.span.count n b r

-- of a device on which the card of the layout c lies
abbrev pub OfCard : {D : Type 0} → Ghosts D → Layout → D → D → (Faults → Meaning → Meaning → Type 0) → Type 0
OfCard g c d d' P = Means g d d' (λ t m m'. Room c m → P t m m')

-- the same, and of one of its slots
abbrev pub OfSlot : {D : Type 0} → Ghosts D → Layout → ℕ → D → D → (Faults → Meaning → Meaning → Type 0) → Type 0
OfSlot g c k d d' P = Means g d d' (λ t m m'. k < c.slots → Room c m → P t m m')

-- of a device that has the directory sector of slot k
abbrev pub OfEntry : {D : Type 0} → Ghosts D → ℕ → D → D → (Faults → Meaning → Meaning → Type 0) → Type 0
OfEntry g k d d' P = Means g d d' (λ t m m'. (place_of k).sector < length m.sectors → P t m m')
