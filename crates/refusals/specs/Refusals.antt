-- The numbers of the refusals.
use Rattle.std.specs.Prelude.{ℕ}
use Rattle.device.specs.declared.faults.Fault.{Fault}
use Rattle.refusals.specs.declared.Refusal.{Refusal}
use Rattle.refusals.specs.declared.Refusal.TheVariants.{Name, DiskId, FileType, NotOpen, TooLong, TooSmall, Field, Open, NoJob, NotSequential, NotErased, NameTaken, NoSlot, OutOfBounds, Device}

abbrev pub refusal_number : Refusal → ℕ
refusal_number Name = 1
refusal_number DiskId = 2
refusal_number FileType = 3
refusal_number NotOpen = 4
refusal_number TooLong = 5
refusal_number TooSmall = 6
refusal_number (Field k) = 7
refusal_number Open = 8
refusal_number NoJob = 9
refusal_number NotSequential = 10
refusal_number NotErased = 11
refusal_number NameTaken = 12
refusal_number NoSlot = 13
refusal_number OutOfBounds = 14
refusal_number (Device f) = 15

-- a refusal by the device, with a fault of which P holds
abbrev pub IsByDevice : (Fault → Type 0) → Refusal → Type 0
IsByDevice P Name = ⊥
IsByDevice P DiskId = ⊥
IsByDevice P FileType = ⊥
IsByDevice P NotOpen = ⊥
IsByDevice P TooLong = ⊥
IsByDevice P TooSmall = ⊥
IsByDevice P (Field k) = ⊥
IsByDevice P Open = ⊥
IsByDevice P NoJob = ⊥
IsByDevice P NotSequential = ⊥
IsByDevice P NotErased = ⊥
IsByDevice P NameTaken = ⊥
IsByDevice P NoSlot = ⊥
IsByDevice P OutOfBounds = ⊥
IsByDevice P (Device f) = P f
