-- A refusal as text: its number, and in words what stood in the way.
use Rattle.std.specs.Prelude.{ℕ, ◌-◌, ◌^◌, false, true, List, [], ◌++◌, codes, decimal}
use Rattle.std.specs.Fmt.{digits, format_spec, padded_integral}
use Rattle.device.specs.FaultText.{fault_text}
use Rattle.refusals.specs.Refusals.{refusal_number}
use Rattle.refusals.specs.declared.Refusal.{Refusal}
use Rattle.refusals.specs.declared.Refusal.TheVariants.{Name, DiskId, FileType, NotOpen, TooLong, TooSmall, Field, Open, NoJob, NotSequential, NotErased, NameTaken, NoSlot, OutOfBounds, Device}

-- an offset in hexadecimal, three digits at least: what `{:03X}` writes
abbrev pub offset_text : ℕ → List ℕ
offset_text k = padded_integral (format_spec 32 0 4 3 (2 ^ 64 - 1)) false [] (digits 16 true k)

abbrev pub reason_text : Refusal → List ℕ
reason_text Name = codes "a name is 1 to 16 of A to Z, 0 to 9, space and minus, not all of them spaces"
reason_text DiskId = codes "a disk id is a letter, a digit, a letter and a digit, as B1Y7"
reason_text FileType = codes "a job's type is BAS, BIN or SEQ"
reason_text NotOpen = codes "no job is open in the slot of that handle"
reason_text TooLong = codes "a job has at most 65535 bytes"
reason_text TooSmall = codes "a card that small has no room for a file"
reason_text (Field k) = codes "no card of this format: its master sector fails at $" ++ offset_text k
reason_text Open = codes "a job is open and has to be finished first"
reason_text NoJob = codes "no job of that name is on the card"
reason_text NotSequential = codes "only a job of type SEQ can be continued"
reason_text NotErased = codes "no erased job that could be brought back is in that slot"
reason_text NameTaken = codes "a job of that name is on the card already"
reason_text NoSlot = codes "no slot of the card is free"
reason_text OutOfBounds = codes "the job is longer than the buffer, or ends before that place"
reason_text (Device f) = codes "the device refused (" ++ (fault_text f ++ codes ")")

abbrev pub refusal_text : Refusal → List ℕ
refusal_text r = codes "refused " ++ (decimal (refusal_number r) ++ (codes ": " ++ reason_text r))
