-- What a layer passes on of the device beneath it.
use Rattle.std.specs.Prelude.{Ok, Err, Result}
use Rattle.device.specs.Faults.{Faults, raised_fault, raised_faults}
use Rattle.device.specs.declared.faults.Fault.{Fault}

-- an answer from beneath: a fault rises one level
abbrev pub passed_answer : Result (Unit {0}) Fault → Result (Unit {0}) Fault
passed_answer (Ok u) = Ok tt
passed_answer (Err f) = Err (raised_fault f)

-- the faults that are named beneath, one level up, where the layer counts the sectors as the device beneath does
abbrev pub passed_on : Faults → Faults
passed_on t = raised_faults t (λ n. n)
