-- A fault as text, as "cause 3, act 2, sector 107, level 0".
use Rattle.std.specs.Prelude.{ℕ, List, ◌++◌, codes, decimal}
use Rattle.device.specs.Faults.{cause_number, act_number}
use Rattle.device.specs.declared.faults.Fault.{Fault}

abbrev pub fault_text : Fault → List ℕ
fault_text f =
    codes "cause " ++ (decimal (cause_number f.cause) ++ (codes ", act " ++ (decimal (act_number f.act) ++
    (codes ", sector " ++ (decimal f.sector ++ (codes ", level " ++ decimal f.level))))))
