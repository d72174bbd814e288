-- After the writes below n: the device with those sectors zeroed.
use Rattle.std.proofs.Common.{◌≡◌, ◌-◌, ◌<◌, ◌≤◌, length}
use Rattle.device.specs.Calls.{Keeps, OfSound}
use Rattle.device.specs.Meaning.{MayAccept}
use Rattle.runs.proofs.Runs.{zeroed}
use Rattle.runs.proofs.write_zeros.Given as goal

abbrev pub invariant-loop-n : goal.invariant-loop-n
invariant-loop-n g l =
    let d = g.D.SectorDevice in
    let n = l.n - l.first in
    record {
      counted : n ≤ l.end - l.first;
      keeps : Keeps d l.initial.device l.device;
      writes : OfSound d l.initial.device l.device (λ t m m'. l.end ≤ length m.sectors → (m' ≡ zeroed m l.first n) × (0 < n → MayAccept m.condition));
    }
