use Rattle.std.proofs.Common.{◌≡◌, ℕ, List, ◌++◌, take, ap₂}
use Rattle.layout.specs.Label.{signature}
use Rattle.layout.proofs.Labels.{nothing_behind}
use Rattle.layout.proofs.label.sign.Goals as goal

pub returns : goal.returns
returns c =
    let s = c.args.sector.now in
    let t : c.copy_from_slice.new.self ≡ signature = c.copy_from_slice.ensures.after in
    ap₂ (λ (x y : List ℕ). take 510 s ++ (x ++ y)) t (nothing_behind s 510 2 c.told-sector)
