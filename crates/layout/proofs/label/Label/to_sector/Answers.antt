use Rattle.std.proofs.Common.{◌≡◌, ℕ, List, ◌++◌, take, ap, ◌∙◌, ap₂, lit≤}
use Rattle.device.specs.Meaning.{zeros}
use Rattle.layout.specs.Label.{signature, label_sector, read_label}
use Rattle.layout.proofs.Labels.{signed_rest, label_back}
use Rattle.layout.proofs.label.Label.to_sector.Goals as goal

pub returns : goal.returns
unfolding label_sector
returns c =
    let h = c.copy_from_slice.ensures.after ∙ c.head.ensures.value in
    let s : c.sign.new.sector ≡ take 510 (zeros 512) ++ signature =
    c.sign.ensures ∙ ap (λ (x : List ℕ). take 510 x ++ signature) c.zero_sector-sector.ensures in
    let value = ap₂ (λ (x y : List ℕ). x ++ y) h (signed_rest 52 510 512 _ signature (lit≤ tt) (lit≤ tt) s) in
    record { value = value; back = λ n p. ap (read_label n) value ∙ label_back c.args.self.now n c.head.ensures.lengths.0 c.head.ensures.lengths.1 p }
