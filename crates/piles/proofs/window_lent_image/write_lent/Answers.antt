use Rattle.std.proofs.Common.{ap}
use Rattle.piles.proofs.Steady.{length_pile, written_through}
use Rattle.piles.proofs.window_lent_image.write_lent.Goals as goal

pub returns : goal.returns
returns c =
    let made = c.new-window.ensures in
    let bytes = ap (λ x. x.now.bytes.now) made.beneath in
    let size = length_pile _ _ _ _ bytes made.span in
    let back = ap (λ x. x.now.bytes.now) c.into_beneath.ensures in
    let w = c.write-answer.ensures in
    written_through _ _ _ _ _ _ bytes made.span back size (w.writes tt) (w.beneath tt)
