use Rattle.std.proofs.Common.{ap, ◌∙◌}
use Rattle.piles.proofs.Steady.{length_pile, written_through}
use Rattle.piles.proofs.window_cache_image.write_through.Goals as goal

pub returns : goal.returns
returns c =
    let made = c.pile_over-pile.ensures in
    let size = length_pile _ _ _ _ made.bytes made.span in
    let back =
    c.into_bytes.ensures ∙ ap (λ x. x.bytes.now) c.into_beneath-2.ensures ∙ ap (λ x. x.beneath.bytes.now) c.into_beneath.ensures in
    let w = c.write-answer.ensures in
    written_through _ _ _ _ _ _ made.bytes made.span back size (w.writes (tt, λ n b h. absurd (made.entries n b h))) (w.beneath (tt, λ n b h. absurd (made.entries n b h)))
