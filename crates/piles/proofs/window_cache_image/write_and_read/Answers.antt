use Rattle.std.proofs.Common.{length, refl, ap, ◌∙◌}
use Rattle.std.proofs.lemmas.Result.{err_from_is_err_and}
use Rattle.device.proofs.Zeros.{length-zeros}
use Rattle.piles.specs.WindowOnImage.{pile_count, ReadsBack}
use Rattle.piles.proofs.Steady.{length_pile, in_pile, write_refused, read_refused, read_back}
use Rattle.piles.proofs.window_cache_image.write_and_read.Goals as goal

pub returns-in_err-write : goal.returns-in_err-write
returns-in_err-write c =
    let made = c.pile_over-pile.ensures in
    let size = length_pile _ _ _ _ made.bytes made.span in
    let q = err_from_is_err_and c.from_residual.result c.from_residual.ensures.1 in
    let back : ReadsBack (pile_count (length c.args.bytes.now) c.args.span.first c.args.span.count) c.args.n c.args.written.now c.from_residual.result =
    rw (q.1, q.2) (write_refused (c.in_err-write.ensures.writes (tt, λ n b h. absurd (made.entries n b h))) refl size) in
    record { answers = back; lawful = λ h l. back.otherwise l (in_pile h) }

pub returns-in_err-read : goal.returns-in_err-read
returns-in_err-read c =
    let made = c.pile_over-pile.ensures in
    let w = c.in_ok-write.ensures in
    absurd (read_refused (w.writes (tt, λ n b h. absurd (made.entries n b h))) (c.in_err-read.ensures.reads (w.stays (tt, λ n b h. absurd (made.entries n b h)))) refl (ap length c.zero_sector-sector.ensures ∙ length-zeros 512))

pub returns : goal.returns
returns c =
    let made = c.pile_over-pile.ensures in
    let size = length_pile _ _ _ _ made.bytes made.span in
    let w = c.in_ok-write.ensures in
    let back =
    read_back (w.writes (tt, λ n b h. absurd (made.entries n b h))) (c.in_ok-read.ensures.reads (w.stays (tt, λ n b h. absurd (made.entries n b h)))) size
    (ap length c.zero_sector-sector.ensures ∙ length-zeros 512) in
    record { answers = back; lawful = λ h l. back.otherwise l (in_pile h) }
