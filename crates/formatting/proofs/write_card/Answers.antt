use Rattle.std.proofs.Common.{rules}
use Rattle.std.proofs.lemmas.Result.{err_from_is_err_and}
use Rattle.formatting.proofs.Cards.{card_unzeroed, card_written}
use Rattle.formatting.proofs.write_card.Goals as goal

pub returns-in_err-write_zeros-clause-writes : goal.returns-in_err-write_zeros-clause-writes
returns-in_err-write_zeros-clause-writes g c = λ s k h.
    let p = err_from_is_err_and c.from_residual.result c.from_residual.ensures.1 in
    rw (p.1, p.2) (card_unzeroed c.args.label.now _ (search rules) h (c.in_err-write_zeros.ensures.writes s))

pub returns-clause-writes : goal.returns-clause-writes
returns-clause-writes g c = λ s k h.
    let z = c.in_ok-write_zeros.ensures in
    let v = z.keeps s in
    card_written c.args.label.now _ c.to_sector.result c.write.result (search rules) h k c.to_sector.ensures.value (search rules) v.1 (z.writes s) (c.write.ensures.writes v.0)
