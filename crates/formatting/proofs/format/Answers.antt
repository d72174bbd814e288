use Rattle.std.proofs.lemmas.Result.{err_from_is_err_and}
use Rattle.formatting.proofs.Cards.{passed, leaves_new, leaves_found}
use Rattle.formatting.proofs.format.Goals as goal

pub returns-in_err-write_card-clause-leaves : goal.returns-in_err-write_card-clause-leaves
returns-in_err-write_card-clause-leaves g c = λ s.
    let p = err_from_is_err_and c.from_residual-in_err-write_card.result c.from_residual-in_err-write_card.ensures.1 in
    rw p.1
    (leaves_found (passed c.new.ensures c.in_ok-disk_name.ensures.ok_part c.new-2.ensures c.in_ok-disk_id.ensures.ok_part c.of-layout.ensures (c.size.ensures.value s) (c.geometry.ensures s)
    c.padded.ensures.value c.bytes.ensures.value c.if-layout-eq0.false c.padded.ensures.len c.bytes.ensures.len) (c.in_err-write_card.ensures.writes s))

pub returns-clause-leaves : goal.returns-clause-leaves
returns-clause-leaves g c = λ s.
    leaves_new (passed c.new.ensures c.in_ok-disk_name.ensures.ok_part c.new-2.ensures c.in_ok-disk_id.ensures.ok_part c.of-layout.ensures (c.size.ensures.value s) (c.geometry.ensures s)
    c.padded.ensures.value c.bytes.ensures.value c.if-layout-eq0.false c.padded.ensures.len c.bytes.ensures.len) (c.in_ok-write_card.ensures.writes s)
