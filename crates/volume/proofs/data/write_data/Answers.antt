use Rattle.std.proofs.Common.{◌≡◌, ℕ, ◌*◌, drop, sym, refl, ap, ◌∙◌, rules}
use Rattle.std.proofs.lemmas.Result.{err_from_is_err_and}
use Rattle.std.specs.Iterator.Adapters.{enumerate_source, enumerate_count}
use Rattle.std.specs.Slice.Iter.{chunks_rest}
use Rattle.plans.specs.Plans.{filling, chunk}
use Rattle.volume.proofs.Filling.{next_part, next_rest, next_le, performed_as, filling_none, data_more, data_cut}
use Rattle.volume.proofs.data.write_data.Goals as goal

pub loop-i-init : goal.loop-i-init
loop-i-init g c =
    let b = c.args.bytes.now in
    let n : enumerate_count c.into_iter-i-iterator.result ≡ 0 = cc in
    let e : chunks_rest (enumerate_source c.into_iter-i-iterator.result) ≡ b = cc in
    record {
      can = search rules;
      finite = search rules;
      size = search rules;
      rest = e ∙ ap (λ (k : ℕ). drop (512 * k) b) (sym n);
      some = search rules;
      keeps = search rules;
      runs = λ s l h. performed_as (ap (filling c.args.slot c.args.from (chunk b)) (sym n)) (filling_none c.args.layout.now _ c.args.slot c.args.from (chunk b));
    }

pub loop-i-preserved : goal.loop-i-preserved
loop-i-preserved g c =
    let i = c.loop-i.invariant in
    let k = c.in-Some.ensures.steps in
    let x = next_part i.size i.rest k.0.1 in
    record {
      can = search rules;
      finite = search rules;
      size = search rules;
      rest = next_rest k.2 x;
      some = next_le k.2 x;
      keeps = search rules;
      runs = λ s l h.
          performed_as (ap (filling c.args.slot c.args.from (chunk c.args.bytes.now)) (sym k.2))
          (data_more c.args.layout.now c.args.slot c.args.from c.in-Some.i h l c.requires x c.block_sector.ensures refl k.1 (i.runs s l h) (c.in_ok-write_part.ensures.writes (i.keeps s).0));
    }

pub returns-in_err-write_part-clause-runs : goal.returns-in_err-write_part-clause-runs
returns-in_err-write_part-clause-runs g c = λ s l h.
    let i = c.loop-i.invariant in
    let k = c.in-Some.ensures.steps in
    let v = i.keeps s in
    let p = err_from_is_err_and c.from_residual.result c.from_residual.ensures.1 in
    rw (p.1, p.2)
    (data_cut c.args.layout.now c.args.slot c.args.from c.in-Some.i v.1 h l c.requires (next_part i.size i.rest k.0.1) c.block_sector.ensures refl k.1 (i.runs s l h)
    (c.in_err-write_part.ensures.writes v.0))
