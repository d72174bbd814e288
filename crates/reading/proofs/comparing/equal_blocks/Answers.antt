use Rattle.std.proofs.Common.{◌≡◌, ℕ, ◌-◌, ◌*◌, ◌≤◌, min, ◌∙◌, refl, sym, ap, arith, rules}
use Rattle.std.proofs.lemmas.Result.{err_from_is_err_and}
use Rattle.reading.proofs.Pairs.{turn_of, turn_read, turn_refused, length-front, same_so_far, differ_here, all_same}
use Rattle.reading.proofs.comparing.equal_blocks.Goals as goal

pub loop-i-preserved : goal.loop-i-preserved
loop-i-preserved g c =
    let i = c.loop-i.invariant in
    let z = c.args.layout.now in
    let m = g.D.SectorDevice.meaning c.args.device.now in
    let e = ap (λ (p : ℕ × ℕ). p.0) c.extent-i-end.ensures.value in
    let q : c.args.size ≤ 65535 = omega arith in
    let n : c.min-count.result ≡ min (c.args.size - 512 * c.loop-i.i) 512 = omega arith in
    record {
      mine_long = search rules;
      theirs_long = search rules;
      keeps = search rules;
      equal = λ s k l h w.
          let d = (i.keeps s).0 in
          let v = i.equal s k l h w in
          let x = turn_read (turn_of q e c.loop-i-test.true k h w) n v.0 i.mine_long c.block_sector.ensures (c.in_ok-read.ensures.reads d) in
          let y = turn_read (turn_of q e c.loop-i-test.true l h w) n x.0 i.theirs_long c.block_sector-in-loop-i.ensures (c.in_ok-read-2.ensures.reads (c.in_ok-read.ensures.stays d)) in (
            y.0,
            same_so_far _ _ c.read.new.buf c.read-in-loop-i.new.buf c.args.size c.loop-i.i c.min-count.result (length-front z m c.args.one c.args.size h w k q)
                (length-front z m c.args.other c.args.size h w l q) n v.1 x.1 y.1 (sym c.begin_equal.ensures ∙ c.if-not-begin_equal.false),
          );
    }

pub returns-then-not-begin_equal-clause-compares : goal.returns-then-not-begin_equal-clause-compares
returns-then-not-begin_equal-clause-compares g c = λ s k l h w.
    let i = c.loop-i.invariant in
    let d = (i.keeps s).0 in
    let e = ap (λ (p : ℕ × ℕ). p.0) c.extent-i-end.ensures.value in
    let q : c.args.size ≤ 65535 = omega arith in
    let n : c.min-count.result ≡ min (c.args.size - 512 * c.loop-i.i) 512 = omega arith in
    let x = turn_read (turn_of q e c.loop-i-test.true k h w) n (i.equal s k l h w).0 i.mine_long c.block_sector.ensures (c.in_ok-read.ensures.reads d) in
    let y = turn_read (turn_of q e c.loop-i-test.true l h w) n x.0 i.theirs_long c.block_sector-in-loop-i.ensures (c.in_ok-read-2.ensures.reads (c.in_ok-read.ensures.stays d)) in
    (y.0, differ_here _ _ c.read.new.buf c.read-in-loop-i.new.buf c.loop-i.i c.min-count.result x.1 y.1 (sym c.begin_equal.ensures ∙ c.if-not-begin_equal.true))

pub returns-in_err-read-clause-compares : goal.returns-in_err-read-clause-compares
returns-in_err-read-clause-compares g c = λ s k l h w.
    let i = c.loop-i.invariant in
    let v = i.keeps s in
    let e = ap (λ (p : ℕ × ℕ). p.0) c.extent-i-end.ensures.value in
    let q : c.args.size ≤ 65535 = omega arith in
    let p = err_from_is_err_and c.from_residual.result c.from_residual.ensures.1 in
    rw (p.1, p.2)
    (c.block_sector.result, turn_refused (turn_of q e c.loop-i-test.true k h w) v.1 (i.equal s k l h w).0 i.mine_long c.block_sector.ensures (c.in_err-read.ensures.reads v.0))

pub returns-in_err-read-2-clause-compares : goal.returns-in_err-read-2-clause-compares
returns-in_err-read-2-clause-compares g c = λ s k l h w.
    let i = c.loop-i.invariant in
    let v = i.keeps s in
    let r = c.in_ok-read.ensures in
    let e = ap (λ (p : ℕ × ℕ). p.0) c.extent-i-end.ensures.value in
    let q : c.args.size ≤ 65535 = omega arith in
    let x = turn_read (turn_of q e c.loop-i-test.true k h w) refl (i.equal s k l h w).0 i.mine_long c.block_sector.ensures (r.reads v.0) in
    let p = err_from_is_err_and c.from_residual-in_err-read-2.result c.from_residual-in_err-read-2.ensures.1 in
    rw (p.1, p.2) (
      c.block_sector-in-loop-i.result,
      turn_refused (turn_of q e c.loop-i-test.true l h w) (λ a j f t. v.1 a j f (r.faults v.0 a j f t)) x.0 i.theirs_long c.block_sector-in-loop-i.ensures (c.in_err-read-2.ensures.reads (r.stays v.0)),
    )

pub returns-clause-compares : goal.returns-clause-compares
returns-clause-compares g c = λ s k l h w.
    let e = ap (λ (p : ℕ × ℕ). p.0) c.extent-i-end.ensures.value in
    let q : c.args.size ≤ 65535 = omega arith in
    let v = c.loop-i.invariant.equal s k l h w in
    let y = c.args.layout.now in
    let m = g.D.SectorDevice.meaning c.args.device.now in (
      v.0,
      all_same _ _ (512 * c.loop-i.i) (omega (arith, e, length-front y m c.args.one c.args.size h w k q)) (omega (arith, e, length-front y m c.args.other c.args.size h w l q)) v.1,
    )
