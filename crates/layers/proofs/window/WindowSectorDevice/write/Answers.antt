use Rattle.std.proofs.Common.{ℕ, ◌+◌, ◌<◌, sym, refl, ◌∙◌, subst}
use Rattle.std.proofs.lemmas.Result.{err_from_is_err_and}
use Rattle.device.proofs.Checks.{passed, refused_write, raised_within}
use Rattle.layers.proofs.Windows.{length_window, none_written_beneath, written_beneath, window_writes}
use Rattle.layers.proofs.window.WindowSectorDevice.write.Goals as goal

pub returns-in_err-check_transfer : goal.returns-in_err-check_transfer
returns-in_err-check_transfer g c =
    let d = c.args.self.now in
    let m = g.D.SectorDevice.meaning d.beneath in
    let p = err_from_is_err_and c.from_residual.result c.from_residual.ensures.1 in
    record {
      stays = λ s. s;
      faults = λ s a n f q. q;
      writes = λ s.
          rw (p.1, p.2) (refused_write (c.count_now.ensures.value s ∙ sym (length_window m.sectors d.span.first d.span.count)) c.in_err-check_transfer.ensures);
      beneath = λ s. none_written_beneath (c.count_now.ensures.value s) c.in_err-check_transfer.ensures;
      span = refl;
    }

pub returns : goal.returns
returns g c =
    let d = c.args.self.now in
    let p = passed c.in_ok-check_transfer.ensures in
    record {
      stays = λ s. c.write.ensures.stays s;
      faults = λ s. raised_within (λ n. d.span.first + n) (c.write.ensures.faults s);
      writes = λ s.
          let h = subst (λ (j : ℕ). c.args.n < j) (c.count_now.ensures.value s) p.1 in
          window_writes d.span.first d.span.count c.args.n c.passed_on.ensures h p.0 (c.write.ensures.writes s);
      beneath = λ s.
          let h = subst (λ (j : ℕ). c.args.n < j) (c.count_now.ensures.value s) p.1 in
          written_beneath d.span.first d.span.count c.args.n c.passed_on.ensures h p.0 (c.write.ensures.writes s);
      span = refl;
    }
