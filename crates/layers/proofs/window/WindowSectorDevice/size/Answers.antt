use Rattle.std.proofs.Common.{sym, ◌∙◌}
use Rattle.layers.proofs.Windows.{length_window, window_lawful}
use Rattle.layers.proofs.window.WindowSectorDevice.size.Goals as goal

pub returns : goal.returns
returns g c =
    let d = c.args.self.now in
    let m = g.D.SectorDevice.meaning d.beneath in
    record {
      lawful = λ s. window_lawful m d.span.first d.span.count (c.count_now.ensures.lawful s);
      value = λ s. c.count_now.ensures.value s ∙ sym (length_window m.sectors d.span.first d.span.count);
    }
