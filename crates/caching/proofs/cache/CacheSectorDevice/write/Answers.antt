use Rattle.std.proofs.Common.{ℕ, ◌<◌, sym, ◌∙◌, subst}
use Rattle.device.proofs.Checks.{passed, raised_within}
use Rattle.caching.proofs.Kept.{true_after_writes, kept_after}
use Rattle.layers.proofs.Passed.{passed_writes}
use Rattle.caching.proofs.cache.CacheSectorDevice.write.Goals as goal

pub returns : goal.returns
returns g c =
    let xs = c.args.self.now.entries.places in
    let a = c.write-answer.result in
    let e = c.write-answer.ensures in
    let p = passed c.in_ok-check_transfer.ensures in
    let followed = c.follow.ensures in
    record {
      stays = λ s.
          let h = subst (λ (j : ℕ). c.args.n < j) (c.size.ensures.value s.0) p.1 in
          (e.stays s.0, true_after_writes a xs _ s.1 followed p.0 h (e.writes s.0));
      faults = λ s. raised_within (λ n. n) (e.faults s.0);
      writes = λ s.
          let h = subst (λ (j : ℕ). c.args.n < j) (c.size.ensures.value s.0) p.1 in
          passed_writes c.passed_on.ensures p.0 h (e.writes s.0);
      keeps = λ ok. kept_after c.args.n c.args.buf.now a xs _ followed (sym c.passed_on.ensures ∙ ok);
    }
