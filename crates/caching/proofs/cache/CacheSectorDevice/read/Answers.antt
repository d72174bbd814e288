use Rattle.std.proofs.Common.{◌≡◌, ℕ, ◌<◌, None, sym, refl, ◌∙◌, subst, rules}
use Rattle.device.proofs.Checks.{passed, raised_within}
use Rattle.kept.specs.Kept.{kept_bytes}
use Rattle.caching.specs.Cache.{Kept}
use Rattle.caching.proofs.Kept.{kept_found, not_found, kept_read, true_after_reads, kept_after}
use Rattle.layers.proofs.Passed.{passed_reads}
use Rattle.caching.proofs.cache.CacheSectorDevice.read.Goals as goal

pub returns-in-Some : goal.returns-in-Some
returns-in-Some g c =
    let xs = c.args.self.now.entries.places in
    let p = passed c.in_ok-check_transfer.ensures in
    let h : Kept xs c.args.n c.copy_from_slice.new.self =
    kept_found xs c.args.n _ (search rules) (search rules) in
    record {
      stays = λ s. s;
      faults = λ s a n f p. p;
      reads = λ s. kept_read xs s.1 h p.0;
      untouched = λ b h. refl;
      keeps = λ e. h;
    }

pub returns : goal.returns
returns g c =
    let xs = c.args.self.now.entries.places in
    let a = c.read-answer.result in
    let e = c.read-answer.ensures in
    let p = passed c.in_ok-check_transfer.ensures in
    let followed = c.follow.ensures in
    record {
      stays = λ s.
          let h = subst (λ (j : ℕ). c.args.n < j) (c.size.ensures.value s.0) p.1 in
          (e.stays s.0, true_after_reads a xs _ s.1 followed p.0 h (e.reads s.0));
      faults = λ s. raised_within (λ n. n) (e.faults s.0);
      reads = λ s.
          let h = subst (λ (j : ℕ). c.args.n < j) (c.size.ensures.value s.0) p.1 in
          passed_reads c.passed_on.ensures p.0 h (e.reads s.0);
      untouched = λ b h. absurd (not_found xs c.args.n (let q : kept_bytes xs c.args.n ≡ None = search rules in q) h.0 b h.2);
      keeps = λ ok. kept_after c.args.n c.read-answer.new.buf a xs _ followed (sym c.passed_on.ensures ∙ ok);
    }
