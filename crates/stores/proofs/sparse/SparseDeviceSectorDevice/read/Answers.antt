use Rattle.std.proofs.Common.{Err, sym, refl, ap, ◌∙◌}
use Rattle.std.proofs.lemmas.Result.{err_from_is_err_and}
use Rattle.std.proofs.lemmas.Bool.{both_ways}
use Rattle.device.proofs.Checks.{passed, refused_read}
use Rattle.stores.proofs.SparseTables.{length_sparse}
use Rattle.stores.proofs.SparseTransfers.{sparse_read, sparse_read_refused}
use Rattle.stores.proofs.sparse.SparseDeviceSectorDevice.read.Goals as goal

pub returns-in_err-check_transfer : goal.returns-in_err-check_transfer
returns-in_err-check_transfer c =
    let d = c.args.self.now in
    let p = err_from_is_err_and c.from_residual.result c.from_residual.ensures.1 in
    record {
      stays = λ u. u;
      faults = λ u a k f z. z;
      reads = λ u. rw (p.1, p.2) (refused_read (sym (length_sparse d.size d.places.now)) c.in_err-check_transfer.ensures);
      accepted = λ w l m. p.1 ∙ ap Err p.2 ∙ c.in_err-check_transfer.ensures.otherwise l m;
      unchanged = refl;
    }

pub returns-then-self : goal.returns-then-self
returns-then-self c =
    let d = c.args.self.now in
    let p = passed c.in_ok-check_transfer.ensures in
    record {
      stays = λ u. u;
      faults = λ u a k f z. z;
      reads = λ u. sparse_read_refused d.places.now d.size d.geometry d.failed c.args.n _ _ c.if-self.true c.new.ensures p.1 p.0;
      accepted = λ w l m. absurd (both_ways d.failed w c.if-self.true);
      unchanged = refl;
    }

pub returns : goal.returns
returns c =
    let d = c.args.self.now in
    let p = passed c.in_ok-check_transfer.ensures in
    record {
      stays = λ u. u;
      faults = λ u a k f z. z;
      reads = λ u. sparse_read d.places.now d.size d.geometry d.failed c.args.n _ _ c.if-self.false p.1 p.0 c.copy_sector.ensures;
      accepted = λ w l m. refl;
      unchanged = refl;
    }
