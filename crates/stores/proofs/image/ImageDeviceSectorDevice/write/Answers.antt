use Rattle.std.proofs.Common.{ℕ, ◌<◌, sym, ◌∙◌, subst}
use Rattle.std.proofs.lemmas.Result.{err_from_is_err_and}
use Rattle.device.proofs.Checks.{passed, refused_write}
use Rattle.stores.proofs.Images.{length-sectors_in, image_writes}
use Rattle.stores.proofs.image.ImageDeviceSectorDevice.write.Goals as goal

pub returns : goal.returns
returns c =
    let p = passed c.in_ok-check_transfer.ensures in
    let h = subst (λ (j : ℕ). c.args.n < j) c.count_of.ensures p.1 in
    record {
      stays = λ u. u;
      faults = λ u a k f z. z;
      writes = λ u. image_writes _ _ _ _ _ h c.copy_from_slice.ensures.after p.0;
    }

pub returns-in_err-check_transfer : goal.returns-in_err-check_transfer
returns-in_err-check_transfer c =
    let p = err_from_is_err_and c.from_residual.result c.from_residual.ensures.1 in
    record {
      stays = λ u. u;
      faults = λ u a k f z. z;
      writes = λ u. rw (p.1, p.2) (refused_write (c.count_of.ensures ∙ sym (length-sectors_in _ _)) c.in_err-check_transfer.ensures);
    }
