use Rattle.std.proofs.Common.{ℕ, ◌<◌, length, sym, ◌∙◌, subst, arith}
use Rattle.std.proofs.lemmas.Result.{err_from_is_err_and}
use Rattle.device.proofs.Checks.{passed, refused_read}
use Rattle.stores.proofs.Images.{length-sectors_in, count_fits, image_reads}
use Rattle.stores.proofs.image.ImageDeviceSectorDevice.read.Goals as goal

pub copy_sector-requires : goal.copy_sector-requires
copy_sector-requires c =
    let p = passed c.in_ok-check_transfer.ensures in
    let h = subst (λ (j : ℕ). c.args.n < j) c.count_of.ensures p.1 in
    (p.0, omega (arith, h, count_fits (length c.args.self.now.bytes.now)))

pub returns : goal.returns
returns c =
    let p = passed c.in_ok-check_transfer.ensures in
    let h = subst (λ (j : ℕ). c.args.n < j) c.count_of.ensures p.1 in
    record {
      stays = λ u. u;
      faults = λ u a k f z. z;
      reads = λ u. image_reads _ _ _ _ _ h p.0 c.copy_sector.ensures;
    }

pub returns-in_err-check_transfer : goal.returns-in_err-check_transfer
returns-in_err-check_transfer c =
    let p = err_from_is_err_and c.from_residual.result c.from_residual.ensures.1 in
    record {
      stays = λ u. u;
      faults = λ u a k f z. z;
      reads = λ u. rw (p.1, p.2) (refused_read (c.count_of.ensures ∙ sym (length-sectors_in _ _)) c.in_err-check_transfer.ensures);
    }
