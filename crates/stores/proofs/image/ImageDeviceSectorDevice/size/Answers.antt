use Rattle.std.proofs.Common.{sym, ◌∙◌}
use Rattle.stores.proofs.Images.{length-sectors_in, image_lawful}
use Rattle.stores.proofs.image.ImageDeviceSectorDevice.size.Goals as goal

pub returns : goal.returns
returns c = record {
  lawful = λ s. image_lawful _ _ c.count_in.ensures.bytes;
  value = λ s. c.count_in.ensures.value ∙ sym (length-sectors_in _ _);
}
