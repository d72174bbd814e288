use Rattle.stores.proofs.image.count_in.Goals as goal

pub returns : goal.returns
returns c = record { value = c.count_of.ensures; bytes = λ i. (c.type_inv.bytes i).fits }
