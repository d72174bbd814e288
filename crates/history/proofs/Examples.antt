-- The worked examples, computed.
use Rattle.std.proofs.Common.{◌≡◌, ◌+◌, ◌*◌, ◌/◌, ◌++◌, length, refl, ◌∙◌, arith}
use Rattle.std.proofs.lemmas.List.{length-append, length-drop}
use Rattle.layout.specs.Extents.{extent_of}
use Rattle.plans.specs.Plans.{filling, emptying, save_writes, sectors_full}
use Rattle.history.specs.Examples.{one_put, two_puts, Streaming, Wiping, SavingOver}

pub streaming : Streaming
streaming name x y z a b c =
    let one : length (one_put name x).gathered ≡ 300 = length-drop (512 * ((0 + length x) / 512)) x ∙ omega arith in
    let full : sectors_full (one_put name x) y ≡ 1 = omega (arith, one) in
    let left : length (two_puts name x y).gathered ≡ 88 =
    length-drop (512 * sectors_full (one_put name x) y) ((one_put name x).gathered ++ y) ∙ omega (arith, full, length-append (one_put name x).gathered y) in
    record {
      found = refl;
      bytes = length-append x y ∙ omega arith;
      first_put = omega arith;
      second_put = full;
      gathered = left;
      size = omega (arith, full, left);
      extent = refl;
    }

pub wiping : Wiping
unfolding emptying filling
wiping j l = record {
  writes = refl;
  nothing = refl;
  marked = let e : (extent_of (length j.bytes)).0 ≡ 2 = omega arith in rw e;
  one_zeroed = let e : (extent_of (length j.bytes)).0 ≡ 2 = omega arith in rw e;
  all_zeroed = let e : (extent_of (length j.bytes)).0 ≡ 2 = omega arith in rw e;
  whole = refl;
}

pub saving_over : SavingOver
unfolding save_writes filling
saving_over p old new shown d l =
    let e : (extent_of (length new.bytes)).0 ≡ 2 = omega arith in
    record {
      writes = rw (d, e);
      nothing = refl;
      cleared = rw d;
      one_sector = rw (d, e);
      all_data = rw (d, e);
      whole = rw (d, e);
    }
