use Rattle.std.proofs.Common.{ℕ, ◌<◌, length, None, sym, ◌∙◌, arith}
use Rattle.std.proofs.lemmas.List.{length-map, ext_get_or}
use Rattle.std.proofs.Math.ListN.{get_or-map}
use Rattle.kept.specs.Kept.{given_back}
use Rattle.kept.proofs.give_back.Goals as goal

pub returns : goal.returns
returns c =
    let xs = c.args.places.now in
    let f = given_back c.args.n in
    let all : (j : ℕ) → j < length c.loop-place.place-items → j < c.loop-place.place-index =
    λ j h. omega (arith, h, c.loop-place.auto.place-items, c.loop-place-test.false) in
    ext_get_or None _ _ (c.loop-place.auto.place-items ∙ sym (length-map xs f))
    (λ j h. c.loop-place.invariant.0 j (all j h) ∙ sym (get_or-map f xs j None))
