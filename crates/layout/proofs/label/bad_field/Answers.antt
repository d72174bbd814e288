use Rattle.std.proofs.Common.{arith}
use Rattle.std.proofs.lemmas.Bool.Decides.{nat_tests}
use Rattle.layout.specs.Label.{bad_field}
use Rattle.layout.proofs.label.bad_field.Goals as goal

pub returns-then-size-eq0 : goal.returns-then-size-eq0
unfolding bad_field
returns-then-size-eq0 c = grind (arith, nat_tests)

pub returns-then-ne-2 : goal.returns-then-ne-2
unfolding bad_field
returns-then-ne-2 c = grind (arith, nat_tests)

pub returns-then-layout-size : goal.returns-then-layout-size
unfolding bad_field
returns-then-layout-size c = grind (arith, nat_tests)

pub returns-then-word_at-layout : goal.returns-then-word_at-layout
unfolding bad_field
returns-then-word_at-layout c = grind (arith, nat_tests)

pub returns-then-word_at-ne1 : goal.returns-then-word_at-ne1
unfolding bad_field
returns-then-word_at-ne1 c = grind (arith, nat_tests)

pub returns-then-word_at-layout-2 : goal.returns-then-word_at-layout-2
unfolding bad_field
returns-then-word_at-layout-2 c = grind (arith, nat_tests)

pub returns-then-ne-3 : goal.returns-then-ne-3
unfolding bad_field
returns-then-ne-3 c = grind (arith, nat_tests)

pub returns : goal.returns
unfolding bad_field
returns c = grind (arith, nat_tests)
