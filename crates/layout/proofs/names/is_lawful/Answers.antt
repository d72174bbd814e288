use Rattle.std.proofs.Common.{◌≡◌, ◌+◌, ◌<◌, ◌≤◌, true, false, not, ◌&&◌, ◌||◌, eqb, length, get_or, drop, arith}
use Rattle.std.proofs.lemmas.List.{at_drop_more, at_drop_all}
use Rattle.std.proofs.lemmas.Bool.Decides.{nat_tests}
use Rattle.layout.specs.Names.{name_chars, some_shown, name_char}
use Rattle.layout.proofs.names.is_lawful.Goals as goal
use Rattle.layout.proofs.names.is_lawful.Goals.{then-b-ne32, else-b-ne32}

pub returns-then-not-is_name_byte : goal.returns-then-not-is_name_byte
returns-then-not-is_name_byte c =
    let s = c.args.name.now in
    let i = c.loop-b.b-index in
    let h : i < length s = omega arith in
    let e : name_chars (drop i s) ≡ (name_char (get_or s i 0) && name_chars (drop (i + 1) s)) = at_drop_more name_chars s i 0 h in
    let b : name_char (get_or s i 0) ≡ false = cc (c.is_name_byte.ensures, c.if-not-is_name_byte.true) in
    grind (arith, nat_tests)

pub loop-b-preserved : goal.loop-b-preserved
loop-b-preserved c =
    let s = c.args.name.now in
    let i = c.loop-b.b-index in
    let h : i < length s = omega arith in
    let e : name_chars (drop i s) ≡ (name_char (get_or s i 0) && name_chars (drop (i + 1) s)) = at_drop_more name_chars s i 0 h in
    let f : some_shown (drop i s) ≡ (not (eqb (get_or s i 0) 32) || some_shown (drop (i + 1) s)) = at_drop_more some_shown s i 0 h in
    let b : name_char (get_or s i 0) ≡ true = cc (c.is_name_byte.ensures, c.if-not-is_name_byte.false) in
    elim c.if-b-ne32.branch [ then-b-ne32 w ↦ (grind (arith, nat_tests), grind (arith, nat_tests)) | else-b-ne32 w ↦ (grind (arith, nat_tests), grind (arith, nat_tests)) ]

pub returns : goal.returns
returns c =
    let s = c.args.name.now in
    let i = c.loop-b.b-index in
    let h : length s ≤ i = omega arith in
    let e : name_chars (drop i s) ≡ true = at_drop_all name_chars s i h in
    let f : some_shown (drop i s) ≡ false = at_drop_all some_shown s i h in
    grind (arith, nat_tests)
