use Rattle.std.proofs.Common.{◌≡◌, ℕ, ◌+◌, Bool, true, ◌&&◌, ltb, length, set, sym, ap, ◌∙◌, subst, length-set, arith}
use Rattle.std.proofs.lemmas.Bool.{and_from, and_left, and_right, lt-ltb, le-ltb}
use Rattle.std.specs.Str.{bytes_eq}
use Rattle.listing.specs.Faults.{entry_at}
use Rattle.listing.proofs.Taken.{MarkedTo, marked_more, marked_same}
use Rattle.listing.proofs.names.mark_name.Goals as goal
use Rattle.listing.proofs.names.mark_name.Goals.{then-slot-first+then-has_name, else-slot-first, else-slot-first-via-then-slot-first+else-has_name, else-slot-first-via-else-slot-first}

pub loop-i-preserved : goal.loop-i-preserved
loop-i-preserved c =
    let p : ℕ → Bool = λ k. ltb c.args.slot (c.args.first + k) && bytes_eq (entry_at c.args.here.now (c.args.first + k)).name c.args.name.now in
    let old = c.args.taken.now in
    let i = c.loop-i.i in
    let marks = c.loop-i.taken in
    elim c.if-slot-first.branch [
      | then-slot-first+then-has_name w ↦
          let l : length marks ≡ 16 = omega (arith, c.if-slot-first.array_long, ap length w.taken-is, length-set marks w.from.result true) in
          subst (MarkedTo old p (i + 1)) (sym (w.taken-is ∙ ap (λ (n : ℕ). set marks n true) w.from.ensures))
          (marked_more old p i marks l c.loop-i-test.true
          (and_from _ _ (lt-ltb c.args.slot (c.args.first + i) w.if-slot-first.true) (sym w.has_name.ensures ∙ w.if-has_name.true)) c.loop-i.invariant)
      | else-slot-first w ↦
          subst (MarkedTo old p (i + 1)) (sym w.taken-is)
          (elim w.else-slot-first.branch [
            | else-slot-first-via-then-slot-first+else-has_name v ↦
                marked_same old p i marks (and_right _ _ (sym v.has_name.ensures ∙ v.if-has_name.false)) c.loop-i.invariant
            | else-slot-first-via-else-slot-first v ↦
                marked_same old p i marks (and_left _ _ (le-ltb c.args.slot (c.args.first + i) v.if-slot-first.false)) c.loop-i.invariant
          ])
    ]
