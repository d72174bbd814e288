-- What is left decides the answer: the bytes from the index on, with what was seen before.
use Rattle.std.proofs.Common.{◌≡◌, ◌||◌, drop}
use Rattle.layout.specs.Names.{name_chars, some_shown}
use Rattle.layout.proofs.names.is_lawful.Given as goal

abbrev pub invariant-loop-b : goal.invariant-loop-b
invariant-loop-b l = (name_chars l.name ≡ name_chars (drop l.b-index l.name)) × (some_shown l.name ≡ (l.shown || some_shown (drop l.b-index l.name)))
