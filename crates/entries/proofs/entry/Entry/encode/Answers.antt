use Rattle.std.proofs.Common.{ap, ◌∙◌, append-nil, rules}
use Rattle.entries.specs.Entry.{entry_in, entry_rest}
use Rattle.entries.proofs.Entries.{entry_back}
use Rattle.entries.proofs.entry.Entry.encode.Goals as goal

pub returns-clause-value : goal.returns-clause-value
unfolding entry_rest
returns-clause-value c = simp (
  c.put_word.ensures,
  c.put_double.ensures,
  c.put_word-2.ensures,
  c.put_word-3.ensures,
  c.copy_from_slice.ensures.after,
  c.copy_from_slice-2.ensures.after,
  append-nil,
)

pub returns-clause-back : goal.returns-clause-back
returns-clause-back c = ap entry_in (returns-clause-value c) ∙ entry_back c.args.self.now (search rules) (search rules)
