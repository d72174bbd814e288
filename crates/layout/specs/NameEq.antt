-- What `==` says of two names.
use Rattle.std.specs.Prelude.{Bool}
use Rattle.layout.specs.declared.names.Name.{Name}
use Rattle.layout.specs.contracts.names.NamePartialEq.TheImpl as derived

abbrev pub same_name : Name → Name → Bool
same_name = (derived.ghosts).eq
