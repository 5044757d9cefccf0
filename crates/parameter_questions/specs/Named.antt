-- What a method names.
use Rattle.std.specs.Prelude.{ℕ, Bool, nat_eq, ◌||◌}
use Rattle.std.specs.List.{list_any}
use Rattle.tree_model.specs.Tree.{MethodOf}
use Rattle.rename_model.specs.NamesThere.{is_named_in}

-- whether a method declares, reads or assigns a name
abbrev pub names_it : ℕ → MethodOf ℕ → Bool
names_it n m = list_any (nat_eq n) m.arguments || is_named_in nat_eq n m.body
