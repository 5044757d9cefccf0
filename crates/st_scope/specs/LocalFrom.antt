-- What scopes say of a name, from the outside in.
use Rattle.std.specs.Prelude.{ℕ, List, [], ◌∷◌, if◌then◌else◌, nat_eq}
use Rattle.scope_model.specs.declared.local.Local.{Local}
use Rattle.scope_model.specs.declared.local.Local.TheVariants.{Argument, Temporary}
use Rattle.scope_model.specs.Scope.{PlacedScope, is_among}

-- what these arguments and temporaries say of the name, or else what is known outside
abbrev pub declared_or : List ℕ → List ℕ → ℕ → ℕ → Local → Local
declared_or ps ts depth n outside =
    if is_among nat_eq ps n then Argument depth else if is_among nat_eq ts n then Temporary depth else outside

-- what scopes, innermost first, say of the name, or else what is known outside
abbrev pub local_or : List (PlacedScope ℕ) → ℕ → Local → Local
local_or [] n outside = outside
local_or (p ∷ ps) n outside = declared_or p.1.arguments p.1.temporaries p.0 n (local_or ps n outside)
