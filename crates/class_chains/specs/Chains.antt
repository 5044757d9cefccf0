-- Classes on chains.
use Rattle.std.specs.Prelude.{Bool, List, Option}
use Rattle.std.specs.List.{list_any}
use Rattle.image_model.specs.Image.{ClassOf}
use Rattle.image_model.specs.Chain.{chain}

-- whether the class of a name stands on the chain that begins at another name; on none, where there is no such class
abbrev pub is_on_chain : {N : Type 0} → (N → N → Bool) → List (ClassOf N) → N → Option N → Bool
is_on_chain same classes c n = list_any (λ (e : ClassOf _). same c e.name) (chain same classes n)
