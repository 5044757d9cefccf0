-- What a message passes, where temporaries may be passed that no closure assigns.
use Rattle.std.specs.Prelude.{◌≡◌, Bool, true, false, List, [], ◌∷◌, Some}
use Rattle.scope_model.specs.SpecialNames.{is_pseudo_variable}
use Rattle.tree_model.specs.Tree.{TreeOf, var, TreesOf, no_trees, more_trees}
use Rattle.image_model.specs.Means.{MeaningOf}
use Rattle.run_model.specs.Values.{Name}
use Rattle.resolved_model.specs.Environments.{Declared, kind_in, place_in}
use Rattle.unfolded_calls.specs.Unfolding.{StandIn, a_lent}
use Rattle.unfolded_places.specs.Inlining.{PlainActual}

-- an actual among declarations, and what stands in for it: one that is plain, or a temporary that is kept
pub data PassedActual (f : Name → MeaningOf Name) (A : List Declared) (keeps : Name → Bool) : TreeOf Name → StandIn → Type 0 where
  passed_plain : {t : TreeOf Name} {a : StandIn} → PlainActual f A t a → PassedActual f A keeps t a
  passed_temporary : (n : Name) → is_pseudo_variable n ≡ false → kind_in A n ≡ Some true → keeps n ≡ true → PassedActual f A keeps (var n) (a_lent (place_in A n))

-- actuals in order
pub data PassedActuals (f : Name → MeaningOf Name) (A : List Declared) (keeps : Name → Bool) : TreesOf Name → List StandIn → Type 0 where
  passed_none : PassedActuals f A keeps no_trees []
  passed_more : {t : TreeOf Name} {ts : TreesOf Name} {a : StandIn} {rest : List StandIn} → PassedActual f A keeps t a → PassedActuals f A keeps ts rest → PassedActuals f A keeps (more_trees t ts) (a ∷ rest)
