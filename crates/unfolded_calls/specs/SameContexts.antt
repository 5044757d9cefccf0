-- Contexts in which nothing changes, and what names mean outside all scopes.
use Rattle.std.specs.Prelude.{◌≡◌, ℕ, suc, List, [], ◌∷◌, Bool, true, false}
use Rattle.image_model.specs.Means.{MeaningOf, pseudo, argument, temporary, variable, a_class, transcript, undeclared}
use Rattle.run_model.specs.Values.{Name}
use Rattle.resolved_model.specs.Environments.{Declared}
use Rattle.unfolded_calls.specs.Unfolding.{StandIn, an_argument, a_temporary, Context}

-- the stand-in of a declaration at a place, where nothing changes
abbrev pub same_local_at : Bool → ℕ → StandIn
same_local_at true k = a_temporary k
same_local_at false k = an_argument k

-- those of all declarations
abbrev pub same_locals : List Declared → ℕ → List StandIn
same_locals [] k = []
same_locals (d ∷ env) k = same_local_at d.is_temporary k ∷ same_locals env (suc k)

-- a context in which nothing changes
pub record IsSame (g : Context) (env : List Declared) : Type 0 where
  pub locals : g.locals ≡ same_locals env 0
  pub returns : g.returns ≡ true
  pub supers : g.supers ≡ true

-- what a name means outside all scopes is no argument and no temporary
abbrev pub IsOutside : MeaningOf Name → Type 0
IsOutside pseudo = Unit {0}
IsOutside (argument scope) = ⊥
IsOutside (temporary scope) = ⊥
IsOutside (variable kind c) = Unit {0}
IsOutside (a_class c) = Unit {0}
IsOutside transcript = Unit {0}
IsOutside undeclared = Unit {0}
