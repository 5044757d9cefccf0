-- What names stand for in a method, by the scopes round a place alone.
use Rattle.std.proofs.Common.{◌≡◌, ℕ, List, [], ◌∷◌, ◌++◌, refl, ap, ◌∙◌, arith}
use Rattle.std.specs.Prelude.{Bool, true, false, if◌then◌else◌, option_map, unwrap_or}
use Rattle.rb_base.specs.Names.{text_eq}
use Rattle.tree_model.specs.Tree.{MethodOf}
use Rattle.tree_model.specs.Path.{nth, statement_trees}
use Rattle.scope_model.specs.declared.local.Local.{Local}
use Rattle.scope_model.specs.declared.local.Local.TheVariants.{Argument, Temporary, NotLocal}
use Rattle.scope_model.specs.SpecialNames.{is_pseudo_variable}
use Rattle.scope_model.specs.Scope.{PlacedScope, method_scope, entered, scopes_round, local_by, local_in}
use Rattle.image_model.specs.Means.{MeaningOf, pseudo, argument, temporary, variable, a_class, transcript, undeclared, means_by}
use Rattle.run_model.specs.Values.{Name}
use Rattle.resolved_model.specs.Resolving.{Meant, MeantAt, place_at}
use Rattle.resolved_model.proofs.ResolvingLemmas.{meant_by, AreInScopes}

-- nothing is declared outside all scopes
abbrev pub alone : Name → MeaningOf Name
alone n = undeclared

-- the local that a meaning is
abbrev pub local_of : MeaningOf Name → Local
local_of pseudo = NotLocal
local_of (argument scope) = Argument scope
local_of (temporary scope) = Temporary scope
local_of (variable kind c) = NotLocal
local_of (a_class c) = NotLocal
local_of transcript = NotLocal
local_of undeclared = NotLocal

-- what is said of a name
abbrev pub said : Meant → Local
said m = local_of m.meaning

-- what scopes say of it
abbrev pub said_by : List (PlacedScope Name) → Name → Local
said_by ps n = if is_pseudo_variable n then NotLocal else local_by text_eq ps n

said-so : (b : Bool) (l : Local) → local_of (if b then pseudo else means_by (if b then NotLocal else l) undeclared) ≡ (if b then NotLocal else l)
said-so true l = refl
said-so false (Argument scope) = refl
said-so false (Temporary scope) = refl
said-so false NotLocal = refl

pub said-scopes : (ps : List (PlacedScope Name)) (n : Name) → said (meant_by alone ps n) ≡ said_by ps n
said-scopes ps n = said-so (is_pseudo_variable n) (local_by text_eq ps n)

module _ (m : MethodOf Name) where
  -- what names stand for in the method, where nothing stands outside
  abbrev pub within : MeantAt
  within path n = record { meaning = if is_pseudo_variable n then pseudo else means_by (local_in text_eq is_pseudo_variable m path n) undeclared; place = place_at (method_scope m) path n }

  pub said-within : (path : List ℕ) (n : Name) → said (within path n) ≡ local_in text_eq is_pseudo_variable m path n
  said-within path n = said-so (is_pseudo_variable n) (local_by text_eq (scopes_round (method_scope m) path) n)

  -- its own scope
  abbrev pub own_round : List (PlacedScope Name)
  own_round = (0, method_scope m) ∷ []

  -- names mean what the scopes say, where they do at each path
  pub in-method : (g : Name → MeaningOf Name) (at : MeantAt) → ((path : List ℕ) (n : Name) → at path n ≡ meant_by g (scopes_round (method_scope m) path) n) → AreInScopes g 1 (statement_trees m.body.statements) 0 own_round at
  in-method g at h k l u path n e q =
      let here : l ≡ k = omega (arith, e) in
      h (l ∷ path) n
      ∙ ap (λ z. meant_by g (unwrap_or (option_map (λ o. entered 1 o path) (nth (statement_trees m.body.statements) z)) [] ++ own_round) n) here
      ∙ ap (λ o. meant_by g (unwrap_or (option_map (λ z. entered 1 z path) o) [] ++ own_round) n) q

  pub in-own : AreInScopes alone 1 (statement_trees m.body.statements) 0 own_round within
  in-own = in-method alone within (λ path n. refl)
