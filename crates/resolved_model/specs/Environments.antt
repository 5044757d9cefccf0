-- Names resolved by what is declared round them.
use Rattle.std.specs.Prelude.{ℕ, List, [], ◌∷◌, ◌++◌, length, map, find, Bool, true, false, if◌then◌else◌, Option, Some, None, option_map}
use Rattle.std.specs.List.{position_or_len}
use Rattle.rb_base.specs.Names.{text_eq}
use Rattle.tree_model.specs.Tree.{TreeOf, var, literal, send, cascade, assign, block, brace, return, TreesOf, no_trees, more_trees, MessagesOf, no_messages, more_messages, StatementsOf, no_statements, more_statements, SequenceOf}
use Rattle.scope_model.specs.SpecialNames.{is_pseudo_variable}
use Rattle.scope_model.specs.Scope.{PlacedScope}
use Rattle.image_model.specs.Means.{MeaningOf}
use Rattle.run_model.specs.Values.{Name}
use Rattle.resolved_model.specs.ResolvedTrees.{Reference, of_word, of_local, Target, to_temporary, to_fixed, ResolvedTree, reading, constant, sending, cascading, assigning, block_of, brace_of, returning, ResolvedTrees, no_nodes, more_nodes, ResolvedMessages, no_sends, more_sends, ResolvedStatements, no_lines, more_lines, ResolvedCode}
use Rattle.resolved_model.specs.Resolving.{reference_of, target_of}

-- a name that is declared, and whether it is a temporary's
pub record Declared : Type 0 where
  pub name : Name
  pub is_temporary : Bool

-- an argument
abbrev pub as_argument : Name → Declared
as_argument n = record { name = n; is_temporary = false }

-- a temporary
abbrev pub as_temporary : Name → Declared
as_temporary n = record { name = n; is_temporary = true }

-- what a scope declares, and what stood round it
abbrev pub opened : List Name → List Name → List Declared → List Declared
opened ps ts env = map as_argument ps ++ (map as_temporary ts ++ env)

-- whether the first declaration of a name is that of a temporary, if there is one
abbrev pub kind_in : List Declared → Name → Option Bool
kind_in env n = option_map (λ (d : Declared). d.is_temporary) (find (λ (d : Declared). text_eq n d.name) env)

-- the place of the first declaration of a name
abbrev pub place_in : List Declared → Name → ℕ
place_in env n = position_or_len (text_eq n) (map (λ (d : Declared). d.name) env)

-- what is read under a name that may be declared
abbrev pub reference_by : Option Bool → ℕ → MeaningOf Name → Name → Reference
reference_by (Some b) k g n = of_local k
reference_by None k g n = reference_of g k n

-- what is assigned under a name that may be declared
abbrev pub target_by : Option Bool → ℕ → MeaningOf Name → Name → Target
target_by (Some true) k g n = to_temporary k
target_by (Some false) k g n = to_fixed n
target_by None k g n = target_of g k n

-- what is read under a name in an environment, with what it means outside
abbrev pub reference_in : List Declared → MeaningOf Name → Name → Reference
reference_in env g n = if is_pseudo_variable n then of_word n else reference_by (kind_in env n) (place_in env n) g n

-- what is assigned under a name in an environment
abbrev pub target_in : List Declared → MeaningOf Name → Name → Target
target_in env g n = if is_pseudo_variable n then to_fixed n else target_by (kind_in env n) (place_in env n) g n

-- what scopes declare
abbrev pub declared_in : List (PlacedScope Name) → List Declared
declared_in [] = []
declared_in (p ∷ ps) = opened p.1.arguments p.1.temporaries (declared_in ps)

-- g is what names mean outside all scopes
module _ (g : Name → MeaningOf Name) where
  -- a node with its names resolved by what is declared round it
  abbrev mutual
    pub tree_in : List Declared → TreeOf Name → ResolvedTree
    tree_in env (var n) = reading (reference_in env (g n) n)
    tree_in env (literal l) = constant l
    tree_in env (send r s args) = sending (tree_in env r) s (trees_in env args)
    tree_in env (cascade r ms) = cascading (tree_in env r) (messages_in env ms)
    tree_in env (assign n t) = assigning (target_in env (g n) n) (tree_in env t)
    tree_in env (block ps ts ss e) = block_of (length ps) (length ts) (statements_in (opened ps ts env) ss)
    tree_in env (brace ts) = brace_of (trees_in env ts)
    tree_in env (return t) = returning (tree_in env t)

    pub trees_in : List Declared → TreesOf Name → ResolvedTrees
    trees_in env no_trees = no_nodes
    trees_in env (more_trees t ts) = more_nodes (tree_in env t) (trees_in env ts)

    pub messages_in : List Declared → MessagesOf Name → ResolvedMessages
    messages_in env no_messages = no_sends
    messages_in env (more_messages s args ms) = more_sends s (trees_in env args) (messages_in env ms)

    pub statements_in : List Declared → StatementsOf Name → ResolvedStatements
    statements_in env no_statements = no_lines
    statements_in env (more_statements c t ss) = more_lines (tree_in env t) (statements_in env ss)

  -- a sequence with parameters, with its names resolved
  abbrev pub code_in : List Declared → List Name → SequenceOf Name → ResolvedCode
  code_in env ps b = record { parameters = length ps; temporaries = length b.temporaries; statements = statements_in (opened ps b.temporaries env) b.statements }
