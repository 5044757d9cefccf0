-- The parts that the program holds, and their names.
use Rattle.std.specs.Prelude.{◌≡◌, ℕ, List, Some, map, slice_get}
use Rattle.tree_model.specs.Tree.{map_literal, map_names}
use Rattle.st_tree.specs.declared.tree.Message.{Message}
use Rattle.st_tree.specs.declared.tree.Statement.{Statement}
use Rattle.grammar_model.specs.Terminal.{Text}
use Rattle.parse_events.specs.declared.event.Event.{Event}
use Rattle.event_trees.specs.Stacks.{MessageOf, NotedOf, ScopeOf, StacksOf, step}
use Rattle.event_trees.specs.Naming.{Grows}
use Rattle.event_trees.specs.declared.stacks.Scope.{Scope}
use Rattle.event_trees.specs.declared.stacks.Stacks.{Stacks}

-- a message of the program
abbrev pub message_in : Message → MessageOf ℕ
message_in m = record { selector = m.selector; arguments = m.arguments }

-- a statement of the program
abbrev pub noted_in : Statement → NotedOf ℕ
noted_in s = record { comments = s.comments; node = s.node }

-- the declarations of a block of the program
abbrev pub scope_in : Scope → ScopeOf ℕ
scope_in s = record { parameters = s.parameters; temporaries = s.temporaries }

-- the parts that wait
abbrev pub held : Stacks → StacksOf ℕ
held s =
    record {
      nodes = s.nodes.items;
      literals = s.literals.items;
      messages = map message_in s.messages.items;
      statements = map noted_in s.statements.items;
      targets = s.targets.items;
      scopes = map scope_in s.scopes.items;
    }

-- the same parts with each name changed
abbrev pub map_stacks : {M N : Type 0} → (M → N) → StacksOf M → StacksOf N
map_stacks f s =
    record {
      nodes = map (map_names f) s.nodes;
      literals = map (map_literal f) s.literals;
      messages = map (λ (m : MessageOf _). record { selector = f m.selector; arguments = map (map_names f) m.arguments }) s.messages;
      statements = map (λ (t : NotedOf _). record { comments = t.comments; node = map_names f t.node }) s.statements;
      targets = map f s.targets;
      scopes = map (λ (d : ScopeOf _). record { parameters = map f d.parameters; temporaries = map f d.temporaries }) s.scopes;
    }

-- where the names of the numbers are these or begin with these, an event makes the later parts of the earlier ones
pub record Builds (names : List Text) (before after : StacksOf ℕ) (e : Event) : Type 0 where
  pub named : (final : List Text) → Grows names final → map_stacks (slice_get final) after ≡ step (λ t. Some t) (map_stacks (slice_get final) before) e
