-- What holds of each name in a method holds of each name in a part of it, in the method with a message in place of the part, and in the method that the part becomes.
use Rattle.std.proofs.Common.{ℕ, Bool, not, List, [], ◌∷◌, map, Option, None, Some, option_map}
use Rattle.std.specs.Prelude.{unwrap_or}
use Rattle.std.specs.List.{AllByRecursion}
use Rattle.std.specs.Option.{option_map_or, option_and_then}
use Rattle.tree_model.specs.Tree.{TreeOf, var, literal, send, cascade, assign, block, brace, return, TreesOf, no_trees, more_trees, MessagesOf, no_messages, more_messages, StatementsOf, no_statements, more_statements, SequenceOf, MethodOf, trees_of}
use Rattle.tree_model.specs.AllNames.{AllNames, TreesNames, MessagesNames, StatementsNames, SequenceNames, MethodNames}
use Rattle.tree_model.specs.Path.{part_in}
use Rattle.tree_model.specs.Normal.{normal}
use Rattle.scope_model.specs.FreeNames.{each_once, free_occurrences, free_in_trees, free_in_messages, free_in_statements, free_names, run_of, statements_at, drop_statements}
use Rattle.scope_model.specs.Scope.{ScopeOf, block_scope, local_in, declares}
use Rattle.scope_model.proofs.ListsOfNames.{AllByRecursion-append, AllByRecursion-filter}
use Rattle.image_model.specs.ImageNames.{OptionNames}
use Rattle.wider_slots.proofs.Trees.{part_in-names, replaced_in-names}
use Rattle.command_model.specs.Asked.{AskedOf}
use Rattle.command_model.specs.Extracted.{statements_of_part, part_replaced, names_in, free_temporaries, call_of, method_of}
use Rattle.command_model.specs.Parts.{Part, Expression, Run, beginning}
use Rattle.command_model.specs.Places.{is_local}
use Rattle.command_model.specs.Sequences.{single, put_in}
use Rattle.let_code.proofs.Known.{take-names, drop-names, put_in-names, sequence-names, normal-names}

module _ (P : ℕ → Type 0) where
  module _ (same : ℕ → ℕ → Bool) (is_pseudo : ℕ → Bool) where
    -- of the free names
    mutual
      tree-free : (t : TreeOf ℕ) → AllNames P t → AllByRecursion P (free_occurrences same is_pseudo t)
      tree-free (var n) a = (a, tt)
      tree-free (literal l) a = tt
      tree-free (send r s args) a = AllByRecursion-append P (free_occurrences same is_pseudo r) (free_in_trees same is_pseudo args) (tree-free r a.0) (trees-free args a.2)
      tree-free (cascade r ms) a = AllByRecursion-append P (free_occurrences same is_pseudo r) (free_in_messages same is_pseudo ms) (tree-free r a.0) (messages-free ms a.1)
      tree-free (assign n t) a = (a.0, tree-free t a.1)
      tree-free (block ps ts ss e) a = AllByRecursion-filter P (λ n. not (declares same is_pseudo ps ts n)) (free_in_statements same is_pseudo ss) (statements-free ss a.2)
      tree-free (brace ts) a = trees-free ts a
      tree-free (return t) a = tree-free t a

      trees-free : (ts : TreesOf ℕ) → TreesNames P ts → AllByRecursion P (free_in_trees same is_pseudo ts)
      trees-free no_trees a = tt
      trees-free (more_trees t ts) a = AllByRecursion-append P (free_occurrences same is_pseudo t) (free_in_trees same is_pseudo ts) (tree-free t a.0) (trees-free ts a.1)

      messages-free : (ms : MessagesOf ℕ) → MessagesNames P ms → AllByRecursion P (free_in_messages same is_pseudo ms)
      messages-free no_messages a = tt
      messages-free (more_messages s args ms) a = AllByRecursion-append P (free_in_trees same is_pseudo args) (free_in_messages same is_pseudo ms) (trees-free args a.1) (messages-free ms a.2)

      statements-free : (ss : StatementsOf ℕ) → StatementsNames P ss → AllByRecursion P (free_in_statements same is_pseudo ss)
      statements-free no_statements a = tt
      statements-free (more_statements c t ss) a = AllByRecursion-append P (free_occurrences same is_pseudo t) (free_in_statements same is_pseudo ss) (tree-free t a.0) (statements-free ss a.1)

    once-known : (ns : List ℕ) → AllByRecursion P ns → AllByRecursion P (each_once same ns)
    once-known [] a = tt
    once-known (n ∷ ns) a = (a.0, AllByRecursion-filter P (λ k. not (same n k)) (each_once same ns) (once-known ns a.1))

  -- of the statements of a block
  node-known : (t : TreeOf ℕ) → AllNames P t → StatementsNames P (unwrap_or (option_map (λ (s : ScopeOf ℕ). s.statements) (block_scope t)) no_statements)
  node-known (var n) a = tt
  node-known (literal l) a = tt
  node-known (send r s args) a = tt
  node-known (cascade r ms) a = tt
  node-known (assign n t) a = tt
  node-known (block ps ts ss e) a = a.2
  node-known (brace ts) a = tt
  node-known (return t) a = tt

  at-known : (b : SequenceOf ℕ) (path : List ℕ) → SequenceNames P b → StatementsNames P (statements_at b path)
  at-known b [] a = a.statements
  at-known b (k ∷ ks) a = by (part_in b (k ∷ ks)) (part_in-names P b (k ∷ ks) a)
    where
      by : (o : Option (TreeOf ℕ)) → OptionNames (AllNames P) o → StatementsNames P (unwrap_or (option_map (λ (s : ScopeOf ℕ). s.statements) (option_and_then block_scope o)) no_statements)
      by None h = tt
      by (Some t) h = node-known t h

  -- of neighbouring statements
  run-known : (b : SequenceOf ℕ) (path : List ℕ) (first count : ℕ) → SequenceNames P b → StatementsNames P (run_of (statements_at b path) first count)
  run-known b path first count a = take-names P count (drop_statements first (statements_at b path)) (drop-names P first (statements_at b path) (at-known b path a))

  vars-known : (ns : List ℕ) → AllByRecursion P ns → TreesNames P (trees_of (map (λ (n : ℕ). var n) ns))
  vars-known [] a = tt
  vars-known (n ∷ ns) a = (a.0, vars-known ns a.1)

  module _ (a : AskedOf ℕ) (m : MethodOf ℕ) (known : MethodNames P m) where
    names_in-known : (part : Part) → AllByRecursion P (names_in a m part)
    names_in-known (Expression path) = by (part_in m.body path) (part_in-names P m.body path known.body)
      where
        by : (o : Option (TreeOf ℕ)) → OptionNames (AllNames P) o → AllByRecursion P (option_map_or (free_names a.words.tests.same a.words.tests.is_pseudo) o [])
        by None h = tt
        by (Some t) h = once-known a.words.tests.same a.words.tests.is_pseudo (free_occurrences a.words.tests.same a.words.tests.is_pseudo t) (tree-free a.words.tests.same a.words.tests.is_pseudo t h)
    names_in-known (Run path first count) =
        once-known a.words.tests.same a.words.tests.is_pseudo (free_in_statements a.words.tests.same a.words.tests.is_pseudo (run_of (statements_at m.body path) first count))
        (statements-free a.words.tests.same a.words.tests.is_pseudo (run_of (statements_at m.body path) first count) (run-known m.body path first count known.body))

    free-known : (part : Part) → AllByRecursion P (free_temporaries a m part)
    free-known part = AllByRecursion-filter P (λ n. is_local (local_in a.words.tests.same a.words.tests.is_pseudo m (beginning part) n)) (names_in a m part) (names_in-known part)

    -- of a method with a node in place of the part
    replaced-known : (part : Part) (t : TreeOf ℕ) → AllNames P t → MethodNames P (part_replaced m part t)
    replaced-known (Expression path) t is = record { selector = known.selector; arguments = known.arguments; body = replaced_in-names P t is m.body path known.body }
    replaced-known (Run path first count) t is = sequence-names P (put_in first count (single t)) (λ b h. put_in-names P first count (single t) b (is, tt) h) path m known

    -- of the statements of the part
    statements-known : (part : Part) → StatementsNames P (statements_of_part m part)
    statements-known (Expression path) = by (part_in m.body path) (part_in-names P m.body path known.body)
      where
        by : (o : Option (TreeOf ℕ)) → OptionNames (AllNames P) o → StatementsNames P (option_map_or (λ t. single (return t)) o no_statements)
        by None h = tt
        by (Some t) h = (h, tt)
    statements-known (Run path first count) = run-known m.body path first count known.body

    -- of both methods
    pub sender-known : (part : Part) (t : ℕ) → P a.self_name → P t → MethodNames P (normal (part_replaced m part (call_of a t m part)))
    sender-known part t self is =
        normal-names P (part_replaced m part (call_of a t m part)) (replaced-known part (call_of a t m part) (self, is, vars-known (free_temporaries a m part) (free-known part)))

    pub method-known : (part : Part) (t : ℕ) → P t → MethodNames P (method_of a t m part)
    method-known part t is =
        normal-names P
        (record { selector = t; arguments = free_temporaries a m part; head = []; primitive = None; body = record { temporaries = []; statements = statements_of_part m part; tail = [] } })
        (record { selector = is; arguments = free-known part; body = record { temporaries = tt; statements = statements-known part } })
