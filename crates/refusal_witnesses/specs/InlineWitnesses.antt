-- What is in the way of the conditions of a message that is replaced by the body of a method.
use Rattle.std.specs.Prelude.{ℕ, suc, ◌-◌, ◌==◌, Bool, true, false, not, ◌&&◌, ◌||◌, nat_lt, is_some, if◌then◌else◌, List, [], ◌∷◌, ◌++◌, map, filter, take, length, Some}
use Rattle.std.specs.List.{list_any, flat_map, enumerate_from}
use Rattle.std.specs.Option.{option_map_or}
use Rattle.tree_model.specs.Tree.{TreeOf, var, StatementsOf, no_statements, more_statements, MethodOf}
use Rattle.tree_model.specs.Path.{nth, count, statement_trees}
use Rattle.tree_model.specs.Nodes.{Placed, nodes}
use Rattle.scope_model.specs.declared.local.Local.{Local}
use Rattle.scope_model.specs.Control.{is_empty}
use Rattle.scope_model.specs.Scope.{local_in}
use Rattle.scope_model.specs.FreeNames.{free_names, statements_at}
use Rattle.image_model.specs.Image.{ClassOf, EntryOf, ImageOf}
use Rattle.image_model.specs.Lookup.{own_method, lookup}
use Rattle.image_model.specs.Means.{MeaningOf, temporary, means}
use Rattle.image_model.specs.Uses.{name_used}
use Rattle.rename_model.specs.Conditions.{stands_below}
use Rattle.command_model.specs.Hierarchy.{is_method_of}
use Rattle.command_model.specs.SameMethods.{same_meaning, is_super_node}
use Rattle.command_model.specs.Asked.{AskedOf}
use Rattle.command_model.specs.Places.{is_return, is_of_block, innermost, sequence_round, whole_statement, stands_in_closure, SendOf}
use Rattle.command_model.specs.Plain.{is_plain}
use Rattle.command_model.specs.Inlined.{answered, passed_for}
use Rattle.command_model.specs.ParameterConditions.{formal_reads}
use Rattle.command_model.specs.PartConditions.{is_assigned_in_the_open}
use Rattle.command_model.specs.InlineConditions.{is_self_send, makes_no_control}
use Rattle.refusal_witnesses.specs.Witnesses.{InMethod, WitnessOf, TwoMeanings, a_node, a_method, where_true, nodes_that}

-- the path of the node above a place
abbrev pub above : List ℕ → List ℕ
above path = take (length path - 1) path

-- whether a node is a name that passes a test
abbrev pub is_name_that : {N : Type 0} → (N → Bool) → TreeOf N → Bool
is_name_that test (var n) = test n
is_name_that test t = false

-- whether no statement but the last one is a return
abbrev pub answers_last : {N : Type 0} → StatementsOf N → Bool
answers_last no_statements = true
answers_last (more_statements c t no_statements) = true
answers_last (more_statements c t ss) = not (is_return t) && answers_last ss

-- whether a path leads to a whole statement that does not end a block
abbrev pub is_statement_between : {N : Type 0} → MethodOf N → List ℕ → Bool
is_statement_between m path =
    option_map_or (λ k. innermost m path == 0 || nat_lt (suc k) (count (statement_trees (statements_at m.body (sequence_round m path))))) (whole_statement m path) false

module _ {N : Type 0} (a : AskedOf N) (i : ImageOf N) where
  -- SelfSend: the receiver of the message, if that is not `self`
  abbrev pub other_receiver : EntryOf N → SendOf N → List (WitnessOf N)
  other_receiver m e = where_true (not (is_self_send a i e)) (a_node (InMethod m) (e.path ++ 0 ∷ []))

  -- OneTarget: the method that is found, if it is one of the kernel, and those of the classes below
  abbrev pub other_targets : N → Bool → N → List (WitnessOf N)
  other_targets c meta s =
      option_map_or (λ (m : EntryOf N). where_true m.kernel (a_method m)) (lookup a.words i (Some c) meta s) []
      ++ flat_map (λ (e : ClassOf N).
      if stands_below a.words.tests.same i.classes c e && not (a.words.tests.same c e.name)
      then option_map_or (λ m. a_method m ∷ []) (own_method a.words.tests.same i.methods e.name meta s) []
      else []) i.classes

  -- whether the body of a target may stand in place of a message: it answers one expression, or no statement but its last one is a return and the message is a whole statement that does not end a block
  abbrev pub body_fits : EntryOf N → SendOf N → EntryOf N → Bool
  body_fits m e target =
      is_some (answered target.tree.body.statements)
      || (is_statement_between m.tree e.path && answers_last target.tree.body.statements)

  -- Inlinable: the target, if it is one of the kernel or has temporaries; the returns in its blocks; its `super`, if it is of another class; and the message, if the body does not fit in its place
  abbrev pub not_inlinable : N → EntryOf N → SendOf N → EntryOf N → List (WitnessOf N)
  not_inlinable c m e target =
      where_true (target.kernel || not (is_empty target.tree.body.temporaries)) (a_method target)
      ++ (nodes_that (λ x. is_return x.1 && nat_lt 1 (length x.0)) (InMethod target) target.tree.body
      ++ ((if is_method_of a.words.tests.same c target then [] else nodes_that (λ x. is_super_node a.is_super x.1) (InMethod target) target.tree.body)
      ++ where_true (not (body_fits m e target)) (a_node (InMethod m) e.path)))

  -- whether what is passed for a formal argument of the target is plain, or is a temporary that no closure assigns for an argument that no closure reads
  abbrev pub is_actual_plain : EntryOf N → SendOf N → EntryOf N → N → TreeOf N → Bool
  is_actual_plain m e target formal t = is_plain a i m e.path t || is_name_that (λ n. by n (means a.words i m e.path n)) t
    where
      by : N → MeaningOf N → Bool
      by n (temporary scope) =
          is_assigned_in_the_open a m.tree e.path scope n
          && not (list_any (stands_in_closure a.words.tests.form target.tree 1) (formal_reads a target.tree formal))
      by n meaning = false

  -- PlainActuals: what is passed and is neither; the message itself, should it pass fewer
  abbrev pub other_actual : EntryOf N → SendOf N → EntryOf N → ℕ × N → List (WitnessOf N)
  other_actual m e target x =
      option_map_or (λ t. where_true (not (is_actual_plain m e target x.1 t)) (a_node (InMethod m) (e.path ++ suc x.0 ∷ [])))
      (nth e.arguments x.0) (a_node (InMethod m) e.path ∷ [])

  abbrev pub other_actuals : EntryOf N → SendOf N → EntryOf N → List (WitnessOf N)
  other_actuals m e target = flat_map (other_actual m e target) (enumerate_from 0 target.tree.arguments)

  -- what a name at a place is in a method
  abbrev local : MethodOf N → List ℕ → N → Local
  local m path n = local_in a.words.tests.same a.words.tests.is_pseudo m path n

  -- a name at a place of the target that means another thing where the message stands; for an argument the names in what is passed that a block round that place declares
  abbrev pub captured_name : EntryOf N → SendOf N → EntryOf N → List ℕ → N → List (WitnessOf N)
  captured_name m e target path n =
      option_map_or (λ t.
      map (λ x. TwoMeanings (InMethod target) path x (means a.words i m e.path x) (means a.words i target path x))
      (filter (λ x. is_of_block (local target.tree path x)) (free_names a.words.tests.same a.words.tests.is_pseudo t)))
      (passed_for a target.tree e.arguments path n)
      (where_true (not (is_of_block (local target.tree path n) || same_meaning a.words.tests.same (means a.words i target path n) (means a.words i m e.path n)))
      (TwoMeanings (InMethod target) path n (means a.words i target path n) (means a.words i m e.path n)))

  abbrev pub captured_at : EntryOf N → SendOf N → EntryOf N → Placed N → List (WitnessOf N)
  captured_at m e target x = option_map_or (captured_name m e target x.0) (name_used x.1) []

  -- NoCapture: all of them
  abbrev pub captured : EntryOf N → SendOf N → EntryOf N → List (WitnessOf N)
  captured m e target = flat_map (captured_at m e target) (nodes target.tree.body)

  -- NoNewControl: the node above the message, which would become a control send
  abbrev pub new_control : EntryOf N → SendOf N → EntryOf N → List (WitnessOf N)
  new_control m e target = where_true (not (makes_no_control a i m e target)) (a_node (InMethod m) (above e.path))
