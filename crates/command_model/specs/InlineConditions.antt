-- The conditions of a message that is replaced by the body of a method.
use Rattle.std.specs.Prelude.{ℕ, suc, ◌-◌, ◌==◌, Bool, true, false, not, ◌&&◌, ◌||◌, nat_lt, is_some, List, take, length, slice_get, Some}
use Rattle.std.specs.List.{list_any, list_all, enumerate_from}
use Rattle.std.specs.Option.{option_map_or}
use Rattle.tree_model.specs.Tree.{TreeOf, var, StatementsOf, no_statements, more_statements, MethodOf}
use Rattle.tree_model.specs.Path.{nth, count, statement_trees, part_in, with_child}
use Rattle.tree_model.specs.Nodes.{nodes}
use Rattle.scope_model.specs.declared.local.Local.{Local}
use Rattle.scope_model.specs.Control.{is_empty, is_control}
use Rattle.scope_model.specs.declared.local.ControlForm.{ControlForm}
use Rattle.scope_model.specs.Scope.{local_in}
use Rattle.scope_model.specs.FreeNames.{free_names, statements_at}
use Rattle.image_model.specs.Image.{ClassOf, EntryOf, ImageOf}
use Rattle.image_model.specs.Lookup.{own_method, lookup}
use Rattle.image_model.specs.Means.{MeaningOf, temporary, means}
use Rattle.image_model.specs.Uses.{name_used}
use Rattle.rename_model.specs.Conditions.{stands_below}
use Rattle.command_model.specs.Hierarchy.{is_method_of}
use Rattle.command_model.specs.SameMethods.{same_meaning, has_super}
use Rattle.command_model.specs.Asked.{AskedOf}
use Rattle.command_model.specs.Places.{is_return, is_of_block, innermost, sequence_round, whole_statement, stands_in_closure, SendOf}
use Rattle.command_model.specs.Plain.{is_plain}
use Rattle.command_model.specs.Inlined.{answered, unfolded, passed_for}
use Rattle.command_model.specs.ParameterConditions.{formal_reads}
use Rattle.command_model.specs.PartConditions.{is_assigned_in_the_open}

-- whether a node is a name that passes a test
abbrev pub is_name_that : {N : Type 0} → (N → Bool) → TreeOf N → Bool
is_name_that test (var n) = test n
is_name_that test t = false

-- no statement but the last one is a return
abbrev pub answers_last : {N : Type 0} → StatementsOf N → Bool
answers_last no_statements = true
answers_last (more_statements c t no_statements) = true
answers_last (more_statements c t ss) = not (is_return t) && answers_last ss

-- whether a path leads to a whole statement that does not end a block
abbrev pub is_statement_between : {N : Type 0} → MethodOf N → List ℕ → Bool
is_statement_between m path =
    option_map_or (λ k. innermost m path == 0 || nat_lt (suc k) (count (statement_trees (statements_at m.body (sequence_round m path))))) (whole_statement m path) false

-- whether the node above a place becomes a control send by a node that is put there
abbrev pub makes_control : {N : Type 0} → (N → ControlForm) → MethodOf N → List ℕ → TreeOf N → Bool
makes_control form m path t =
    option_map_or (λ above. not (is_control form above) && option_map_or (λ k. is_control form (with_child above k t)) (slice_get path (length path - 1)) false)
    (part_in m.body (take (length path - 1) path)) false

module _ {N : Type 0} (a : AskedOf N) (i : ImageOf N) where
  -- a message to `self`
  abbrev pub is_self_send : SendOf N → Bool
  is_self_send e = is_name_that (a.words.tests.same a.self_name) e.receiver

  -- the class finds a method of the user for a selector, and no class below it has one of its own
  abbrev pub is_one_target : N → Bool → N → Bool
  is_one_target c meta s =
      option_map_or (λ (m : EntryOf N). not m.kernel) (lookup a.words i (Some c) meta s) false
      && not (list_any (λ (e : ClassOf N). stands_below a.words.tests.same i.classes c e
      && (not (a.words.tests.same c e.name) && is_some (own_method a.words.tests.same i.methods e.name meta s))) i.classes)

  -- a method of the user without temporaries, with no return in a block, and with `super` only where it is of the class of the message; its body answers one expression, or no statement but its last one is a return and the message is a whole statement that does not end a block
  abbrev pub is_inlinable : N → EntryOf N → SendOf N → EntryOf N → Bool
  is_inlinable c m e target =
      not target.kernel
      && (is_empty target.tree.body.temporaries
      && (not (list_any (λ x. is_return x.1 && nat_lt 1 (length x.0)) (nodes target.tree.body))
      && ((not (has_super a.is_super target) || is_method_of a.words.tests.same c target)
      && (is_some (answered target.tree.body.statements)
      || (is_statement_between m.tree e.path && answers_last target.tree.body.statements)))))

  -- whether what is passed for a formal argument of the target is plain, or is a temporary that no closure assigns for an argument that no closure reads
  abbrev pub is_actual_plain : EntryOf N → SendOf N → EntryOf N → N → TreeOf N → Bool
  is_actual_plain m e target formal t = is_plain a i m e.path t || is_name_that (λ n. by n (means a.words i m e.path n)) t
    where
      by : N → MeaningOf N → Bool
      by n (temporary scope) =
          is_assigned_in_the_open a m.tree e.path scope n
          && not (list_any (stands_in_closure a.words.tests.form target.tree 1) (formal_reads a target.tree formal))
      by n meaning = false

  -- all that is passed is so
  abbrev pub are_actuals_plain : EntryOf N → SendOf N → EntryOf N → Bool
  are_actuals_plain m e target =
      list_all (λ x. option_map_or (is_actual_plain m e target x.1) (nth e.arguments x.0) false) (enumerate_from 0 target.tree.arguments)

  -- what a name at a place is in a method
  abbrev local : MethodOf N → List ℕ → N → Local
  local m path n = local_in a.words.tests.same a.words.tests.is_pseudo m path n

  -- whether a name at a place of the target means the same where the message stands: what is passed for an argument names nothing that a block round that place declares; what a block declares moves along; and any other name means the same in both methods
  abbrev pub is_name_kept : EntryOf N → SendOf N → EntryOf N → List ℕ → N → Bool
  is_name_kept m e target path n =
      option_map_or (λ t. not (list_any (λ x. is_of_block (local target.tree path x)) (free_names a.words.tests.same a.words.tests.is_pseudo t)))
      (passed_for a target.tree e.arguments path n)
      (is_of_block (local target.tree path n) || same_meaning a.words.tests.same (means a.words i target path n) (means a.words i m e.path n))

  -- each name in the target does
  abbrev pub captures_nothing : EntryOf N → SendOf N → EntryOf N → Bool
  captures_nothing m e target = list_all (λ x. option_map_or (is_name_kept m e target x.0) (name_used x.1) true) (nodes target.tree.body)

  -- the expression that stands in place of the message makes no control send of the node above it
  abbrev pub makes_no_control : EntryOf N → SendOf N → EntryOf N → Bool
  makes_no_control m e target =
      not (option_map_or (makes_control a.words.tests.form m.tree e.path) (answered (unfolded a target.tree e.arguments)) false)
