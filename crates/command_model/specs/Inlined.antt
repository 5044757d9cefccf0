-- What `inlineMethod` makes of an image.
use Rattle.std.specs.Prelude.{ℕ, Bool, if◌then◌else◌, List, ◌∷◌, Option, Some, None, option_map, unwrap_or}
use Rattle.std.specs.Option.{option_or}
use Rattle.tree_model.specs.Tree.{TreeOf, var, return, TreesOf, more_trees, StatementsOf, no_statements, more_statements, MethodOf}
use Rattle.tree_model.specs.Path.{method_replaced}
use Rattle.scope_model.specs.Scope.{local_in}
use Rattle.command_model.specs.Asked.{AskedOf}
use Rattle.command_model.specs.Places.{is_formal, SendOf, sequence_round, whole_statement}
use Rattle.command_model.specs.Walk.{rebuilt_statements}
use Rattle.command_model.specs.Sequences.{put_for, sequence_changed}

-- the expression that a body of one `^e` answers
abbrev pub answered : {N : Type 0} → StatementsOf N → Option (TreeOf N)
answered (more_statements c (return t) no_statements) = Some t
answered ss = None

-- the statements, with e for a last `^e`
abbrev pub last_unanswered : {N : Type 0} → StatementsOf N → StatementsOf N
last_unanswered no_statements = no_statements
last_unanswered (more_statements c (return t) no_statements) = more_statements c t no_statements
last_unanswered (more_statements c t ss) = more_statements c t (last_unanswered ss)

-- what is passed for a name that is one of these arguments
abbrev pub passed_as : {N : Type 0} → (N → N → Bool) → List N → TreesOf N → N → Option (TreeOf N)
passed_as same (x ∷ xs) (more_trees t ts) n = if same n x then Some t else passed_as same xs ts n
passed_as same xs ts n = None

module _ {N : Type 0} (a : AskedOf N) where
  -- what is passed for a name at a place of a method, where it is an argument of that method
  abbrev pub passed_for : MethodOf N → TreesOf N → List ℕ → N → Option (TreeOf N)
  passed_for m args path n =
      if is_formal (local_in a.words.tests.same a.words.tests.is_pseudo m path n)
      then passed_as a.words.tests.same m.arguments args n
      else None

  -- a node at a place of a method, or what is passed for it
  abbrev pub filled : MethodOf N → TreesOf N → List ℕ → TreeOf N → TreeOf N
  filled m args path (var n) = unwrap_or (passed_for m args path n) (var n)
  filled m args path t = t

  -- the statements of a method with what is passed in place of its arguments
  abbrev pub unfolded : MethodOf N → TreesOf N → StatementsOf N
  unfolded m args = rebuilt_statements (filled m args) 0 m.body.statements

  -- the method in which the body of a target stands in place of a message: the expression that it answers, or else its statements, where the message is a whole one
  abbrev pub tree_inlined : MethodOf N → SendOf N → MethodOf N → Option (MethodOf N)
  tree_inlined m e target =
      let ss : StatementsOf N = unfolded target e.arguments in
      option_or (option_map (λ t. method_replaced m e.path t) (answered ss))
      (option_map (λ k. sequence_changed (put_for k (last_unanswered ss)) (sequence_round m e.path) m) (whole_statement m e.path))
