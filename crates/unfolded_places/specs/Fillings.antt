-- A body with what is passed in place of its arguments, and when it may be put elsewhere.
use Rattle.std.specs.Prelude.{◌≡◌, Bool, true, false, if◌then◌else◌, List, Option, Some, None, unwrap_or, codes}
use Rattle.scope_model.specs.SpecialNames.{is_pseudo_variable}
use Rattle.tree_model.specs.Tree.{TreeOf, var, literal, send, cascade, assign, block, brace, return, TreesOf, no_trees, more_trees, MessagesOf, no_messages, more_messages, StatementsOf, no_statements, more_statements}
use Rattle.run_model.specs.Values.{Name}
use Rattle.resolved_model.specs.Environments.{Declared, opened, kind_in}
use Rattle.unfolded_places.specs.Inlining.{passed_for, IsFreeOf, Filling}

-- a name inside blocks that declare these, or what is passed for it
abbrev pub filled_by : List Name → TreesOf Name → Option Bool → Name → TreeOf Name
filled_by xs args (Some b) n = var n
filled_by xs args None n = unwrap_or (passed_for xs args n) (var n)

module _ (xs : List Name) (args : TreesOf Name) where
  -- code inside blocks that declare these, with what is passed in place of the arguments
  abbrev mutual
    pub filled_tree : List Declared → TreeOf Name → TreeOf Name
    filled_tree inner (var n) = if is_pseudo_variable n then var n else filled_by xs args (kind_in inner n) n
    filled_tree inner (literal l) = literal l
    filled_tree inner (send r s us) = send (filled_tree inner r) s (filled_trees inner us)
    filled_tree inner (cascade r ms) = cascade (filled_tree inner r) (filled_messages inner ms)
    filled_tree inner (assign n t) = assign n (filled_tree inner t)
    filled_tree inner (block ps ts ss e) = block ps ts (filled_statements (opened ps ts inner) ss) e
    filled_tree inner (brace us) = brace (filled_trees inner us)
    filled_tree inner (return t) = return (filled_tree inner t)

    pub filled_trees : List Declared → TreesOf Name → TreesOf Name
    filled_trees inner no_trees = no_trees
    filled_trees inner (more_trees t us) = more_trees (filled_tree inner t) (filled_trees inner us)

    pub filled_messages : List Declared → MessagesOf Name → MessagesOf Name
    filled_messages inner no_messages = no_messages
    filled_messages inner (more_messages s us ms) = more_messages s (filled_trees inner us) (filled_messages inner ms)

    pub filled_statements : List Declared → StatementsOf Name → StatementsOf Name
    filled_statements inner no_statements = no_statements
    filled_statements inner (more_statements c t ss) = more_statements c (filled_tree inner t) (filled_statements inner ss)

module _ (z : Filling) (supers : Bool) (gone : Name → Bool) where
  -- a name is declared nowhere, neither in the method nor where the body is put, and means the same
  abbrev pub MeansSame : Name → Type 0
  MeansSame n = (passed_for z.arguments z.passed n ≡ None) × (kind_in z.round n ≡ None) × (z.before n ≡ z.after n)

  -- what is passed for a name is none that the blocks declare; or the name means the same
  pub record NameFits (inner : List Declared) (n : Name) : Type 0 where
    pub passed : (t : TreeOf Name) → passed_for z.arguments z.passed n ≡ Some t → IsFreeOf inner t
    pub free : passed_for z.arguments z.passed n ≡ None → (kind_in z.round n ≡ None) × (z.before n ≡ z.after n)

  -- Code may be put elsewhere: no name of it is captured or means something else; it assigns none of the method's arguments; no return stands in it; and `super` only where it may
  abbrev mutual
    pub MayFill : List Declared → TreeOf Name → Type 0
    MayFill inner (var n) = is_pseudo_variable n ≡ false → kind_in inner n ≡ None → NameFits inner n
    MayFill inner (literal l) = Unit {0}
    MayFill inner (send r s us) = (gone s ≡ false) × (r ≡ var (codes "super") → supers ≡ true) × MayFill inner r × AllMayFill inner us
    MayFill inner (cascade r ms) = MayFill inner r × MessagesMayFill inner ms
    MayFill inner (assign n t) = (is_pseudo_variable n ≡ false) × (kind_in inner n ≡ None → MeansSame n) × MayFill inner t
    MayFill inner (block ps ts ss e) = StatementsMayFill (opened ps ts inner) ss
    MayFill inner (brace us) = AllMayFill inner us
    MayFill inner (return t) = ⊥

    pub AllMayFill : List Declared → TreesOf Name → Type 0
    AllMayFill inner no_trees = Unit {0}
    AllMayFill inner (more_trees t us) = MayFill inner t × AllMayFill inner us

    pub MessagesMayFill : List Declared → MessagesOf Name → Type 0
    MessagesMayFill inner no_messages = Unit {0}
    MessagesMayFill inner (more_messages s us ms) = (gone s ≡ false) × AllMayFill inner us × MessagesMayFill inner ms

    pub StatementsMayFill : List Declared → StatementsOf Name → Type 0
    StatementsMayFill inner no_statements = Unit {0}
    StatementsMayFill inner (more_statements c t ss) = MayFill inner t × StatementsMayFill inner ss
