-- What holds of each name in a method and of the new name holds of each name in the method after.
use Rattle.std.proofs.Common.{◌≡◌, ℕ, suc, ◌+◌, Bool, true, false, List, [], ◌∷◌, map, subst, sym}
use Rattle.std.specs.Prelude.{nat_eq, if◌then◌else◌}
use Rattle.std.specs.List.{AllByRecursion}
use Rattle.tree_model.specs.Tree.{Notes, TreeOf, var, literal, send, cascade, assign, block, brace, return, TreesOf, no_trees, more_trees, MessagesOf, no_messages, more_messages, StatementsOf, no_statements, more_statements, MethodOf}
use Rattle.tree_model.specs.Path.{count}
use Rattle.tree_model.specs.AllNames.{AllNames, TreesNames, MessagesNames, StatementsNames, SequenceNames, MethodNames}
use Rattle.tree_model.specs.Normal.{without_leading_of, normal_by, normal}
use Rattle.st_tree.specs.View.{method_of}
use Rattle.command_model.specs.Walk.{Making, onward, rebuilt, rebuilt_trees, rebuilt_messages, rebuilt_statements}
use Rattle.temporary_code.specs.declared.naming.Naming.{Naming}
use Rattle.temporary_code.specs.Naming.{new_name, called, method_called}

module _ (P : ℕ → Type 0) where
  -- nodes are made anew from known names
  abbrev pub Keeps : Making ℕ → Type 0
  Keeps f = (path : List ℕ) (t : TreeOf ℕ) → AllNames P t → AllNames P (f path t)

  mutual
    pub names-rebuilt : (f : Making ℕ) → Keeps f → (t : TreeOf ℕ) → AllNames P t → AllNames P (rebuilt f t)
    names-rebuilt f h (var n) p = h [] (var n) p
    names-rebuilt f h (literal l) p = h [] (literal l) p
    names-rebuilt f h (send r s args) p =
        h [] (send (rebuilt (onward 0 f) r) s (rebuilt_trees f 1 args)) (names-rebuilt (onward 0 f) (λ path t. h (0 ∷ path) t) r p.0, p.1, names-rebuilt_trees f h 1 args p.2)
    names-rebuilt f h (cascade r ms) p =
        h [] (cascade (rebuilt (onward 0 f) r) (rebuilt_messages f 1 ms)) (names-rebuilt (onward 0 f) (λ path t. h (0 ∷ path) t) r p.0, names-rebuilt_messages f h 1 ms p.1)
    names-rebuilt f h (assign n t) p = h [] (assign n (rebuilt (onward 0 f) t)) (p.0, names-rebuilt (onward 0 f) (λ path u. h (0 ∷ path) u) t p.1)
    names-rebuilt f h (block ps ts ss e) p = h [] (block ps ts (rebuilt_statements f 0 ss) e) (p.0, p.1, names-rebuilt_statements f h 0 ss p.2)
    names-rebuilt f h (brace ts) p = h [] (brace (rebuilt_trees f 0 ts)) (names-rebuilt_trees f h 0 ts p)
    names-rebuilt f h (return t) p = h [] (return (rebuilt (onward 0 f) t)) (names-rebuilt (onward 0 f) (λ path u. h (0 ∷ path) u) t p)

    names-rebuilt_trees : (f : Making ℕ) → Keeps f → (k : ℕ) (ts : TreesOf ℕ) → TreesNames P ts → TreesNames P (rebuilt_trees f k ts)
    names-rebuilt_trees f h k no_trees p = tt
    names-rebuilt_trees f h k (more_trees t ts) p = (names-rebuilt (onward k f) (λ path u. h (k ∷ path) u) t p.0, names-rebuilt_trees f h (suc k) ts p.1)

    names-rebuilt_messages : (f : Making ℕ) → Keeps f → (k : ℕ) (ms : MessagesOf ℕ) → MessagesNames P ms → MessagesNames P (rebuilt_messages f k ms)
    names-rebuilt_messages f h k no_messages p = tt
    names-rebuilt_messages f h k (more_messages s args ms) p = (p.0, names-rebuilt_trees f h k args p.1, names-rebuilt_messages f h (k + count args) ms p.2)

    pub names-rebuilt_statements : (f : Making ℕ) → Keeps f → (k : ℕ) (ss : StatementsOf ℕ) → StatementsNames P ss → StatementsNames P (rebuilt_statements f k ss)
    names-rebuilt_statements f h k no_statements p = tt
    names-rebuilt_statements f h k (more_statements c t ss) p = (names-rebuilt (onward k f) (λ path u. h (k ∷ path) u) t p.0, names-rebuilt_statements f h (suc k) ss p.1)

  -- comments have no names
  names-without_leading : (ts : List ℕ) (ss : StatementsOf ℕ) (tail : Notes) → AllByRecursion P ts → StatementsNames P ss → SequenceNames P (without_leading_of ts ss tail)
  names-without_leading ts no_statements tail a b = record { temporaries = a; statements = b }
  names-without_leading ts (more_statements c t ss) tail a b = record { temporaries = a; statements = b }

  pub names-normal_by : (ts : List ℕ) (m : MethodOf ℕ) → MethodNames P m → MethodNames P (normal_by ts m)
  names-normal_by [] m p = record { selector = p.selector; arguments = p.arguments; body = names-without_leading m.body.temporaries m.body.statements m.body.tail p.body.temporaries p.body.statements }
  names-normal_by (n ∷ ns) m p = p

  module _ (it : Naming) (known : P it.to) where
    -- one of two names
    either : (b : Bool) (n : ℕ) → P n → P (if b then it.to else n)
    either true n p = known
    either false n p = p

    new-known : (n : ℕ) → P n → P (new_name it.variable it.to n)
    new-known n p = either (nat_eq it.variable n) n p

    all-known : (ns : List ℕ) → AllByRecursion P ns → AllByRecursion P (map (new_name it.variable it.to) ns)
    all-known [] p = tt
    all-known (n ∷ ns) p = (new-known n p.0, all-known ns p.1)

    -- a name, or what it becomes
    whether : (b : Bool) (n : ℕ) → P n → P (if b then new_name it.variable it.to n else n)
    whether true n p = new-known n p
    whether false n p = p

    called-known : Keeps (called it)
    called-known path (var n) p = whether _ n p
    called-known path (literal l) p = p
    called-known path (send r s args) p = p
    called-known path (cascade r ms) p = p
    called-known path (assign n t) p = (whether _ n p.0, p.1)
    called-known path (block ps ts ss e) p = (all-known ps p.0, all-known ts p.1, p.2)
    called-known path (brace ts) p = p
    called-known path (return t) p = p

    method-known : (m : MethodOf ℕ) → MethodNames P m → MethodNames P (method_called it m)
    method-known m p = record {
      selector = p.selector;
      arguments = all-known m.arguments p.arguments;
      body = record { temporaries = all-known m.body.temporaries p.body.temporaries; statements = names-rebuilt_statements (called it) called-known 0 m.body.statements p.body.statements };
    }

    -- the method in which the name is another, in normal form
    pub normal-known : (m after : MethodOf ℕ) → after ≡ normal m → m ≡ method_called it (method_of it.method.now) → MethodNames P (method_of it.method.now) → MethodNames P after
    normal-known m after is made p =
        subst (λ (n : MethodOf ℕ). MethodNames P n) (sym is)
        (names-normal_by m.body.temporaries m (subst (λ (n : MethodOf ℕ). MethodNames P n) (sym made) (method-known (method_of it.method.now) p)))
