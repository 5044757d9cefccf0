-- Trees in which messages of one selector become messages of another one and pass other arguments.
use Rattle.std.proofs.Common.{◌≡◌, ℕ, suc, ◌+◌, ◌≤◌, Bool, true, false, List, [], ◌++◌, refl, arith}
use Rattle.std.specs.Prelude.{max, ◌||◌, if◌then◌else◌}
use Rattle.std.proofs.lemmas.Bool.{or_parts, or_from}
use Rattle.rb_base.specs.Names.{text_eq}
use Rattle.tree_model.specs.Tree.{LiteralOf, number, str, symbol, char, array, bytes, word, TreeOf, var, literal, send, cascade, assign, block, brace, return, TreesOf, no_trees, more_trees, MessagesOf, no_messages, more_messages, StatementsOf, no_statements, more_statements}
use Rattle.tree_model.specs.Path.{count}
use Rattle.tree_model.specs.Measure.{literal_height, height, trees_height, messages_height, statements_height}
use Rattle.grammar_model.specs.Words.{is_pseudo}
use Rattle.grammar_model.specs.Checks.{Known, is_fixed}
use Rattle.reread_law.specs.WellFormed.{WellFormedTrees}
use Rattle.reread_law.specs.Declarations.{repeats, has_duplicate, has_duplicate_trees, has_duplicate_messages, has_duplicate_statements, known_names, assigns_fixed, assigns_fixed_trees, assigns_fixed_messages, assigns_fixed_statements}
use Rattle.file_model.specs.Filing.{Text}
use Rattle.file_laws.proofs.Moves.{text_equal}
use Rattle.rename_model.specs.CommandWords.{arity}
use Rattle.rename_model.specs.ClassRenamed.{canonical}
use Rattle.command_model.specs.Walk.{Making, rebuilt, rebuilt_trees, rebuilt_messages, rebuilt_statements}
use Rattle.command_model.specs.Parameters.{messages_passed, node_passed}

-- what is passed instead: as many trees as the new selector takes, of which none is higher than a name or the highest before, and which declare and assign nothing new
pub record PassesWell (s t : Text) (passed : TreesOf Text → TreesOf Text) : Type 0 where
  pub number : (xs : TreesOf Text) → arity s ≡ count xs → arity t ≡ count (passed xs)
  pub height : (xs : TreesOf Text) → trees_height (passed xs) ≤ max 1 (trees_height xs)
  pub twice : (xs : TreesOf Text) → has_duplicate_trees xs ≡ false → has_duplicate_trees (passed xs) ≡ false
  pub assigned : (ks : List Known) (xs : TreesOf Text) → assigns_fixed_trees ks xs ≡ false → assigns_fixed_trees ks (passed xs) ≡ false
  pub well : (xs : TreesOf Text) → WellFormedTrees xs → WellFormedTrees (passed xs)

-- no tree is lower than a name
literal_some : (l : LiteralOf Text) → 1 ≤ literal_height l
literal_some (number t) = omega arith
literal_some (str t) = omega arith
literal_some (symbol t) = omega arith
literal_some (char b) = omega arith
literal_some (array ls) = omega arith
literal_some (bytes ls) = omega arith
literal_some (word n) = omega arith

height_some : (r : TreeOf Text) → 1 ≤ height r
height_some (var n) = omega arith
height_some (literal l) = literal_some l
height_some (send r u xs) = omega arith
height_some (cascade r ms) = omega arith
height_some (assign n r) = omega arith
height_some (block ps ds ss c) = omega arith
height_some (brace ts) = omega arith
height_some (return r) = omega arith

-- a fact of a message, of the selector or of another one
pub chosen : {X : Type 0} (s : Text) (P : X → Type 0) (u : Text) (a b : X) → (s ≡ u → P a) → P b → P (if text_eq s u then a else b)
chosen s P u a b h k = by (text_eq s u) refl
  where
    by : (c : Bool) → text_eq s u ≡ c → P (if c then a else b)
    by true q = h (text_equal s u q)
    by false q = k

module _ (s t : Text) (passed : TreesOf Text → TreesOf Text) (taken : List Text → List Text) where
  -- what becomes of a node
  abbrev pub making : Making Text
  making path r = node_passed text_eq canonical s t passed taken r

  -- messages of a cascade, once the nodes below them are made anew
  abbrev pub messages_made : ℕ → MessagesOf Text → MessagesOf Text
  messages_made k ms = messages_passed text_eq canonical s t passed taken (rebuilt_messages making k ms)

module _ (s t : Text) (passed : TreesOf Text → TreesOf Text) (taken : List Text → List Text) (good : PassesWell s t passed) where
  -- a node and messages, after
  abbrev made : Making Text
  made = making s t passed taken

  abbrev after : ℕ → MessagesOf Text → MessagesOf Text
  after k ms = messages_made s t passed taken k ms

  -- no tree becomes higher
  mutual
    tree_height : (r : TreeOf Text) → height (rebuilt made r) ≤ height r
    tree_height (var n) = omega arith
    tree_height (literal l) = omega arith
    tree_height (send r u xs) =
        let ys = rebuilt_trees made 1 xs in
        let a = tree_height r in
        let b = arguments_height 1 xs in
        let c = good.height ys in
        let d = height_some r in
        chosen s (λ v. height v ≤ height (send r u xs)) u (send (rebuilt made r) t (passed ys)) (send (rebuilt made r) u ys) (λ q. omega (arith, a, b, c, d)) (omega (arith, a, b))
    tree_height (cascade r ms) = let a = tree_height r in let b = made_height 1 ms in let c = height_some r in omega (arith, a, b, c)
    tree_height (assign n r) = let a = tree_height r in omega (arith, a)
    tree_height (block ps ds ss c) = let a = lines_height 0 ss in omega (arith, a)
    tree_height (brace ts) = let a = arguments_height 0 ts in omega (arith, a)
    tree_height (return r) = let a = tree_height r in omega (arith, a)

    arguments_height : (k : ℕ) (xs : TreesOf Text) → trees_height (rebuilt_trees made k xs) ≤ trees_height xs
    arguments_height k no_trees = omega arith
    arguments_height k (more_trees x xs) = let a = tree_height x in let b = arguments_height (suc k) xs in omega (arith, a, b)

    made_height : (k : ℕ) (ms : MessagesOf Text) → messages_height (after k ms) ≤ max 1 (messages_height ms)
    made_height k no_messages = omega arith
    made_height k (more_messages u xs ms) =
        let ys = rebuilt_trees made k xs in
        let rest = after (k + count xs) ms in
        let a = arguments_height k xs in
        let b = made_height (k + count xs) ms in
        let c = good.height ys in
        chosen s (λ v. messages_height v ≤ max 1 (messages_height (more_messages u xs ms))) u (more_messages t (passed ys) rest) (more_messages u ys rest) (λ q. omega (arith, a, b, c)) (omega (arith, a, b))

    lines_height : (k : ℕ) (ss : StatementsOf Text) → statements_height (rebuilt_statements made k ss) ≤ statements_height ss
    lines_height k no_statements = omega arith
    lines_height k (more_statements c r ss) = let a = tree_height r in let b = lines_height (suc k) ss in omega (arith, a, b)

  -- so code is no higher where its messages pass other arguments
  pub passed-height : (ss : StatementsOf Text) → statements_height (rebuilt_statements made 0 ss) ≤ statements_height ss
  passed-height ss = lines_height 0 ss

  -- no list declares a name twice that did not
  mutual
    tree_twice : (r : TreeOf Text) → has_duplicate r ≡ false → has_duplicate (rebuilt made r) ≡ false
    tree_twice (var n) h = refl
    tree_twice (literal l) h = refl
    tree_twice (send r u xs) h =
        let p = or_parts (has_duplicate r) (has_duplicate_trees xs) h in
        let ys = rebuilt_trees made 1 xs in
        let a = tree_twice r p.0 in
        let b = arguments_twice 1 xs p.1 in
        chosen s (λ v. has_duplicate v ≡ false) u (send (rebuilt made r) t (passed ys)) (send (rebuilt made r) u ys)
        (λ q. or_from (has_duplicate (rebuilt made r)) (has_duplicate_trees (passed ys)) a (good.twice ys b)) (or_from (has_duplicate (rebuilt made r)) (has_duplicate_trees ys) a b)
    tree_twice (cascade r ms) h =
        let p = or_parts (has_duplicate r) (has_duplicate_messages ms) h in
        or_from (has_duplicate (rebuilt made r)) (has_duplicate_messages (after 1 ms)) (tree_twice r p.0) (made_twice 1 ms p.1)
    tree_twice (assign n r) h = tree_twice r h
    tree_twice (block ps ds ss c) h =
        let p = or_parts (repeats [] (ps ++ ds)) (has_duplicate_statements ss) h in
        or_from (repeats [] (ps ++ ds)) (has_duplicate_statements (rebuilt_statements made 0 ss)) p.0 (lines_twice 0 ss p.1)
    tree_twice (brace ts) h = arguments_twice 0 ts h
    tree_twice (return r) h = tree_twice r h

    arguments_twice : (k : ℕ) (xs : TreesOf Text) → has_duplicate_trees xs ≡ false → has_duplicate_trees (rebuilt_trees made k xs) ≡ false
    arguments_twice k no_trees h = refl
    arguments_twice k (more_trees x xs) h =
        let p = or_parts (has_duplicate x) (has_duplicate_trees xs) h in
        or_from (has_duplicate (rebuilt made x)) (has_duplicate_trees (rebuilt_trees made (suc k) xs)) (tree_twice x p.0) (arguments_twice (suc k) xs p.1)

    made_twice : (k : ℕ) (ms : MessagesOf Text) → has_duplicate_messages ms ≡ false → has_duplicate_messages (after k ms) ≡ false
    made_twice k no_messages h = refl
    made_twice k (more_messages u xs ms) h =
        let p = or_parts (has_duplicate_trees xs) (has_duplicate_messages ms) h in
        let ys = rebuilt_trees made k xs in
        let rest = after (k + count xs) ms in
        let a = arguments_twice k xs p.0 in
        let b = made_twice (k + count xs) ms p.1 in
        chosen s (λ v. has_duplicate_messages v ≡ false) u (more_messages t (passed ys) rest) (more_messages u ys rest)
        (λ q. or_from (has_duplicate_trees (passed ys)) (has_duplicate_messages rest) (good.twice ys a) b) (or_from (has_duplicate_trees ys) (has_duplicate_messages rest) a b)

    lines_twice : (k : ℕ) (ss : StatementsOf Text) → has_duplicate_statements ss ≡ false → has_duplicate_statements (rebuilt_statements made k ss) ≡ false
    lines_twice k no_statements h = refl
    lines_twice k (more_statements c r ss) h =
        let p = or_parts (has_duplicate r) (has_duplicate_statements ss) h in
        or_from (has_duplicate (rebuilt made r)) (has_duplicate_statements (rebuilt_statements made (suc k) ss)) (tree_twice r p.0) (lines_twice (suc k) ss p.1)

  pub passed-twice : (ss : StatementsOf Text) → has_duplicate_statements ss ≡ false → has_duplicate_statements (rebuilt_statements made 0 ss) ≡ false
  passed-twice ss h = lines_twice 0 ss h

  -- none assigns a name that it may not and did not
  mutual
    tree_assigned : (ks : List Known) (r : TreeOf Text) → assigns_fixed ks r ≡ false → assigns_fixed ks (rebuilt made r) ≡ false
    tree_assigned ks (var n) h = refl
    tree_assigned ks (literal l) h = refl
    tree_assigned ks (send r u xs) h =
        let p = or_parts (assigns_fixed ks r) (assigns_fixed_trees ks xs) h in
        let ys = rebuilt_trees made 1 xs in
        let a = tree_assigned ks r p.0 in
        let b = arguments_assigned ks 1 xs p.1 in
        chosen s (λ v. assigns_fixed ks v ≡ false) u (send (rebuilt made r) t (passed ys)) (send (rebuilt made r) u ys)
        (λ q. or_from (assigns_fixed ks (rebuilt made r)) (assigns_fixed_trees ks (passed ys)) a (good.assigned ks ys b)) (or_from (assigns_fixed ks (rebuilt made r)) (assigns_fixed_trees ks ys) a b)
    tree_assigned ks (cascade r ms) h =
        let p = or_parts (assigns_fixed ks r) (assigns_fixed_messages ks ms) h in
        or_from (assigns_fixed ks (rebuilt made r)) (assigns_fixed_messages ks (after 1 ms)) (tree_assigned ks r p.0) (made_assigned ks 1 ms p.1)
    tree_assigned ks (assign n r) h =
        let p = or_parts (is_pseudo n || is_fixed ks n) (assigns_fixed ks r) h in
        or_from (is_pseudo n || is_fixed ks n) (assigns_fixed ks (rebuilt made r)) p.0 (tree_assigned ks r p.1)
    tree_assigned ks (block ps ds ss c) h = lines_assigned (known_names ps ds ++ ks) 0 ss h
    tree_assigned ks (brace ts) h = arguments_assigned ks 0 ts h
    tree_assigned ks (return r) h = tree_assigned ks r h

    arguments_assigned : (ks : List Known) (k : ℕ) (xs : TreesOf Text) → assigns_fixed_trees ks xs ≡ false → assigns_fixed_trees ks (rebuilt_trees made k xs) ≡ false
    arguments_assigned ks k no_trees h = refl
    arguments_assigned ks k (more_trees x xs) h =
        let p = or_parts (assigns_fixed ks x) (assigns_fixed_trees ks xs) h in
        or_from (assigns_fixed ks (rebuilt made x)) (assigns_fixed_trees ks (rebuilt_trees made (suc k) xs)) (tree_assigned ks x p.0) (arguments_assigned ks (suc k) xs p.1)

    made_assigned : (ks : List Known) (k : ℕ) (ms : MessagesOf Text) → assigns_fixed_messages ks ms ≡ false → assigns_fixed_messages ks (after k ms) ≡ false
    made_assigned ks k no_messages h = refl
    made_assigned ks k (more_messages u xs ms) h =
        let p = or_parts (assigns_fixed_trees ks xs) (assigns_fixed_messages ks ms) h in
        let ys = rebuilt_trees made k xs in
        let rest = after (k + count xs) ms in
        let a = arguments_assigned ks k xs p.0 in
        let b = made_assigned ks (k + count xs) ms p.1 in
        chosen s (λ v. assigns_fixed_messages ks v ≡ false) u (more_messages t (passed ys) rest) (more_messages u ys rest)
        (λ q. or_from (assigns_fixed_trees ks (passed ys)) (assigns_fixed_messages ks rest) (good.assigned ks ys a) b) (or_from (assigns_fixed_trees ks ys) (assigns_fixed_messages ks rest) a b)

    lines_assigned : (ks : List Known) (k : ℕ) (ss : StatementsOf Text) → assigns_fixed_statements ks ss ≡ false → assigns_fixed_statements ks (rebuilt_statements made k ss) ≡ false
    lines_assigned ks k no_statements h = refl
    lines_assigned ks k (more_statements c r ss) h =
        let p = or_parts (assigns_fixed ks r) (assigns_fixed_statements ks ss) h in
        or_from (assigns_fixed ks (rebuilt made r)) (assigns_fixed_statements ks (rebuilt_statements made (suc k) ss)) (tree_assigned ks r p.0) (lines_assigned ks (suc k) ss p.1)

  pub passed-assigned : (ks : List Known) (ss : StatementsOf Text) → assigns_fixed_statements ks ss ≡ false → assigns_fixed_statements ks (rebuilt_statements made 0 ss) ≡ false
  passed-assigned ks ss h = lines_assigned ks 0 ss h
