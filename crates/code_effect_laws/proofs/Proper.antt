-- Trees that may stand among known names, in one walk: they are well formed, no list in them declares a name twice, and none assigns a name that can not be assigned there.
use Rattle.std.proofs.Common.{◌≡◌, false, List, [], ◌++◌, refl}
use Rattle.std.specs.Prelude.{◌||◌}
use Rattle.std.proofs.lemmas.Bool.{or_parts}
use Rattle.tree_model.specs.Tree.{TreeOf, var, literal, send, cascade, assign, block, brace, return, TreesOf, no_trees, more_trees, MessagesOf, no_messages, more_messages, StatementsOf, no_statements, more_statements}
use Rattle.grammar_model.specs.Words.{is_pseudo}
use Rattle.grammar_model.specs.Checks.{Known, is_fixed}
use Rattle.reread_law.specs.WellFormed.{IsWord, AllNotes, AllWords, WellFormedLiteral, NoWord, FitsArguments, IsValue, NoReturn, IsStatement, AreTwo, WellFormed, WellFormedTrees, WellFormedMessages, WellFormedStatements}
use Rattle.reread_law.specs.Declarations.{repeats, has_duplicate, has_duplicate_trees, has_duplicate_messages, has_duplicate_statements, known_names, assigns_fixed, assigns_fixed_trees, assigns_fixed_messages, assigns_fixed_statements}
use Rattle.file_model.specs.Filing.{Text}

abbrev mutual
  -- a tree among known names
  pub IsProper : List Known → TreeOf Text → Type 0
  IsProper ks (var n) = IsWord n
  IsProper ks (literal l) = WellFormedLiteral l × NoWord l
  IsProper ks (send r s xs) = IsProper ks r × NoReturn r × FitsArguments s xs × AreProper ks xs
  IsProper ks (cascade r ms) = IsProper ks r × IsValue r × AreTwo ms × AreProperMessages ks ms
  IsProper ks (assign n t) = IsWord n × (is_pseudo n ≡ false) × (is_fixed ks n ≡ false) × IsProper ks t × IsValue t
  IsProper ks (block ps ds ss c) = AllWords ps × AllWords ds × (repeats [] (ps ++ ds) ≡ false) × AreProperStatements (known_names ps ds ++ ks) ss × AllNotes c
  IsProper ks (brace ts) = AreProper ks ts
  IsProper ks (return t) = IsProper ks t × IsValue t

  -- trees
  pub AreProper : List Known → TreesOf Text → Type 0
  AreProper ks no_trees = Unit {0}
  AreProper ks (more_trees t ts) = IsProper ks t × IsValue t × AreProper ks ts

  -- messages
  pub AreProperMessages : List Known → MessagesOf Text → Type 0
  AreProperMessages ks no_messages = Unit {0}
  AreProperMessages ks (more_messages s xs ms) = FitsArguments s xs × AreProper ks xs × AreProperMessages ks ms

  -- statements
  pub AreProperStatements : List Known → StatementsOf Text → Type 0
  AreProperStatements ks no_statements = Unit {0}
  AreProperStatements ks (more_statements c t ss) = AllNotes c × IsProper ks t × IsStatement t ss × AreProperStatements ks ss

-- what is well formed, declares nothing twice and assigns nothing fixed is proper
mutual
  pub tree_proper : (t : TreeOf Text) (ks : List Known) → WellFormed t → has_duplicate t ≡ false → assigns_fixed ks t ≡ false → IsProper ks t
  tree_proper (var n) ks w d f = w
  tree_proper (literal l) ks w d f = w
  tree_proper (send r s xs) ks w d f =
      let e = or_parts (has_duplicate r) (has_duplicate_trees xs) d in
      let g = or_parts (assigns_fixed ks r) (assigns_fixed_trees ks xs) f in
      (tree_proper r ks w.0 e.0 g.0, w.1, w.2, trees_proper xs ks w.3 e.1 g.1)
  tree_proper (cascade r ms) ks w d f =
      let e = or_parts (has_duplicate r) (has_duplicate_messages ms) d in
      let g = or_parts (assigns_fixed ks r) (assigns_fixed_messages ks ms) f in
      (tree_proper r ks w.0 e.0 g.0, w.1, w.2, messages_proper ms ks w.3 e.1 g.1)
  tree_proper (assign n t) ks w d f =
      let g = or_parts (is_pseudo n || is_fixed ks n) (assigns_fixed ks t) f in
      let h = or_parts (is_pseudo n) (is_fixed ks n) g.0 in
      (w.0, h.0, h.1, tree_proper t ks w.1 d g.1, w.2)
  tree_proper (block ps ds ss c) ks w d f =
      let e = or_parts (repeats [] (ps ++ ds)) (has_duplicate_statements ss) d in
      (w.0, w.1, e.0, statements_proper ss (known_names ps ds ++ ks) w.2 e.1 f, w.3)
  tree_proper (brace ts) ks w d f = trees_proper ts ks w d f
  tree_proper (return t) ks w d f = (tree_proper t ks w.0 d f, w.1)

  trees_proper : (ts : TreesOf Text) (ks : List Known) → WellFormedTrees ts → has_duplicate_trees ts ≡ false → assigns_fixed_trees ks ts ≡ false → AreProper ks ts
  trees_proper no_trees ks w d f = tt
  trees_proper (more_trees t ts) ks w d f =
      let e = or_parts (has_duplicate t) (has_duplicate_trees ts) d in
      let g = or_parts (assigns_fixed ks t) (assigns_fixed_trees ks ts) f in
      (tree_proper t ks w.0 e.0 g.0, w.1, trees_proper ts ks w.2 e.1 g.1)

  messages_proper : (ms : MessagesOf Text) (ks : List Known) → WellFormedMessages ms → has_duplicate_messages ms ≡ false → assigns_fixed_messages ks ms ≡ false → AreProperMessages ks ms
  messages_proper no_messages ks w d f = tt
  messages_proper (more_messages s xs ms) ks w d f =
      let e = or_parts (has_duplicate_trees xs) (has_duplicate_messages ms) d in
      let g = or_parts (assigns_fixed_trees ks xs) (assigns_fixed_messages ks ms) f in
      (w.0, trees_proper xs ks w.1 e.0 g.0, messages_proper ms ks w.2 e.1 g.1)

  pub statements_proper : (ss : StatementsOf Text) (ks : List Known) → WellFormedStatements ss → has_duplicate_statements ss ≡ false → assigns_fixed_statements ks ss ≡ false → AreProperStatements ks ss
  statements_proper no_statements ks w d f = tt
  statements_proper (more_statements c t ss) ks w d f =
      let e = or_parts (has_duplicate t) (has_duplicate_statements ss) d in
      let g = or_parts (assigns_fixed ks t) (assigns_fixed_statements ks ss) f in
      (w.0, tree_proper t ks w.1 e.0 g.0, w.2, statements_proper ss ks w.3 e.1 g.1)

-- and what is proper is well formed
mutual
  tree_well : (t : TreeOf Text) (ks : List Known) → IsProper ks t → WellFormed t
  tree_well (var n) ks p = p
  tree_well (literal l) ks p = p
  tree_well (send r s xs) ks p = (tree_well r ks p.0, p.1, p.2, trees_well xs ks p.3)
  tree_well (cascade r ms) ks p = (tree_well r ks p.0, p.1, p.2, messages_well ms ks p.3)
  tree_well (assign n t) ks p = (p.0, tree_well t ks p.3, p.4)
  tree_well (block ps ds ss c) ks p = (p.0, p.1, statements_well ss (known_names ps ds ++ ks) p.3, p.4)
  tree_well (brace ts) ks p = trees_well ts ks p
  tree_well (return t) ks p = (tree_well t ks p.0, p.1)

  trees_well : (ts : TreesOf Text) (ks : List Known) → AreProper ks ts → WellFormedTrees ts
  trees_well no_trees ks p = tt
  trees_well (more_trees t ts) ks p = (tree_well t ks p.0, p.1, trees_well ts ks p.2)

  messages_well : (ms : MessagesOf Text) (ks : List Known) → AreProperMessages ks ms → WellFormedMessages ms
  messages_well no_messages ks p = tt
  messages_well (more_messages s xs ms) ks p = (p.0, trees_well xs ks p.1, messages_well ms ks p.2)

  pub statements_well : (ss : StatementsOf Text) (ks : List Known) → AreProperStatements ks ss → WellFormedStatements ss
  statements_well no_statements ks p = tt
  statements_well (more_statements c t ss) ks p = (p.0, tree_well t ks p.1, p.2, statements_well ss ks p.3)

-- declares nothing twice
mutual
  tree_once : (t : TreeOf Text) (ks : List Known) → IsProper ks t → has_duplicate t ≡ false
  tree_once (var n) ks p = refl
  tree_once (literal l) ks p = refl
  tree_once (send r s xs) ks p = λ i. tree_once r ks p.0 i || trees_once xs ks p.3 i
  tree_once (cascade r ms) ks p = λ i. tree_once r ks p.0 i || messages_once ms ks p.3 i
  tree_once (assign n t) ks p = tree_once t ks p.3
  tree_once (block ps ds ss c) ks p = λ i. p.2 i || statements_once ss (known_names ps ds ++ ks) p.3 i
  tree_once (brace ts) ks p = trees_once ts ks p
  tree_once (return t) ks p = tree_once t ks p.0

  trees_once : (ts : TreesOf Text) (ks : List Known) → AreProper ks ts → has_duplicate_trees ts ≡ false
  trees_once no_trees ks p = refl
  trees_once (more_trees t ts) ks p = λ i. tree_once t ks p.0 i || trees_once ts ks p.2 i

  messages_once : (ms : MessagesOf Text) (ks : List Known) → AreProperMessages ks ms → has_duplicate_messages ms ≡ false
  messages_once no_messages ks p = refl
  messages_once (more_messages s xs ms) ks p = λ i. trees_once xs ks p.1 i || messages_once ms ks p.2 i

  pub statements_once : (ss : StatementsOf Text) (ks : List Known) → AreProperStatements ks ss → has_duplicate_statements ss ≡ false
  statements_once no_statements ks p = refl
  statements_once (more_statements c t ss) ks p = λ i. tree_once t ks p.1 i || statements_once ss ks p.3 i

-- and assigns nothing fixed
mutual
  tree_free : (t : TreeOf Text) (ks : List Known) → IsProper ks t → assigns_fixed ks t ≡ false
  tree_free (var n) ks p = refl
  tree_free (literal l) ks p = refl
  tree_free (send r s xs) ks p = λ i. tree_free r ks p.0 i || trees_free xs ks p.3 i
  tree_free (cascade r ms) ks p = λ i. tree_free r ks p.0 i || messages_free ms ks p.3 i
  tree_free (assign n t) ks p = λ i. (p.1 i || p.2 i) || tree_free t ks p.3 i
  tree_free (block ps ds ss c) ks p = statements_free ss (known_names ps ds ++ ks) p.3
  tree_free (brace ts) ks p = trees_free ts ks p
  tree_free (return t) ks p = tree_free t ks p.0

  trees_free : (ts : TreesOf Text) (ks : List Known) → AreProper ks ts → assigns_fixed_trees ks ts ≡ false
  trees_free no_trees ks p = refl
  trees_free (more_trees t ts) ks p = λ i. tree_free t ks p.0 i || trees_free ts ks p.2 i

  messages_free : (ms : MessagesOf Text) (ks : List Known) → AreProperMessages ks ms → assigns_fixed_messages ks ms ≡ false
  messages_free no_messages ks p = refl
  messages_free (more_messages s xs ms) ks p = λ i. trees_free xs ks p.1 i || messages_free ms ks p.2 i

  pub statements_free : (ss : StatementsOf Text) (ks : List Known) → AreProperStatements ks ss → assigns_fixed_statements ks ss ≡ false
  statements_free no_statements ks p = refl
  statements_free (more_statements c t ss) ks p = λ i. tree_free t ks p.1 i || statements_free ss ks p.3 i
