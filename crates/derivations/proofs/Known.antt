-- The numbers in the tree of a pattern, and the marks of a pattern, have texts.
use Rattle.std.proofs.Common.{◌≡◌, ℕ, ◌+◌, ◌<◌, ◌≤◌, Bool, true, false, List, [], ◌∷◌, ◌++◌, length, ◌||◌, refl, sym, ap, ◌∙◌, arith}
use Rattle.std.specs.List.{AllByRecursion, list_any, position_or_len}
use Rattle.tree_model.specs.Tree.{literal}
use Rattle.tree_model.specs.AllNames.{AllNames, TreesNames, MessagesNames, StatementsNames}
use Rattle.tree_model.proofs.AllNamesLemmas.{AllNames-implies}
use Rattle.pattern_model.specs.Patterns.{SelectorLike, this_selector, any_unary, of_keywords, any_message, PatternOf, meta, var_like, literal_like, send_like, cascade_like, assign_like, block_like, brace_like, return_like, PatternsOf, no_patterns, more_patterns, MessagesLike, no_messages_like, more_messages_like, StatementsLike, no_statements_like, more_statements_like}
use Rattle.patterns.specs.Names.{SelectorNames, PatternNames, PatternsNames, MessagesLikeNames, StatementsLikeNames}
use Rattle.derivations.specs.Signs.{Sign, of_node, of_selector, same_sign, selector_signs, signs, trees_signs, messages_signs, statements_signs}
use Rattle.derivations.specs.Numbered.{Table, number_of, selector_number, numbered, numbered_trees, numbered_messages, numbered_statements}
use Rattle.derivations.specs.Named.{has_sign}
use Rattle.derivations.specs.Taken.{SignNames}
use Rattle.derivations.proofs.Once.{all_first, all_second, all_both}

-- what is there has a place before the end
pub within : {X : Type 0} (p : X → Bool) (xs : List X) → list_any p xs ≡ true → position_or_len p xs < length xs
within p [] h = let bad : ⊥ = cc in absurd bad
within p (x ∷ xs) h = by (p x) refl (within p xs)
  where
    by : (b : Bool) → p x ≡ b → (list_any p xs ≡ true → position_or_len p xs < length xs) → position_or_len p (x ∷ xs) < length (x ∷ xs)
    by true e rest = rw e (omega arith)
    by false e rest = rw e (omega (arith, rest (sym (ap (λ (c : Bool). c || list_any p xs) e) ∙ h)))

module _ (table : Table) (size : ℕ) (wide : table.first + length table.signs ≤ size) where
  abbrev Before : ℕ → Type 0
  Before n = n < table.first

  abbrev Known : ℕ → Type 0
  Known n = n < size

  abbrev There : Sign → Type 0
  There s = has_sign table.signs s ≡ true

  known : (n : ℕ) → Before n → Known n
  known n l = omega (arith, l, wide)

  number_known : (s : Sign) → There s → Known (number_of table s)
  number_known s t = omega (arith, within (λ x. same_sign x s) table.signs t, wide)

  selector_known : (s : SelectorLike ℕ) → SelectorNames Before s → AllByRecursion There (selector_signs s) → Known (selector_number table s)
  selector_known (this_selector n) l t = known n l
  selector_known (any_unary m) l t = number_known (of_selector (any_unary m)) t.0
  selector_known (of_keywords ks) l t = number_known (of_selector (of_keywords ks)) t.0
  selector_known (any_message m) l t = number_known (of_selector (any_message m)) t.0

  all_known : (ns : List ℕ) → AllByRecursion Before ns → AllByRecursion Known ns
  all_known [] l = tt
  all_known (n ∷ ns) l = (known n l.0, all_known ns l.1)

  mutual
    pub tree_known : (p : PatternOf ℕ) → PatternNames Before p → AllByRecursion There (signs p) → AllNames Known (numbered table p)
    tree_known (meta m) l t = number_known (of_node m) t.0
    tree_known (var_like n) l t = known n l
    tree_known (literal_like k) l t = AllNames-implies Before Known known (literal k) l
    tree_known (send_like r s ps) l t =
        let first = all_first There (signs r) (selector_signs s ++ trees_signs ps) t in
        let rest = all_second There (signs r) (selector_signs s ++ trees_signs ps) t in
        (tree_known r l.0 first, selector_known s l.1 (all_first There (selector_signs s) (trees_signs ps) rest), trees_known ps l.2 (all_second There (selector_signs s) (trees_signs ps) rest))
    tree_known (cascade_like r ms) l t = (tree_known r l.0 (all_first There (signs r) (messages_signs ms) t), messages_known ms l.1 (all_second There (signs r) (messages_signs ms) t))
    tree_known (assign_like n p) l t = (known n l.0, tree_known p l.1 t)
    tree_known (block_like ps ts ss e) l t = (all_known ps l.0, all_known ts l.1, statements_known ss l.2 t)
    tree_known (brace_like ps) l t = trees_known ps l t
    tree_known (return_like p) l t = tree_known p l t

    trees_known : (ps : PatternsOf ℕ) → PatternsNames Before ps → AllByRecursion There (trees_signs ps) → TreesNames Known (numbered_trees table ps)
    trees_known no_patterns l t = tt
    trees_known (more_patterns p ps) l t = (tree_known p l.0 (all_first There (signs p) (trees_signs ps) t), trees_known ps l.1 (all_second There (signs p) (trees_signs ps) t))

    messages_known : (ms : MessagesLike ℕ) → MessagesLikeNames Before ms → AllByRecursion There (messages_signs ms) → MessagesNames Known (numbered_messages table ms)
    messages_known no_messages_like l t = tt
    messages_known (more_messages_like s ps ms) l t =
        let first = all_first There (selector_signs s ++ trees_signs ps) (messages_signs ms) t in
        let rest = all_second There (selector_signs s ++ trees_signs ps) (messages_signs ms) t in
        (selector_known s l.0 (all_first There (selector_signs s) (trees_signs ps) first), trees_known ps l.1 (all_second There (selector_signs s) (trees_signs ps) first), messages_known ms l.2 rest)

    statements_known : (ss : StatementsLike ℕ) → StatementsLikeNames Before ss → AllByRecursion There (statements_signs ss) → StatementsNames Known (numbered_statements table ss)
    statements_known no_statements_like l t = tt
    statements_known (more_statements_like c p ss) l t = (tree_known p l.0 (all_first There (signs p) (statements_signs ss) t), statements_known ss l.1 (all_second There (signs p) (statements_signs ss) t))

-- the marks of a pattern have the names of the pattern
module _ (P : ℕ → Type 0) where
  selector_named : (s : SelectorLike ℕ) → SelectorNames P s → AllByRecursion (SignNames P) (selector_signs s)
  selector_named (this_selector n) h = tt
  selector_named (any_unary m) h = (h, tt)
  selector_named (of_keywords ks) h = (h, tt)
  selector_named (any_message m) h = (h, tt)

  mutual
    pub signs_named : (p : PatternOf ℕ) → PatternNames P p → AllByRecursion (SignNames P) (signs p)
    signs_named (meta m) h = (h, tt)
    signs_named (var_like n) h = tt
    signs_named (literal_like l) h = tt
    signs_named (send_like r s ps) h = all_both (SignNames P) (signs r) (selector_signs s ++ trees_signs ps) (signs_named r h.0) (all_both (SignNames P) (selector_signs s) (trees_signs ps) (selector_named s h.1) (trees_named ps h.2))
    signs_named (cascade_like r ms) h = all_both (SignNames P) (signs r) (messages_signs ms) (signs_named r h.0) (messages_named ms h.1)
    signs_named (assign_like n p) h = signs_named p h.1
    signs_named (block_like ps ts ss e) h = statements_named ss h.2
    signs_named (brace_like ps) h = trees_named ps h
    signs_named (return_like p) h = signs_named p h

    trees_named : (ps : PatternsOf ℕ) → PatternsNames P ps → AllByRecursion (SignNames P) (trees_signs ps)
    trees_named no_patterns h = tt
    trees_named (more_patterns p ps) h = all_both (SignNames P) (signs p) (trees_signs ps) (signs_named p h.0) (trees_named ps h.1)

    messages_named : (ms : MessagesLike ℕ) → MessagesLikeNames P ms → AllByRecursion (SignNames P) (messages_signs ms)
    messages_named no_messages_like h = tt
    messages_named (more_messages_like s ps ms) h =
        all_both (SignNames P) (selector_signs s ++ trees_signs ps) (messages_signs ms) (all_both (SignNames P) (selector_signs s) (trees_signs ps) (selector_named s h.0) (trees_named ps h.1)) (messages_named ms h.2)

    statements_named : (ss : StatementsLike ℕ) → StatementsLikeNames P ss → AllByRecursion (SignNames P) (statements_signs ss)
    statements_named no_statements_like h = tt
    statements_named (more_statements_like c p ss) h = all_both (SignNames P) (signs p) (statements_signs ss) (signs_named p h.0) (statements_named ss h.1)
