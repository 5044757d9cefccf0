-- A pattern as a tree over numbers is the tree of its marks.
use Rattle.std.proofs.Common.{◌≡◌, ℕ, zero, suc, ◌+◌, ◌-◌, ◌<◌, Bool, true, false, List, [], ◌∷◌, ◌++◌, length, map, Option, Some, slice_get, cond, not, ◌||◌, refl, sym, ap, subst, ◌∙◌, arith}
use Rattle.std.specs.Prelude.{if◌then◌else◌}
use Rattle.std.specs.List.{AllByRecursion, list_any, position_or_len}
use Rattle.std.specs.Option.{option_map_or}
use Rattle.std.proofs.lemmas.Bool.{lt-ltb, le-ltb}
use Rattle.rb_base.specs.Names.{name_at, HasNoTwice}
use Rattle.tree_model.specs.Tree.{LiteralOf, var, literal, send, cascade, assign, block, brace, return, more_trees, more_messages, more_statements, map_names, map_trees, map_messages, map_statements}
use Rattle.tree_model.specs.AllNames.{LiteralNames}
use Rattle.tree_model.proofs.AllNamesLemmas.{map_names-same, AllNames-implies}
use Rattle.tree_model.proofs.MapNames.{map_names-map_names}
use Rattle.pattern_model.specs.Patterns.{SelectorLike, this_selector, any_unary, of_keywords, any_message, PatternOf, meta, var_like, literal_like, send_like, cascade_like, assign_like, block_like, brace_like, return_like, PatternsOf, no_patterns, more_patterns, MessagesLike, no_messages_like, more_messages_like, StatementsLike, no_statements_like, more_statements_like}
use Rattle.pattern_model.specs.Named.{map_selector, map_pattern, map_patterns, map_messages_like, map_statements_like}
use Rattle.patterns.specs.Names.{SelectorNames, PatternNames, PatternsNames, MessagesLikeNames, StatementsLikeNames}
use Rattle.certified_model.specs.Marks.{Text, Mark, plain, selector_mark, marked_tree, marked_trees, marked_messages, marked_statements}
use Rattle.certified_rules.proofs.MarkWords.{mark_words_are}
use Rattle.derivations.specs.Signs.{Sign, of_node, of_selector, mark_by, same_sign, selector_signs, signs, trees_signs, messages_signs, statements_signs}
use Rattle.derivations.specs.Numbered.{Table, number_of, selector_number, numbered, numbered_trees, numbered_messages, numbered_statements}
use Rattle.derivations.specs.Named.{has_sign}
use Rattle.derivations.specs.Taken.{SignNames, IsTable, mark_at}
use Rattle.derivations.proofs.Alike.{sign_alike, sign_names}
use Rattle.derivations.proofs.MarkTexts.{first_within, signs_known}
use Rattle.derivations.proofs.Once.{all_first, all_second}

-- what is there has a place
place : {X : Type 0} (p : X → Bool) (xs : List X) → list_any p xs ≡ true → (x : X) × (slice_get xs (position_or_len p xs) ≡ Some x) × (p x ≡ true)
place p [] h = let bad : ⊥ = cc in absurd bad
place p (x ∷ xs) h = by (p x) refl h (place p xs)
  where
    by : (b : Bool) → p x ≡ b → (b || list_any p xs) ≡ true → (list_any p xs ≡ true → (y : _) × (slice_get xs (position_or_len p xs) ≡ Some y) × (p y ≡ true))
        → (y : _) × (slice_get (x ∷ xs) (position_or_len p (x ∷ xs)) ≡ Some y) × (p y ≡ true)
    by true e g f = (x, ap (λ (c : Bool). slice_get (x ∷ xs) (cond (not c) (1 + position_or_len p xs) 0)) e, e)
    by false e g f =
        let r = f g in
        let one : 1 + position_or_len p xs ≡ suc (position_or_len p xs) = omega arith in
        (r.0, ap (λ (c : Bool). slice_get (x ∷ xs) (cond (not c) (1 + position_or_len p xs) 0)) e ∙ ap (slice_get (x ∷ xs)) one ∙ r.1, r.2)

module _ (names : List Text) (distinct : HasNoTwice names) (table : Table) (h : IsTable names table) where
  abbrev at : ℕ → Mark
  at n = mark_at names table n

  abbrev text : ℕ → Text
  text n = name_at names n

  abbrev Before : ℕ → Type 0
  Before n = n < table.first

  abbrev There : Sign → Type 0
  There s = has_sign table.signs s ≡ true

  -- a name of the rule stands for itself
  plain_at : (n : ℕ) → Before n → at n ≡ plain (text n)
  plain_at n l = ap (λ (b : Bool). if b then plain (text n) else option_map_or (mark_by text) (slice_get table.signs (n - table.first)) (plain (text n))) (lt-ltb n table.first l)

  plains_at : (ns : List ℕ) → AllByRecursion Before ns → map at ns ≡ map plain (map text ns)
  plains_at [] l = refl
  plains_at (n ∷ ns) l = λ i. plain_at n l.0 i ∷ plains_at ns l.1 i

  -- and a number of the table for its mark
  sign_at : (k : ℕ) (s : Sign) → slice_get table.signs k ≡ Some s → at (table.first + k) ≡ mark_by text s
  sign_at k s e =
      ap (λ (b : Bool). if b then plain (text (table.first + k)) else option_map_or (mark_by text) (slice_get table.signs (table.first + k - table.first)) (plain (text (table.first + k)))) (le-ltb (table.first + k) table.first (omega arith))
      ∙ ap (λ (i : ℕ). option_map_or (mark_by text) (slice_get table.signs i) (plain (text (table.first + k)))) (omega arith)
      ∙ ap (λ (o : Option Sign). option_map_or (mark_by text) o (plain (text (table.first + k)))) e

  of_place : (ss : List Sign) (k : ℕ) (s : Sign) → AllByRecursion (SignNames (λ n. n < length names)) ss → slice_get ss k ≡ Some s → SignNames (λ n. n < length names) s
  of_place [] k s a e = let bad : ⊥ = cc in absurd bad
  of_place (t ∷ ss) zero s a e = let same : t ≡ s = cc in subst (SignNames (λ n. n < length names)) same a.0
  of_place (t ∷ ss) (suc k) s a e = of_place ss k s a.1 e

  pub number_at : (s : Sign) → SignNames Before s → There s → at (number_of table s) ≡ mark_by text s
  number_at s l t =
      let found = place (λ x. same_sign x s) table.signs t in
      let wide : SignNames (λ n. n < length names) s = sign_names Before (λ n. n < length names) (λ n k. omega (arith, k, first_within names distinct table h)) s l in
      let other : SignNames (λ n. n < length names) found.0 = of_place table.signs (position_or_len (λ x. same_sign x s) table.signs) found.0 (signs_known names distinct table h) found.1 in
      sign_at (position_or_len (λ x. same_sign x s) table.signs) found.0 found.1
      ∙ mark_words_are.told (mark_by text found.0) (mark_by text s) (sign_alike names distinct found.0 s other wide ∙ found.2)

  -- selectors
  selector_at : (s : SelectorLike ℕ) → SelectorNames Before s → AllByRecursion There (selector_signs s) → at (selector_number table s) ≡ selector_mark (map_selector text s)
  selector_at (this_selector n) l t = plain_at n l
  selector_at (any_unary m) l t = number_at (of_selector (any_unary m)) l t.0
  selector_at (of_keywords ks) l t = number_at (of_selector (of_keywords ks)) l t.0
  selector_at (any_message m) l t = number_at (of_selector (any_message m)) l t.0

  -- literals
  literal_at : (l : LiteralOf ℕ) → LiteralNames Before l → map_names at (literal l) ≡ map_names plain (map_names text (literal l))
  literal_at l k =
      map_names-same at (λ n. plain (text n)) (literal l) (AllNames-implies Before (λ n. at n ≡ plain (text n)) plain_at (literal l) k)
      ∙ sym (map_names-map_names plain text (literal l))

  -- patterns
  mutual
    pub marked_at : (p : PatternOf ℕ) → PatternNames Before p → AllByRecursion There (signs p) → map_names at (numbered table p) ≡ marked_tree (map_pattern text p)
    marked_at (meta m) l t = ap var (number_at (of_node m) l t.0)
    marked_at (var_like n) l t = ap var (plain_at n l)
    marked_at (literal_like k) l t = literal_at k l
    marked_at (send_like r s ps) l t =
        let first = all_first There (signs r) (selector_signs s ++ trees_signs ps) t in
        let rest = all_second There (signs r) (selector_signs s ++ trees_signs ps) t in
        λ i. send (marked_at r l.0 first i) (selector_at s l.1 (all_first There (selector_signs s) (trees_signs ps) rest) i) (trees_at ps l.2 (all_second There (selector_signs s) (trees_signs ps) rest) i)
    marked_at (cascade_like r ms) l t =
        λ i. cascade (marked_at r l.0 (all_first There (signs r) (messages_signs ms) t) i) (messages_at ms l.1 (all_second There (signs r) (messages_signs ms) t) i)
    marked_at (assign_like n p) l t = λ i. assign (plain_at n l.0 i) (marked_at p l.1 t i)
    marked_at (block_like ps ts ss e) l t = λ i. block (plains_at ps l.0 i) (plains_at ts l.1 i) (statements_at ss l.2 t i) e
    marked_at (brace_like ps) l t = ap brace (trees_at ps l t)
    marked_at (return_like p) l t = ap return (marked_at p l t)

    trees_at : (ps : PatternsOf ℕ) → PatternsNames Before ps → AllByRecursion There (trees_signs ps) → map_trees at (numbered_trees table ps) ≡ marked_trees (map_patterns text ps)
    trees_at no_patterns l t = refl
    trees_at (more_patterns p ps) l t =
        λ i. more_trees (marked_at p l.0 (all_first There (signs p) (trees_signs ps) t) i) (trees_at ps l.1 (all_second There (signs p) (trees_signs ps) t) i)

    messages_at : (ms : MessagesLike ℕ) → MessagesLikeNames Before ms → AllByRecursion There (messages_signs ms) → map_messages at (numbered_messages table ms) ≡ marked_messages (map_messages_like text ms)
    messages_at no_messages_like l t = refl
    messages_at (more_messages_like s ps ms) l t =
        let first = all_first There (selector_signs s ++ trees_signs ps) (messages_signs ms) t in
        let rest = all_second There (selector_signs s ++ trees_signs ps) (messages_signs ms) t in
        λ i. more_messages (selector_at s l.0 (all_first There (selector_signs s) (trees_signs ps) first) i) (trees_at ps l.1 (all_second There (selector_signs s) (trees_signs ps) first) i) (messages_at ms l.2 rest i)

    statements_at : (ss : StatementsLike ℕ) → StatementsLikeNames Before ss → AllByRecursion There (statements_signs ss) → map_statements at (numbered_statements table ss) ≡ marked_statements (map_statements_like text ss)
    statements_at no_statements_like l t = refl
    statements_at (more_statements_like c p ss) l t =
        λ i. more_statements c (marked_at p l.0 (all_first There (signs p) (statements_signs ss) t) i) (statements_at ss l.1 (all_second There (signs p) (statements_signs ss) t) i)
