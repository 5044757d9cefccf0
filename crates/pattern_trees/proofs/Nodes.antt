-- Patterns of nodes, from those of their parts.
use Rattle.std.proofs.Common.{◌≡◌, ℕ, ◌<◌, Bool, true, false, List, [], length, map, sym, ap, refl, subst, ◌∙◌}
use Rattle.std.specs.List.{AllByRecursion}
use Rattle.rb_base.specs.Names.{name_at}
use Rattle.tree_model.specs.Tree.{LiteralOf, TreeOf, TreesOf, MessagesOf, literal, send, cascade, assign, block, brace, return, no_statements, map_trees}
use Rattle.tree_model.specs.AllNames.{LiteralNames}
use Rattle.tree_model.proofs.AllNamesLemmas.{AllNames-implies}
use Rattle.grammar_model.specs.Terminal.{Text}
use Rattle.st_tree.specs.View.{statements_of}
use Rattle.st_tree.specs.declared.tree.Sequence.{Sequence}
use Rattle.pattern_model.specs.Patterns.{PatternOf, PatternsOf, no_patterns, MessagesLike, literal_like, send_like, cascade_like, assign_like, block_like, brace_like, return_like}
use Rattle.pattern_model.specs.Named.{map_selector, map_patterns}
use Rattle.pattern_model.specs.Spelled.{arguments_like, patterns_in}
use Rattle.patterns.specs.View.{selector_of, patterns_of, statements_from}
use Rattle.patterns.specs.Names.{PatternsNames}
use Rattle.patterns.specs.declared.tree.PatternSelector.{PatternSelector}
use Rattle.patterns.specs.declared.tree.PatternSelector.TheVariants as selector
use Rattle.patterns.specs.declared.tree.PatternMessage.{PatternMessage}
use Rattle.patterns.specs.declared.tree.PatternSequence.{PatternSequence}
use Rattle.event_trees.specs.Naming.{Grows}
use Rattle.pattern_trees.specs.Reading.{Known, IsSelector, IsPattern, ArePatterns, IsMessage, AreMessages, IsSequence}
use Rattle.pattern_trees.proofs.Growing.{still_known}

-- names that are declared, and those of a literal, stay known
module _ {names later : List Text} (g : Grows names later) where
  pub declared_known : (ps ts : List ℕ) → AllByRecursion (Known names) ps → AllByRecursion (Known names) ts → AllByRecursion (Known later) ps × AllByRecursion (Known later) ts
  declared_known ps ts h k = let all = AllNames-implies (Known names) (Known later) (still_known g) (block ps ts no_statements []) (h, k, tt) in (all.0, all.1)

  pub literal_known : (l : LiteralOf ℕ) → LiteralNames (Known names) l → LiteralNames (Known later) l
  literal_known l h = AllNames-implies (Known names) (Known later) (still_known g) (literal l) h

module _ (final : List Text) where
  pub a_literal : (l : LiteralOf ℕ) → LiteralNames (Known final) l → IsPattern final (literal l) (literal_like l)
  a_literal l h = record { same = refl; known = h }

  pub a_send : (r : TreeOf ℕ) (n : ℕ) (ts : TreesOf ℕ) (p : PatternOf ℕ) (m : PatternMessage) → IsPattern final r p → IsMessage final n ts m → IsPattern final (send r n ts) (send_like p (selector_of m.selector) (patterns_of m.arguments.items))
  a_send r n ts p m a b = record { same = λ i. send_like (a.same i) (b.selector.same i) (b.same i); known = (a.known, b.selector.known, b.known) }

  pub a_cascade : (r : TreeOf ℕ) (ms : MessagesOf ℕ) (p : PatternOf ℕ) (ps : MessagesLike ℕ) → IsPattern final r p → AreMessages final ms ps → IsPattern final (cascade r ms) (cascade_like p ps)
  a_cascade r ms p ps a b = record { same = λ i. cascade_like (a.same i) (b.same i); known = (a.known, b.known) }

  pub an_assignment : (n : ℕ) (t : TreeOf ℕ) (p : PatternOf ℕ) → n < length final → IsPattern final t p → IsPattern final (assign n t) (assign_like n p)
  an_assignment n t p h a = record { same = ap (assign_like (name_at final n)) a.same; known = (h, a.known) }

  pub a_block : (ps : List ℕ) (body : Sequence) (p : PatternSequence) → AllByRecursion (Known final) ps × AllByRecursion (Known final) body.temporaries → IsSequence final body p
      → IsPattern final (block ps body.temporaries (statements_of body.statements) body.tail) (block_like ps p.temporaries (statements_from p.statements.items) p.tail)
  a_block ps body p h a = record {
    same = λ i. block_like (map (name_at final) ps) (map (name_at final) (a.temporaries i)) (a.statements.same i) (a.tail i);
    known = (h.0, subst (AllByRecursion (Known final)) (sym a.temporaries) h.1, a.statements.known);
  }

  pub a_brace : (ts : TreesOf ℕ) (ps : PatternsOf ℕ) → ArePatterns final ts ps → IsPattern final (brace ts) (brace_like ps)
  a_brace ts ps a = record { same = ap brace_like a.same; known = a.known }

  pub a_return : (t : TreeOf ℕ) (p : PatternOf ℕ) → IsPattern final t p → IsPattern final (return t) (return_like p)
  a_return t p a = record { same = ap return_like a.same; known = a.known }

  -- whether a selector has its own arguments
  abbrev pub is_whole : PatternSelector → Bool
  is_whole (selector.Plain n) = false
  is_whole (selector.Unary m) = false
  is_whole (selector.Keywords ks) = false
  is_whole (selector.Whole m) = true

  own : (s : PatternSelector) (ps : PatternsOf Text) → is_whole s ≡ true → no_patterns ≡ arguments_like (map_selector (name_at final) (selector_of s)) ps
  own (selector.Plain n) ps e = let bad : ⊥ = cc in absurd bad
  own (selector.Unary m) ps e = let bad : ⊥ = cc in absurd bad
  own (selector.Keywords ks) ps e = let bad : ⊥ = cc in absurd bad
  own (selector.Whole m) ps e = refl

  others : (s : PatternSelector) (ps : PatternsOf Text) → is_whole s ≡ false → ps ≡ arguments_like (map_selector (name_at final) (selector_of s)) ps
  others (selector.Plain n) ps e = refl
  others (selector.Unary m) ps e = refl
  others (selector.Keywords ks) ps e = refl
  others (selector.Whole m) ps e = let bad : ⊥ = cc in absurd bad

  -- a message
  pub a_whole : (n : ℕ) (ts : TreesOf ℕ) (m : PatternMessage) → is_whole m.selector ≡ true → m.arguments.items ≡ [] → IsSelector final n m.selector → IsMessage final n ts m
  a_whole n ts m e none a = record {
    selector = a;
    same = ap (λ (ps : List (PatternOf ℕ)). map_patterns (name_at final) (patterns_of ps)) none ∙ own m.selector (patterns_in (map_trees (name_at final) ts)) e ∙ ap (λ s. arguments_like s (patterns_in (map_trees (name_at final) ts))) a.same;
    known = subst (λ (ps : List (PatternOf ℕ)). PatternsNames (Known final) (patterns_of ps)) (sym none) tt;
  }

  pub another : (n : ℕ) (ts : TreesOf ℕ) (m : PatternMessage) → is_whole m.selector ≡ false → IsSelector final n m.selector → ArePatterns final ts (patterns_of m.arguments.items) → IsMessage final n ts m
  another n ts m e a b = record {
    selector = a;
    same = b.same ∙ others m.selector (patterns_in (map_trees (name_at final) ts)) e ∙ ap (λ s. arguments_like s (patterns_in (map_trees (name_at final) ts))) a.same;
    known = b.known;
  }
