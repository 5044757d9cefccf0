-- Nodes that are filled, from their parts; and what is known of a pattern is known of its parts.
use Rattle.std.proofs.Common.{◌≡◌, ℕ, List, map, refl, sym, ap, subst, ◌∙◌}
use Rattle.std.specs.List.{AllByRecursion}
use Rattle.rb_base.specs.Names.{name_at}
use Rattle.tree_model.specs.Tree.{Notes, LiteralOf, TreeOf, TreesOf, MessagesOf, StatementsOf, var, literal, send, cascade, assign, block, brace, return}
use Rattle.tree_model.specs.AllNames.{LiteralNames}
use Rattle.pattern_model.specs.Patterns.{MetaOf, SelectorLike, PatternOf, PatternsOf, MessagesLike, StatementsLike, meta, var_like, literal_like, send_like, cascade_like, assign_like, block_like, brace_like, return_like}
use Rattle.pattern_model.specs.Bindings.{BindingOf}
use Rattle.pattern_model.specs.Fill.{EndedOf, block_of}
use Rattle.patterns.specs.Names.{SelectorNames, PatternNames, PatternsNames, MessagesLikeNames, StatementsLikeNames}
use Rattle.st_tree.specs.View.{statements_of}
use Rattle.st_tree.specs.declared.tree.Sequence.{Sequence}
use Rattle.patterns.specs.View.{patterns_of, messages_from, statements_from}
use Rattle.patterns.specs.declared.tree.PatternMessage.{PatternMessage}
use Rattle.patterns.specs.declared.tree.PatternSequence.{PatternSequence}
use Rattle.filled_patterns.specs.declared.bindings.Binding.{Binding}
use Rattle.filled_patterns.specs.Filling.{Later, Over, Known, IsFilled, AreFilled, IsMessageFilled, AreMessagesFilled, IsSequenceFilled}

-- what a pattern makes in a table that may grow
abbrev pub Fills : List (List ℕ) → List Binding → PatternOf ℕ → TreeOf ℕ → Type 0
Fills names ss p t = (final : List (List ℕ)) → Later names final → Over final ss (λ bs. IsFilled final bs p t)

module _ (final : List (List ℕ)) (bs : List (BindingOf ℕ)) where
  pub a_variable : (n : ℕ) → Known final n → IsFilled final bs (var_like n) (var n)
  a_variable n h = record { same = refl; known = h }

  pub a_literal : (l : LiteralOf ℕ) → LiteralNames (Known final) l → IsFilled final bs (literal_like l) (literal l)
  a_literal l h = record { same = refl; known = h }

  pub a_send : (p : PatternOf ℕ) (s : SelectorLike ℕ) (ps : PatternsOf ℕ) (r : TreeOf ℕ) (n : ℕ) (ts : TreesOf ℕ) → IsFilled final bs p r → IsMessageFilled final bs s ps n ts → IsFilled final bs (send_like p s ps) (send r n ts)
  a_send p s ps r n ts a b = record { same = λ i. send (a.same i) (b.selector.same i) (b.same i); known = (a.known, b.selector.known, b.known) }

  pub a_cascade : (p : PatternOf ℕ) (ps : MessagesLike ℕ) (r : TreeOf ℕ) (ms : MessagesOf ℕ) → IsFilled final bs p r → AreMessagesFilled final bs ps ms → IsFilled final bs (cascade_like p ps) (cascade r ms)
  a_cascade p ps r ms a b = record { same = λ i. cascade (a.same i) (b.same i); known = (a.known, b.known) }

  pub an_assignment : (n : ℕ) (p : PatternOf ℕ) (t : TreeOf ℕ) → Known final n → IsFilled final bs p t → IsFilled final bs (assign_like n p) (assign n t)
  an_assignment n p t h a = record { same = ap (assign (name_at final n)) a.same; known = (h, a.known) }

  pub a_block : (ns ms : List ℕ) (ps : StatementsLike ℕ) (e : Notes) (ss : StatementsOf ℕ) (tail : Notes) → AllByRecursion (Known final) ns → AllByRecursion (Known final) ms
      → IsSequenceFilled final bs ps e ss tail → IsFilled final bs (block_like ns ms ps e) (block ns ms ss tail)
  a_block ns ms ps e ss tail h k a = record {
    same = ap (λ (r : EndedOf (List ℕ)). block_of (map (name_at final) ns) (map (name_at final) ms) r) a.same;
    known = (h, k, a.known);
  }

  pub a_brace : (ps : PatternsOf ℕ) (ts : TreesOf ℕ) → AreFilled final bs ps ts → IsFilled final bs (brace_like ps) (brace ts)
  a_brace ps ts a = record { same = ap brace a.same; known = a.known }

  pub a_return : (p : PatternOf ℕ) (t : TreeOf ℕ) → IsFilled final bs p t → IsFilled final bs (return_like p) (return t)
  a_return p t a = record { same = ap return a.same; known = a.known }

-- the block whose parts are made
pub block_filled : (final : List (List ℕ)) (bs : List (BindingOf ℕ)) (ns ms : List ℕ) (body : PatternSequence) (s d : Sequence) → d ≡ s → ms ≡ ns → s.temporaries ≡ body.temporaries
    → AllByRecursion (Known final) ns → AllByRecursion (Known final) body.temporaries → IsSequenceFilled final bs (statements_from body.statements.items) body.tail (statements_of s.statements) s.tail
    → IsFilled final bs (block_like ns body.temporaries (statements_from body.statements.items) body.tail) (block ms d.temporaries (statements_of d.statements) d.tail)
block_filled final bs ns ms body s d e f g h k a =
    let p : PatternOf ℕ = block_like ns body.temporaries (statements_from body.statements.items) body.tail in
    subst (λ (x : Sequence). IsFilled final bs p (block ms x.temporaries (statements_of x.statements) x.tail)) (sym e)
    (subst (λ (xs : List ℕ). IsFilled final bs p (block xs s.temporaries (statements_of s.statements) s.tail)) (sym f)
    (subst (λ (xs : List ℕ). IsFilled final bs p (block ns xs (statements_of s.statements) s.tail)) (sym g)
    (a_block final bs ns body.temporaries (statements_from body.statements.items) body.tail (statements_of s.statements) s.tail h k a)))

-- the parts of a pattern
module _ (P : ℕ → Type 0) (p : PatternOf ℕ) (all : PatternNames P p) where
  pub of_meta : (m : MetaOf ℕ) → p ≡ meta m → P m.name
  of_meta m e = subst (PatternNames P) e all

  pub of_var : (n : ℕ) → p ≡ var_like n → P n
  of_var n e = subst (PatternNames P) e all

  pub of_literal : (l : LiteralOf ℕ) → p ≡ literal_like l → LiteralNames P l
  of_literal l e = subst (PatternNames P) e all

  pub of_send : (r : PatternOf ℕ) (s : SelectorLike ℕ) (ps : PatternsOf ℕ) → p ≡ send_like r s ps → PatternNames P r × SelectorNames P s × PatternsNames P ps
  of_send r s ps e = subst (PatternNames P) e all

  pub of_cascade : (r : PatternOf ℕ) (ms : MessagesLike ℕ) → p ≡ cascade_like r ms → PatternNames P r × MessagesLikeNames P ms
  of_cascade r ms e = subst (PatternNames P) e all

  pub of_assign : (n : ℕ) (q : PatternOf ℕ) → p ≡ assign_like n q → P n × PatternNames P q
  of_assign n q e = subst (PatternNames P) e all

  pub of_block : (ns ms : List ℕ) (ss : StatementsLike ℕ) (tail : Notes) → p ≡ block_like ns ms ss tail → AllByRecursion P ns × AllByRecursion P ms × StatementsLikeNames P ss
  of_block ns ms ss tail e = subst (PatternNames P) e all

  pub of_brace : (ps : PatternsOf ℕ) → p ≡ brace_like ps → PatternsNames P ps
  of_brace ps e = subst (PatternNames P) e all

  pub of_return : (q : PatternOf ℕ) → p ≡ return_like q → PatternNames P q
  of_return q e = subst (PatternNames P) e all

-- a pattern whose parts are lent
pub send_is : {p r q : PatternOf ℕ} {s : SelectorLike ℕ} {ps : PatternsOf ℕ} → p ≡ send_like r s ps → q ≡ r → p ≡ send_like q s ps
send_is {s = s} {ps = ps} e f = e ∙ ap (λ x. send_like x s ps) (sym f)

pub cascade_is : {p r q : PatternOf ℕ} {ms ns : List PatternMessage} → p ≡ cascade_like r (messages_from ms) → q ≡ r → ns ≡ ms → p ≡ cascade_like q (messages_from ns)
cascade_is e f g = e ∙ (λ i. cascade_like (sym f i) (messages_from (sym g i)))

pub assign_is : {p q u : PatternOf ℕ} {n : ℕ} → p ≡ assign_like n u → q ≡ u → p ≡ assign_like n q
assign_is {n = n} e f = e ∙ ap (assign_like n) (sym f)

pub block_is : {p : PatternOf ℕ} {ns : List ℕ} {b d : PatternSequence} → p ≡ block_like ns b.temporaries (statements_from b.statements.items) b.tail → d ≡ b → p ≡ block_like ns d.temporaries (statements_from d.statements.items) d.tail
block_is {ns = ns} e f = e ∙ ap (λ (b : PatternSequence). block_like ns b.temporaries (statements_from b.statements.items) b.tail) (sym f)

pub brace_is : {p : PatternOf ℕ} {ps qs : List (PatternOf ℕ)} → p ≡ brace_like (patterns_of ps) → qs ≡ ps → p ≡ brace_like (patterns_of qs)
brace_is e f = e ∙ ap (λ (ps : List (PatternOf ℕ)). brace_like (patterns_of ps)) (sym f)

pub return_is : {p q u : PatternOf ℕ} → p ≡ return_like u → q ≡ u → p ≡ return_like q
return_is e f = e ∙ ap return_like (sym f)

-- what is made of a kind is made of the pattern
pub fills_is : (names : List (List ℕ)) (ss : List Binding) (p q : PatternOf ℕ) (t : TreeOf ℕ) → p ≡ q → Fills names ss q t → Fills names ss p t
fills_is names ss p q t e h = subst (λ (x : PatternOf ℕ). Fills names ss x t) (sym e) h
