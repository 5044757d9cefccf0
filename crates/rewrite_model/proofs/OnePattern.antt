-- A text says one pattern, which is lawful, or has one first fault.
use Rattle.std.proofs.Common.{◌≡◌, ℕ, Option, Some, None, refl, ap, sym, subst, ◌∙◌, ◌⊎◌, inl, inr}
use Rattle.tree_model.specs.Tree.{TreeOf}
use Rattle.token_model.specs.declared.kind.Dialect.TheVariants.{Second}
use Rattle.grammar_model.specs.Terminal.{Text}
use Rattle.grammar_model.specs.Spanned.{SpannedTree, plain_tree}
use Rattle.grammar_model.specs.Checks.{Fault}
use Rattle.grammar_model.specs.Whole.{PatternText}
use Rattle.grammar_model.specs.Spelling.{SpellsPatternAt, SpellsPattern, HasFirstFaultAs}
use Rattle.grammar_model.proofs.Texts.{one_SpellsPatternAt, pattern_or_fault, no_fault_Pattern, one_HasFirstPatternFault}
use Rattle.pattern_model.specs.Patterns.{PatternOf}
use Rattle.pattern_model.specs.Matches.{IsLawful}
use Rattle.pattern_model.specs.Spelled.{pattern_of}
use Rattle.pattern_trees.specs.Faults.{two_lists}
use Rattle.pattern_trees.proofs.Lexing.{lexed_texts}
use Rattle.pattern_trees.proofs.Fitting.{lawful}
use Rattle.rewrite_model.specs.Saying.{SaysPattern, Cause, Grammar, TwoLists, IsRefusedPattern, by_grammar, by_lists}

-- a text says one pattern
pub one_pattern : (text : Text) (p q : PatternOf Text) → SaysPattern text p → SaysPattern text q → p ≡ q
one_pattern text p q a b =
    a.same ∙ ap (λ (t : SpannedTree). pattern_of (plain_tree t)) (one_SpellsPatternAt Second text a.tree b.tree a.spells b.spells) ∙ sym b.same

-- a lawful one
pub lawful_pattern : (text : Text) (p : PatternOf Text) → SaysPattern text p → IsLawful p
lawful_pattern text p a =
    let s = a.spells in
    subst (λ (q : PatternOf Text). IsLawful q) (sym a.same) ((lawful s.tokens a.tree (lexed_texts text s.tokens s.lexed) s.grammar).0 a.one_list)

-- a text that spells a pattern has no fault of the grammar
sound : (text : Text) (t : SpannedTree) (f : Fault) → SpellsPatternAt Second text t → ¬ HasFirstFaultAs PatternText text f
sound text t f s = no_fault_Pattern text (plain_tree t) f (record { spanned = t; spells = s; same = refl })

-- what two readings of a text say of lists of statements
same_lists : (text : Text) (t u : SpannedTree) → SpellsPatternAt Second text t → SpellsPatternAt Second text u → two_lists t ≡ two_lists u
same_lists text t u s r = ap two_lists (one_SpellsPatternAt Second text t u s r)

-- a text that says a pattern is not refused
pub not_refused : (text : Text) (p : PatternOf Text) (c : Cause) → SaysPattern text p → ¬ IsRefusedPattern text c
not_refused text p c a (by_grammar f h) = sound text a.tree f a.spells h
not_refused text p c a (by_lists t at s e) = let bad : None ≡ Some at = sym a.one_list ∙ same_lists text a.tree t a.spells s ∙ e in cc

-- a text is refused for one cause
pub one_cause : (text : Text) (c d : Cause) → IsRefusedPattern text c → IsRefusedPattern text d → c ≡ d
one_cause text c d (by_grammar f h) (by_grammar g k) = ap Grammar (one_HasFirstPatternFault text f g h k)
one_cause text c d (by_grammar f h) (by_lists t at s e) = absurd (sound text t f s h)
one_cause text c d (by_lists t at s e) (by_grammar f h) = absurd (sound text t f s h)
one_cause text c d (by_lists t at s e) (by_lists u place r l) = let found : Some at ≡ Some place = sym e ∙ same_lists text t u s r ∙ l in cc

-- a text that spells a pattern says it, or has two lists of statements in a sequence
listed : (text : Text) (t : SpannedTree) (o : Option ℕ) → SpellsPatternAt Second text t → two_lists t ≡ o → ((p : PatternOf Text) × SaysPattern text p) ⊎ ((c : Cause) × IsRefusedPattern text c)
listed text t None s e = inl (pattern_of (plain_tree t), record { tree = t; spells = s; one_list = e; same = refl })
listed text t (Some at) s e = inr (TwoLists at, by_lists t at s e)

-- each text says a pattern or is refused
pub said_or_refused : (text : Text) → ((p : PatternOf Text) × SaysPattern text p) ⊎ ((c : Cause) × IsRefusedPattern text c)
said_or_refused text = decide (pattern_or_fault text)
  where
    decide : ((tree : TreeOf Text) × SpellsPattern text tree) ⊎ ((f : Fault) × HasFirstFaultAs PatternText text f) → ((p : PatternOf Text) × SaysPattern text p) ⊎ ((c : Cause) × IsRefusedPattern text c)
    decide (inl (tree, a)) = listed text a.spanned (two_lists a.spanned) a.spells refl
    decide (inr (f, h)) = inr (Grammar f, by_grammar f h)
