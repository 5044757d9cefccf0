-- What is known of a node is known of its parts, and what is read of its kind is read of it.
use Rattle.std.proofs.Common.{◌≡◌, ℕ, List, sym, ap, subst, ◌∙◌}
use Rattle.std.specs.List.{AllByRecursion}
use Rattle.tree_model.specs.Tree.{LiteralOf, TreeOf, TreesOf, MessagesOf, StatementsOf, Notes, var, literal, send, cascade, assign, block, brace, return, trees_of}
use Rattle.tree_model.specs.AllNames.{AllNames, LiteralNames, TreesNames, MessagesNames, StatementsNames}
use Rattle.grammar_model.specs.Terminal.{Text}
use Rattle.st_tree.specs.View.{messages_of, statements_of}
use Rattle.st_tree.specs.declared.tree.Message.{Message}
use Rattle.st_tree.specs.declared.tree.Sequence.{Sequence}
use Rattle.pattern_model.specs.Patterns.{PatternOf, literal_like}
use Rattle.event_trees.specs.Naming.{Grows}
use Rattle.pattern_trees.specs.Reading.{Known, IsPattern}
use Rattle.pattern_trees.proofs.Nodes.{a_literal, literal_known}

module _ (P : ℕ → Type 0) (t : TreeOf ℕ) (all : AllNames P t) where
  pub of_var : (n : ℕ) → t ≡ var n → P n
  of_var n e = subst (AllNames P) e all

  pub of_literal : (l : LiteralOf ℕ) → t ≡ literal l → LiteralNames P l
  of_literal l e = subst (AllNames P) e all

  pub of_send : (r : TreeOf ℕ) (n : ℕ) (ts : TreesOf ℕ) → t ≡ send r n ts → AllNames P r × P n × TreesNames P ts
  of_send r n ts e = subst (AllNames P) e all

  pub of_cascade : (r : TreeOf ℕ) (ms : MessagesOf ℕ) → t ≡ cascade r ms → AllNames P r × MessagesNames P ms
  of_cascade r ms e = subst (AllNames P) e all

  pub of_assign : (n : ℕ) (u : TreeOf ℕ) → t ≡ assign n u → P n × AllNames P u
  of_assign n u e = subst (AllNames P) e all

  pub of_block : (ps ts : List ℕ) (ss : StatementsOf ℕ) (tail : Notes) → t ≡ block ps ts ss tail → AllByRecursion P ps × AllByRecursion P ts × StatementsNames P ss
  of_block ps ts ss tail e = subst (AllNames P) e all

  pub of_brace : (ts : TreesOf ℕ) → t ≡ brace ts → TreesNames P ts
  of_brace ts e = subst (AllNames P) e all

  pub of_return : (u : TreeOf ℕ) → t ≡ return u → AllNames P u
  of_return u e = subst (AllNames P) e all

-- what is read in a table that may grow
abbrev pub Reads : List Text → TreeOf ℕ → PatternOf ℕ → Type 0
Reads names t p = (final : List Text) → Grows names final → IsPattern final t p

pub reads_literal : (names : List Text) (t : TreeOf ℕ) → AllNames (Known names) t → (l : LiteralOf ℕ) → t ≡ literal l → (p : PatternOf ℕ) → p ≡ literal_like l → Reads names t p
reads_literal names t all l e p h = λ final g.
    subst (λ (u : TreeOf ℕ). IsPattern final u p) (sym e) (subst (λ (q : PatternOf ℕ). IsPattern final (literal l) q) (sym h) (a_literal final l (literal_known g l (of_literal (Known names) t all l e))))

-- a node whose parts are lent
pub send_is : {t r q : TreeOf ℕ} {n : ℕ} {ts us : List (TreeOf ℕ)} → t ≡ send r n (trees_of ts) → q ≡ r → us ≡ ts → t ≡ send q n (trees_of us)
send_is {n = n} e f g = e ∙ (λ i. send (sym f i) n (trees_of (sym g i)))

pub cascade_is : {t r q : TreeOf ℕ} {ms ns : List Message} → t ≡ cascade r (messages_of ms) → q ≡ r → ns ≡ ms → t ≡ cascade q (messages_of ns)
cascade_is e f g = e ∙ (λ i. cascade (sym f i) (messages_of (sym g i)))

pub assign_is : {t u q : TreeOf ℕ} {n : ℕ} → t ≡ assign n u → q ≡ u → t ≡ assign n q
assign_is {n = n} e f = e ∙ ap (assign n) (sym f)

pub block_is : {t : TreeOf ℕ} {ps : List ℕ} {b d : Sequence} → t ≡ block ps b.temporaries (statements_of b.statements) b.tail → d ≡ b → t ≡ block ps d.temporaries (statements_of d.statements) d.tail
block_is {ps = ps} e f = e ∙ ap (λ (b : Sequence). block ps b.temporaries (statements_of b.statements) b.tail) (sym f)

pub brace_is : {t : TreeOf ℕ} {ts us : List (TreeOf ℕ)} → t ≡ brace (trees_of ts) → us ≡ ts → t ≡ brace (trees_of us)
brace_is e f = e ∙ ap (λ (ts : List (TreeOf ℕ)). brace (trees_of ts)) (sym f)

pub return_is : {t u q : TreeOf ℕ} → t ≡ return u → q ≡ u → t ≡ return q
return_is e f = e ∙ ap return (sym f)
