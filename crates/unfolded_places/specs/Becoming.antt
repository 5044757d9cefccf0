-- Code that becomes other code at some places, by what is declared round them.
use Rattle.std.specs.Prelude.{◌≡◌, false, List, codes}
use Rattle.tree_model.specs.Tree.{TreeOf, var, literal, LiteralOf, send, cascade, assign, block, brace, return, TreesOf, no_trees, more_trees, MessagesOf, no_messages, more_messages, StatementsOf, no_statements, more_statements, Notes}
use Rattle.scope_model.specs.Control.{is_control}
use Rattle.scope_model.specs.SpecialNames.{control_form}
use Rattle.run_model.specs.Values.{Name}
use Rattle.resolved_model.specs.Environments.{Declared, opened}

-- What may become of code: which node may stand for which, by what is declared round both; which selectors may be sent; which names may be assigned; whether a return may stand there; whether a message to `super` may; and which message to self may be which assignment.
pub record Change : Type 1 where
  pub part : List Declared → List Declared → TreeOf Name → TreeOf Name → Type 0
  pub sends : Name → Type 0
  pub assigns : List Declared → List Declared → Name → Type 0
  pub returns : Type 0
  pub supers : Type 0
  pub stores : List Declared → List Declared → Name → Name → Type 0

-- no literal block comes into a place where it would make a control send
abbrev pub MakesNoControl : TreeOf Name → TreeOf Name → Type 0
MakesNoControl t u = is_control control_form t ≡ false → is_control control_form u ≡ false

module _ (c : Change) where
  mutual
    -- a node among declarations, and the node that stands for it among others
    pub data Becomes : List Declared → List Declared → TreeOf Name → TreeOf Name → Type 0 where
      at_part : {A B : List Declared} {t u : TreeOf Name} → c.part A B t u → Becomes A B t u
      at_literal : {A B : List Declared} (l : LiteralOf Name) → Becomes A B (literal l) (literal l)
      at_store : {A B : List Declared} {t t' : TreeOf Name} (s x : Name) → c.stores A B s x → is_control control_form (send (var (codes "self")) s (more_trees t no_trees)) ≡ false →
          Becomes A B t t' → Becomes A B (send (var (codes "self")) s (more_trees t no_trees)) (assign x t')
      in_send : {A B : List Declared} {r r' : TreeOf Name} {args args' : TreesOf Name} (s : Name) → c.sends s → (r ≡ var (codes "super") → c.supers) → MakesNoControl (send r s args) (send r' s args') →
          Becomes A B r r' → BecomeAll A B args args' → Becomes A B (send r s args) (send r' s args')
      in_cascade : {A B : List Declared} {r r' : TreeOf Name} {ms ms' : MessagesOf Name} → Becomes A B r r' → BecomeMessages A B ms ms' → Becomes A B (cascade r ms) (cascade r' ms')
      in_assign : {A B : List Declared} {t t' : TreeOf Name} (n : Name) → c.assigns A B n → Becomes A B t t' → Becomes A B (assign n t) (assign n t')
      in_block : {A B : List Declared} {ss ss' : StatementsOf Name} (ps ts : List Name) (e e' : Notes) → BecomeLines (opened ps ts A) (opened ps ts B) ss ss' → Becomes A B (block ps ts ss e) (block ps ts ss' e')
      in_brace : {A B : List Declared} {ts ts' : TreesOf Name} → BecomeAll A B ts ts' → Becomes A B (brace ts) (brace ts')
      in_return : {A B : List Declared} {t t' : TreeOf Name} → c.returns → Becomes A B t t' → Becomes A B (return t) (return t')

    -- nodes in order
    pub data BecomeAll : List Declared → List Declared → TreesOf Name → TreesOf Name → Type 0 where
      all_none : {A B : List Declared} → BecomeAll A B no_trees no_trees
      all_more : {A B : List Declared} {t t' : TreeOf Name} {ts ts' : TreesOf Name} → Becomes A B t t' → BecomeAll A B ts ts' → BecomeAll A B (more_trees t ts) (more_trees t' ts')

    -- messages of a cascade
    pub data BecomeMessages : List Declared → List Declared → MessagesOf Name → MessagesOf Name → Type 0 where
      messages_none : {A B : List Declared} → BecomeMessages A B no_messages no_messages
      messages_more : {A B : List Declared} {args args' : TreesOf Name} {ms ms' : MessagesOf Name} (s : Name) → c.sends s → BecomeAll A B args args' → BecomeMessages A B ms ms' → BecomeMessages A B (more_messages s args ms) (more_messages s args' ms')

    -- statements
    pub data BecomeLines : List Declared → List Declared → StatementsOf Name → StatementsOf Name → Type 0 where
      lines_none : {A B : List Declared} → BecomeLines A B no_statements no_statements
      lines_more : {A B : List Declared} {t t' : TreeOf Name} {ss ss' : StatementsOf Name} (n n' : Notes) → Becomes A B t t' → BecomeLines A B ss ss' → BecomeLines A B (more_statements n t ss) (more_statements n' t' ss')
