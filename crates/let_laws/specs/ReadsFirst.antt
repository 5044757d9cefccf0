-- Code that reads a name before it does anything else but look at what is always the same, and the code with an expression there.
use Rattle.std.specs.Prelude.{◌≡◌, ℕ, zero, suc, false, List}
use Rattle.rb_base.specs.Names.{text_eq}
use Rattle.tree_model.specs.Tree.{word, TreeOf, var, literal, send, cascade, assign, block, brace, return, TreesOf, no_trees, more_trees, MessagesOf, no_messages, more_messages, StatementsOf, no_statements, more_statements}
use Rattle.scope_model.specs.Control.{is_control}
use Rattle.scope_model.specs.SpecialNames.{control_form}
use Rattle.image_model.specs.Means.{MeaningOf}
use Rattle.run_model.specs.Values.{Name}
use Rattle.resolved_model.specs.Environments.{Declared}
use Rattle.unfolded_calls.specs.Unfolding.{StandIn}
use Rattle.unfolded_places.specs.Becoming.{MakesNoControl}
use Rattle.unfolded_places.specs.Inlining.{PlainActual}

-- no node of a tree reads or assigns the name
abbrev mutual
  pub IsWithout : Name → TreeOf Name → Type 0
  IsWithout x (var n) = text_eq n x ≡ false
  IsWithout x (literal l) = Unit {0}
  IsWithout x (send r s args) = IsWithout x r × AreWithout x args
  IsWithout x (cascade r ms) = IsWithout x r × MessagesWithout x ms
  IsWithout x (assign n t) = (text_eq n x ≡ false) × IsWithout x t
  IsWithout x (block ps ts ss e) = LinesWithout x ss
  IsWithout x (brace ts) = AreWithout x ts
  IsWithout x (return t) = IsWithout x t

  pub AreWithout : Name → TreesOf Name → Type 0
  AreWithout x no_trees = Unit {0}
  AreWithout x (more_trees t ts) = IsWithout x t × AreWithout x ts

  pub MessagesWithout : Name → MessagesOf Name → Type 0
  MessagesWithout x no_messages = Unit {0}
  MessagesWithout x (more_messages s args ms) = AreWithout x args × MessagesWithout x ms

  pub LinesWithout : Name → StatementsOf Name → Type 0
  LinesWithout x no_statements = Unit {0}
  LinesWithout x (more_statements c t ss) = IsWithout x t × LinesWithout x ss

-- f is what names mean outside all scopes; around these declarations, of which none is the name x
module _ (f : Name → MeaningOf Name) (around : List Declared) (x : Name) where
  -- a node that is always the same
  pub data IsSimple : TreeOf Name → Type 0 where
    simple_plain : (t : TreeOf Name) (a : StandIn) → PlainActual f around t a → IsWithout x t → IsSimple t
    simple_literal : (n : Name) → IsSimple (literal (word n))

-- and the expression e stands where x was read
module _ (f : Name → MeaningOf Name) (around : List Declared) (x : Name) (e : TreeOf Name) where
  mutual
    -- a node that reads x first, so many steps down, and the node with e there
    pub data ReadsFirst : ℕ → TreeOf Name → TreeOf Name → Type 0 where
      reads_here : ReadsFirst zero (var x) e
      by_receiver : {n : ℕ} {r r' : TreeOf Name} (s : Name) (args : TreesOf Name) → MakesNoControl (send r s args) (send r' s args) → AreWithout x args → ReadsFirst n r r' → ReadsFirst (suc n) (send r s args) (send r' s args)
      by_argument : {n : ℕ} {args args' : TreesOf Name} (r : TreeOf Name) (s : Name) → IsSimple f around x r → is_control control_form (send r s args) ≡ false → is_control control_form (send r s args') ≡ false →
          ReadsFirstAmong n args args' → ReadsFirst (suc n) (send r s args) (send r s args')
      by_cascade : {n : ℕ} {r r' : TreeOf Name} (ms : MessagesOf Name) → MessagesWithout x ms → ReadsFirst n r r' → ReadsFirst (suc n) (cascade r ms) (cascade r' ms)
      by_first_message : {n : ℕ} {args args' : TreesOf Name} (r : TreeOf Name) (s : Name) (ms : MessagesOf Name) → IsSimple f around x r → MessagesWithout x ms →
          ReadsFirstAmong n args args' → ReadsFirst (suc n) (cascade r (more_messages s args ms)) (cascade r (more_messages s args' ms))
      by_assignment : {n : ℕ} {t t' : TreeOf Name} (y : Name) → text_eq y x ≡ false → ReadsFirst n t t' → ReadsFirst (suc n) (assign y t) (assign y t')
      by_item : {n : ℕ} {ts ts' : TreesOf Name} → ReadsFirstAmong n ts ts' → ReadsFirst (suc n) (brace ts) (brace ts')
      by_return : {n : ℕ} {t t' : TreeOf Name} → ReadsFirst n t t' → ReadsFirst (suc n) (return t) (return t')

    -- nodes of which one does, and those before it are always the same
    pub data ReadsFirstAmong : ℕ → TreesOf Name → TreesOf Name → Type 0 where
      by_this : {n : ℕ} {t t' : TreeOf Name} (ts : TreesOf Name) → AreWithout x ts → ReadsFirst n t t' → ReadsFirstAmong n (more_trees t ts) (more_trees t' ts)
      by_later : {n : ℕ} {ts ts' : TreesOf Name} (t : TreeOf Name) → IsSimple f around x t → ReadsFirstAmong n ts ts' → ReadsFirstAmong n (more_trees t ts) (more_trees t ts')
