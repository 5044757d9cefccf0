-- Where a method reads an argument.
use Rattle.std.proofs.Common.{◌≡◌, ℕ, ◌&&◌, Bool, true, false, not, List, refl, sym, ap, ◌∙◌}
use Rattle.std.specs.Prelude.{nat_eq, filter}
use Rattle.std.specs.List.{list_any}
use Rattle.std.proofs.lemmas.Bool.{eqb-true}
use Rattle.tree_model.specs.Tree.{var, literal, send, cascade, assign, block, brace, return, MethodOf}
use Rattle.tree_model.specs.Nodes.{Placed, nodes}
use Rattle.scope_model.specs.Control.{is_empty}
use Rattle.scope_model.specs.NameTests.{is_pseudo_in}
use Rattle.scope_model.specs.Scope.{local_in}
use Rattle.command_model.specs.Places.{is_formal}
use Rattle.command_model.specs.ParameterConditions.{formal_reads}
use Rattle.commands.specs.Views.{asked_by}
use Rattle.use_questions.proofs.Tests.{alike}
use Rattle.parameter_questions.specs.Found.{reads}
use Rattle.parameter_questions.proofs.Kept.{any-filtered, any-mapped_kept}

module _ (names : List (List ℕ)) (m : MethodOf ℕ) (x : ℕ) where
  -- whether a name is an argument of the method itself
  abbrev pub formal_at : List ℕ → ℕ → Bool
  formal_at path n = is_formal (local_in nat_eq (is_pseudo_in names) m path n)

  -- whether a node reads the argument
  abbrev pub reads_formal : Placed ℕ → Bool
  reads_formal (path, var n) = nat_eq x n && is_formal (local_in nat_eq (is_pseudo_in names) m path n)
  reads_formal (path, t) = false

  pub same-read : (e : Placed ℕ) → (reads x e.1 && formal_at e.0 x) ≡ reads_formal e
  same-read (path, var n) = by (nat_eq x n) refl
    where
      by : (b : Bool) → nat_eq x n ≡ b → (b && formal_at path x) ≡ (b && formal_at path n)
      by true e = ap (formal_at path) (eqb-true x n e)
      by false e = refl
  same-read (path, literal l) = refl
  same-read (path, send r s args) = refl
  same-read (path, cascade r ms) = refl
  same-read (path, assign n t) = refl
  same-read (path, block ps ts ss d) = refl
  same-read (path, brace ts) = refl
  same-read (path, return t) = refl

  pub formal-read : list_any (λ (e : Placed ℕ). is_formal (local_in nat_eq (is_pseudo_in names) m e.0 x)) (filter (λ (e : Placed ℕ). reads x e.1) (nodes m.body)) ≡ not (is_empty (formal_reads (asked_by names) m x))
  formal-read =
      any-filtered (λ (e : Placed ℕ). reads x e.1) (λ (e : Placed ℕ). formal_at e.0 x) (nodes m.body)
      ∙ alike (λ (e : Placed ℕ). reads x e.1 && formal_at e.0 x) reads_formal (nodes m.body) same-read
      ∙ sym (any-mapped_kept (λ (e : Placed ℕ). e.0) reads_formal (nodes m.body))
