use Rattle.std.proofs.Common.{◌≡◌, ℕ, List, [], ◌++◌, Option, Some, None, refl, sym, ap, ◌∙◌, subst}
use Rattle.std.specs.Prelude.{false, option_map}
use Rattle.std.specs.Option.{option_or}
use Rattle.tree_model.specs.Tree.{MethodOf}
use Rattle.tree_model.specs.Path.{statement_trees}
use Rattle.scope_model.specs.Scope.{method_scope, doit_scope}
use Rattle.run_model.specs.Runs.{doit_class}
use Rattle.grammar_model.specs.Terminal.{Text}
use Rattle.grammar_model.specs.Spanned.{Declared, SpannedSequence, SpannedMethod, names_of, plain_sequence}
use Rattle.grammar_model.specs.Checks.{Fault, DuplicateName, AssignsFixed, first_repeat, duplicate_in_statements, known_of, fixed_in_statements, sequence_fault}
use Rattle.assignment_laws.proofs.AssignedNames.{first-none, second-none, EachAssignsFreely, statements-free}
use Rattle.assignment_laws.proofs.ScopesFree.{scope-free, normal-trees, normal-temporaries, normal-arguments}
use Rattle.assignment_laws.proofs.laws.law_assigned_names.Goals as goal

-- no place where there is no fault
no-place : (kind : ℕ → Fault) (o : Option ℕ) → option_map kind o ≡ None → o ≡ None
no-place kind None e = refl
no-place kind (Some k) e = absurd (cc)

-- a sequence without a fault
sound-sequence : (ps : List Declared) (s : SpannedSequence) → sequence_fault ps s ≡ None → EachAssignsFreely (known_of ps s.temporaries) (statement_trees (plain_sequence s).statements)
sound-sequence ps s e =
    let rest = second-none (option_map DuplicateName (option_or (first_repeat [] (ps ++ s.temporaries)) (duplicate_in_statements s.statements))) _ e in
    let fixed = first-none (option_map AssignsFixed (fixed_in_statements (known_of ps s.temporaries) s.statements)) _ rest in
    statements-free s.statements (known_of ps s.temporaries) (no-place AssignsFixed _ fixed)

-- the method before its comments have their normal form
abbrev raw : SpannedMethod → MethodOf Text
raw m = record { selector = m.selector; arguments = names_of m.arguments; head = m.opening; primitive = m.primitive; body = plain_sequence m.body }

pub returns-clause-method : goal.returns-clause-method
returns-clause-method g = λ d kernel i t m spells path n u e.
    let s = spells.spanned in
    let free : EachAssignsFreely (known_of s.arguments s.body.temporaries) (statement_trees m.tree.body.statements) =
    subst (EachAssignsFreely (known_of s.arguments s.body.temporaries)) (sym (ap (λ (x : MethodOf Text). statement_trees x.body.statements) spells.same ∙ normal-trees (names_of s.body.temporaries) (raw s))) (sound-sequence s.arguments s.body spells.spells.sound) in
    scope-free (method_scope m.tree) s.arguments s.body.temporaries
    (ap (λ (x : MethodOf Text). x.arguments) spells.same ∙ normal-arguments (names_of s.body.temporaries) (raw s))
    (ap (λ (x : MethodOf Text). x.body.temporaries) spells.same ∙ normal-temporaries (names_of s.body.temporaries) (raw s)) free i m.class m.meta path n u e

pub returns-clause-doit : goal.returns-clause-doit
returns-clause-doit g = λ d i t x spells path n u e.
    let s = spells.spanned in
    let free : EachAssignsFreely (known_of [] s.temporaries) (statement_trees x.body.statements) =
    subst (EachAssignsFreely (known_of [] s.temporaries)) (sym (ap (λ b. statement_trees b.statements) spells.same)) (sound-sequence [] s spells.spells.sound) in
    scope-free (doit_scope x.body) [] s.temporaries refl (ap (λ b. b.temporaries) spells.same) free i (doit_class i) false path n u e
