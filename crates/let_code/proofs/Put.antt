-- Statements that are put into a list, and assignments as statements.
use Rattle.std.proofs.Common.{◌≡◌, ℕ, zero, suc, ◌+◌, ◌<◌, ◌≤◌, Bool, true, false, cond, List, [], ◌∷◌, ◌++◌, length, take, drop, min, Option, None, Some, option_map, slice_get, refl, sym, ap, ◌∙◌, arith}
use Rattle.std.specs.Prelude.{◌==◌, if◌then◌else◌}
use Rattle.std.specs.List.{insert}
use Rattle.std.specs.Option.{option_and_then}
use Rattle.std.proofs.lemmas.Bool.{eq-eqb}
use Rattle.std.proofs.lemmas.List.{take_at, take_min, drop_min, length_push}
use Rattle.tree_model.specs.Tree.{TreeOf, var, assign, StatementsOf, no_statements, more_statements, SequenceOf, MethodOf}
use Rattle.tree_model.specs.Nodes.{Placed}
use Rattle.tree_model.specs.Normal.{normal}
use Rattle.tree_model.specs.Path.{part_in, method_replaced}
use Rattle.scope_model.specs.FreeNames.{take_statements, drop_statements}
use Rattle.st_tree.specs.View.{statements_of}
use Rattle.st_tree.specs.declared.tree.Statement.{Statement}
use Rattle.command_model.specs.Asked.{AskedOf}
use Rattle.command_model.specs.Places.{innermost, sequence_round, statement_round}
use Rattle.command_model.specs.Sequences.{joined, single, put_in, sequence_changed}
use Rattle.command_model.specs.Temporaries.{LetOf, temporary_extracted}
use Rattle.let_code.specs.Uses.{let_at}

-- a statement before the one of a number
in-place : (k : ℕ) (ss : List Statement) (x : Statement) → statements_of (take k ss ++ x ∷ drop k ss) ≡ joined (take_statements k (statements_of ss)) (more_statements x.comments x.node (drop_statements k (statements_of ss)))
in-place zero ss x = refl
in-place (suc k) [] x = refl
in-place (suc k) (s ∷ ss) x = ap (λ (rest : StatementsOf ℕ). more_statements s.comments s.node rest) (in-place k ss x)

pub statement-in : (ss : List Statement) (k at n : ℕ) (x : Statement) → at ≡ min k n → n ≡ length ss
    → statements_of (insert ss at x) ≡ joined (take_statements k (statements_of ss)) (more_statements x.comments x.node (drop_statements k (statements_of ss)))
statement-in ss k at n x is long =
    let same : at ≡ min k (length ss) = is ∙ ap (min k) long in
    ap (λ (j : ℕ). statements_of (insert ss j x)) same
    ∙ (λ j. statements_of (take_min k ss j ++ x ∷ drop_min k ss j))
    ∙ in-place k ss x

-- the last of steps
last-step : (before : List ℕ) (last : ℕ) → slice_get (before ++ last ∷ []) (length before) ≡ Some last
last-step [] last = refl
last-step (k ∷ ks) last = last-step ks last

-- an assignment at the end of a path
pub let-there : (path before : List ℕ) (last n scope : ℕ) (t : TreeOf ℕ) → path ≡ before ++ last ∷ [] → length before ≡ scope → let_at (path, assign n t) scope ≡ Some (record { sequence = before; number = last; value = t })
let-there path before last n scope t is ends =
    (λ j. let_at (is j, assign n t) (sym ends j))
    ∙ ap (λ (b : Bool). if b then option_map (λ (k : ℕ). made k (take (length before) (before ++ last ∷ []))) (slice_get (before ++ last ∷ []) (length before)) else None)
    (eq-eqb (length (before ++ last ∷ [])) (suc (length before)) (omega (arith, length_push before last)))
    ∙ (λ j. option_map (λ (k : ℕ). made k (take_at before (last ∷ []) (length before) refl j)) (last-step before last j))
  where
    made : ℕ → List ℕ → LetOf ℕ
    made k q = record { sequence = q; number = k; value = t }

-- it is not one of a sequence to which another number of steps leads
pub let-elsewhere : (path : List ℕ) (n scope : ℕ) (t : TreeOf ℕ) → (length path == suc scope) ≡ false → let_at (path, assign n t) scope ≡ None
let-elsewhere path n scope t other = ap (λ (b : Bool). if b then option_map (λ (k : ℕ). record { sequence = take scope path; number = k; value = t }) (slice_get path scope) else None) other

-- the method in which a temporary stands in place of an expression, by that and the number of its statement
abbrev pub made : MethodOf ℕ → List ℕ → ℕ → TreeOf ℕ → ℕ → MethodOf ℕ
made m path x t k =
    sequence_changed (λ (b : SequenceOf ℕ). let c : SequenceOf ℕ = put_in k 0 (single (assign x t)) b in record c { temporaries = c.temporaries ++ x ∷ [] }) (sequence_round m path)
    (method_replaced m path (var x))

module _ (a : AskedOf ℕ) (m : MethodOf ℕ) (path : List ℕ) (x : ℕ) where
  abbrev given : Option (TreeOf ℕ) → Option ℕ → Option (MethodOf ℕ)
  given o q = option_and_then (λ (t : TreeOf ℕ). option_map (made m path x t) q) o

  pub extracted : (t : TreeOf ℕ) (k : ℕ) (final : MethodOf ℕ) → part_in m.body path ≡ Some t → statement_round m path ≡ Some k → final ≡ normal (made m path x t k) → Some final ≡ option_map normal (temporary_extracted a m path x)
  extracted t k final there step is = ap Some is ∙ (λ j. option_map normal (given (sym there j) (sym step j)))
