-- A method to which each of its arguments is passed under its own name.
use Rattle.std.proofs.Common.{◌≡◌, ℕ, List, [], ◌∷◌, map, Bool, true, false, if◌then◌else◌, Some, None, unwrap_or, ap, sym, refl}
use Rattle.tree_model.specs.Tree.{TreeOf, var, literal, send, cascade, assign, block, brace, return, trees_of, MethodOf}
use Rattle.scope_model.specs.Scope.{local_in}
use Rattle.command_model.specs.Asked.{AskedOf}
use Rattle.command_model.specs.Places.{is_formal}
use Rattle.command_model.specs.Inlined.{passed_as, passed_for, filled}
use Rattle.code_command_laws.specs.Folded.{TellsApart}

module _ {N : Type 0} (same : N → N → Bool) (tells : TellsApart same) where
  -- what is passed for a name is that name
  pub passed_as-itself : (xs : List N) (n : N) → unwrap_or (passed_as same xs (trees_of (map (λ x. var x) xs)) n) (var n) ≡ var n
  passed_as-itself [] n = refl
  passed_as-itself (x ∷ xs) n = by (same n x) refl (passed_as-itself xs n)
    where
      by : (b : Bool) → same n x ≡ b → unwrap_or (passed_as same xs (trees_of (map (λ y. var y) xs)) n) (var n) ≡ var n
          → unwrap_or (if b then Some (var x) else passed_as same xs (trees_of (map (λ y. var y) xs)) n) (var n) ≡ var n
      by true e later = ap (λ k. var k) (sym (tells n x e))
      by false e later = later

module _ {N : Type 0} (a : AskedOf N) (tells : TellsApart a.words.tests.same) where
  -- what is passed for a name at a place of a method is that name
  passed_for-itself : (m : MethodOf N) (path : List ℕ) (n : N) → unwrap_or (passed_for a m (trees_of (map (λ x. var x) m.arguments)) path n) (var n) ≡ var n
  passed_for-itself m path n = by (is_formal (local_in a.words.tests.same a.words.tests.is_pseudo m path n))
    where
      by : (b : Bool) → unwrap_or (if b then passed_as a.words.tests.same m.arguments (trees_of (map (λ x. var x) m.arguments)) n else None) (var n) ≡ var n
      by true = passed_as-itself a.words.tests.same tells m.arguments n
      by false = refl

  -- no node changes
  pub filled-itself : (m : MethodOf N) (path : List ℕ) (t : TreeOf N) → filled a m (trees_of (map (λ x. var x) m.arguments)) path t ≡ t
  filled-itself m path (var n) = passed_for-itself m path n
  filled-itself m path (literal l) = refl
  filled-itself m path (send r s args) = refl
  filled-itself m path (cascade r ms) = refl
  filled-itself m path (assign n t) = refl
  filled-itself m path (block ps ts ss e) = refl
  filled-itself m path (brace ts) = refl
  filled-itself m path (return t) = refl
