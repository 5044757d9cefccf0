-- What is passed for all arguments.
use Rattle.std.proofs.Common.{◌≡◌, ℕ, suc, ◌+◌, Bool, true, false, cond, ◌&&◌, ◌||◌, List, [], ◌∷◌, map, Option, refl, sym, ap, ◌∙◌, arith, add-zero}
use Rattle.std.specs.Prelude.{nat_eq, filter}
use Rattle.std.specs.List.{list_any, list_all, enumerate_from}
use Rattle.std.specs.Option.{option_map_or}
use Rattle.tree_model.specs.Tree.{TreeOf, var, literal, send, cascade, assign, block, brace, return, TreesOf, no_trees, more_trees, MethodOf}
use Rattle.tree_model.specs.Path.{nth}
use Rattle.tree_model.specs.Nodes.{Placed, nodes}
use Rattle.scope_model.specs.NameTests.{is_pseudo_in, form_in}
use Rattle.scope_model.specs.Scope.{local_in}
use Rattle.command_model.specs.ParameterConditions.{formal_reads}
use Rattle.command_model.specs.Places.{is_formal, stands_in_closure}
use Rattle.commands.specs.Views.{asked_by}
use Rattle.inline_questions.specs.Actuals.{is_enclosed, all_passed}

module _ {N : Type 0} (test : N → TreeOf N → Bool) where
  -- arguments by their numbers, from k on
  from-number : (xs : List N) (ts : TreesOf N) (f : ℕ → Option (TreeOf N)) (k : ℕ) → ((j : ℕ) → f (k + j) ≡ nth ts j)
      → all_passed test xs ts ≡ list_all (λ (x : ℕ × N). option_map_or (test x.1) (f x.0) false) (enumerate_from k xs)
  from-number [] ts f k same = refl
  from-number (x ∷ xs) no_trees f k same = sym (ap (λ (o : Option (TreeOf N)). option_map_or (test x) o false && list_all (λ (y : ℕ × N). option_map_or (test y.1) (f y.0) false) (enumerate_from (k + 1) xs)) (ap f (sym (add-zero k)) ∙ same 0))
  from-number (x ∷ xs) (more_trees t ts) f k same =
      ap (λ (b : Bool). test x t && b) (from-number xs ts f (k + 1) (λ j. ap f (moved j) ∙ same (suc j)))
      ∙ sym (ap (λ (o : Option (TreeOf N)). option_map_or (test x) o false && list_all (λ (y : ℕ × N). option_map_or (test y.1) (f y.0) false) (enumerate_from (k + 1) xs)) (ap f (sym (add-zero k)) ∙ same 0))
    where
      moved : (j : ℕ) → k + 1 + j ≡ k + suc j
      moved j = omega arith

  pub by-number : (xs : List N) (ts : TreesOf N) → all_passed test xs ts ≡ list_all (λ (x : ℕ × N). option_map_or (test x.1) (nth ts x.0) false) (enumerate_from 0 xs)
  by-number xs ts = from-number xs ts (nth ts) 0 (λ j. ap (nth ts) (omega arith))

module _ (names : List (List ℕ)) (m : MethodOf ℕ) (x : ℕ) where
  -- whether a node reads the argument
  abbrev reads_formal : Placed ℕ → Bool
  reads_formal (path, var n) = nat_eq x n && is_formal (local_in nat_eq (is_pseudo_in names) m path n)
  reads_formal (path, t) = false

  abbrev enclosed : List ℕ → Bool
  enclosed path = stands_in_closure (form_in names) m 1 path

  same-read : (e : Placed ℕ) → is_enclosed names m x e ≡ (reads_formal e && enclosed e.0)
  same-read (path, var n) = refl
  same-read (path, literal l) = refl
  same-read (path, send r s args) = refl
  same-read (path, cascade r ms) = refl
  same-read (path, assign n t) = refl
  same-read (path, block ps ts ss d) = refl
  same-read (path, brace ts) = refl
  same-read (path, return t) = refl

  pub read-enclosed : list_any (is_enclosed names m x) (nodes m.body) ≡ list_any (stands_in_closure (form_in names) m 1) (formal_reads (asked_by names) m x)
  read-enclosed = by (nodes m.body)
    where
      one : (b : Bool) (e : Placed ℕ) (es : List (Placed ℕ)) → list_any (is_enclosed names m x) es ≡ list_any enclosed (map (λ (d : Placed ℕ). d.0) (filter reads_formal es))
          → ((b && enclosed e.0) || list_any (is_enclosed names m x) es) ≡ list_any enclosed (map (λ (d : Placed ℕ). d.0) (cond b (e ∷ filter reads_formal es) (filter reads_formal es)))
      one true e es rest = ap (λ (c : Bool). enclosed e.0 || c) rest
      one false e es rest = rest

      by : (es : List (Placed ℕ)) → list_any (is_enclosed names m x) es ≡ list_any enclosed (map (λ (d : Placed ℕ). d.0) (filter reads_formal es))
      by [] = refl
      by (e ∷ es) = ap (λ (b : Bool). b || list_any (is_enclosed names m x) es) (same-read e) ∙ one (reads_formal e) e es (by es)
