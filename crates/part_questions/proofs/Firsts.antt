-- The first so many of trees, and of the steps of a path.
use Rattle.std.proofs.Common.{◌≡◌, ℕ, zero, suc, ◌<◌, ◌≤◌, Bool, true, false, not, ◌&&◌, leb, List, [], ◌∷◌, length, take, drop, slice_get, None, Some, refl, sym, ap, ◌∙◌, arith}
use Rattle.std.specs.Option.{option_map_or}
use Rattle.std.proofs.Math.Dec.{leb-suc-suc}
use Rattle.tree_model.specs.Tree.{TreeOf, cascade, TreesOf, no_trees, more_trees, trees_of}
use Rattle.tree_model.specs.Path.{nth, count, part_in}
use Rattle.image_model.specs.Image.{EntryOf, ImageOf}
use Rattle.st_tree.specs.declared.tree.Message.{Message}
use Rattle.st_tree.specs.View.{messages_of}
use Rattle.st_tree.proofs.Places.{count-trees_of}
use Rattle.command_model.specs.Asked.{AskedOf}
use Rattle.command_model.specs.Parts.{Expression}
use Rattle.command_model.specs.Places.{is_return, innermost}
use Rattle.command_model.specs.Plain.{is_plain}
use Rattle.command_model.specs.PartConditions.{is_first_evaluated}
use Rattle.part_questions.specs.Before.{is_before_sends, are_first_plain, is_plain_before}

and-false : (b : Bool) → (b && false) ≡ false
and-false true = refl
and-false false = refl

module _ (a : AskedOf ℕ) (i : ImageOf ℕ) (m : EntryOf ℕ) (path : List ℕ) where
  -- a tree of a number is plain, or there is none
  abbrev IsPlainAt : TreesOf ℕ → ℕ → Type 0
  IsPlainAt ts j = option_map_or (is_plain a i m path) (nth ts j) true ≡ true

  -- each is plain
  pub first-all : (k : ℕ) (ts : TreesOf ℕ) → ((j : ℕ) → j < k → IsPlainAt ts j) → are_first_plain a i m path k ts ≡ true
  first-all zero ts h = refl
  first-all (suc k) no_trees h = refl
  first-all (suc k) (more_trees t ts) h =
      (λ j. h 0 (omega arith) j && are_first_plain a i m path k ts) ∙ first-all k ts (λ j g. h (suc j) (omega arith))

  -- there are not so many, and each is plain
  pub first-short : (k j : ℕ) (ts : TreesOf ℕ) → nth ts j ≡ None → ((n : ℕ) → n < j → IsPlainAt ts n) → are_first_plain a i m path k ts ≡ true
  first-short zero j ts e h = refl
  first-short (suc k) j no_trees e h = refl
  first-short (suc k) zero (more_trees t ts) e h = cc
  first-short (suc k) (suc j) (more_trees t ts) e h =
      (λ n. h 0 (omega arith) n && are_first_plain a i m path k ts) ∙ first-short k j ts e (λ n g. h (suc n) (omega arith))

  -- one is not
  pub first-fails : (k j : ℕ) (ts : TreesOf ℕ) (t : TreeOf ℕ) → j < k → nth ts j ≡ Some t → is_plain a i m path t ≡ false → are_first_plain a i m path k ts ≡ false
  first-fails zero j ts t h e p = absurd (omega arith)
  first-fails (suc k) j no_trees t h e p = cc
  first-fails (suc k) zero (more_trees u ts) t h e p =
      let same : u ≡ t = cc in (λ n. is_plain a i m path (same n) && are_first_plain a i m path k ts) ∙ (λ n. p n && are_first_plain a i m path k ts)
  first-fails (suc k) (suc j) (more_trees u ts) t h e p =
      ap (λ (b : Bool). is_plain a i m path u && b) (first-fails k j ts t (omega arith) e p) ∙ and-false (is_plain a i m path u)

  -- the innermost statement round an expression, by the steps that lead to it and those behind them
  pub first-evaluated : (node statement : TreeOf ℕ) (way rest : List ℕ) → Some node ≡ part_in m.tree.body path → is_return node ≡ false → way ≡ take (suc (innermost m.tree path)) path
      → rest ≡ drop (suc (innermost m.tree path)) path → Some statement ≡ part_in m.tree.body way → is_plain_before a i m path statement rest ≡ is_first_evaluated a i m (Expression path)
  first-evaluated node statement way rest e f g h k =
      (λ j. is_plain_before a i m path statement (h j))
      ∙ (λ j. not (sym f j) && option_map_or (λ u. is_plain_before a i m path u (drop (suc (innermost m.tree path)) path)) ((k ∙ (λ n. part_in m.tree.body (g n))) j) false)
      ∙ (λ j. option_map_or (λ t. not (is_return t) && option_map_or (λ u. is_plain_before a i m path u (drop (suc (innermost m.tree path)) path)) (part_in m.tree.body (take (suc (innermost m.tree path)) path)) false) (e j) false)

-- a step into a cascade whose first message is this one
pub before-first : (ms : List Message) (m : Message) (r : TreeOf ℕ) (k n : ℕ) → Some m ≡ slice_get ms 0 → n ≡ length m.arguments → leb k n ≡ is_before_sends (cascade r (messages_of ms)) k
before-first [] m r k n e l = cc
before-first (x ∷ ms) m r k n e l =
    let same : m ≡ x = cc in
    let size : n ≡ count (trees_of x.arguments) = l ∙ ap (λ (y : Message). length y.arguments) same ∙ sym (count-trees_of x.arguments) in
    (λ j. leb k (size j)) ∙ sym (leb-suc-suc k (count (trees_of x.arguments)))

-- the steps to a statement, where the path has no more of them
pub taken_all : (n k : ℕ) (xs : List ℕ) → n ≡ length xs → n ≤ k → take n xs ≡ take (suc k) xs
taken_all zero k [] e h = refl
taken_all zero k (x ∷ xs) e h = absurd (omega (arith, e))
taken_all (suc n) k [] e h = absurd (omega (arith, e))
taken_all (suc n) zero (x ∷ xs) e h = absurd (omega arith)
taken_all (suc n) (suc k) (x ∷ xs) e h = ap (λ (ys : List ℕ). x ∷ ys) (taken_all n k xs (omega (arith, e)) (omega arith))

pub dropped_all : (n k : ℕ) (xs : List ℕ) → n ≡ length xs → n ≤ k → drop n xs ≡ drop (suc k) xs
dropped_all zero k [] e h = refl
dropped_all zero k (x ∷ xs) e h = absurd (omega (arith, e))
dropped_all (suc n) k [] e h = absurd (omega (arith, e))
dropped_all (suc n) zero (x ∷ xs) e h = absurd (omega arith)
dropped_all (suc n) (suc k) (x ∷ xs) e h = dropped_all n k xs (omega (arith, e)) (omega arith)
