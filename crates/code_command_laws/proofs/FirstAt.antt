-- What the conditions of a part that becomes a temporary say of its statement.
use Rattle.std.proofs.Common.{◌≡◌, ℕ, suc, List, [], ◌∷◌, ◌++◌, length, take, drop, Bool, true, false, not, ◌&&◌, Some, option_and_then, option_map, refl, sym, ap, ◌∙◌, subst}
use Rattle.std.specs.Prelude.{unwrap_or}
use Rattle.std.specs.Option.{option_map_or}
use Rattle.tree_model.specs.Tree.{TreeOf, SequenceOf}
use Rattle.tree_model.specs.Path.{nth, statement_trees, part_at, part_in}
use Rattle.tree_model.proofs.Parts.{part_at-append}
use Rattle.scope_model.specs.declared.local.ControlForm.{ControlForm}
use Rattle.scope_model.specs.Control.{is_closure_at, steps_in_place}
use Rattle.image_model.specs.Image.{EntryOf, ImageOf}
use Rattle.command_model.specs.Asked.{AskedOf}
use Rattle.command_model.specs.Parts.{Expression}
use Rattle.command_model.specs.Places.{innermost, is_return, is_closure_in, is_in_place}
use Rattle.command_model.specs.SameMethods.{is_super_node}
use Rattle.command_model.specs.PartConditions.{is_part, is_first_evaluated}
use Rattle.code_command_laws.specs.Before.{is_plain_before}
use Rattle.code_command_laws.specs.Round.{IsOpen, InBlock, this_block, block_below}
use Rattle.code_command_laws.proofs.PartRound.{block-there, statement-there, body-innermost, body-part, block-innermost, block-part}

-- the beginning of a path with the step behind it, and what is left
take-through : (js : List ℕ) (k : ℕ) (ks : List ℕ) → take (suc (length js)) (js ++ k ∷ ks) ≡ js ++ k ∷ []
take-through [] k ks = refl
take-through (j ∷ js) k ks = ap (λ l. j ∷ l) (take-through js k ks)

drop-through : (js : List ℕ) (k : ℕ) (ks : List ℕ) → drop (suc (length js)) (js ++ k ∷ ks) ≡ ks
drop-through [] k ks = refl
drop-through (j ∷ js) k ks = drop-through js k ks

-- both of two hold
left-true : (b c : Bool) → (b && c) ≡ true → b ≡ true
left-true true c e = refl
left-true false c e = e

right-true : (b c : Bool) → (b && c) ≡ true → c ≡ true
right-true true c e = e
right-true false c e = cc

not-false : (b : Bool) → not b ≡ true → b ≡ false
not-false true e = cc
not-false false e = refl

module _ {N : Type 0} (form : N → ControlForm) where
  -- whether a path leads to a closure is told from the innermost block on
  closure-inside : {part : TreeOf N} {ps : List N} {b : SequenceOf N} {k : ℕ} {s : TreeOf N} {ks : List ℕ} {t : TreeOf N} {js : List ℕ} (flag : Bool) → InBlock part ps b k s ks t js → is_closure_at form flag t (js ++ k ∷ ks) ≡ is_closure_at form false s ks
  closure-inside {ks = ks} flag (this_block e p) = ap (λ o. unwrap_or (option_map (λ c. is_closure_at form false c ks) o) false) e
  closure-inside {k = k} {ks = ks} flag (block_below {t = t} {j = j} {js = js} e p) =
      ap (λ o. unwrap_or (option_map (λ c. is_closure_at form (steps_in_place form t j) c (js ++ k ∷ ks)) o) false) e ∙ closure-inside (steps_in_place form t j) p

module _ {N : Type 0} (a : AskedOf N) (i : ImageOf N) (m : EntryOf N) (x : N) (part : TreeOf N) where
  -- what `PartIs` says of a part that is there
  pub part-is : (path : List ℕ) → part_in m.tree.body path ≡ Some part → is_part a m.tree (Expression path) ≡ true → (is_super_node a.is_super part ≡ false) × (is_in_place a.words.tests.form m.tree.body path ≡ false)
  part-is path e h =
      let k : (not (is_return part) && (not (is_super_node a.is_super part) && not (is_in_place a.words.tests.form m.tree.body path))) ≡ true =
      subst (λ o. option_map_or (λ t. not (is_return t) && (not (is_super_node a.is_super t) && not (is_in_place a.words.tests.form m.tree.body path))) o false ≡ true) e h in
      let both = right-true (not (is_return part)) _ k in
      (not-false _ (left-true (not (is_super_node a.is_super part)) _ both), not-false _ (right-true (not (is_super_node a.is_super part)) _ both))

  -- what `FirstEvaluated` says of a statement
  first-in : (path : List ℕ) (s : TreeOf N) (ks : List ℕ) → part_in m.tree.body path ≡ Some part → part_in m.tree.body (take (suc (innermost m.tree path)) path) ≡ Some s → drop (suc (innermost m.tree path)) path ≡ ks →
      is_first_evaluated a i m (Expression path) ≡ true → is_plain_before a i m path s ks ≡ true
  first-in path s ks e f g h =
      let k : (not (is_return part) && option_map_or (λ u. is_plain_before a i m path u (drop (suc (innermost m.tree path)) path)) (part_in m.tree.body (take (suc (innermost m.tree path)) path)) false) ≡ true =
      subst (λ o. option_map_or (λ t. not (is_return t) && option_map_or (λ u. is_plain_before a i m path u (drop (suc (innermost m.tree path)) path)) (part_in m.tree.body (take (suc (innermost m.tree path)) path)) false) o false ≡ true) e h in
      sym (λ j. option_map_or (λ u. is_plain_before a i m path u (g j)) (f j) false) ∙ right-true (not (is_return part)) _ k

  -- where the statement is one of the body
  module _ (k : ℕ) (s : TreeOf N) (ks : List ℕ) (e : nth (statement_trees m.tree.body.statements) k ≡ Some s) (p : IsOpen part s ks) where
    body-statement : part_in m.tree.body (take 1 (k ∷ ks)) ≡ Some s
    body-statement = ap (option_and_then (λ c. part_at c [])) e

    pub body-first : is_first_evaluated a i m (Expression (k ∷ ks)) ≡ true → is_plain_before a i m (k ∷ ks) s ks ≡ true
    body-first h =
        let inner = body-innermost a m.tree x part k s ks e p in
        first-in (k ∷ ks) s ks (body-part a m.tree x part k s ks e p) (ap (λ n. part_in m.tree.body (take (suc n) (k ∷ ks))) inner ∙ body-statement) (ap (λ n. drop (suc n) (k ∷ ks)) inner) h

    pub body-closure : is_closure_in a.words.tests.form m.tree.body (k ∷ ks) ≡ is_closure_at a.words.tests.form false s ks
    body-closure = ap (λ o. option_map_or (λ t. is_closure_at a.words.tests.form false t ks) o false) e

  -- where it is one of a block
  module _ (j : ℕ) (c : TreeOf N) (e : nth (statement_trees m.tree.body.statements) j ≡ Some c) (ps : List N) (b : SequenceOf N) (k : ℕ) (s : TreeOf N) (ks js : List ℕ) (p : InBlock part ps b k s ks c js) where
    abbrev whole : List ℕ
    whole = j ∷ js ++ k ∷ ks

    block-statement : part_in m.tree.body (j ∷ js ++ k ∷ []) ≡ Some s
    block-statement =
        ap (option_and_then (λ z. part_at z (js ++ k ∷ []))) e ∙ part_at-append c js (k ∷ []) ∙ ap (option_and_then (λ z. part_at z (k ∷ []))) (block-there p)
        ∙ ap (option_and_then (λ z. part_at z [])) (statement-there p).0

    pub block-first : is_first_evaluated a i m (Expression whole) ≡ true → is_plain_before a i m whole s ks ≡ true
    block-first h =
        let inner = block-innermost a m.tree x part j c e ps b k s ks js p in
        first-in whole s ks (block-part a m.tree x part j c e ps b k s ks js p) (ap (λ n. part_in m.tree.body (take (suc n) whole)) inner ∙ ap (part_in m.tree.body) (take-through (j ∷ js) k ks) ∙ block-statement)
        (ap (λ n. drop (suc n) whole) inner ∙ drop-through (j ∷ js) k ks) h

    pub block-closure : is_closure_in a.words.tests.form m.tree.body whole ≡ is_closure_at a.words.tests.form false s ks
    block-closure = ap (λ o. option_map_or (λ t. is_closure_at a.words.tests.form false t (js ++ k ∷ ks)) o false) e ∙ closure-inside a.words.tests.form false p
