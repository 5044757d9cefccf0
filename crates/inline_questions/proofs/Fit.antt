-- Bodies that may stand in place of a message, as they are asked for.
use Rattle.std.proofs.Common.{◌≡◌, ℕ, suc, ◌==◌, Bool, true, false, not, ◌&&◌, ◌||◌, List, [], ◌∷◌, ◌++◌, length, refl, sym, ap, ◌∙◌, arith}
use Rattle.std.specs.Prelude.{nat_lt}
use Rattle.std.specs.List.{list_any}
use Rattle.tree_model.specs.Tree.{Notes, TreeOf, more_statements}
use Rattle.tree_model.specs.Nodes.{Placed, nodes}
use Rattle.scope_model.specs.Control.{is_empty}
use Rattle.st_tree.specs.View.{statements_of}
use Rattle.st_tree.specs.declared.tree.Statement.{Statement}
use Rattle.image_model.specs.Image.{EntryOf, ImageOf}
use Rattle.command_model.specs.Asked.{AskedOf}
use Rattle.command_model.specs.Hierarchy.{is_method_of}
use Rattle.command_model.specs.InlineConditions.{is_inlinable}
use Rattle.command_model.specs.Places.{is_return, SendOf}
use Rattle.command_model.specs.SameMethods.{is_super_node}
use Rattle.inline_questions.proofs.Between.{zero-told}
use Rattle.inline_questions.specs.Bound.{is_bound, answers_last, is_fit}

-- a list whose last statement alone may be a return
last-alone : (c : Notes) (t : TreeOf ℕ) (xs : List Statement) (s : Statement)
    → answers_last (more_statements c t (statements_of (xs ++ s ∷ []))) ≡ (not (is_return t) && answers_last (statements_of (xs ++ s ∷ [])))
last-alone c t [] s = refl
last-alone c t (x ∷ xs) s = refl

pub answers-last : (ss before : List Statement) (s : Statement) → ss ≡ before ++ s ∷ [] → not (list_any (λ (x : Statement). is_return x.node) before) ≡ answers_last (statements_of ss)
answers-last ss before s e = by before ∙ sym (ap (λ (xs : List Statement). answers_last (statements_of xs)) e)
  where
    both : (a b : Bool) → not (a || b) ≡ (not a && not b)
    both true b = refl
    both false b = refl

    by : (xs : List Statement) → not (list_any (λ (x : Statement). is_return x.node) xs) ≡ answers_last (statements_of (xs ++ s ∷ []))
    by [] = refl
    by (x ∷ xs) =
        both (is_return x.node) (list_any (λ (y : Statement). is_return y.node) xs)
        ∙ ap (λ b. not (is_return x.node) && b) (by xs)
        ∙ sym (last-alone x.comments x.node xs s)

and-assoc : (p q r : Bool) → ((p && q) && r) ≡ (p && (q && r))
and-assoc true q r = refl
and-assoc false q r = refl

module _ {N : Type 0} where
  -- two tests of nodes at once
  bound-told : (is_super : N → Bool) (same_class : Bool) (xs : List (Placed N))
      → not (list_any (is_bound is_super same_class) xs)
      ≡ (not (list_any (λ (x : Placed N). is_return x.1 && nat_lt 1 (length x.0)) xs) && (not (list_any (λ (x : Placed N). is_super_node is_super x.1) xs) || same_class))
  bound-told is_super same_class [] = refl
  bound-told is_super same_class (x ∷ xs) =
      ap (λ b. not (is_bound is_super same_class x || b)) (twice (list_any (is_bound is_super same_class) xs))
      ∙ ap (λ b. not (is_bound is_super same_class x || not b)) (bound-told is_super same_class xs)
      ∙ by (is_return x.1 && nat_lt 1 (length x.0)) (is_super_node is_super x.1) same_class
      (list_any (λ (y : Placed N). is_return y.1 && nat_lt 1 (length y.0)) xs) (list_any (λ (y : Placed N). is_super_node is_super y.1) xs)
    where
      twice : (b : Bool) → b ≡ not (not b)
      twice true = refl
      twice false = refl

      by : (r u s rs us : Bool) → not ((r || (u && not s)) || not (not rs && (not us || s))) ≡ (not (r || rs) && (not (u || us) || s))
      by true u s rs us = refl
      by false true true true us = refl
      by false true true false true = refl
      by false true true false false = refl
      by false true false true us = refl
      by false true false false us = refl
      by false false s true us = refl
      by false false s false true = by-last s
        where
          by-last : (s : Bool) → not (not (false || s)) ≡ (false || s)
          by-last true = refl
          by-last false = refl
      by false false s false false = refl

  module _ (a : AskedOf N) (i : ImageOf N) (c : N) (m : EntryOf N) (e : SendOf N) (target : EntryOf N) where
    abbrev fits : Bool
    fits = is_fit m.tree e.path target.tree.body.statements

    abbrev bound : Bool
    bound = list_any (is_bound a.is_super (is_method_of a.words.tests.same c target)) (nodes target.tree.body)

    -- the whole question, in the order in which it is asked
    pub told : (not target.kernel && (is_empty target.tree.body.temporaries && (not bound && fits))) ≡ is_inlinable a i c m e target
    told =
        ap (λ b. not target.kernel && (is_empty target.tree.body.temporaries && b))
        (ap (λ b. b && fits) (bound-told a.is_super (is_method_of a.words.tests.same c target) (nodes target.tree.body))
        ∙ and-assoc (not (list_any (λ (x : Placed N). is_return x.1 && nat_lt 1 (length x.0)) (nodes target.tree.body))) (not (list_any (λ (x : Placed N). is_super_node a.is_super x.1) (nodes target.tree.body)) || is_method_of a.words.tests.same c target) fits)

-- no temporaries
pub no-temporaries : (xs : List ℕ) → (length xs == 0) ≡ is_empty xs
no-temporaries [] = refl
no-temporaries (x ∷ xs) = zero-told (suc (length xs)) (λ (e : suc (length xs) ≡ 0). omega (arith, e))

-- three times no, and once what is left
module _ (a : AskedOf ℕ) (i : ImageOf ℕ) (c : ℕ) (m : EntryOf ℕ) (e : SendOf ℕ) (target : EntryOf ℕ) where
  abbrev asks : Bool → Bool → Bool → Bool → Bool
  asks k t b f = not k && (t && (not b && f))

  pub of-kernel : target.kernel ≡ true → false ≡ is_inlinable a i c m e target
  of-kernel k = (λ j. asks (sym k j) (is_empty target.tree.body.temporaries) (bound a i c m e target) (fits a i c m e target)) ∙ told a i c m e target

  pub with-temporaries : target.kernel ≡ false → is_empty target.tree.body.temporaries ≡ false → false ≡ is_inlinable a i c m e target
  with-temporaries k t = (λ j. asks (sym k j) (sym t j) (bound a i c m e target) (fits a i c m e target)) ∙ told a i c m e target

  pub with-bound : target.kernel ≡ false → is_empty target.tree.body.temporaries ≡ true → list_any (is_bound a.is_super (is_method_of a.words.tests.same c target)) (nodes target.tree.body) ≡ true → false ≡ is_inlinable a i c m e target
  with-bound k t b = (λ j. asks (sym k j) (sym t j) (sym b j) (fits a i c m e target)) ∙ told a i c m e target

  pub as-fit : target.kernel ≡ false → is_empty target.tree.body.temporaries ≡ true → list_any (is_bound a.is_super (is_method_of a.words.tests.same c target)) (nodes target.tree.body) ≡ false
      → is_fit m.tree e.path target.tree.body.statements ≡ is_inlinable a i c m e target
  as-fit k t b = (λ j. asks (sym k j) (sym t j) (sym b j) (fits a i c m e target)) ∙ told a i c m e target
