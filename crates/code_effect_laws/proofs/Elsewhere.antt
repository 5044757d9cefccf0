-- A proper tree is proper among other known names, where each of its free names that may be assigned may be assigned there too.
use Rattle.std.proofs.Common.{◌≡◌, inl, inr, Bool, true, false, not, List, ◌++◌, filter, refl, sym, ◌∙◌, true≢false}
use Rattle.std.specs.Prelude.{◌||◌, ◌&&◌, if◌then◌else◌}
use Rattle.rb_base.specs.Names.{text_eq}
use Rattle.tree_model.specs.Tree.{TreeOf, var, literal, send, cascade, assign, block, brace, return, TreesOf, no_trees, more_trees, MessagesOf, no_messages, more_messages, StatementsOf, no_statements, more_statements}
use Rattle.scope_model.specs.SpecialNames.{is_pseudo_variable}
use Rattle.scope_model.specs.Scope.{is_among, declares}
use Rattle.scope_model.specs.FreeNames.{free_occurrences, free_in_trees, free_in_messages, free_in_statements}
use Rattle.grammar_model.specs.Words.{is_pseudo}
use Rattle.grammar_model.specs.Checks.{Known, is_fixed}
use Rattle.reread_law.specs.Declarations.{known_names}
use Rattle.file_model.specs.Filing.{Text}
use Rattle.effect_laws.proofs.Items.{In, in_front, in_back, in_filter}
use Rattle.code_effect_laws.proofs.Proper.{IsProper, AreProper, AreProperMessages, AreProperStatements}
use Rattle.code_effect_laws.proofs.Known.{behind-both, no-pseudo}

-- each of these names that may be assigned among some known names may be assigned among others
abbrev pub AreLoose : List Text → List Known → List Known → Type 0
AreLoose names ks ls = (n : Text) → In names n → is_pseudo n ≡ false → is_fixed ks n ≡ false → is_fixed ls n ≡ false

-- so it is behind one more list of names, for those that it does not declare
decided : (a b c d : Bool) → (a || b) ≡ true → (if a then true else if b then false else c) ≡ (if a then true else if b then false else d)
decided true b c d e = refl
decided false true c d e = refl
decided false false c d e = absurd (true≢false (sym e))

undecided : (a b c : Bool) → (a || b) ≡ false → (if a then true else if b then false else c) ≡ c
undecided true b c e = absurd (true≢false e)
undecided false true c e = absurd (true≢false e)
undecided false false c e = refl

loose_inside : (ps ds names : List Text) (ks ls : List Known) → AreLoose (filter (λ n. not (declares text_eq is_pseudo_variable ps ds n)) names) ks ls → AreLoose names (known_names ps ds ++ ks) (known_names ps ds ++ ls)
loose_inside ps ds names ks ls h n there ordinary free = by (is_among text_eq ps n || is_among text_eq ds n) refl
  where
    by : (b : Bool) → (is_among text_eq ps n || is_among text_eq ds n) ≡ b → is_fixed (known_names ps ds ++ ls) n ≡ false
    by true e =
        behind-both ps ds ls n ∙ sym (decided (is_among text_eq ps n) (is_among text_eq ds n) (is_fixed ks n) (is_fixed ls n) e) ∙ sym (behind-both ps ds ks n) ∙ free
    by false e =
        behind-both ps ds ls n ∙ undecided (is_among text_eq ps n) (is_among text_eq ds n) (is_fixed ls n) e
        ∙ h n (in_filter (λ x. not (declares text_eq is_pseudo_variable ps ds x)) names n there ((λ i. not (not (no-pseudo n ordinary i) && e i)))) ordinary
        (sym (undecided (is_among text_eq ps n) (is_among text_eq ds n) (is_fixed ks n) e) ∙ sym (behind-both ps ds ks n) ∙ free)

module _ (ks ls : List Known) where
  front : (xs ys : List Text) → AreLoose (xs ++ ys) ks ls → AreLoose xs ks ls
  front xs ys h n there = h n (in_front xs ys n there)

  back : (xs ys : List Text) → AreLoose (xs ++ ys) ks ls → AreLoose ys ks ls
  back xs ys h n there = h n (in_back xs ys n there)

-- the free names of trees
abbrev free : TreeOf Text → List Text
free = free_occurrences text_eq is_pseudo_variable

abbrev free_of_trees : TreesOf Text → List Text
free_of_trees = free_in_trees text_eq is_pseudo_variable

abbrev free_of_messages : MessagesOf Text → List Text
free_of_messages = free_in_messages text_eq is_pseudo_variable

abbrev free_of_statements : StatementsOf Text → List Text
free_of_statements = free_in_statements text_eq is_pseudo_variable

mutual
  pub tree_elsewhere : (t : TreeOf Text) (ks ls : List Known) → IsProper ks t → AreLoose (free t) ks ls → IsProper ls t
  tree_elsewhere (var n) ks ls p h = p
  tree_elsewhere (literal l) ks ls p h = p
  tree_elsewhere (send r s xs) ks ls p h =
      (tree_elsewhere r ks ls p.0 (front ks ls (free r) (free_of_trees xs) h), p.1, p.2, trees_elsewhere xs ks ls p.3 (back ks ls (free r) (free_of_trees xs) h))
  tree_elsewhere (cascade r ms) ks ls p h =
      (tree_elsewhere r ks ls p.0 (front ks ls (free r) (free_of_messages ms) h), p.1, p.2, messages_elsewhere ms ks ls p.3 (back ks ls (free r) (free_of_messages ms) h))
  tree_elsewhere (assign n t) ks ls p h = (p.0, p.1, h n (inl refl) p.1 p.2, tree_elsewhere t ks ls p.3 (λ m there. h m (inr there)), p.4)
  tree_elsewhere (block ps ds ss c) ks ls p h =
      (p.0, p.1, p.2, statements_elsewhere ss (known_names ps ds ++ ks) (known_names ps ds ++ ls) p.3 (loose_inside ps ds (free_of_statements ss) ks ls h), p.4)
  tree_elsewhere (brace ts) ks ls p h = trees_elsewhere ts ks ls p h
  tree_elsewhere (return t) ks ls p h = (tree_elsewhere t ks ls p.0 h, p.1)

  trees_elsewhere : (ts : TreesOf Text) (ks ls : List Known) → AreProper ks ts → AreLoose (free_of_trees ts) ks ls → AreProper ls ts
  trees_elsewhere no_trees ks ls p h = tt
  trees_elsewhere (more_trees t ts) ks ls p h =
      (tree_elsewhere t ks ls p.0 (front ks ls (free t) (free_of_trees ts) h), p.1, trees_elsewhere ts ks ls p.2 (back ks ls (free t) (free_of_trees ts) h))

  messages_elsewhere : (ms : MessagesOf Text) (ks ls : List Known) → AreProperMessages ks ms → AreLoose (free_of_messages ms) ks ls → AreProperMessages ls ms
  messages_elsewhere no_messages ks ls p h = tt
  messages_elsewhere (more_messages s xs ms) ks ls p h =
      (p.0, trees_elsewhere xs ks ls p.1 (front ks ls (free_of_trees xs) (free_of_messages ms) h), messages_elsewhere ms ks ls p.2 (back ks ls (free_of_trees xs) (free_of_messages ms) h))

  pub statements_elsewhere : (ss : StatementsOf Text) (ks ls : List Known) → AreProperStatements ks ss → AreLoose (free_of_statements ss) ks ls → AreProperStatements ls ss
  statements_elsewhere no_statements ks ls p h = tt
  statements_elsewhere (more_statements c t ss) ks ls p h =
      (p.0, tree_elsewhere t ks ls p.1 (front ks ls (free t) (free_of_statements ss) h), p.2, statements_elsewhere ss ks ls p.3 (back ks ls (free t) (free_of_statements ss) h))
