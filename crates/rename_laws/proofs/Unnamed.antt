-- A name that nothing in an image has.
use Rattle.std.proofs.Common.{◌≡◌, ℕ, List, [], ◌∷◌, Option, Some, None, refl, sym, ap, ◌∙◌, subst}
use Rattle.std.specs.Prelude.{Bool, true, false, not, ◌||◌, slice_get, Contains}
use Rattle.std.specs.List.{AllByRecursion, list_all, list_any}
use Rattle.std.specs.Option.{option_map_or}
use Rattle.std.proofs.lemmas.Bool.{false≢true}
use Rattle.std.proofs.lemmas.List.Elements.{All-contains, All-from_recursion}
use Rattle.rb_base.specs.Names.{text_eq}
use Rattle.tree_model.specs.Tree.{TreeOf, var, assign, SequenceOf}
use Rattle.tree_model.specs.Path.{part_in}
use Rattle.tree_model.specs.Nodes.{Placed, nodes}
use Rattle.tree_model.proofs.NodesLemmas.{Contains-part_in}
use Rattle.image_model.specs.Image.{ClassOf}
use Rattle.image_model.specs.ImageNames.{OptionNames}
use Rattle.image_model.specs.Means.{VariableKind, of_instance, of_class_side, of_class, variables}
use Rattle.image_model.specs.Uses.{name_used}
use Rattle.image_model.specs.Valid.{SuperclassesStandBefore}
use Rattle.image_model.proofs.ChainLemmas.{slice_get-map}
use Rattle.run_model.specs.Values.{Name}
use Rattle.run_model.proofs.Finite.{and-true_left, and-true_right}
use Rattle.mapped_model.proofs.RenamedVariableLemmas.{all-at, at-all}
use Rattle.rename_model.specs.NamesThere.{declared_by, is_named_by, is_named_in, is_named_by_class}
use Rattle.rename_laws.proofs.NewNames.{Other}
use Rattle.rename_laws.proofs.ClassesAfter.{IsOther}

-- neither of two alternatives
pub neither_left : (a b : Bool) → (a || b) ≡ false → a ≡ false
neither_left true b e = e
neither_left false b e = refl

pub neither_right : (a b : Bool) → (a || b) ≡ false → b ≡ false
neither_right true b e = absurd (false≢true (sym e))
neither_right false b e = e

-- what is denied
pub denied : (b : Bool) → not b ≡ true → b ≡ false
denied true e = absurd (false≢true e)
denied false e = refl

-- none of the items
pub each-fails : {X : Type 0} (p : X → Bool) (xs : List X) → list_any p xs ≡ false → AllByRecursion (λ x. p x ≡ false) xs
each-fails p [] e = tt
each-fails p (x ∷ xs) e = (neither_left (p x) (list_any p xs) e, each-fails p xs (neither_right (p x) (list_any p xs) e))

-- and all of them
pub each-passes : {X : Type 0} (p : X → Bool) (xs : List X) → list_all p xs ≡ true → AllByRecursion (λ x. p x ≡ true) xs
each-passes p [] e = tt
each-passes p (x ∷ xs) e = (and-true_left (p x) (list_all p xs) e, each-passes p xs (and-true_right (p x) (list_all p xs) e))

-- a fact of each item is one of an item
pub fact-of : {X : Type 0} (P : X → Type 0) (xs : List X) (x : X) → AllByRecursion P xs → Contains xs x → P x
fact-of P xs x a h = All-contains P xs x (All-from_recursion P xs a) h

-- a class that has no variable of a name has none of any kind
pub variables-lack : (d : Name) (e : ClassOf Name) → (list_any (text_eq d) e.instance || (list_any (text_eq d) e.shared || list_any (text_eq d) e.class_side)) ≡ false → (kind : VariableKind) → list_any (text_eq d) (variables kind e) ≡ false
variables-lack d e h of_instance = neither_left (list_any (text_eq d) e.instance) _ h
variables-lack d e h of_class_side = neither_right (list_any (text_eq d) e.shared) _ (neither_right (list_any (text_eq d) e.instance) _ h)
variables-lack d e h of_class = neither_left (list_any (text_eq d) e.shared) _ (neither_right (list_any (text_eq d) e.instance) _ h)

module _ (c d : Name) where
  -- no node of a sequence has the name
  pub node-unnamed : (b : SequenceOf Name) → is_named_in text_eq d b ≡ false → (path : List ℕ) (u : TreeOf Name) → part_in b path ≡ Some u → is_named_by text_eq d u ≡ false
  node-unnamed b e path u q =
      fact-of (λ (p : Placed Name). is_named_by text_eq d p.1 ≡ false) (nodes b) (path, u)
      (each-fails (λ (p : Placed Name). is_named_by text_eq d p.1) (nodes b) (neither_right (list_any (text_eq d) b.temporaries) _ e)) (Contains-part_in b path u q)

  -- what such a node reads, assigns and declares is another
  pub read-other : (u : TreeOf Name) (n : Name) → is_named_by text_eq d u ≡ false → u ≡ var n → Other c d n
  read-other u n e q = neither_left (text_eq d n) false (ap (is_named_by text_eq d) (sym q) ∙ e)

  pub assigned-other : (u : TreeOf Name) (n : Name) (t : TreeOf Name) → is_named_by text_eq d u ≡ false → u ≡ assign n t → Other c d n
  assigned-other u n t e q = neither_left (text_eq d n) false (ap (is_named_by text_eq d) (sym q) ∙ e)

  pub declared-other : (u : TreeOf Name) → is_named_by text_eq d u ≡ false → list_any (text_eq d) (declared_by u) ≡ false
  declared-other u e = neither_right (option_map_or (text_eq d) (name_used u) false) (list_any (text_eq d) (declared_by u)) e

  -- a class and its variables
  pub class-lacks : (e : ClassOf Name) → is_named_by_class text_eq d e ≡ false → (kind : VariableKind) → list_any (text_eq d) (variables kind e) ≡ false
  class-lacks e h kind = variables-lack d e (neither_right (text_eq d e.name) _ h) kind

  module _ (classes : List (ClassOf Name)) (before : SuperclassesStandBefore classes) (unnamed : list_any (is_named_by_class text_eq d) classes ≡ false) where
    -- the class at a place
    class-unnamed : (j : ℕ) (e : ClassOf Name) → slice_get classes j ≡ Some e → is_named_by_class text_eq d e ≡ false
    class-unnamed j e at = all-at (λ (x : ClassOf Name). is_named_by_class text_eq d x ≡ false) classes j e (each-fails (is_named_by_class text_eq d) classes unnamed) at

    -- a superclass is one of the classes
    above-other : (j : ℕ) (e : ClassOf Name) → slice_get classes j ≡ Some e → (o : Option Name) → e.superclass ≡ o → OptionNames (Other c d) o
    above-other j e at None q = tt
    above-other j e at (Some n) q =
        let named = before j e n at q in
        let there = slice_get-map (λ (x : ClassOf Name). x.name) classes named.0 n named.2 in
        subst (Other c d) there.2 (neither_left (text_eq d there.0.name) _ (class-unnamed named.0 there.0 there.1))

    -- all classes
    pub classes-other : AllByRecursion (IsOther c d) classes
    classes-other =
        at-all (IsOther c d) classes
        (λ j e at. record { name = neither_left (text_eq d e.name) _ (class-unnamed j e at); superclass = above-other j e at e.superclass refl; lacks = class-lacks e (class-unnamed j e at) })
