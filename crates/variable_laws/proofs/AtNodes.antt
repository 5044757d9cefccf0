-- What is known of the names at the nodes of methods.
use Rattle.std.proofs.Common.{◌≡◌, ℕ, zero, suc, ◌+◌, List, [], ◌∷◌, ◌++◌, Option, Some, slice_get, refl, sym, ap, ◌∙◌, subst, arith}
use Rattle.std.specs.Prelude.{Bool, true, false, cond, ◌&&◌, map, filter, flat_map}
use Rattle.std.specs.List.{AllByRecursion, list_any, enumerate_from}
use Rattle.std.specs.Option.{option_map_or}
use Rattle.std.proofs.lemmas.Bool.{false≢true}
use Rattle.rb_base.specs.Names.{text_eq}
use Rattle.rb_base.proofs.NamesLemmas.{text_eq-refl}
use Rattle.tree_model.specs.Tree.{TreeOf}
use Rattle.tree_model.specs.Path.{part_in}
use Rattle.tree_model.specs.Nodes.{Placed, nodes}
use Rattle.tree_model.proofs.NodesLemmas.{Contains-part_in}
use Rattle.image_model.specs.Image.{ClassOf, EntryOf, ImageOf}
use Rattle.image_model.specs.Words.{text_words}
use Rattle.image_model.specs.Replaced.{KeepsHierarchy}
use Rattle.image_model.specs.Means.{undeclared, means, means_outside}
use Rattle.image_model.specs.Nodes.{in_method, in_doit, Use, NodeOf, nodes_of, means_in}
use Rattle.image_model.specs.Uses.{name_used, is_variable, uses, variable_uses}
use Rattle.run_model.specs.Values.{Name}
use Rattle.run_model.specs.Renamings.{OfClass}
use Rattle.run_model.proofs.Finite.{by_cases, and-true_left, and-true_right}
use Rattle.run_model.proofs.RenamingLemmas.{text-same}
use Rattle.rename_model.specs.NamesThere.{declared_by, is_named_in_method}
use Rattle.rename_model.specs.Conditions.{has_variable}
use Rattle.command_model.specs.Commands.{CommandOf, kind_of}
use Rattle.command_model.specs.ClassConditions.{is_in_method_that}
use Rattle.command_model.specs.VariableConditions.{is_looked_through, is_unused_for}
use Rattle.rename_laws.proofs.Unnamed.{neither_left, neither_right, denied, fact-of, node-unnamed}
use Rattle.mapped_model.proofs.NamesFound.{all-left, all-right}
use Rattle.variable_laws.proofs.Alike.{Alike}
use Rattle.variable_laws.proofs.Stays.{StaysInMethod}

-- a method in which a node has a name has the name
pub named-by-node : (x : Name) (m : EntryOf Name) (path : List ℕ) (u : TreeOf Name) → part_in m.tree.body path ≡ Some u → name_used u ≡ Some x → is_named_in_method text_eq x m ≡ true
named-by-node x m path u q e =
    by_cases (is_named_in_method text_eq x m) (λ t. t)
    (λ t. absurd (false≢true (
    sym (neither_left (option_map_or (text_eq x) (name_used u) false) (list_any (text_eq x) (declared_by u)) (node-unnamed x x m.tree.body (neither_right (list_any (text_eq x) m.tree.arguments) _ t) path u q))
    ∙ ap (λ o. option_map_or (text_eq x) o false) e
    ∙ text_eq-refl x)))

module _ (s : OfClass → OfClass) (i : ImageOf Name) (g : ClassOf Name → ClassOf Name) (keeps : (e : ClassOf Name) → KeepsHierarchy g e) (x : Name) (others : (o : Option Name) (meta : Bool) (n : Name) → text_eq x n ≡ false → Alike s i g keeps o meta n) where
  -- names in a method are alike where the one name is
  pub stays-by : (m : EntryOf Name) →
      ((path : List ℕ) (u : TreeOf Name) → part_in m.tree.body path ≡ Some u → name_used u ≡ Some x → means text_words i m path x ≡ means_outside text_words i m.class m.meta x → is_named_in_method text_eq x m ≡ true → Alike s i g keeps m.class m.meta x) →
      StaysInMethod s i g keeps m
  stays-by m fact path u n q e outside =
      by_cases (text_eq x n)
      (λ t.
      let same : x ≡ n = text-same x n t in
      subst (λ z. Alike s i g keeps m.class m.meta z) same
      (let here : name_used u ≡ Some x = e ∙ ap Some (sym same) in
      fact path u q here (subst (λ z. means text_words i m path z ≡ means_outside text_words i m.class m.meta z) (sym same) outside) (named-by-node x m path u q here)))
      (λ t. others m.class m.meta n t)

-- of no item that passes one test does another hold
filtered-fail : {X Y : Type 0} (f : X → Y) (p : Y → Bool) (q : X → Bool) (xs : List X) → list_any p (map f (filter q xs)) ≡ false → AllByRecursion (λ x. p (f x) ≡ true → q x ≡ false) xs
filtered-fail f p q [] e = tt
filtered-fail f p q (x ∷ xs) e = by (q x) refl e (filtered-fail f p q xs)
  where
    by : (b : Bool) → q x ≡ b → list_any p (map f (cond b (x ∷ filter q xs) (filter q xs))) ≡ false → (list_any p (map f (filter q xs)) ≡ false → AllByRecursion (λ z. p (f z) ≡ true → q z ≡ false) xs) → (p (f x) ≡ true → q x ≡ false) × AllByRecursion (λ z. p (f z) ≡ true → q z ≡ false) xs
    by true r h rest = (λ t. absurd (false≢true (sym (neither_left (p (f x)) (list_any p (map f (filter q xs))) h) ∙ t)), rest (neither_right (p (f x)) (list_any p (map f (filter q xs))) h))
    by false r h rest = (λ t. r, rest h)

-- a fact of each item of a list of lists
flat-back : {X Y : Type 0} (P : Y → Type 0) (f : X → List Y) (xs : List X) → AllByRecursion P (flat_map f xs) → AllByRecursion (λ x. AllByRecursion P (f x)) xs
flat-back P f [] a = tt
flat-back P f (x ∷ xs) a = (all-left P (f x) (flat_map f xs) a, flat-back P f xs (all-right P (f x) (flat_map f xs) a))

map-back : {X Y : Type 0} (P : Y → Type 0) (f : X → Y) (xs : List X) → AllByRecursion P (map f xs) → AllByRecursion (λ x. P (f x)) xs
map-back P f [] a = tt
map-back P f (x ∷ xs) a = (a.0, map-back P f xs a.1)

-- a fact of an item with its number
numbered : {X : Type 0} (P : ℕ → X → Type 0) (from k n : ℕ) (xs : List X) (x : X) → n ≡ from + k → AllByRecursion (λ e. P e.0 e.1) (enumerate_from from xs) → slice_get xs k ≡ Some x → P n x
numbered P from k n [] x r a e = absurd (cc)
numbered P from zero n (y ∷ ys) x r a e =
    let same : y ≡ x = cc in
    let here : from ≡ n = omega (arith, r) in
    subst (λ z. P n z) same (subst (λ m. P m y) here a.0)
numbered P from (suc k) n (y ∷ ys) x r a e = numbered P (from + 1) k n ys x (omega (arith, r)) a.1 e

module _ (i : ImageOf Name) (command : CommandOf Name) (c x : Name) (unused : is_unused_for text_words i command c x ≡ true) where
  -- the class has the variable
  pub unused-has : has_variable text_eq i (kind_of command) c x ≡ true
  unused-has = and-true_left (has_variable text_eq i (kind_of command) c x) _ unused

  -- whether a node means it, and whether its method is looked through
  abbrev MeansIt : NodeOf Name → Bool
  MeansIt e = uses text_words i (λ m meaning. text_eq x m && is_variable text_eq (kind_of command) c meaning) e

  abbrev LooksAt : Use → Bool
  LooksAt u = is_in_method_that (is_looked_through text_eq i.classes command c) i u.place

  abbrev Missed : NodeOf Name → Type 0
  Missed e = LooksAt e.use_of ≡ true → MeansIt e ≡ false

  none : list_any LooksAt (variable_uses text_words i c x (kind_of command)) ≡ false
  none = denied _ (and-true_right (has_variable text_eq i (kind_of command) c x) _ unused)

  in-methods : AllByRecursion (λ e. AllByRecursion Missed (nodes_of (in_method e.0) e.1.tree.body)) (enumerate_from 0 i.methods)
  in-methods =
      flat-back Missed (λ e. nodes_of (in_method e.0) e.1.tree.body) (enumerate_from 0 i.methods)
      (all-left Missed (flat_map (λ e. nodes_of (in_method e.0) e.1.tree.body) (enumerate_from 0 i.methods)) (flat_map (λ e. nodes_of (in_doit e.0) e.1.body) (enumerate_from 0 i.doits))
      (filtered-fail (λ (e : NodeOf Name). e.use_of) LooksAt MeansIt (flat_map (λ e. nodes_of (in_method e.0) e.1.tree.body) (enumerate_from 0 i.methods) ++ flat_map (λ e. nodes_of (in_doit e.0) e.1.body) (enumerate_from 0 i.doits)) none))

  -- no node of a method that is looked through means the variable
  pub unused-at : (k : ℕ) (m : EntryOf Name) → slice_get i.methods k ≡ Some m → is_looked_through text_eq i.classes command c m ≡ true → (path : List ℕ) (u : TreeOf Name) → part_in m.tree.body path ≡ Some u → name_used u ≡ Some x →
      is_variable text_eq (kind_of command) c (means text_words i m path x) ≡ false
  unused-at k m at looked path u q e =
      sym (ap (λ b. b && is_variable text_eq (kind_of command) c (means text_words i m path x)) (text_eq-refl x))
      ∙ sym (ap (λ o. option_map_or (λ n. text_eq x n && is_variable text_eq (kind_of command) c (means_in text_words i (in_method k) path n)) o false) e ∙ ap (λ o. text_eq x x && is_variable text_eq (kind_of command) c (option_map_or (λ (z : EntryOf Name). means text_words i z path x) o undeclared)) at)
      ∙ fact-of (λ (p : Placed Name). Missed (record { use_of = record { place = in_method k; path = p.0 }; tree = p.1 })) (nodes m.tree.body) (path, u)
      (map-back Missed (λ (p : Placed Name). record { use_of = record { place = in_method k; path = p.0 }; tree = p.1 }) (nodes m.tree.body)
      (numbered (λ n (z : EntryOf Name). AllByRecursion Missed (nodes_of (in_method n) z.tree.body)) 0 k k i.methods m (omega arith) in-methods at))
      (Contains-part_in m.tree.body path u q) (ap (λ o. option_map_or (is_looked_through text_eq i.classes command c) o false) at ∙ looked)
