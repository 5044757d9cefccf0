-- An image without one of its classes, which no other class stands below and no other code means.
use Rattle.std.proofs.Common.{◌≡◌, ◌≢◌, ℕ, suc, List, [], ◌∷◌, Option, Some, None, inl, inr, refl, sym, ap, ◌∙◌, subst}
use Rattle.std.specs.Prelude.{Bool, true, false, not, ◌&&◌, ◌||◌, cond, filter, map, slice_get, codes, IsTrue, option_map}
use Rattle.std.proofs.Math.Bool.{beq}
use Rattle.std.specs.List.{AllByRecursion, list_any, list_all}
use Rattle.std.specs.Option.{option_map_or}
use Rattle.std.proofs.lemmas.Bool.{false≢true}
use Rattle.rb_base.specs.Names.{text_eq}
use Rattle.tree_model.specs.Tree.{TreeOf, var}
use Rattle.tree_model.specs.Path.{part_in}
use Rattle.image_model.specs.Image.{ClassOf, EntryOf, DoItOf, ImageOf}
use Rattle.image_model.specs.ImageNames.{OptionNames}
use Rattle.image_model.specs.Words.{text_words}
use Rattle.image_model.specs.Chain.{class_named, chain_from, chain}
use Rattle.image_model.specs.Lookup.{is_method, own_method}
use Rattle.image_model.specs.Means.{MeaningOf, a_class, undeclared, means, means_in_doit}
use Rattle.image_model.specs.Nodes.{Use, NodeOf, image_nodes}
use Rattle.image_model.specs.Uses.{name_used, is_that_class, uses}
use Rattle.run_model.specs.Values.{Name}
use Rattle.run_model.specs.ObjectPrimitives.{value_classes}
use Rattle.run_model.specs.Runs.{run, doit_class}
use Rattle.run_model.proofs.Finite.{by_cases, and-true_left, and-true_right}
use Rattle.run_model.proofs.RenamingLemmas.{text-same}
use Rattle.mapped_model.specs.NamesOfImages.{HasOrderedClasses}
use Rattle.mapped_model.proofs.RenamedVariableLemmas.{all-at}
use Rattle.rename_model.specs.Conditions.{is_user_class}
use Rattle.command_model.specs.Hierarchy.{is_class, is_child, is_method_of}
use Rattle.command_model.specs.ClassConditions.{is_in_method_that, has_no_subclasses, is_not_referenced}
use Rattle.command_model.specs.ClassEffects.{class_removed}
use Rattle.agreement_laws.specs.KernelChains.{HasKernelChains}
use Rattle.agreement_laws.proofs.KernelChains.{IsThere, named-there, there-step}
use Rattle.agreement_laws.proofs.Filtered.{find-filter}
use Rattle.agreement_laws.proofs.Tests.{class-there}
use Rattle.agreement_laws.proofs.MethodsFound.{IsIn}
use Rattle.rename_laws.proofs.Unnamed.{each-fails}
use Rattle.rename_laws.proofs.NodesOfImages.{in-method-fails, in-doit-fails}
use Rattle.lookup_laws.proofs.SpreadChains.{Keep, AreAbove, AreLike}
use Rattle.lookup_laws.proofs.ClassesApart.{Counts, apart-runs}
use Rattle.rename_laws.proofs.Unnamed.{denied}
use Rattle.rename_laws.proofs.OutsideAfter.{find-passes}
use Rattle.rename_laws.proofs.TextsTold.{text-turned}

-- what holds of each item that passes
filter-all : {X : Type 0} (Q : X → Type 0) (p : X → Bool) (xs : List X) → ((k : ℕ) (x : X) → slice_get xs k ≡ Some x → p x ≡ false → Q x) → AllByRecursion Q (filter (λ x. not (p x)) xs)
filter-all Q p [] h = tt
filter-all {X} Q p (x ∷ xs) h = by (p x) refl (filter-all Q p xs (λ k y at e. h (suc k) y at e))
  where
    by : (b : Bool) → p x ≡ b → AllByRecursion Q (filter (λ y. not (p y)) xs) → AllByRecursion Q (cond (not b) (x ∷ filter (λ y. not (p y)) xs) (filter (λ y. not (p y)) xs))
    by true e rest = rest
    by false e rest = (h 0 x refl e, rest)

-- where all that pass the one test pass the other, none passes it alone
none-alone : {X Y : Type 0} (f : Y → Bool) (g : X → Y) (p : X → Bool) (xs : List X) → list_all f (map g (filter p xs)) ≡ true → list_any (λ x. p x && not (f (g x))) xs ≡ false
none-alone f g p [] h = refl
none-alone {X} f g p (x ∷ xs) h = by (p x) h (none-alone f g p xs)
  where
    by : (b : Bool) → list_all f (map g (cond b (x ∷ filter p xs) (filter p xs))) ≡ true → (list_all f (map g (filter p xs)) ≡ true → list_any (λ y. p y && not (f (g y))) xs ≡ false) → ((b && not (f (g x))) || list_any (λ y. p y && not (f (g y))) xs) ≡ false
    by true k rest = ap (λ b. not b || list_any (λ y. p y && not (f (g y))) xs) (and-true_left (f (g x)) _ k) ∙ rest (and-true_right (f (g x)) _ k)
    by false k rest = rest k

module _ (i : ImageOf Name) (c : Name) (before : HasOrderedClasses i) (after : HasOrderedClasses (class_removed text_eq c i)) (chains : HasKernelChains i)
    (user : is_user_class text_eq i c ≡ true) (leaf : has_no_subclasses text_eq i c ≡ true) (unmeant : is_not_referenced text_words i c ≡ true) where
  -- the image without the class
  abbrev left : ImageOf Name
  left = class_removed text_eq c i

  abbrev Kept : Name → Type 0
  Kept n = Keep i left c n

  -- the class
  the-class : (e : ClassOf Name) × (class_named text_eq i.classes c ≡ Some e) × (not e.kernel ≡ true)
  the-class = by (class_named text_eq i.classes c) refl user
    where
      by : (o : Option (ClassOf Name)) → class_named text_eq i.classes c ≡ o → option_map_or (λ (e : ClassOf Name). not e.kernel) o false ≡ true → (e : ClassOf Name) × (class_named text_eq i.classes c ≡ Some e) × (not e.kernel ≡ true)
      by (Some e) q u = (e, q, u)
      by None q u = absurd (false≢true u)

  -- its name
  called : text_eq c the-class.0.name ≡ true
  called = subst (OptionNames (λ (d : ClassOf Name). text_eq c d.name ≡ true)) the-class.1 (find-passes (λ (d : ClassOf Name). text_eq c d.name) i.classes)

  -- other classes are there as before
  named-same : (n : Name) → Kept n → class_named text_eq left.classes n ≡ class_named text_eq i.classes n
  named-same n k = find-filter (λ (e : ClassOf Name). text_eq c e.name) (λ (e : ClassOf Name). text_eq n e.name) (λ e h. ap (text_eq n) (sym (text-same c e.name h)) ∙ (text-turned n c ∙ k)) i.classes

  -- so are their methods
  own-same : (d : Name) → Kept d → (b : Bool) (t : Name) → own_method text_eq left.methods d b t ≡ own_method text_eq i.methods d b t
  own-same d k b t =
      find-filter (is_method_of text_eq c) (is_method text_eq d b t)
      (λ m h. ap (λ o. option_map_or (text_eq d) o false && beq b m.meta && text_eq t m.tree.selector) (class-there c m.class h) ∙ ap (λ x. x && beq b m.meta && text_eq t m.tree.selector) (text-turned d c ∙ k)) i.methods

  -- what is above a class is another one
  above : (e : ClassOf Name) → IsThere i before e → AreAbove i left c e.superclass e.superclass
  above e at = by e.superclass (all-at (λ (x : ClassOf Name). is_child text_eq c x ≡ false) i.classes at.0 e (each-fails (is_child text_eq c) i.classes (denied _ (and-true_right (is_class text_eq i c) _ leaf))) at.1)
    where
      by : (o : Option Name) → option_map_or (text_eq c) o false ≡ false → AreAbove i left c o o
      by None h = tt
      by (Some p) h = (h, inl refl)

  -- classes are like themselves
  named-like : (n : Name) → Kept n → AreLike i left c (class_named text_eq i.classes n) (class_named text_eq left.classes n)
  named-like n k = subst (λ o. AreLike i left c (class_named text_eq i.classes n) o) (sym (named-same n k)) (by (class_named text_eq i.classes n) (named-there i before (Some n)) (find-passes (λ (e : ClassOf Name). text_eq n e.name) i.classes))
    where
      by : (o : Option (ClassOf Name)) → OptionNames (IsThere i before) o → OptionNames (λ (e : ClassOf Name). text_eq n e.name ≡ true) o → AreLike i left c o o
      by None at h = tt
      by (Some e) at h = record { name = refl; variables_same = λ kind. refl; methods_same = own-same e.name (subst Kept (text-same n e.name h) k); above = above e at }

  -- a class of which the language speaks is another one
  word-kept : (v : Name) → AllByRecursion (λ (e : ClassOf Name). IsTrue e.kernel) (chain text_eq i.classes (Some v)) → Kept v
  word-kept v kernel =
      by_cases (text_eq c v)
      (λ t.
      let there : class_named text_eq i.classes v ≡ Some the-class.0 = ap (class_named text_eq i.classes) (sym (text-same c v t)) ∙ the-class.1 in
      let at : IsThere i before the-class.0 = subst (OptionNames (IsThere i before)) there (named-there i before (Some v)) in
      let all = subst (AllByRecursion (λ (e : ClassOf Name). IsTrue e.kernel)) (there-step i before the-class.0 at) (subst (λ o. AllByRecursion (λ (e : ClassOf Name). IsTrue e.kernel) (chain_from text_eq i.classes o)) there kernel) in
      absurd (false≢true (sym (ap not all.0) ∙ the-class.2)))
      (λ t. t)

  words : AllByRecursion Kept value_classes
  words = each value_classes chains
    where
      each : (vs : List Name) → AllByRecursion (λ (v : Name). AllByRecursion (λ (e : ClassOf Name). IsTrue e.kernel) (chain text_eq i.classes (Some v))) vs → AllByRecursion Kept vs
      each [] a = tt
      each (v ∷ vs) a = (word-kept v a.0, each vs a.1)

  -- so is the empty name
  nothing : Kept []
  nothing =
      by_cases (text_eq c [])
      (λ t.
      let at : IsThere i before the-class.0 = subst (OptionNames (IsThere i before)) the-class.1 (named-there i before (Some c)) in
      absurd (all-at (λ (e : ClassOf Name). e.name ≢ []) i.classes at.0 the-class.0 before.named at.1 (sym (text-same c the-class.0.name called) ∙ text-same c [] t)))
      (λ t. t)

  doit-kept : OptionNames Kept (doit_class i)
  doit-kept = by (class_named text_eq i.classes (codes "UndefinedObject")) (find-passes (λ (e : ClassOf Name). text_eq (codes "UndefinedObject") e.name) i.classes)
    where
      by : (o : Option (ClassOf Name)) → OptionNames (λ (e : ClassOf Name). text_eq (codes "UndefinedObject") e.name ≡ true) o → OptionNames Kept (option_map (λ (e : ClassOf Name). e.name) o)
      by None h = tt
      by (Some e) h = subst Kept (text-same (codes "UndefinedObject") e.name h) words.0

  -- the methods that are left are of other classes
  methods : AllByRecursion (λ (m : EntryOf Name). IsIn i m × OptionNames Kept m.class) left.methods
  methods = filter-all (λ (m : EntryOf Name). IsIn i m × OptionNames Kept m.class) (is_method_of text_eq c) i.methods (λ k m at e. ((k, at), by m.class e))
    where
      by : (o : Option Name) → option_map_or (text_eq c) o false ≡ false → OptionNames Kept o
      by None e = tt
      by (Some d) e = e

  -- no node outside the class means it
  abbrev alone : NodeOf Name → Bool
  alone e = uses text_words i (λ m meaning. is_that_class text_eq c meaning) e && not (is_in_method_that (is_method_of text_eq c) i e.use_of.place)

  none : list_any alone (image_nodes i) ≡ false
  none =
      none-alone (λ (u : Use). is_in_method_that (is_method_of text_eq c) i u.place) (λ (e : NodeOf Name). e.use_of) (uses text_words i (λ m meaning. is_that_class text_eq c meaning)) (image_nodes i)
      (and-true_right (is_class text_eq i c) _ unmeant)

  method-other : (m : EntryOf Name) → OptionNames Kept m.class → is_method_of text_eq c m ≡ false
  method-other m h = by m.class h
    where
      by : (o : Option Name) → OptionNames Kept o → option_map_or (text_eq c) o false ≡ false
      by None h = refl
      by (Some d) h = h

  not-meant : (m : EntryOf Name) → IsIn i m → OptionNames Kept m.class → (path : List ℕ) (u : TreeOf Name) (n d : Name) → part_in m.tree.body path ≡ Some u → name_used u ≡ Some n → means text_words i m path n ≡ a_class d → text_eq c d ≡ true → ⊥
  not-meant m at h path u n d q e r t =
      false≢true (sym (in-method-fails i alone none at.0 m at.1 path u q)
      ∙ (λ l. option_map_or (λ x. is_that_class text_eq c (option_map_or (λ (y : EntryOf Name). means text_words i y path x) (at.1 l) undeclared)) (e l) false && not (option_map_or (is_method_of text_eq c) (at.1 l) false))
      ∙ (λ l. is_that_class text_eq c (r l) && not (method-other m h l)) ∙ ap (λ b. b && true) t)

  doit-not-meant : (k : ℕ) (d : DoItOf Name) → slice_get i.doits k ≡ Some d → (path : List ℕ) (u : TreeOf Name) (n x : Name) → part_in d.body path ≡ Some u → name_used u ≡ Some n → means_in_doit text_words i d path n ≡ a_class x → text_eq c x ≡ true → ⊥
  doit-not-meant k d at path u n x q e r t =
      false≢true (sym (in-doit-fails i alone none k d at path u q)
      ∙ (λ l. option_map_or (λ y. is_that_class text_eq c (option_map_or (λ (z : DoItOf Name). means_in_doit text_words i z path y) (at l) undeclared)) (e l) false && true)
      ∙ (λ l. is_that_class text_eq c (r l) && true) ∙ ap (λ b. b && true) t)

  -- names count, or are that of the class, which is not meant
  counts : (n : Name) (g : MeaningOf Name) → ((d : Name) → g ≡ a_class d → text_eq c d ≡ true → ⊥) → Counts i left c before after named-like words n g
  counts n g no-class =
      by_cases (text_eq c n) (λ t. inr (the-class.0, ap (class_named text_eq i.classes) (sym (text-same c n t)) ∙ the-class.1, λ r. no-class the-class.0.name r called)) (λ t. inl t)

  -- a class that is read is another one
  other : (d : Name) → (text_eq c d ≡ true → ⊥) → Kept d
  other d h = by_cases (text_eq c d) (λ t. absurd (h t)) (λ t. t)

  pub removed-runs : (n : ℕ) → run left n ≡ run i n
  removed-runs =
      apart-runs i left c before after named-like words nothing doit-kept refl methods
      (λ m at h path u n q e. counts n (means text_words i m path n) (λ d r t. not-meant m at h path u n d q e r t))
      (λ k d at path u n q e. counts n (means_in_doit text_words i d path n) (λ x r t. doit-not-meant k d at path u n x q e r t))
      (λ m at h d (path, n, q, r). other d (λ t. not-meant m at h path (var n) n d q refl r t))
      (λ k x at d (path, n, q, r). other d (λ t. doit-not-meant k x at path (var n) n d q refl r t))
