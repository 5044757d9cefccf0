-- An image with one more class, which has no methods and no variables, between a class and some of its direct subclasses.
use Rattle.std.proofs.Common.{◌≡◌, ◌≢◌, ℕ, List, [], ◌∷◌, Option, Some, None, inl, inr, refl, sym, ap, ◌∙◌, subst}
use Rattle.std.specs.Prelude.{Bool, true, false, ◌&&◌, ◌||◌, cond, find, map, slice_get, codes, IsTrue, option_map, if◌then◌else◌, unwrap_or, Contains, is_some}
use Rattle.std.proofs.Math.Bool.{beq}
use Rattle.std.specs.List.{AllByRecursion, list_any}
use Rattle.std.specs.Option.{option_map_or, option_or}
use Rattle.std.proofs.lemmas.Bool.{false≢true}
use Rattle.std.proofs.lemmas.List.Elements.{All-contains, All-from_recursion}
use Rattle.rb_base.specs.Names.{text_eq}
use Rattle.rb_base.proofs.NamesLemmas.{text_eq-refl}
use Rattle.tree_model.specs.Tree.{TreeOf, SequenceOf}
use Rattle.tree_model.specs.Path.{part_in}
use Rattle.tree_model.specs.Nodes.{Placed, nodes}
use Rattle.tree_model.proofs.NodesLemmas.{Contains-part_in}
use Rattle.scope_model.specs.Scope.{is_among, local_in, local_in_doit}
use Rattle.scope_model.specs.SpecialNames.{is_pseudo_variable}
use Rattle.scope_model.specs.declared.local.Local.{Local}
use Rattle.scope_model.specs.declared.local.Local.TheVariants.{Argument, Temporary, NotLocal}
use Rattle.image_model.specs.Image.{ClassOf, EntryOf, DoItOf, ImageOf}
use Rattle.image_model.specs.ImageNames.{OptionNames}
use Rattle.image_model.specs.Words.{text_words}
use Rattle.image_model.specs.Chain.{class_named, chain}
use Rattle.image_model.specs.Lookup.{is_method, own_method}
use Rattle.image_model.specs.Means.{VariableKind, of_instance, of_class_side, of_class, variables, MeaningOf, pseudo, argument, temporary, variable, a_class, transcript, undeclared, definer, side_kind, means_by, means_outside}
use Rattle.image_model.specs.Uses.{name_used}
use Rattle.image_model.specs.Valid.{HasClass, class_names}
use Rattle.image_model.proofs.Lists.{all-map, find-map}
use Rattle.run_model.specs.Values.{Name}
use Rattle.run_model.specs.ObjectPrimitives.{value_classes}
use Rattle.run_model.specs.Runs.{run, doit_class}
use Rattle.run_model.proofs.Finite.{by_cases, and-true_right}
use Rattle.run_model.proofs.RenamingLemmas.{text-same}
use Rattle.resolved_model.specs.Resolving.{meant_in, meant_in_doit}
use Rattle.mapped_model.specs.NamesOfImages.{HasOrderedClasses}
use Rattle.mapped_model.proofs.RenamedVariableLemmas.{all-at, at-all}
use Rattle.rename_model.specs.Conditions.{is_user_class, is_name_unused}
use Rattle.rename_model.specs.NamesThere.{is_named_by, is_named_in, is_named_in_method, is_named_by_class, declared_by}
use Rattle.rename_laws.specs.BehindKernel.{IsBehindKernel, is_kernel_class}
use Rattle.command_model.specs.Hierarchy.{is_class, is_child}
use Rattle.command_model.specs.ClassConditions.{is_user_child}
use Rattle.command_model.specs.ClassEffects.{new_class, put_before, put_under, class_added}
use Rattle.agreement_laws.proofs.KernelChains.{IsThere, named-there, one-named}
use Rattle.agreement_laws.proofs.Tests.{class-there}
use Rattle.agreement_laws.proofs.MethodsFound.{IsIn}
use Rattle.rename_laws.proofs.Unnamed.{each-fails}
use Rattle.rename_laws.proofs.NodesOfImages.{item-fails}
use Rattle.agreement_laws.proofs.CodeKnown.{ReadsClass}
use Rattle.lookup_laws.proofs.SpreadChains.{Keep, Skip, AreAbove, Like, AreLike}
use Rattle.lookup_laws.proofs.ClassesApart.{apart-runs}
use Rattle.rename_laws.proofs.Unnamed.{neither_left, neither_right, denied}
use Rattle.rename_laws.proofs.OutsideAfter.{find-passes}
use Rattle.rename_laws.proofs.TextsTold.{text-turned}

-- a search that does not take the further item
find-put_other : {X : Type 0} (q passes : X → Bool) (x : X) → q x ≡ false → (ys : List X) → find q (put_before passes x ys) ≡ find q ys
find-put_other q passes x e [] = ap (λ b. cond b (Some x) None) e
find-put_other {X} q passes x e (y ∷ ys) = by (passes y) (find-put_other q passes x e ys)
  where
    by : (b : Bool) → find q (put_before passes x ys) ≡ find q ys → find q (if b then x ∷ y ∷ ys else y ∷ put_before passes x ys) ≡ cond (q y) (Some y) (find q ys)
    by true ih = ap (λ b. cond b (Some x) (cond (q y) (Some y) (find q ys))) e
    by false ih = ap (λ o. cond (q y) (Some y) o) ih

-- a search that takes it alone
find-put_own : {X : Type 0} (q passes : X → Bool) (x : X) → q x ≡ true → (ys : List X) → AllByRecursion (λ y. q y ≡ false) ys → find q (put_before passes x ys) ≡ Some x
find-put_own q passes x e [] a = ap (λ b. cond b (Some x) None) e
find-put_own {X} q passes x e (y ∷ ys) a = by (passes y) (find-put_own q passes x e ys a.1)
  where
    by : (b : Bool) → find q (put_before passes x ys) ≡ Some x → find q (if b then x ∷ y ∷ ys else y ∷ put_before passes x ys) ≡ Some x
    by true ih = ap (λ b. cond b (Some x) (cond (q y) (Some y) (find q ys))) e
    by false ih = ap (λ b. cond b (Some y) (find q (put_before passes x ys))) a.0 ∙ ih

-- the class that is meant, if it is one
abbrev class_of_meaning : MeaningOf Name → Option Name
class_of_meaning pseudo = None
class_of_meaning (argument scope) = None
class_of_meaning (temporary scope) = None
class_of_meaning (variable kind c) = None
class_of_meaning (a_class c) = Some c
class_of_meaning transcript = None
class_of_meaning undeclared = None

-- a class that comes to stand under another stood under its superclass
pub child-above : (i : ImageOf Name) (before : HasOrderedClasses i) (p : Name) (e : ClassOf Name) → IsThere i before e → (ns : List Name) → AllByRecursion (λ (s : Name). is_user_child text_eq i s p ≡ true) ns → list_any (text_eq e.name) ns ≡ true → e.superclass ≡ Some p
child-above i before p e at [] a h = absurd (false≢true h)
child-above i before p e at (s ∷ ns) a h =
    by_cases (text_eq e.name s)
    (λ t. class-there p e.superclass
    (sym (ap (λ o. option_map_or (is_child text_eq p) o false) (ap (class_named text_eq i.classes) (sym (text-same e.name s t)) ∙ one-named i before e at)) ∙ and-true_right (is_user_class text_eq i s) _ a.0))
    (λ t. child-above i before p e at ns a.1 (sym (ap (λ b. b || list_any (text_eq e.name) ns) t) ∙ h))

-- no class has a name that nothing has
pub unnamed-classes : (i : ImageOf Name) (d : Name) → is_name_unused text_eq i d ≡ true → AllByRecursion (λ (e : ClassOf Name). text_eq d e.name ≡ false) i.classes
unnamed-classes i d unused =
    at-all (λ (e : ClassOf Name). text_eq d e.name ≡ false) i.classes
    (λ k e at. neither_left (text_eq d e.name) _ (all-at (λ (x : ClassOf Name). is_named_by_class text_eq d x ≡ false) i.classes k e (each-fails (is_named_by_class text_eq d) i.classes (neither_left _ _ (denied _ unused))) at))

module _ (i : ImageOf Name) (behind : IsBehindKernel i) (d p : Name) (under : List Name) (after : HasOrderedClasses (class_added text_eq d p under i))
    (there : is_class text_eq i p ≡ true) (given : d ≢ []) (unused : is_name_unused text_eq i d ≡ true) (children : AllByRecursion (λ (s : Name). is_user_child text_eq i s p ≡ true) under) where
  -- the image with the class
  abbrev grown : ImageOf Name
  grown = class_added text_eq d p under i

  abbrev Kept : Name → Type 0
  Kept n = Keep i grown d n

  before : HasOrderedClasses i
  before = behind.ordered

  -- nothing has its name
  abbrev names_classes : Bool
  names_classes = list_any (is_named_by_class text_eq d) i.classes

  abbrev names_methods : Bool
  names_methods = list_any (is_named_in_method text_eq d) i.methods

  abbrev names_doits : Bool
  names_doits = list_any (λ (x : DoItOf Name). is_named_in text_eq d x.body) i.doits

  nowhere : (names_classes || (names_methods || names_doits)) ≡ false
  nowhere = denied _ unused

  -- no class
  class-other : (e : ClassOf Name) → IsThere i before e → text_eq d e.name ≡ false
  class-other e at = all-at (λ (x : ClassOf Name). text_eq d x.name ≡ false) i.classes at.0 e (unnamed-classes i d unused) at.1

  -- no name of a class
  named-other : (n : Name) → is_class text_eq i n ≡ true → Kept n
  named-other n h = by (class_named text_eq i.classes n) (named-there i before (Some n)) (find-passes (λ (e : ClassOf Name). text_eq n e.name) i.classes) h
    where
      by : (o : Option (ClassOf Name)) → OptionNames (IsThere i before) o → OptionNames (λ (e : ClassOf Name). text_eq n e.name ≡ true) o → is_some o ≡ true → Kept n
      by (Some e) at t u = ap (text_eq d) (text-same n e.name t) ∙ class-other e at
      by None at t u = absurd (false≢true u)

  -- no name among those of classes
  contained-other : (n : Name) → Contains (class_names i.classes) n → Kept n
  contained-other n h =
      All-contains Kept (class_names i.classes) n
      (All-from_recursion Kept (class_names i.classes) (all-map Kept (λ (e : ClassOf Name). e.name) i.classes (at-all (λ (e : ClassOf Name). Kept e.name) i.classes (λ k e at. class-other e (k, at))))) h

  -- the class of no method
  entry-other : (m : EntryOf Name) → HasClass i.classes m → OptionNames Kept m.class
  entry-other m (n, e, h) = subst (OptionNames Kept) (sym e) (contained-other n h)

  entries : AllByRecursion (λ (m : EntryOf Name). IsIn i m × OptionNames Kept m.class) i.methods
  entries = at-all (λ (m : EntryOf Name). IsIn i m × OptionNames Kept m.class) i.methods (λ k m at. ((k, at), entry-other m (all-at (HasClass i.classes) i.methods k m behind.classes_there at)))

  -- it has no methods
  own-none : (b : Bool) (t : Name) → own_method text_eq i.methods d b t ≡ None
  own-none b t = by i.methods entries
    where
      other : (m : EntryOf Name) → OptionNames Kept m.class → is_method text_eq d b t m ≡ false
      other m h = at m.class h
        where
          at : (o : Option Name) → OptionNames Kept o → (option_map_or (text_eq d) o false && beq b m.meta && text_eq t m.tree.selector) ≡ false
          at None k = refl
          at (Some n) k = ap (λ x. x && beq b m.meta && text_eq t m.tree.selector) k

      by : (ms : List (EntryOf Name)) → AllByRecursion (λ (m : EntryOf Name). IsIn i m × OptionNames Kept m.class) ms → own_method text_eq ms d b t ≡ None
      by [] a = refl
      by (m ∷ ms) a = ap (λ x. cond x (Some m) (own_method text_eq ms d b t)) (other m a.0.1) ∙ by ms a.1

  -- it adds nothing to a chain
  skip : Skip i grown d (new_class d p)
  skip = record { other = λ n k. text-turned n d ∙ k; variables_none = none; methods_none = own-none }
    where
      none : (kind : VariableKind) → variables kind (new_class d p) ≡ []
      none of_instance = refl
      none of_class_side = refl
      none of_class = refl

  -- classes that stand under it keep their names
  put-named : (e : ClassOf Name) → (put_under text_eq d under e).name ≡ e.name
  put-named e = by (is_among text_eq under e.name)
    where
      by : (b : Bool) → (if b then record e { superclass = Some d } else e).name ≡ e.name
      by true = refl
      by false = refl

  -- the class is found by its name
  own-found : class_named text_eq grown.classes d ≡ Some (new_class d p)
  own-found =
      find-put_own (λ (e : ClassOf Name). text_eq d e.name) (λ (e : ClassOf Name). is_among text_eq under e.name) (new_class d p) (text_eq-refl d) (map (put_under text_eq d under) i.classes)
      (all-map (λ (e : ClassOf Name). text_eq d e.name ≡ false) (put_under text_eq d under) i.classes (at-all _ i.classes (λ k e at. ap (text_eq d) (put-named e) ∙ class-other e (k, at))))

  -- others as before, but for their superclass
  others-found : (n : Name) → Kept n → class_named text_eq grown.classes n ≡ option_map (put_under text_eq d under) (class_named text_eq i.classes n)
  others-found n k =
      find-put_other (λ (e : ClassOf Name). text_eq n e.name) (λ (e : ClassOf Name). is_among text_eq under e.name) (new_class d p) (text-turned n d ∙ k) (map (put_under text_eq d under) i.classes)
      ∙ find-map (put_under text_eq d under) (λ (e : ClassOf Name). text_eq n e.name) (λ (e : ClassOf Name). text_eq n e.name) i.classes (each i.classes)
    where
      each : (cs : List (ClassOf Name)) → AllByRecursion (λ (e : ClassOf Name). text_eq n (put_under text_eq d under e).name ≡ text_eq n e.name) cs
      each [] = tt
      each (e ∷ cs) = (ap (text_eq n) (put-named e), each cs)

  -- what is above a class
  above : (e : ClassOf Name) → IsThere i before e → AreAbove i grown d e.superclass (put_under text_eq d under e).superclass
  above e at = by (is_among text_eq under e.name) refl
    where
      same : (o : Option Name) → e.superclass ≡ o → AreAbove i grown d o o
      same None q = tt
      same (Some n) q = (named-above n q, inl refl)
        where
          named-above : (n : Name) → e.superclass ≡ Some n → Kept n
          named-above n q =
              let first = before.before at.0 e n at.1 q in
              all-at Kept (class_names i.classes) first.0 n (all-map Kept (λ (x : ClassOf Name). x.name) i.classes (at-all (λ (x : ClassOf Name). Kept x.name) i.classes (λ k x there. class-other x (k, there)))) first.2

      by : (b : Bool) → is_among text_eq under e.name ≡ b → AreAbove i grown d e.superclass (if b then record e { superclass = Some d } else e).superclass
      by true q = subst (λ o. AreAbove i grown d o (Some d)) (sym (child-above i before p e at under children q)) (named-other p there, inr (new_class d p, own-found, skip, refl))
      by false q = same e.superclass refl

  -- classes are alike
  put-like : (e : ClassOf Name) → IsThere i before e → Like i grown d e (put_under text_eq d under e)
  put-like e at = record { name = put-named e; variables_same = same; methods_same = λ b t. ap (λ n. own_method text_eq i.methods n b t) (put-named e); above = above e at }
    where
      by : (b : Bool) (kind : VariableKind) → variables kind (if b then record e { superclass = Some d } else e) ≡ variables kind e
      by true of_instance = refl
      by true of_class_side = refl
      by true of_class = refl
      by false kind = refl

      same : (kind : VariableKind) → variables kind (put_under text_eq d under e) ≡ variables kind e
      same kind = by (is_among text_eq under e.name) kind

  named-like : (n : Name) → Kept n → AreLike i grown d (class_named text_eq i.classes n) (class_named text_eq grown.classes n)
  named-like n k = subst (λ o. AreLike i grown d (class_named text_eq i.classes n) o) (sym (others-found n k)) (by (class_named text_eq i.classes n) (named-there i before (Some n)))
    where
      by : (o : Option (ClassOf Name)) → OptionNames (IsThere i before) o → AreLike i grown d o (option_map (put_under text_eq d under) o)
      by None at = tt
      by (Some e) at = put-like e at

  -- classes of which the language speaks are others
  words : AllByRecursion Kept value_classes
  words = each value_classes behind.words
    where
      there-by : (o : Option (ClassOf Name)) → option_map_or (λ (c : ClassOf Name). c.kernel) o false ≡ true → is_some o ≡ true
      there-by (Some e) h = refl
      there-by None h = h

      each : (vs : List Name) → AllByRecursion (λ n. IsTrue (is_kernel_class i n)) vs → AllByRecursion Kept vs
      each [] a = tt
      each (v ∷ vs) a = (named-other v (there-by (class_named text_eq i.classes v) a.0), each vs a.1)

  nothing : Kept []
  nothing = by_cases (text_eq d []) (λ t. absurd (given (text-same d [] t))) (λ t. t)

  doit-kept : OptionNames Kept (doit_class i)
  doit-kept = by (class_named text_eq i.classes (codes "UndefinedObject")) (named-there i before (Some (codes "UndefinedObject")))
    where
      by : (o : Option (ClassOf Name)) → OptionNames (IsThere i before) o → OptionNames Kept (option_map (λ (e : ClassOf Name). e.name) o)
      by None h = tt
      by (Some e) h = class-other e h

  -- no node uses the name
  node-other : (b : SequenceOf Name) → is_named_in text_eq d b ≡ false → (path : List ℕ) (u : TreeOf Name) (n : Name) → part_in b path ≡ Some u → name_used u ≡ Some n → Kept n
  node-other b e path u n q r =
      sym (ap (λ o. option_map_or (text_eq d) o false) r)
      ∙ neither_left (option_map_or (text_eq d) (name_used u) false) (list_any (text_eq d) (declared_by u))
      (item-fails (λ (x : Placed Name). is_named_by text_eq d x.1) (nodes b) (path, u) (neither_right (list_any (text_eq d) b.temporaries) _ e) (Contains-part_in b path u q))

  method-node : (m : EntryOf Name) → IsIn i m → (path : List ℕ) (u : TreeOf Name) (n : Name) → part_in m.tree.body path ≡ Some u → name_used u ≡ Some n → Kept n
  method-node m at =
      node-other m.tree.body
      (neither_right (list_any (text_eq d) m.tree.arguments) (is_named_in text_eq d m.tree.body)
      (all-at (λ (x : EntryOf Name). is_named_in_method text_eq d x ≡ false) i.methods at.0 m (each-fails (is_named_in_method text_eq d) i.methods (neither_left names_methods names_doits (neither_right names_classes _ nowhere))) at.1))

  doit-node : (k : ℕ) (x : DoItOf Name) → slice_get i.doits k ≡ Some x → (path : List ℕ) (u : TreeOf Name) (n : Name) → part_in x.body path ≡ Some u → name_used u ≡ Some n → Kept n
  doit-node k x at =
      node-other x.body (all-at (λ (y : DoItOf Name). is_named_in text_eq d y.body ≡ false) i.doits k x (each-fails (λ (y : DoItOf Name). is_named_in text_eq d y.body) i.doits (neither_right names_methods names_doits (neither_right names_classes _ nowhere))) at)

  -- a class that a name stands for is another one
  outside-other : (o : Option Name) (meta : Bool) (n : Name) → OptionNames Kept (class_of_meaning (means_outside text_words i o meta n))
  outside-other o meta n =
      by (definer text_eq (side_kind meta) (chain text_eq i.classes o) n) (definer text_eq of_class (chain text_eq i.classes o) n) (class_named text_eq i.classes n) (named-there i before (Some n)) (text_words.is_transcript n)
    where
      by : (a b c : Option (ClassOf Name)) → OptionNames (IsThere i before) c → (x : Bool) →
          OptionNames Kept (class_of_meaning (unwrap_or (option_or (option_map (λ (k : ClassOf Name). variable (side_kind meta) k.name) a) (option_or (option_map (λ (k : ClassOf Name). variable of_class k.name) b) (option_or (option_map (λ (k : ClassOf Name). a_class k.name) c) (if x then Some transcript else None)))) undeclared))
      by (Some a) b c at x = tt
      by None (Some b) c at x = tt
      by None None (Some c) at x = class-other c at
      by None None None at true = tt
      by None None None at false = tt

  meaning-other : (b : Bool) (l : Local) (g : MeaningOf Name) → OptionNames Kept (class_of_meaning g) → OptionNames Kept (class_of_meaning (if b then pseudo else means_by l g))
  meaning-other true l g h = tt
  meaning-other false (Argument scope) g h = tt
  meaning-other false (Temporary scope) g h = tt
  meaning-other false NotLocal g h = h

  reads : (m : EntryOf Name) (c : Name) → ReadsClass (meant_in i m) m.tree.body c → Kept c
  reads m c (path, n, q, r) =
      subst (λ g. OptionNames Kept (class_of_meaning g)) r
      (meaning-other (is_pseudo_variable n) (local_in text_eq is_pseudo_variable m.tree path n) (means_outside text_words i m.class m.meta n) (outside-other m.class m.meta n))

  doits-read : (x : DoItOf Name) (c : Name) → ReadsClass (meant_in_doit i x) x.body c → Kept c
  doits-read x c (path, n, q, r) =
      subst (λ g. OptionNames Kept (class_of_meaning g)) r
      (meaning-other (is_pseudo_variable n) (local_in_doit text_eq is_pseudo_variable x.body path n) (means_outside text_words i (doit_class i) false n) (outside-other (doit_class i) false n))

  -- the runs are the same
  pub added-class-runs : (n : ℕ) → run grown n ≡ run i n
  added-class-runs =
      apart-runs i grown d before after named-like words nothing doit-kept refl entries
      (λ m at h path u n q e. inl (method-node m at path u n q e)) (λ k x at path u n q e. inl (doit-node k x at path u n q e)) (λ m at h c r. reads m c r) (λ k x at c r. doits-read x c r)
