-- Methods of other places where one comes, goes up or goes down.
use Rattle.std.proofs.Common.{◌≡◌, ℕ, List, [], ◌∷◌, ◌++◌, Some, None, ◌⊎◌, inl, inr, refl, sym, ap, ◌∙◌}
use Rattle.std.specs.Prelude.{Bool, true, false, ◌&&◌, cond, find, map, flat_map, if◌then◌else◌, IsTrue}
use Rattle.std.proofs.Math.Bool.{beq}
use Rattle.std.specs.List.{AllByRecursion}
use Rattle.std.specs.Option.{option_map_or}
use Rattle.std.proofs.lemmas.Bool.{false≢true}
use Rattle.rb_base.specs.Names.{text_eq}
use Rattle.rb_base.proofs.NamesLemmas.{text_eq-refl}
use Rattle.tree_model.specs.Tree.{MethodOf}
use Rattle.image_model.specs.Image.{ClassOf, EntryOf, ImageOf}
use Rattle.image_model.specs.Words.{text_words}
use Rattle.image_model.specs.Chain.{class_named, chain_from}
use Rattle.image_model.specs.Lookup.{is_method, own_method}
use Rattle.run_model.specs.Values.{Name}
use Rattle.run_model.specs.ObjectPrimitives.{value_classes}
use Rattle.run_model.specs.Runs.{run}
use Rattle.run_model.proofs.Finite.{and-true_left, and-true_right}
use Rattle.mapped_model.specs.NamesOfImages.{HasOrderedClasses}
use Rattle.rename_model.specs.Conditions.{is_user_class}
use Rattle.command_model.specs.Hierarchy.{superclass_name}
use Rattle.command_model.specs.MethodConditions.{is_unreached}
use Rattle.command_model.specs.MethodEffects.{new_method, method_added, of_class_named, method_pushed_up}
use Rattle.agreement_laws.specs.KernelChains.{HasKernelChains}
use Rattle.lookup_laws.proofs.Differences.{added-differ, pushed_up-differ}
use Rattle.agreement_laws.proofs.KernelChains.{IsThere, named-there, user-other, chain-kernel}
use Rattle.lookup_laws.proofs.MethodsApart.{is_place, method-apart}
use Rattle.agreement_laws.specs.Reaching.{is_super}
use Rattle.lookup_laws.proofs.Reached.{unreached-runs}

-- a search finds the same item where each item stays, or one that it does not take is replaced by such ones
pub find-replaced : {X : Type 0} (q : X → Bool) (go : X → List X) → ((x : X) → (go x ≡ x ∷ []) ⊎ ((q x ≡ false) × AllByRecursion (λ y. q y ≡ false) (go x))) → (xs : List X) → find q (flat_map go xs) ≡ find q xs
find-replaced q go h [] = refl
find-replaced {X} q go h (x ∷ xs) = by (h x) (find-replaced q go h xs)
  where
    skipped : (ys zs : List X) → AllByRecursion (λ y. q y ≡ false) ys → find q (ys ++ zs) ≡ find q zs
    skipped [] zs a = refl
    skipped (y ∷ ys) zs a = ap (λ b. cond b (Some y) (find q (ys ++ zs))) a.0 ∙ skipped ys zs a.1

    by : (go x ≡ x ∷ []) ⊎ ((q x ≡ false) × AllByRecursion (λ y. q y ≡ false) (go x)) → find q (flat_map go xs) ≡ find q xs → find q (go x ++ flat_map go xs) ≡ cond (q x) (Some x) (find q xs)
    by (inl e) ih = ap (λ ys. find q (ys ++ flat_map go xs)) e ∙ ap (λ o. cond (q x) (Some x) o) ih
    by (inr e) ih = skipped (go x) (flat_map go xs) e.1 ∙ ih ∙ sym (ap (λ b. cond b (Some x) (find q xs)) e.0)

-- one more item, which a search does not take
find-more : {X : Type 0} (q : X → Bool) (y : X) → q y ≡ false → (xs : List X) → find q (xs ++ y ∷ []) ≡ find q xs
find-more q y e [] = ap (λ b. cond b (Some y) None) e
find-more q y e (x ∷ xs) = ap (λ o. cond (q x) (Some x) o) (find-more q y e xs)

-- one item for each
map-flat : {X Y : Type 0} (f : X → Y) (xs : List X) → map f xs ≡ flat_map (λ x. f x ∷ []) xs
map-flat f [] = refl
map-flat f (x ∷ xs) = ap (λ l. f x ∷ l) (map-flat f xs)

-- the test of a place fails where that of its class does, or that of its side and selector
pub by-class : (x y z : Bool) → x ≡ false → ((x && y) && z) ≡ false
by-class x y z e = ap (λ b. (b && y) && z) e

by-rest : (x y z : Bool) → (y && z) ≡ false → ((x && y) && z) ≡ false
by-rest true y z e = e
by-rest false y z e = refl

module _ (i : ImageOf Name) (ordered : HasOrderedClasses i) (chains : HasKernelChains i) (meta : Bool) (s : Name) where
  -- what holds of each class of the kernel holds on the chains of those of which the language speaks
  value-chains : (P : ClassOf Name → Type 0) → ((e : ClassOf Name) → IsThere i ordered e → IsTrue e.kernel → P e) → AllByRecursion (λ (v : Name). AllByRecursion P (chain_from text_eq i.classes (class_named text_eq i.classes v))) value_classes
  value-chains P h = each value_classes chains
    where
      each : (vs : List Name) → AllByRecursion (λ (v : Name). AllByRecursion (λ (e : ClassOf Name). IsTrue e.kernel) (chain_from text_eq i.classes (class_named text_eq i.classes v))) vs →
          AllByRecursion (λ (v : Name). AllByRecursion P (chain_from text_eq i.classes (class_named text_eq i.classes v))) vs
      each [] a = tt
      each (v ∷ vs) a = (chain-kernel i ordered P h (class_named text_eq i.classes v) (named-there i ordered (Some v)) a.0, each vs a.1)

-- a method that comes
pub added-runs : (i : ImageOf Name) → HasOrderedClasses i → HasKernelChains i → (c : Name) (meta : Bool) (protocol text : List ℕ) (tree : MethodOf Name) → is_user_class text_eq i c ≡ true →
    is_unreached text_words is_super i (method_added c meta protocol text tree i) meta tree.selector ≡ true → (n : ℕ) → run (method_added c meta protocol text tree i) n ≡ run i n
added-runs i ordered chains c meta protocol text tree user unreached =
    unreached-runs i (method_added c meta protocol text tree i) ordered meta tree.selector (added-differ c meta protocol text tree i)
    (λ d b t e. find-more (is_method text_eq d b t) (new_method c meta protocol text tree) (by-rest (text_eq d c) (beq b meta) (text_eq t tree.selector) e) i.methods)
    (value-chains i ordered chains meta tree.selector (λ e. own_method text_eq (method_added c meta protocol text tree i).methods e.name meta tree.selector ≡ own_method text_eq i.methods e.name meta tree.selector)
    (λ e at kernel. find-more (is_method text_eq e.name meta tree.selector) (new_method c meta protocol text tree) (by-class (text_eq e.name c) (beq meta meta) (text_eq tree.selector tree.selector) (user-other i ordered c user e at kernel)) i.methods))
    unreached

-- a method of a place, made one of another class, is none of a third place
other-class : (c : Name) (meta : Bool) (s p d : Name) (b : Bool) (t : Name) → is_place p meta s d b t ≡ false → (m : EntryOf Name) → is_method text_eq c meta s m ≡ true → is_method text_eq d b t (of_class_named m p) ≡ false
other-class c meta s p d b t e m h =
    method-apart p meta s d b t e (of_class_named m p)
    (both (text_eq p p && beq meta m.meta) (text_eq s m.tree.selector)
    (both (text_eq p p) (beq meta m.meta) (text_eq-refl p) (and-true_right (option_map_or (text_eq c) m.class false) (beq meta m.meta) (and-true_left (option_map_or (text_eq c) m.class false && beq meta m.meta) (text_eq s m.tree.selector) h)))
    (and-true_right (option_map_or (text_eq c) m.class false && beq meta m.meta) (text_eq s m.tree.selector) h))
  where
    both : (a b : Bool) → a ≡ true → b ≡ true → (a && b) ≡ true
    both true b p q = q
    both false b p q = absurd (false≢true p)

module _ (i : ImageOf Name) (c : Name) (meta : Bool) (s : Name) (ds : List Name) where
  -- the methods with copies for these classes in place of one
  abbrev moved : List (EntryOf Name)
  moved = flat_map (λ m. if is_method text_eq c meta s m then map (of_class_named m) ds else m ∷ []) i.methods

  -- a method of none of the places
  pub own-moved : (d : Name) (b : Bool) (t : Name) → is_place c meta s d b t ≡ false → AllByRecursion (λ (p : Name). is_place p meta s d b t ≡ false) ds → own_method text_eq moved d b t ≡ own_method text_eq i.methods d b t
  own-moved d b t e a = find-replaced (is_method text_eq d b t) (λ m. if is_method text_eq c meta s m then map (of_class_named m) ds else m ∷ []) each i.methods
    where
      copies : (m : EntryOf Name) → is_method text_eq c meta s m ≡ true → (ps : List Name) → AllByRecursion (λ (p : Name). is_place p meta s d b t ≡ false) ps → AllByRecursion (λ x. is_method text_eq d b t x ≡ false) (map (of_class_named m) ps)
      copies m h [] k = tt
      copies m h (p ∷ ps) k = (other-class c meta s p d b t k.0 m h, copies m h ps k.1)

      each : (m : EntryOf Name) → ((if is_method text_eq c meta s m then map (of_class_named m) ds else m ∷ []) ≡ m ∷ []) ⊎ ((is_method text_eq d b t m ≡ false) × AllByRecursion (λ x. is_method text_eq d b t x ≡ false) (if is_method text_eq c meta s m then map (of_class_named m) ds else m ∷ []))
      each m = by (is_method text_eq c meta s m) refl
        where
          by : (x : Bool) → is_method text_eq c meta s m ≡ x → ((if x then map (of_class_named m) ds else m ∷ []) ≡ m ∷ []) ⊎ ((is_method text_eq d b t m ≡ false) × AllByRecursion (λ y. is_method text_eq d b t y ≡ false) (if x then map (of_class_named m) ds else m ∷ []))
          by true h = inr (method-apart c meta s d b t e m h, copies m h ds a)
          by false h = inl refl

  -- for other selectors and sides
  pub others-moved : (d : Name) (b : Bool) (t : Name) → (beq b meta && text_eq t s) ≡ false → own_method text_eq moved d b t ≡ own_method text_eq i.methods d b t
  others-moved d b t e = own-moved d b t (by-rest (text_eq d c) (beq b meta) (text_eq t s) e) (each ds)
    where
      each : (ps : List Name) → AllByRecursion (λ (p : Name). is_place p meta s d b t ≡ false) ps
      each [] = tt
      each (p ∷ ps) = (by-rest (text_eq d p) (beq b meta) (text_eq t s) e, each ps)

-- a method that goes up, as one that goes to one class
pushed_up-moved : (i : ImageOf Name) (c : Name) (meta : Bool) (s p : Name) (ms : List (EntryOf Name)) →
    map (λ m. if is_method text_eq c meta s m then of_class_named m p else m) ms ≡ flat_map (λ m. if is_method text_eq c meta s m then map (of_class_named m) (p ∷ []) else m ∷ []) ms
pushed_up-moved i c meta s p [] = refl
pushed_up-moved i c meta s p (m ∷ ms) = by (is_method text_eq c meta s m) (pushed_up-moved i c meta s p ms)
  where
    by : (x : Bool) → map (λ m. if is_method text_eq c meta s m then of_class_named m p else m) ms ≡ flat_map (λ m. if is_method text_eq c meta s m then map (of_class_named m) (p ∷ []) else m ∷ []) ms →
        ((if x then of_class_named m p else m) ∷ map (λ m. if is_method text_eq c meta s m then of_class_named m p else m) ms) ≡ (if x then map (of_class_named m) (p ∷ []) else m ∷ []) ++ flat_map (λ m. if is_method text_eq c meta s m then map (of_class_named m) (p ∷ []) else m ∷ []) ms
    by true ih = ap (λ l. of_class_named m p ∷ l) ih
    by false ih = ap (λ l. m ∷ l) ih

-- a method that goes up
pub pushed_up-runs : (i : ImageOf Name) → HasOrderedClasses i → HasKernelChains i → (c : Name) (meta : Bool) (s p : Name) → is_user_class text_eq i c ≡ true → superclass_name text_eq i c ≡ Some p → is_user_class text_eq i p ≡ true →
    is_unreached text_words is_super i (method_pushed_up text_eq c meta s i) meta s ≡ true → (n : ℕ) → run (method_pushed_up text_eq c meta s i) n ≡ run i n
pushed_up-runs i ordered chains c meta s p user above parent unreached =
    unreached-runs i (method_pushed_up text_eq c meta s i) ordered meta s (pushed_up-differ s c meta i)
    (λ d b t e. methods d b t ∙ others-moved i c meta s (p ∷ []) d b t e)
    (value-chains i ordered chains meta s (λ e. own_method text_eq (method_pushed_up text_eq c meta s i).methods e.name meta s ≡ own_method text_eq i.methods e.name meta s)
    (λ e at kernel. methods e.name meta s
    ∙ own-moved i c meta s (p ∷ []) e.name meta s (by-class (text_eq e.name c) (beq meta meta) (text_eq s s) (user-other i ordered c user e at kernel)) (by-class (text_eq e.name p) (beq meta meta) (text_eq s s) (user-other i ordered p parent e at kernel), tt)))
    unreached
  where
    methods : (d : Name) (b : Bool) (t : Name) → own_method text_eq (method_pushed_up text_eq c meta s i).methods d b t ≡ own_method text_eq (moved i c meta s (p ∷ [])) d b t
    methods d b t =
        ap (λ o. own_method text_eq (option_map_or (λ p. record i { methods = map (λ m. if is_method text_eq c meta s m then of_class_named m p else m) i.methods }) o i).methods d b t) above
        ∙ ap (λ ms. own_method text_eq ms d b t) (pushed_up-moved i c meta s p i.methods)
