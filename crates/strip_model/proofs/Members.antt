-- What is reached are classes and methods of the image.
use Rattle.std.proofs.Common.{◌≡◌, ℕ, zero, suc, List, [], ◌∷◌, map, Option, Some, None, refl, ap, subst, ◌∙◌, option_map}
use Rattle.std.specs.Prelude.{Bool, true, false, find, slice_get, Contains, if◌then◌else◌, unwrap_or}
use Rattle.std.specs.List.{AllByRecursion}
use Rattle.std.specs.Option.{option_or}
use Rattle.std.proofs.lemmas.Option.{slice_get-map}
use Rattle.scope_model.specs.declared.local.Local.{Local}
use Rattle.scope_model.specs.declared.local.Local.TheVariants.{Argument, Temporary, NotLocal}
use Rattle.scope_model.specs.Scope.{local_in, local_in_doit}
use Rattle.tree_model.specs.Tree.{TreeOf, var, literal, send, cascade, assign, block, brace, return, SequenceOf}
use Rattle.tree_model.specs.Nodes.{Placed, nodes}
use Rattle.image_model.specs.Image.{ClassOf, EntryOf, DoItOf, ImageOf}
use Rattle.image_model.specs.ImageNames.{OptionNames}
use Rattle.image_model.specs.Words.{WordsOf}
use Rattle.image_model.specs.Chain.{class_named, chain}
use Rattle.image_model.specs.Means.{MeaningOf, pseudo, variable, a_class, transcript, undeclared, of_class, side_kind, definer, means_along, means_by, means, means_in_doit}
use Rattle.image_model.specs.Valid.{class_names, SuperclassesStandBefore, HasClass}
use Rattle.image_model.proofs.Ends.{place-contains}
use Rattle.image_model.proofs.Lists.{all-implies, find-all}
use Rattle.strip_model.specs.Reach.{if_named, signatures, class_meant, node_means, code_means, doit_code, method_code, demanded_by, has_class, has_selector, has_method, everything, size, reached_after, reach}
use Rattle.strip_model.specs.Members.{IsOfMethod}
use Rattle.strip_model.proofs.KnownNodes.{all-append, all-given, all-each, all-kept}

-- what holds at each place holds of all
at-each : {X : Type 0} (P : X → Type 0) (xs : List X) → ((k : ℕ) (x : X) → slice_get xs k ≡ Some x → P x) → AllByRecursion P xs
at-each P [] h = tt
at-each P (x ∷ xs) h = (h 0 x refl, at-each P xs (λ k y at. h (suc k) y at))

module _ {N : Type 0} (w : WordsOf N) (i : ImageOf N) where
  -- the name of a class of the image
  abbrev IsName : N → Type 0
  IsName n = Contains (class_names i.classes) n

  class-names : AllByRecursion (λ (c : ClassOf N). IsName c.name) i.classes
  class-names = at-each (λ (c : ClassOf N). IsName c.name) i.classes (λ k c at. place-contains (class_names i.classes) k c.name (slice_get-map (λ (c : ClassOf N). c.name) i.classes k ∙ ap (option_map (λ (c : ClassOf N). c.name)) at))

  -- classes that are meant
  along-names : (above : List (ClassOf N)) (meta : Bool) (n : N) → AllByRecursion IsName (class_meant (means_along w i.classes above meta n))
  along-names above meta n = by (definer w.tests.same (side_kind meta) above n) (definer w.tests.same of_class above n) (class_named w.tests.same i.classes n) (find-all (λ (c : ClassOf N). IsName c.name) (λ c. w.tests.same n c.name) i.classes class-names) (w.is_transcript n)
    where
      by : (a b o : Option (ClassOf N)) → OptionNames (λ (c : ClassOf N). IsName c.name) o → (t : Bool) →
          AllByRecursion IsName (class_meant (unwrap_or (option_or (option_map (λ (c : ClassOf N). variable (side_kind meta) c.name) a) (option_or (option_map (λ (c : ClassOf N). variable of_class c.name) b) (option_or (option_map (λ (c : ClassOf N). a_class c.name) o) (if t then Some transcript else None)))) undeclared))
      by (Some c) b o p t = tt
      by None (Some c) o p t = tt
      by None None (Some c) p t = (p, tt)
      by None None None p true = tt
      by None None None p false = tt

  scoped-names : (p : Bool) (l : Local) (outside : MeaningOf N) → AllByRecursion IsName (class_meant outside) → AllByRecursion IsName (class_meant (if p then pseudo else means_by l outside))
  scoped-names true l outside h = tt
  scoped-names false (Argument k) outside h = tt
  scoped-names false (Temporary k) outside h = tt
  scoped-names false NotLocal outside h = h

  -- at a node, and in code
  node-names : (at : List ℕ → N → MeaningOf N) → ((path : List ℕ) (n : N) → AllByRecursion IsName (class_meant (at path n))) → (path : List ℕ) (u : TreeOf N) → AllByRecursion IsName (node_means at (path, u))
  node-names at h path (var n) = all-append IsName (class_meant (at path n)) [] (h path n) tt
  node-names at h path (literal l) = tt
  node-names at h path (send r s args) = tt
  node-names at h path (cascade r ms) = tt
  node-names at h path (assign n t) = all-append IsName (class_meant (at path n)) [] (h path n) tt
  node-names at h path (block ps ts ss e) = tt
  node-names at h path (brace ts) = tt
  node-names at h path (return t) = tt

  code-names : (at : List ℕ → N → MeaningOf N) (b : SequenceOf N) → ((path : List ℕ) (n : N) → AllByRecursion IsName (class_meant (at path n))) → AllByRecursion IsName (code_means (at, b))
  code-names at b h = all-each IsName (node_means at) (nodes b) (at-each (λ (e : Placed N). AllByRecursion IsName (node_means at e)) (nodes b) (λ k e place. node-names at h e.0 e.1))

  method-names : (m : EntryOf N) → AllByRecursion IsName (code_means (method_code w i m))
  method-names m = code-names (means w i m) m.tree.body (λ path n. scoped-names (w.tests.is_pseudo n) (local_in w.tests.same w.tests.is_pseudo m.tree path n) _ (along-names (chain w.tests.same i.classes m.class) m.meta n))

  doit-names : (d : DoItOf N) → AllByRecursion IsName (code_means (doit_code w i d))
  doit-names d = code-names (means_in_doit w i d) d.body (λ path n. scoped-names (w.tests.is_pseudo n) (local_in_doit w.tests.same w.tests.is_pseudo d.body path n) _ (along-names (chain w.tests.same i.classes (option_map (λ (c : ClassOf N). c.name) (find (λ c. w.is_undefined_object c.name) i.classes))) false n))

  module _ (before : SuperclassesStandBefore i.classes) (owned : AllByRecursion (HasClass i.classes) i.methods) where
    if-named : (o : Option N) → ((n : N) → o ≡ Some n → IsName n) → AllByRecursion IsName (if_named o)
    if-named None h = tt
    if-named (Some n) h = (h n refl, tt)

    owner-name : (m : EntryOf N) → HasClass i.classes m → (n : N) → m.class ≡ Some n → IsName n
    owner-name m (c, e, there) n q = let same : c ≡ n = cc in subst IsName same there

    -- classes that are demanded
    demanded-classes : (c s : N → Bool) (m : EntryOf N → Bool) → AllByRecursion IsName (demanded_by w i c s m).classes
    demanded-classes c s m =
        all-append IsName _ _ (all-kept IsName (λ (x : ClassOf N). x.name) (λ (x : ClassOf N). x.kernel) i.classes class-names)
        (all-append IsName _ _
        (all-given IsName (λ (x : ClassOf N). if_named x.superclass) (λ (x : ClassOf N). c x.name) i.classes
        (at-each (λ (x : ClassOf N). AllByRecursion IsName (if_named x.superclass)) i.classes (λ k x at. if-named x.superclass (λ n q. let there = before k x n at q in place-contains (class_names i.classes) there.0 n there.2))))
        (all-append IsName _ _ (all-given IsName (λ (x : EntryOf N). if_named x.class) m i.methods (all-implies (HasClass i.classes) (λ (x : EntryOf N). AllByRecursion IsName (if_named x.class)) (λ x h. if-named x.class (owner-name x h)) i.methods owned))
        (all-append IsName _ _ (all-each IsName (λ (d : DoItOf N). code_means (doit_code w i d)) i.doits (at-each (λ (d : DoItOf N). AllByRecursion IsName (code_means (doit_code w i d))) i.doits (λ k d at. doit-names d)))
        (all-given IsName (λ (x : EntryOf N). code_means (method_code w i x)) m i.methods (at-each (λ (x : EntryOf N). AllByRecursion IsName (code_means (method_code w i x))) i.methods (λ k x at. method-names x))))))

    after-classes : (k : ℕ) → AllByRecursion IsName (reached_after w i k).classes
    after-classes zero = tt
    after-classes (suc k) = demanded-classes (has_class w.tests.same (reached_after w i k)) (has_selector w.tests.same (reached_after w i k)) (has_method w.tests.same (reached_after w i k))

    pub reach-classes : AllByRecursion IsName (reach w i).classes
    reach-classes = after-classes (size w i (everything w i))

  -- methods that are demanded
  signature-of : (k : ℕ) (m : EntryOf N) → slice_get i.methods k ≡ Some m → AllByRecursion (IsOfMethod i) (signatures m)
  signature-of k m at = by m.class (λ c q. (m, place-contains i.methods k m at, ap (λ o. (o, m.meta, m.tree.selector)) q))
    where
      by : (o : Option N) → ((c : N) → o ≡ Some c → IsOfMethod i (c, m.meta, m.tree.selector)) → AllByRecursion (IsOfMethod i) (map (λ c. (c, m.meta, m.tree.selector)) (if_named o))
      by None h = tt
      by (Some c) h = (h c refl, tt)

  after-methods : (k : ℕ) → AllByRecursion (IsOfMethod i) (reached_after w i k).methods
  after-methods zero = tt
  after-methods (suc k) = all-given (IsOfMethod i) signatures _ i.methods (at-each (λ (m : EntryOf N). AllByRecursion (IsOfMethod i) (signatures m)) i.methods signature-of)

  pub reach-methods : AllByRecursion (IsOfMethod i) (reach w i).methods
  reach-methods = after-methods (size w i (everything w i))
