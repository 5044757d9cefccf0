-- A class variable that goes up to the superclass.
use Rattle.std.proofs.Common.{◌≡◌, List, [], ◌∷◌, Option, Some, refl, sym, ap, ◌∙◌, subst}
use Rattle.std.specs.Prelude.{Bool, true, false, cond, not, ◌&&◌, ◌||◌, map, find}
use Rattle.std.specs.List.{AllByRecursion, list_any}
use Rattle.std.specs.Option.{option_map_or, option_and_then}
use Rattle.std.proofs.lemmas.Bool.{false≢true}
use Rattle.rb_base.specs.Names.{text_eq}
use Rattle.rb_base.proofs.NamesLemmas.{text_eq-refl}
use Rattle.image_model.specs.Image.{ClassOf, EntryOf, ImageOf}
use Rattle.image_model.specs.Chain.{class_named, chain}
use Rattle.image_model.specs.Means.{of_class}
use Rattle.image_model.proofs.Lists.{all-implies}
use Rattle.run_model.specs.Values.{Name}
use Rattle.run_model.specs.Runs.{doit_class}
use Rattle.run_model.proofs.Finite.{by_cases}
use Rattle.run_model.proofs.RenamingLemmas.{text-same}
use Rattle.mapped_model.specs.ChangedImages.{IsChangedImage}
use Rattle.rename_model.specs.NamesThere.{is_named_in_method}
use Rattle.rename_model.specs.Conditions.{is_user_class, has_variable, defines, is_method_below}
use Rattle.command_model.specs.Hierarchy.{is_child, superclass_name}
use Rattle.command_model.specs.VariableEffects.{shared_moved}
use Rattle.variable_laws.specs.KernelDoIts.{HasKernelDoIts}
use Rattle.rename_laws.proofs.Unnamed.{variables-lack}
use Rattle.rename_laws.proofs.ChainFacts.{is_on, IsFound, chain-found, user-apart}
use Rattle.variable_laws.proofs.ClassesChanged.{defining}
use Rattle.variable_laws.proofs.Alike.{SharedAlike, shared_by}
use Rattle.variable_laws.proofs.Stays.{image-stays}
use Rattle.variable_laws.proofs.Links.{other-holds, Linked, linked, top-of, found-name, child-on}
use Rattle.variable_laws.proofs.AtNodes.{stays-by}
use Rattle.variable_laws.proofs.ClassesThere.{user-found, one-class, has-defines, defines-there}
use Rattle.variable_laws.proofs.Swapped.{swapped-first}
use Rattle.variable_laws.proofs.SharedMoved.{moved, concerns, maps, class-loses, class-gains, off-alike, found-alike, others-alike, passed-by, moved-image}

-- one of the items passes, where the test passes some of what another test passes
any-implies : {X : Type 0} (p q : X → Bool) → ((z : X) → p z ≡ true → q z ≡ true) → (xs : List X) → list_any p xs ≡ true → list_any q xs ≡ true
any-implies p q h [] e = e
any-implies p q h (z ∷ zs) e =
    by_cases (p z) (λ t. ap (λ b. b || list_any q zs) (h z t))
    (λ t. by (q z) (any-implies p q h zs (other-holds (p z) (list_any p zs) t e)))
  where
    by : (b : Bool) → list_any q zs ≡ true → (b || list_any q zs) ≡ true
    by true r = refl
    by false r = r

module _ (c d x : Name) (i : ImageOf Name) (kernel : HasKernelDoIts i) (user : is_user_class text_eq i c ≡ true) (above : is_user_class text_eq i d ≡ true) (parent : superclass_name text_eq i c ≡ Some d) (has : has_variable text_eq i of_class c x ≡ true)
    (free : list_any (defines text_eq x) (chain text_eq i.classes (Some d)) ≡ false) where
  -- the two classes
  abbrev own : ClassOf Name
  own = (user-found i c user).0

  own-there : class_named text_eq i.classes c ≡ Some own
  own-there = (user-found i c user).1

  own-defines : defining of_class x own ≡ true
  own-defines = has-defines i of_class c x own has own-there

  abbrev upper : ClassOf Name
  upper = (user-found i d above).0

  upper-there : class_named text_eq i.classes d ≡ Some upper
  upper-there = (user-found i d above).1

  -- the superclass of the class is the other
  own-above : own.superclass ≡ Some d
  own-above = sym (ap (λ o. option_and_then (λ (e : ClassOf Name). e.superclass) o) own-there) ∙ parent

  own-child : is_child text_eq d own ≡ true
  own-child = ap (λ o. option_map_or (text_eq d) o false) own-above ∙ text_eq-refl d

  -- a class that defines a class variable by the name defines the name
  named-too : (e : ClassOf Name) → defining of_class x e ≡ true → defines text_eq x e ≡ true
  named-too e h = by_cases (defines text_eq x e) (λ t. t) (λ t. absurd (false≢true (sym (variables-lack x e t of_class) ∙ h)))

  -- the class does not stand on the chain of its superclass
  below-apart : (cs : List (ClassOf Name)) → AllByRecursion (IsFound i.classes) cs → list_any (defines text_eq x) cs ≡ false → is_on c cs ≡ false
  below-apart cs found none =
      by_cases (is_on c cs) (λ t. absurd (false≢true (sym none ∙ any-implies (defining of_class x) (defines text_eq x) named-too cs (defines-there i of_class c x own own-there own-defines cs found t)))) (λ t. t)

  pub two-classes : text_eq c d ≡ false
  two-classes =
      by_cases (text_eq c d)
      (λ t. absurd (false≢true (
      sym (below-apart (chain text_eq i.classes (Some d)) (chain-found i.classes (Some d)) free)
      ∙ ap (is_on c) (top-of i kernel.ordered d upper upper-there)
      ∙ ap (λ b. b || is_on c (chain text_eq i.classes upper.superclass)) (ap (λ n. text_eq n upper.name) (text-same c d t) ∙ found-name i kernel.ordered d upper upper-there))))
      (λ t. t)

  -- above the class no other class defines the variable before the superclass
  pub up-found : (cs : List (ClassOf Name)) → AllByRecursion (IsFound i.classes) cs → Linked i kernel.ordered cs → is_on c cs ≡ true →
      SharedAlike (maps c d x two-classes i) x (find (defining of_class x) cs) (find (defining of_class x) (map (moved c d x two-classes i) cs))
  up-found [] found link on = absurd (false≢true on)
  up-found (e ∷ es) found link on =
      by_cases (text_eq c e.name) here
      (λ t.
      let rest : is_on c es ≡ true = other-holds (text_eq c e.name) (is_on c es) t on in
      passed-by c d x two-classes i e es (t, lower t rest) (up-found es found.1 link.1 rest))
    where
      here : text_eq c e.name ≡ true → SharedAlike (maps c d x two-classes i) x (find (defining of_class x) (e ∷ es)) (find (defining of_class x) (map (moved c d x two-classes i) (e ∷ es)))
      here t =
          let same : own ≡ e = one-class i c own e own-there found.0 t in
          let next : es ≡ upper ∷ chain text_eq i.classes upper.superclass = link.0 ∙ ap (λ (z : ClassOf Name). chain text_eq i.classes z.superclass) (sym same) ∙ ap (chain text_eq i.classes) own-above ∙ top-of i kernel.ordered d upper upper-there in
          let before : find (defining of_class x) (e ∷ es) ≡ Some e = ap (λ b. cond b (Some e) (find (defining of_class x) es)) (ap (defining of_class x) (sym same) ∙ own-defines) in
          let after : find (defining of_class x) (map (moved c d x two-classes i) (e ∷ es)) ≡ Some (moved c d x two-classes i upper) =
          ap (λ b. cond b (Some (moved c d x two-classes i e)) (find (defining of_class x) (map (moved c d x two-classes i) es))) (class-loses c d x two-classes i e t)
          ∙ ap (λ (z : List (ClassOf Name)). find (defining of_class x) (map (moved c d x two-classes i) z)) next
          ∙ ap (λ b. cond b (Some (moved c d x two-classes i upper)) (find (defining of_class x) (map (moved c d x two-classes i) (chain text_eq i.classes upper.superclass)))) (class-gains c d x two-classes i upper (found-name i kernel.ordered d upper upper-there)) in
          subst (λ o. SharedAlike (maps c d x two-classes i) x o (find (defining of_class x) (map (moved c d x two-classes i) (e ∷ es)))) (sym before)
          (subst (SharedAlike (maps c d x two-classes i) x (Some e)) (sym after)
          (ap (λ n. (n, x)) ((concerns c d x two-classes i).hierarchy upper).name
          ∙ ap (λ n. (n, x)) (sym (text-same d upper.name (found-name i kernel.ordered d upper upper-there)))
          ∙ sym (swapped-first (c, x) (d, x))
          ∙ ap (λ n. maps c d x two-classes i (n, x)) (text-same c e.name t)))

      lower : text_eq c e.name ≡ false → is_on c es ≡ true → text_eq d e.name ≡ false
      lower t rest =
          by_cases (text_eq d e.name)
          (λ s.
          let whole : chain text_eq i.classes (Some d) ≡ e ∷ es = ap (λ n. chain text_eq i.classes (Some n)) (text-same d e.name s) ∙ top-of i kernel.ordered e.name e found.0 ∙ ap (λ (z : List (ClassOf Name)). e ∷ z) (sym link.0) in
          absurd (false≢true (sym (below-apart (e ∷ es) found (ap (list_any (defines text_eq x)) (sym whole) ∙ free)) ∙ on)))
          (λ s. s)

  -- where the superclass does not stand the class does not
  both-off : (o : Option Name) → is_on d (chain text_eq i.classes o) ≡ false → is_on c (chain text_eq i.classes o) ≡ false
  both-off o off = none (chain text_eq i.classes o) (chain-found i.classes o) (child-on i kernel.ordered d upper upper-there (chain text_eq i.classes o) (linked i kernel.ordered o) off)
    where
      none : (cs : List (ClassOf Name)) → AllByRecursion (IsFound i.classes) cs → AllByRecursion (λ (e : ClassOf Name). is_child text_eq d e ≡ false) cs → is_on c cs ≡ false
      none [] found a = refl
      none (e ∷ es) found a = λ k. first k || none es found.1 a.1 k
        where
          first : text_eq c e.name ≡ false
          first = by_cases (text_eq c e.name) (λ t. absurd (false≢true (sym a.0 ∙ ap (is_child text_eq d) (sym (one-class i c own e own-there found.0 t)) ∙ own-child))) (λ t. t)

  -- the image after
  pub shared-up : AllByRecursion (λ (m : EntryOf Name). (is_method_below text_eq i.classes d m && (not (list_any (λ n. is_method_below text_eq i.classes n m) (c ∷ [])) && is_named_in_method text_eq x m)) ≡ false) i.methods →
      IsChangedImage (shared_by (maps c d x two-classes i)) i (shared_moved text_eq c x d i)
  shared-up unnamed =
      subst (IsChangedImage (shared_by (maps c d x two-classes i)) i) (sym (moved-image c d x two-classes i))
      (image-stays (maps c d x two-classes i) i (moved c d x two-classes i) (concerns c d x two-classes i).hierarchy
      (all-implies _ _
      (λ m h. stays-by (maps c d x two-classes i) i (moved c d x two-classes i) (concerns c d x two-classes i).hierarchy x (others-alike c d x two-classes i) m
      (λ path u q e outside named. by_cases (is_method_below text_eq i.classes c m)
      (λ on. found-alike c d x two-classes i m.class m.meta (λ none. up-found (chain text_eq i.classes m.class) (chain-found i.classes m.class) (linked i kernel.ordered m.class) on))
      (λ off. by_cases (is_method_below text_eq i.classes d m) (λ t. absurd (false≢true (sym h ∙ (λ k. t k && (not (off k || false) && named k)))))
      (λ t. off-alike c d x two-classes i m.class m.meta x off t))))
      i.methods unnamed)
      (λ n. off-alike c d x two-classes i (doit_class i) false n (user-apart i c user (chain text_eq i.classes (doit_class i)) (chain-found i.classes (doit_class i)) kernel.doits) (user-apart i d above (chain text_eq i.classes (doit_class i)) (chain-found i.classes (doit_class i)) kernel.doits)))
