-- A class variable that goes down to a direct subclass.
use Rattle.std.proofs.Common.{◌≡◌, List, [], ◌∷◌, Option, Some, None, refl, sym, ap, ◌∙◌, subst}
use Rattle.std.specs.Prelude.{Bool, true, false, cond, not, ◌&&◌, ◌||◌, map, find, option_map}
use Rattle.std.specs.List.{AllByRecursion}
use Rattle.std.specs.Option.{option_map_or}
use Rattle.std.proofs.lemmas.Bool.{false≢true}
use Rattle.rb_base.specs.Names.{text_eq}
use Rattle.image_model.specs.Image.{ClassOf, ImageOf}
use Rattle.image_model.specs.ImageNames.{OptionNames}
use Rattle.image_model.specs.Words.{text_words}
use Rattle.image_model.specs.Chain.{class_named, chain}
use Rattle.image_model.specs.Means.{of_class, means_outside}
use Rattle.image_model.specs.Uses.{is_variable}
use Rattle.image_model.proofs.Lists.{all-implies, find-all}
use Rattle.run_model.specs.Values.{Name}
use Rattle.run_model.specs.Runs.{doit_class}
use Rattle.run_model.proofs.Finite.{by_cases, and-true_left, and-true_right}
use Rattle.run_model.proofs.RenamingLemmas.{text-same}
use Rattle.mapped_model.specs.ChangedImages.{IsChangedImage}
use Rattle.mapped_model.proofs.RenamedVariableLemmas.{at-all}
use Rattle.rename_model.specs.Conditions.{is_user_class, defines, is_method_below}
use Rattle.command_model.specs.Commands.{PushDownClassVar}
use Rattle.command_model.specs.Hierarchy.{is_child}
use Rattle.command_model.specs.ClassConditions.{is_user_child}
use Rattle.command_model.specs.VariableConditions.{lacks_variable, is_unused_for}
use Rattle.command_model.specs.VariableEffects.{shared_moved}
use Rattle.variable_laws.specs.KernelDoIts.{HasKernelDoIts}
use Rattle.rename_laws.proofs.Unnamed.{denied, each-fails, variables-lack}
use Rattle.rename_laws.proofs.ChainFacts.{is_on, IsFound, chain-found, user-apart}
use Rattle.variable_laws.proofs.ClassesChanged.{defining}
use Rattle.variable_laws.proofs.Alike.{SharedAlike, shared_by}
use Rattle.variable_laws.proofs.Stays.{image-stays}
use Rattle.variable_laws.proofs.Links.{child-above, other-holds, Linked, linked, top-of, found-name, child-on, above-apart}
use Rattle.variable_laws.proofs.Definers.{shared-mapped}
use Rattle.variable_laws.proofs.AtNodes.{stays-by, unused-has, unused-at}
use Rattle.variable_laws.proofs.Removed.{LosesAlone, found-same, shared-other}
use Rattle.variable_laws.proofs.ClassesThere.{user-found, one-class, has-defines}
use Rattle.variable_laws.proofs.Swapped.{swapped-first}
use Rattle.variable_laws.proofs.SharedMoved.{moved, concerns, maps, AlikeHere, class-apart, class-loses, class-gains, name-fixed, off-alike, found-alike, others-alike, passed-by, moved-image}

module _ (c d x : Name) (i : ImageOf Name) (kernel : HasKernelDoIts i) (user : is_user_class text_eq i c ≡ true) (child : is_user_child text_eq i d c ≡ true) (lacks : lacks_variable text_eq i d x ≡ true) (unused : is_unused_for text_words i (PushDownClassVar c x d) c x ≡ true) where
  -- the two classes
  abbrev own : ClassOf Name
  own = (user-found i c user).0

  own-there : class_named text_eq i.classes c ≡ Some own
  own-there = (user-found i c user).1

  own-defines : defining of_class x own ≡ true
  own-defines = has-defines i of_class c x own (unused-has i (PushDownClassVar c x d) c x unused) own-there

  lower-user : is_user_class text_eq i d ≡ true
  lower-user = and-true_left (is_user_class text_eq i d) _ child

  abbrev lower : ClassOf Name
  lower = (user-found i d lower-user).0

  lower-there : class_named text_eq i.classes d ≡ Some lower
  lower-there = (user-found i d lower-user).1

  -- the one is under the other
  lower-above : lower.superclass ≡ Some c
  lower-above = child-above c lower (sym (ap (λ o. option_map_or (is_child text_eq c) o false) lower-there) ∙ and-true_right (is_user_class text_eq i d) _ child)

  -- and does not define the variable
  lower-lacks : defining of_class x lower ≡ false
  lower-lacks = variables-lack x lower (denied (defines text_eq x lower) (sym (ap (λ o. option_map_or (λ (e : ClassOf Name). not (defines text_eq x e)) o false) lower-there) ∙ lacks)) of_class

  pub two-classes : text_eq c d ≡ false
  two-classes =
      by_cases (text_eq c d)
      (λ t.
      let same : own ≡ lower = one-class i c own lower own-there (ap (class_named text_eq i.classes) (sym (text-same d lower.name (found-name i kernel.ordered d lower lower-there))) ∙ lower-there) (ap (λ n. text_eq n lower.name) (text-same c d t) ∙ found-name i kernel.ordered d lower lower-there) in
      absurd (false≢true (sym lower-lacks ∙ ap (defining of_class x) (sym same) ∙ own-defines)))
      (λ t. t)

  -- the subclass does not stand on the chain of the class
  own-apart : is_on d (chain text_eq i.classes (Some c)) ≡ false
  own-apart = ap (λ o. is_on d (chain text_eq i.classes o)) (sym lower-above) ∙ above-apart i kernel.ordered d lower lower-there

  -- above the subclass no other class defines the variable before the class
  pub down-found : (cs : List (ClassOf Name)) → AllByRecursion (IsFound i.classes) cs → Linked i kernel.ordered cs → is_on d cs ≡ true →
      SharedAlike (maps c d x two-classes i) x (find (defining of_class x) cs) (find (defining of_class x) (map (moved c d x two-classes i) cs))
  down-found [] found link on = absurd (false≢true on)
  down-found (e ∷ es) found link on =
      by_cases (text_eq d e.name) here
      (λ t. passed-by c d x two-classes i e es (higher, t) (down-found es found.1 link.1 (other-holds (text_eq d e.name) (is_on d es) t on)))
    where
      here : text_eq d e.name ≡ true → SharedAlike (maps c d x two-classes i) x (find (defining of_class x) (e ∷ es)) (find (defining of_class x) (map (moved c d x two-classes i) (e ∷ es)))
      here t =
          let same : lower ≡ e = one-class i d lower e lower-there found.0 t in
          let next : es ≡ own ∷ chain text_eq i.classes own.superclass = link.0 ∙ ap (λ (z : ClassOf Name). chain text_eq i.classes z.superclass) (sym same) ∙ ap (chain text_eq i.classes) lower-above ∙ top-of i kernel.ordered c own own-there in
          let before : find (defining of_class x) (e ∷ es) ≡ Some own =
          ap (λ b. cond b (Some e) (find (defining of_class x) es)) (ap (defining of_class x) (sym same) ∙ lower-lacks)
          ∙ ap (find (defining of_class x)) next
          ∙ ap (λ b. cond b (Some own) (find (defining of_class x) (chain text_eq i.classes own.superclass))) own-defines in
          let after : find (defining of_class x) (map (moved c d x two-classes i) (e ∷ es)) ≡ Some (moved c d x two-classes i e) =
          ap (λ b. cond b (Some (moved c d x two-classes i e)) (find (defining of_class x) (map (moved c d x two-classes i) es))) (class-gains c d x two-classes i e t) in
          subst (λ o. SharedAlike (maps c d x two-classes i) x o (find (defining of_class x) (map (moved c d x two-classes i) (e ∷ es)))) (sym before)
          (subst (SharedAlike (maps c d x two-classes i) x (Some own)) (sym after)
          (ap (λ n. (n, x)) ((concerns c d x two-classes i).hierarchy e).name
          ∙ ap (λ n. (n, x)) (sym (text-same d e.name t))
          ∙ sym (swapped-first (c, x) (d, x))
          ∙ ap (λ n. maps c d x two-classes i (n, x)) (text-same c own.name (found-name i kernel.ordered c own own-there))))

      higher : text_eq c e.name ≡ false
      higher =
          by_cases (text_eq c e.name)
          (λ s.
          let whole : chain text_eq i.classes (Some c) ≡ e ∷ es = ap (λ n. chain text_eq i.classes (Some n)) (text-same c e.name s) ∙ top-of i kernel.ordered e.name e found.0 ∙ ap (λ (z : List (ClassOf Name)). e ∷ z) (sym link.0) in
          absurd (false≢true (sym (sym (ap (is_on d) whole) ∙ own-apart) ∙ on)))
          (λ s. s)

  -- where the class does not stand the subclass does not
  both-off : (o : Option Name) → is_on c (chain text_eq i.classes o) ≡ false → is_on d (chain text_eq i.classes o) ≡ false
  both-off o off = none (chain text_eq i.classes o) (chain-found i.classes o) (child-on i kernel.ordered c own own-there (chain text_eq i.classes o) (linked i kernel.ordered o) off)
    where
      none : (cs : List (ClassOf Name)) → AllByRecursion (IsFound i.classes) cs → AllByRecursion (λ (e : ClassOf Name). is_child text_eq c e ≡ false) cs → is_on d cs ≡ false
      none [] found a = refl
      none (e ∷ es) found a = λ k. first k || none es found.1 a.1 k
        where
          first : text_eq d e.name ≡ false
          first =
              by_cases (text_eq d e.name)
              (λ t. absurd (false≢true (sym a.0 ∙ ap (is_child text_eq c) (sym (one-class i d lower e lower-there found.0 t)) ∙ sym (ap (λ o. option_map_or (is_child text_eq c) o false) lower-there) ∙ and-true_right (is_user_class text_eq i d) _ child)))
              (λ t. t)

  -- where the name means another variable, its definer stays
  missed-alike : (o : Option Name) (meta : Bool) → is_on d (chain text_eq i.classes o) ≡ false → is_variable text_eq of_class c (means_outside text_words i o meta x) ≡ false → AlikeHere c d x two-classes i o meta x
  missed-alike o meta off not_it =
      found-alike c d x two-classes i o meta
      (λ none.
      let other = shared-other of_class c meta i o x not_it refl none in
      let cs : List (ClassOf Name) = chain text_eq i.classes o in
      let apart = each-fails (λ (e : ClassOf Name). text_eq d e.name) cs off in
      let same : find (defining of_class x) (map (moved c d x two-classes i) cs) ≡ option_map (moved c d x two-classes i) (find (defining of_class x) cs) =
      found-same c (defining of_class x) (moved c d x two-classes i) cs (all-implies (λ (e : ClassOf Name). text_eq d e.name ≡ false) (LosesAlone c (defining of_class x) (moved c d x two-classes i)) loses cs apart) other in
      subst (SharedAlike (maps c d x two-classes i) x (find (defining of_class x) cs)) (sym same)
      (shared-mapped of_class x (moved c d x two-classes i) (concerns c d x two-classes i) (maps c d x two-classes i) i x (find (defining of_class x) cs)
      (fixed (find (defining of_class x) cs) other (find-all (λ (e : ClassOf Name). text_eq d e.name ≡ false) (defining of_class x) cs apart))))
    where
      loses : (e : ClassOf Name) → text_eq d e.name ≡ false → LosesAlone c (defining of_class x) (moved c d x two-classes i) e
      loses e h =
          (λ q. ap (defining of_class x) (class-apart c d x two-classes i e (q, h)), λ r. by_cases (text_eq c e.name) (class-loses c d x two-classes i e) (λ q. ap (defining of_class x) (class-apart c d x two-classes i e (q, h)) ∙ r))

      fixed : (f : Option (ClassOf Name)) → OptionNames (λ (e : ClassOf Name). text_eq c e.name ≡ false) f → OptionNames (λ (e : ClassOf Name). text_eq d e.name ≡ false) f → OptionNames (λ (e : ClassOf Name). (e.name, x) ≡ maps c d x two-classes i (e.name, x)) f
      fixed None p q = tt
      fixed (Some e) p q = name-fixed c d x two-classes i x e (p, q)

  -- the image after
  pub shared-down : IsChangedImage (shared_by (maps c d x two-classes i)) i (shared_moved text_eq c x d i)
  shared-down =
      subst (IsChangedImage (shared_by (maps c d x two-classes i)) i) (sym (moved-image c d x two-classes i))
      (image-stays (maps c d x two-classes i) i (moved c d x two-classes i) (concerns c d x two-classes i).hierarchy
      (at-all _ i.methods
      (λ j m at. stays-by (maps c d x two-classes i) i (moved c d x two-classes i) (concerns c d x two-classes i).hierarchy x (others-alike c d x two-classes i) m
      (λ path u q e outside named. by_cases (is_method_below text_eq i.classes d m)
      (λ on. found-alike c d x two-classes i m.class m.meta (λ none. down-found (chain text_eq i.classes m.class) (chain-found i.classes m.class) (linked i kernel.ordered m.class) on))
      (λ off. by_cases (is_method_below text_eq i.classes c m)
      (λ t. missed-alike m.class m.meta off (ap (is_variable text_eq of_class c) (sym outside) ∙ unused-at i (PushDownClassVar c x d) c x unused j m at (λ k. t k && not (off k)) path u q e))
      (λ t. off-alike c d x two-classes i m.class m.meta x t off)))))
      (λ n. off-alike c d x two-classes i (doit_class i) false n (user-apart i c user (chain text_eq i.classes (doit_class i)) (chain-found i.classes (doit_class i)) kernel.doits) (user-apart i d lower-user (chain text_eq i.classes (doit_class i)) (chain-found i.classes (doit_class i)) kernel.doits)))
