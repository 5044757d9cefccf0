-- An instance variable that goes down: the code of its class does not mean it, and all code below finds it in a child of the class.
use Rattle.std.proofs.Common.{◌≡◌, List, [], ◌∷◌, Option, Some, None, refl, sym, ap, ◌∙◌, subst}
use Rattle.std.specs.Prelude.{Bool, true, false, cond, not, ◌&&◌, if◌then◌else◌, map, find}
use Rattle.std.specs.List.{list_any}
use Rattle.std.specs.Option.{option_map_or}
use Rattle.std.proofs.lemmas.Bool.{false≢true}
use Rattle.rb_base.specs.Names.{text_eq}
use Rattle.image_model.specs.Image.{ClassOf, ImageOf}
use Rattle.image_model.specs.ImageNames.{OptionNames}
use Rattle.image_model.specs.Words.{text_words}
use Rattle.image_model.specs.Chain.{class_named, chain}
use Rattle.image_model.specs.Means.{of_instance, variables, definer, means_outside}
use Rattle.image_model.specs.Uses.{is_variable}
use Rattle.image_model.proofs.Lists.{all-implies, all-both}
use Rattle.run_model.specs.Values.{Name}
use Rattle.run_model.specs.Runs.{doit_class}
use Rattle.run_model.proofs.Finite.{by_cases, any-map, and-true_left, and-true_right}
use Rattle.run_model.proofs.RenamingLemmas.{text-same}
use Rattle.resolved_model.proofs.LookupLemmas.{everywhere}
use Rattle.mapped_model.specs.ChangedImages.{IsChangedImage}
use Rattle.mapped_model.proofs.RenamedVariableLemmas.{at-all}
use Rattle.rename_model.specs.Conditions.{is_user_class, is_method_below}
use Rattle.command_model.specs.Commands.{PushDownInstVar}
use Rattle.command_model.specs.Hierarchy.{is_child, is_method_of}
use Rattle.command_model.specs.VariableConditions.{is_unused_for}
use Rattle.command_model.specs.VariableEffects.{with_last, without, class_pushed_down, instance_pushed_down}
use Rattle.variable_laws.specs.KernelDoIts.{HasKernelDoIts}
use Rattle.rename_laws.proofs.Unnamed.{denied, each-fails}
use Rattle.rename_laws.proofs.ChainFacts.{is_on, chain-found, user-apart}
use Rattle.variable_laws.proofs.NamesPut.{put_last, put-others, put-there, left_out, left-others}
use Rattle.variable_laws.proofs.ClassesChanged.{with-own, defining, with_list, ConcernsVariable, concerns-list, concerns-none, concerns-either}
use Rattle.variable_laws.proofs.Alike.{shared_by, Alike}
use Rattle.variable_laws.proofs.Stays.{image-stays}
use Rattle.variable_laws.proofs.Links.{Linked, linked, top-of, found-name, starts, child-on, on-child}
use Rattle.variable_laws.proofs.Definers.{found-any, other-alike, apart-alike, alike-if}
use Rattle.variable_laws.proofs.AtNodes.{stays-by, unused-has, unused-at}
use Rattle.variable_laws.proofs.Removed.{side-other}
use Rattle.variable_laws.proofs.ClassesThere.{user-found, has-defines, defines-there}

module _ (c x : Name) (i : ImageOf Name) where
  -- a class after
  abbrev lowered : ClassOf Name → ClassOf Name
  lowered e = class_pushed_down text_eq c x e

  concerns : ConcernsVariable of_instance x lowered
  concerns =
      concerns-either of_instance x (λ e. text_eq c e.name) (with_list of_instance x (left_out x)) (λ e. if is_child text_eq c e then with_last of_instance x e else e) (concerns-list of_instance x (left_out x) (left-others x))
      (concerns-either of_instance x (is_child text_eq c) (with_list of_instance x (put_last x)) (λ e. e) (concerns-list of_instance x (put_last x) (put-others x)) (concerns-none of_instance x))

  abbrev AlikeHere : Option Name → Bool → Name → Type 0
  AlikeHere o meta n = Alike (λ k. k) i lowered concerns.hierarchy o meta n

  -- a class that is neither the class nor a child of it stays
  class-apart : (e : ClassOf Name) → (text_eq c e.name ≡ false) × (is_child text_eq c e ≡ false) → lowered e ≡ e
  class-apart e h = λ k. if h.0 k then without text_eq of_instance x e else if h.1 k then with_last of_instance x e else e

  -- a child of the class has the variable
  abbrev is_lower : ClassOf Name → Bool
  is_lower e = not (text_eq c e.name) && is_child text_eq c e

  class-gains : (e : ClassOf Name) → is_lower e ≡ true → defining of_instance x (lowered e) ≡ true
  class-gains e h =
      let apart = denied (text_eq c e.name) (and-true_left (not (text_eq c e.name)) (is_child text_eq c e) h) in
      let child = and-true_right (not (text_eq c e.name)) (is_child text_eq c e) h in
      (λ k. defining of_instance x (if apart k then without text_eq of_instance x e else if child k then with_last of_instance x e else e))
      ∙ ap (list_any (text_eq x)) (with-own of_instance (put_last x (variables of_instance e)) e)
      ∙ put-there x (variables of_instance e)

  module _ (kernel : HasKernelDoIts i) (user : is_user_class text_eq i c ≡ true) (unused : is_unused_for text_words i (PushDownInstVar c x) c x ≡ true) where
    -- the class
    abbrev own : ClassOf Name
    own = (user-found i c user).0

    own-there : class_named text_eq i.classes c ≡ Some own
    own-there = (user-found i c user).1

    own-defines : defining of_instance x own ≡ true
    own-defines = has-defines i of_instance c x own (unused-has i (PushDownInstVar c x) c x unused) own-there

    -- names are alike where the class does not stand on the chain
    off-alike : (o : Option Name) (meta : Bool) (n : Name) → is_on c (chain text_eq i.classes o) ≡ false → AlikeHere o meta n
    off-alike o meta n off =
        apart-alike of_instance x lowered concerns (λ k. k) i o meta n
        (all-implies _ _ class-apart (chain text_eq i.classes o)
        (all-both (λ (e : ClassOf Name). text_eq c e.name ≡ false) (λ e. is_child text_eq c e ≡ false) (chain text_eq i.classes o) (each-fails (λ (e : ClassOf Name). text_eq c e.name) (chain text_eq i.classes o) off)
        (child-on i kernel.ordered c own own-there (chain text_eq i.classes o) (linked i kernel.ordered o) off)))
        (everywhere _ (λ e. refl) (chain text_eq i.classes o))

    -- a child stands on the chain of a class below
    lower-on : (o : Option Name) (cs : List (ClassOf Name)) → cs ≡ chain text_eq i.classes o → option_map_or (text_eq c) o false ≡ false → is_on c cs ≡ true → list_any is_lower cs ≡ true
    lower-on o [] q apart on = absurd (false≢true on)
    lower-on o (e ∷ es) q apart on =
        on-child i kernel.ordered c e es (subst (Linked i kernel.ordered) (sym q) (linked i kernel.ordered o)) (sym (ap (λ z. option_map_or (text_eq c) z false) (starts i kernel.ordered o e es q)) ∙ apart) on

    -- the name is alike there
    below-alike : (o : Option Name) (meta : Bool) → is_on c (chain text_eq i.classes o) ≡ true → option_map_or (text_eq c) o false ≡ false → AlikeHere o meta x
    below-alike o meta on apart =
        alike-if of_instance x lowered concerns (λ k. k) i o meta
        (λ t. found-any (defining of_instance x) (map lowered (chain text_eq i.classes o))
        ∙ any-map is_lower (defining of_instance x) lowered class-gains (chain text_eq i.classes o) (lower-on o (chain text_eq i.classes o) refl apart on)
        ∙ sym (defines-there i of_instance c x own own-there own-defines (chain text_eq i.classes o) (chain-found i.classes o) on)
        ∙ sym (found-any (defining of_instance x) (chain text_eq i.classes o)))
        (λ t d. refl) (λ t none. absurd (false≢true t))

    -- the class itself is the definer in its own code
    own-found : definer text_eq of_instance (chain text_eq i.classes (Some c)) x ≡ Some own
    own-found =
        ap (find (defining of_instance x)) (top-of i kernel.ordered c own own-there)
        ∙ ap (λ b. cond b (Some own) (find (defining of_instance x) (chain text_eq i.classes own.superclass))) own-defines

    -- where a name means another variable than that of the class
    own-alike : (o : Option Name) (meta : Bool) → option_map_or (text_eq c) o false ≡ true → is_variable text_eq of_instance c (means_outside text_words i o meta x) ≡ false → AlikeHere o meta x
    own-alike None meta is not_it = absurd (false≢true is)
    own-alike (Some n) meta is not_it =
        alike-if of_instance x lowered concerns (λ k. k) i (Some n) meta
        (λ t. absurd (false≢true (
        sym (subst (OptionNames (λ (e : ClassOf Name). text_eq c e.name ≡ false)) (ap (λ z. definer text_eq of_instance (chain text_eq i.classes (Some z)) x) (sym (text-same c n is)) ∙ own-found) (side-other of_instance c meta i (Some n) x not_it t))
        ∙ found-name i kernel.ordered c own own-there)))
        (λ t d. refl) (λ t none. absurd (false≢true t))

    -- the image after
    pub lowered-changed : IsChangedImage (shared_by (λ k. k)) i (instance_pushed_down text_eq c x i)
    lowered-changed =
        image-stays (λ k. k) i lowered concerns.hierarchy
        (at-all _ i.methods
        (λ j m at. stays-by (λ k. k) i lowered concerns.hierarchy x (other-alike of_instance x lowered concerns (λ k. k) i (λ d n t. refl)) m
        (λ path u q e outside named. by_cases (is_method_of text_eq c m)
        (λ is. own-alike m.class m.meta is (ap (is_variable text_eq of_instance c) (sym outside) ∙ unused-at i (PushDownInstVar c x) c x unused j m at is path u q e))
        (λ is. by_cases (is_method_below text_eq i.classes c m) (λ on. below-alike m.class m.meta on is) (λ off. off-alike m.class m.meta x off)))))
        (λ n. off-alike (doit_class i) false n (user-apart i c user (chain text_eq i.classes (doit_class i)) (chain-found i.classes (doit_class i)) kernel.doits))
