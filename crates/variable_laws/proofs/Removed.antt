-- A variable that goes: no code below the class means it, so all names mean what they meant.
use Rattle.std.proofs.Common.{◌≡◌, List, [], ◌∷◌, Option, Some, None, refl, sym, ap, ◌∙◌, subst}
use Rattle.std.specs.Prelude.{Bool, true, false, cond, ◌&&◌, if◌then◌else◌, map, find, option_map, is_some}
use Rattle.std.specs.List.{AllByRecursion, list_any}
use Rattle.std.proofs.lemmas.Bool.{false≢true}
use Rattle.rb_base.specs.Names.{text_eq}
use Rattle.image_model.specs.Image.{ClassOf, EntryOf, ImageOf}
use Rattle.image_model.specs.ImageNames.{OptionNames}
use Rattle.image_model.specs.Words.{text_words}
use Rattle.image_model.specs.Chain.{class_named, chain}
use Rattle.image_model.specs.Means.{VariableKind, of_class, variables, definer, side_kind, means_outside}
use Rattle.image_model.specs.Uses.{same_kind, is_variable}
use Rattle.image_model.proofs.Lists.{all-implies}
use Rattle.run_model.specs.Values.{Name}
use Rattle.run_model.specs.Runs.{doit_class}
use Rattle.run_model.proofs.Finite.{by_cases}
use Rattle.resolved_model.proofs.LookupLemmas.{everywhere, anywhere}
use Rattle.mapped_model.specs.ChangedImages.{IsChangedImage}
use Rattle.mapped_model.proofs.RenamedVariableLemmas.{at-all}
use Rattle.rename_model.specs.Conditions.{is_user_class, is_method_below}
use Rattle.command_model.specs.Commands.{CommandOf, kind_of}
use Rattle.command_model.specs.VariableConditions.{is_looked_through, is_unused_for}
use Rattle.command_model.specs.VariableEffects.{without, variable_removed}
use Rattle.variable_laws.specs.KernelDoIts.{HasKernelDoIts}
use Rattle.rename_laws.proofs.Unnamed.{each-fails}
use Rattle.rename_laws.proofs.VariableClasses.{kind-same}
use Rattle.rename_laws.proofs.OutsideAfter.{meaning_by}
use Rattle.rename_laws.proofs.ChainFacts.{is_on, chain-found, user-apart}
use Rattle.variable_laws.proofs.NamesPut.{left_out, left-others, left-gone}
use Rattle.variable_laws.proofs.ClassesChanged.{with-own, defining, with_list, ConcernsVariable, concerns-list, concerns-none, concerns-either}
use Rattle.variable_laws.proofs.Alike.{SharedAlike, shared_by, Alike}
use Rattle.variable_laws.proofs.Stays.{image-stays}
use Rattle.variable_laws.proofs.Definers.{some-mapped, shared-mapped, other-alike, apart-alike, alike-if}
use Rattle.variable_laws.proofs.AtNodes.{stays-by, unused-at}

-- a class after a change defines the name as before if it is another than the class of a name, and not where it did not
abbrev pub LosesAlone : (c : Name) → (p : ClassOf Name → Bool) → (g : ClassOf Name → ClassOf Name) → ClassOf Name → Type 0
LosesAlone c p g e = (text_eq c e.name ≡ false → p (g e) ≡ p e) × (p e ≡ false → p (g e) ≡ false)

-- so the first that defines it is the same, if it is another class
pub found-same : (c : Name) (p : ClassOf Name → Bool) (g : ClassOf Name → ClassOf Name) (cs : List (ClassOf Name)) → AllByRecursion (LosesAlone c p g) cs → OptionNames (λ (e : ClassOf Name). text_eq c e.name ≡ false) (find p cs) → find p (map g cs) ≡ option_map g (find p cs)
found-same c p g [] a h = refl
found-same c p g (e ∷ es) a h = by (p e) refl h (found-same c p g es a.1)
  where
    by : (b : Bool) → p e ≡ b → OptionNames (λ (z : ClassOf Name). text_eq c z.name ≡ false) (cond b (Some e) (find p es)) → (OptionNames (λ (z : ClassOf Name). text_eq c z.name ≡ false) (find p es) → find p (map g es) ≡ option_map g (find p es)) →
        cond (p (g e)) (Some (g e)) (find p (map g es)) ≡ option_map g (cond b (Some e) (find p es))
    by true q k rest = ap (λ z. cond z (Some (g e)) (find p (map g es))) (a.0.0 k ∙ q)
    by false q k rest = ap (λ z. cond z (Some (g e)) (find p (map g es))) (a.0.1 q) ∙ rest k

module _ (kind : VariableKind) (c : Name) (meta : Bool) where
  -- a name that does not mean the variable, by the classes that are found for it
  abbrev NotIt : Option (ClassOf Name) → Type 0
  NotIt o = OptionNames (λ (e : ClassOf Name). text_eq c e.name ≡ false) o

  side-not : (side shared named : Option (ClassOf Name)) (b : Bool) → same_kind kind (side_kind meta) ≡ true → is_variable text_eq kind c (meaning_by meta side shared named b) ≡ false → NotIt side
  side-not None shared named b t h = tt
  side-not (Some e) shared named b t h = sym (ap (λ z. z && text_eq c e.name) t) ∙ h

  shared-not : (side shared named : Option (ClassOf Name)) (b : Bool) → is_some side ≡ false → same_kind kind of_class ≡ true → is_variable text_eq kind c (meaning_by meta side shared named b) ≡ false → NotIt shared
  shared-not (Some e) shared named b none t h = absurd (false≢true (sym none))
  shared-not None None named b none t h = tt
  shared-not None (Some e) named b none t h = sym (ap (λ z. z && text_eq c e.name) t) ∙ h

  module _ (i : ImageOf Name) (o : Option Name) (x : Name) (not_it : is_variable text_eq kind c (means_outside text_words i o meta x) ≡ false) where
    -- so its definer on the side is another class, and so is that of a class variable
    pub side-other : same_kind kind (side_kind meta) ≡ true → NotIt (definer text_eq kind (chain text_eq i.classes o) x)
    side-other t =
        subst (λ k. NotIt (definer text_eq k (chain text_eq i.classes o) x)) (sym (kind-same kind (side_kind meta) t))
        (side-not (definer text_eq (side_kind meta) (chain text_eq i.classes o) x) (definer text_eq of_class (chain text_eq i.classes o) x) (class_named text_eq i.classes x) (text_words.is_transcript x) t not_it)

    pub shared-other : same_kind kind of_class ≡ true → is_some (definer text_eq (side_kind meta) (chain text_eq i.classes o) x) ≡ false → NotIt (definer text_eq of_class (chain text_eq i.classes o) x)
    shared-other t none =
        shared-not (definer text_eq (side_kind meta) (chain text_eq i.classes o) x) (definer text_eq of_class (chain text_eq i.classes o) x) (class_named text_eq i.classes x) (text_words.is_transcript x) none t not_it

module _ (kind : VariableKind) (c x : Name) (i : ImageOf Name) where
  -- a class after
  abbrev removed_class : ClassOf Name → ClassOf Name
  removed_class e = if text_eq c e.name then without text_eq kind x e else e

  concerns : ConcernsVariable kind x removed_class
  concerns = concerns-either kind x (λ e. text_eq c e.name) (with_list kind x (left_out x)) (λ e. e) (concerns-list kind x (left_out x) (left-others x)) (concerns-none kind x)

  abbrev AlikeHere : Option Name → Bool → Name → Type 0
  AlikeHere o meta n = Alike (λ k. k) i removed_class concerns.hierarchy o meta n

  -- another class stays
  class-apart : (e : ClassOf Name) → text_eq c e.name ≡ false → removed_class e ≡ e
  class-apart e h = ap (λ b. if b then without text_eq kind x e else e) h

  -- the class does not define the name
  class-loses : (e : ClassOf Name) → text_eq c e.name ≡ true → defining kind x (removed_class e) ≡ false
  class-loses e h =
      ap (λ b. defining kind x (if b then without text_eq kind x e else e)) h ∙ ap (list_any (text_eq x)) (with-own kind (left_out x (variables kind e)) e) ∙ left-gone x (variables kind e)

  loses-alone : (e : ClassOf Name) → LosesAlone c (defining kind x) removed_class e
  loses-alone e = (λ h. ap (defining kind x) (class-apart e h), λ q. by_cases (text_eq c e.name) (class-loses e) (λ h. ap (defining kind x) (class-apart e h) ∙ q))

  -- names are alike where the class does not stand on the chain
  off-alike : (o : Option Name) (meta : Bool) (n : Name) → is_on c (chain text_eq i.classes o) ≡ false → AlikeHere o meta n
  off-alike o meta n off =
      apart-alike kind x removed_class concerns (λ k. k) i o meta n
      (all-implies _ _ class-apart (chain text_eq i.classes o) (each-fails (λ (e : ClassOf Name). text_eq c e.name) (chain text_eq i.classes o) off))
      (everywhere _ (λ e. refl) (chain text_eq i.classes o))

  -- the name is where it does not mean the variable
  missed-alike : (o : Option Name) (meta : Bool) → is_variable text_eq kind c (means_outside text_words i o meta x) ≡ false → AlikeHere o meta x
  missed-alike o meta not_it =
      alike-if kind x removed_class concerns (λ k. k) i o meta
      (λ t. ap is_some (same kind (side-other kind c meta i o x not_it t)) ∙ some-mapped removed_class (definer text_eq kind (chain text_eq i.classes o) x))
      (λ t d. refl)
      (λ t none. subst (SharedAlike (λ k. k) x (definer text_eq of_class (chain text_eq i.classes o) x)) (sym (shared t none))
      (shared-mapped kind x removed_class concerns (λ k. k) i x (definer text_eq of_class (chain text_eq i.classes o) x) (anywhere (λ (e : ClassOf Name). (e.name, x) ≡ (e.name, x)) (λ e. refl) (definer text_eq of_class (chain text_eq i.classes o) x))))
    where
      same : (k : VariableKind) → OptionNames (λ (e : ClassOf Name). text_eq c e.name ≡ false) (definer text_eq kind (chain text_eq i.classes o) x) → definer text_eq kind (map removed_class (chain text_eq i.classes o)) x ≡ option_map removed_class (definer text_eq kind (chain text_eq i.classes o) x)
      same k h = found-same c (defining kind x) removed_class (chain text_eq i.classes o) (everywhere _ loses-alone (chain text_eq i.classes o)) h

      shared : same_kind kind of_class ≡ true → is_some (definer text_eq (side_kind meta) (chain text_eq i.classes o) x) ≡ false → definer text_eq of_class (map removed_class (chain text_eq i.classes o)) x ≡ option_map removed_class (definer text_eq of_class (chain text_eq i.classes o) x)
      shared t none =
          subst (λ k. definer text_eq k (map removed_class (chain text_eq i.classes o)) x ≡ option_map removed_class (definer text_eq k (chain text_eq i.classes o) x)) (kind-same kind of_class t)
          (same kind (subst (λ k. OptionNames (λ (e : ClassOf Name). text_eq c e.name ≡ false) (definer text_eq k (chain text_eq i.classes o) x)) (sym (kind-same kind of_class t)) (shared-other kind c meta i o x not_it t none)))

  -- the image after
  pub removed-changed : HasKernelDoIts i → is_user_class text_eq i c ≡ true → (command : CommandOf Name) → kind_of command ≡ kind → ((m : EntryOf Name) → is_looked_through text_eq i.classes command c m ≡ is_method_below text_eq i.classes c m) → is_unused_for text_words i command c x ≡ true →
      IsChangedImage (shared_by (λ k. k)) i (variable_removed text_eq kind c x i)
  removed-changed kernel user command its looked unused =
      image-stays (λ k. k) i removed_class concerns.hierarchy
      (at-all _ i.methods
      (λ j m at. stays-by (λ k. k) i removed_class concerns.hierarchy x (other-alike kind x removed_class concerns (λ k. k) i (λ d n t. refl)) m
      (λ path u q e outside named. by_cases (is_method_below text_eq i.classes c m)
      (λ t. missed-alike m.class m.meta
      (sym (λ k. is_variable text_eq (its k) c (outside k)) ∙ unused-at i command c x unused j m at (looked m ∙ t) path u q e))
      (λ t. off-alike m.class m.meta x t))))
      (λ n. off-alike (doit_class i) false n (user-apart i c user (chain text_eq i.classes (doit_class i)) (chain-found i.classes (doit_class i)) kernel.doits))
