-- Names that mean the same, by the classes that define them on a chain before and after a change of classes.
use Rattle.std.proofs.Common.{◌≡◌, List, [], ◌∷◌, Option, Some, None, refl, sym, ap, ◌∙◌, subst}
use Rattle.std.specs.Prelude.{Bool, true, false, cond, ◌||◌, map, find, option_map, is_some}
use Rattle.std.specs.List.{AllByRecursion, list_any}
use Rattle.std.proofs.lemmas.Bool.{false≢true}
use Rattle.rb_base.specs.Names.{text_eq}
use Rattle.image_model.specs.Image.{ClassOf, ImageOf}
use Rattle.image_model.specs.ImageNames.{OptionNames}
use Rattle.image_model.specs.Chain.{chain}
use Rattle.image_model.specs.Means.{VariableKind, of_instance, of_class_side, of_class, definer, side_kind}
use Rattle.image_model.specs.Uses.{same_kind}
use Rattle.image_model.proofs.Lists.{all-implies, find-map, find-all}
use Rattle.run_model.specs.Values.{Name}
use Rattle.run_model.specs.Renamings.{OfClass}
use Rattle.run_model.proofs.Finite.{by_cases}
use Rattle.resolved_model.proofs.LookupLemmas.{everywhere, anywhere}
use Rattle.rename_laws.proofs.VariableClasses.{kind-same}
use Rattle.variable_laws.proofs.ClassesChanged.{defining, ConcernsVariable}
use Rattle.variable_laws.proofs.Alike.{SharedAlike, Alike, alike-outside}

-- something is found where something passes
pub found-any : {X : Type 0} (p : X → Bool) (xs : List X) → is_some (find p xs) ≡ list_any p xs
found-any p [] = refl
found-any p (x ∷ xs) = by (p x) (found-any p xs)
  where
    by : (b : Bool) → is_some (find p xs) ≡ list_any p xs → is_some (cond b (Some x) (find p xs)) ≡ (b || list_any p xs)
    by true e = refl
    by false e = e

pub some-mapped : {X Y : Type 0} (g : X → Y) (o : Option X) → is_some (option_map g o) ≡ is_some o
some-mapped g None = refl
some-mapped g (Some x) = refl

-- a side has no class variables of its own
pub side-kind : (kind : VariableKind) (meta : Bool) → same_kind kind of_class ≡ true → same_kind kind (side_kind meta) ≡ false
side-kind of_instance meta h = absurd (false≢true h)
side-kind of_class_side meta h = absurd (false≢true h)
side-kind of_class true h = refl
side-kind of_class false h = refl

module _ (kind : VariableKind) (x : Name) (g : ClassOf Name → ClassOf Name) (concerns : ConcernsVariable kind x g) (s : OfClass → OfClass) (i : ImageOf Name) where
  -- the classes after
  abbrev AlikeHere : Option Name → Bool → Name → Type 0
  AlikeHere o meta n = Alike s i g concerns.hierarchy o meta n

  -- a name that each class defines as before has the definer that it had
  pub definer-same : (k : VariableKind) (n : Name) (cs : List (ClassOf Name)) → AllByRecursion (λ (e : ClassOf Name). defining k n (g e) ≡ defining k n e) cs → definer text_eq k (map g cs) n ≡ option_map g (definer text_eq k cs n)
  definer-same k n cs a = find-map g (defining k n) (defining k n) cs a

  -- a definer that is called as before
  pub shared-mapped : (n : Name) (o : Option (ClassOf Name)) → OptionNames (λ (e : ClassOf Name). (e.name, n) ≡ s (e.name, n)) o → SharedAlike s n o (option_map g o)
  shared-mapped n None h = tt
  shared-mapped n (Some e) h = ap (λ m. (m, n)) (concerns.hierarchy e).name ∙ h

  -- a name whose definers stay
  alike-if-same : (o : Option Name) (meta : Bool) (n : Name) → ((k : VariableKind) → AllByRecursion (λ (e : ClassOf Name). defining k n (g e) ≡ defining k n e) (chain text_eq i.classes o)) → AllByRecursion (λ (e : ClassOf Name). (e.name, n) ≡ s (e.name, n)) (chain text_eq i.classes o) → AlikeHere o meta n
  alike-if-same o meta n same fixed =
      alike-outside s i g concerns.hierarchy o meta n
      (ap is_some (definer-same (side_kind meta) n (chain text_eq i.classes o) (same (side_kind meta))) ∙ some-mapped g (definer text_eq (side_kind meta) (chain text_eq i.classes o) n))
      (λ none. subst (SharedAlike s n (definer text_eq of_class (chain text_eq i.classes o) n)) (sym (definer-same of_class n (chain text_eq i.classes o) (same of_class)))
      (shared-mapped n (definer text_eq of_class (chain text_eq i.classes o) n) (find-all (λ (e : ClassOf Name). (e.name, n) ≡ s (e.name, n)) (defining of_class n) (chain text_eq i.classes o) fixed)))

  -- another name
  pub other-alike : ((d n : Name) → text_eq x n ≡ false → (d, n) ≡ s (d, n)) → (o : Option Name) (meta : Bool) (n : Name) → text_eq x n ≡ false → AlikeHere o meta n
  other-alike fixed o meta n t =
      alike-if-same o meta n (λ k. everywhere _ (λ e. concerns.others k n e t) (chain text_eq i.classes o)) (everywhere _ (λ e. fixed e.name n t) (chain text_eq i.classes o))

  -- any name, where the classes of the chain stay
  pub apart-alike : (o : Option Name) (meta : Bool) (n : Name) → AllByRecursion (λ (e : ClassOf Name). g e ≡ e) (chain text_eq i.classes o) → AllByRecursion (λ (e : ClassOf Name). (e.name, n) ≡ s (e.name, n)) (chain text_eq i.classes o) → AlikeHere o meta n
  apart-alike o meta n same fixed = alike-if-same o meta n (λ k. all-implies _ _ (λ e q. ap (defining k n) q) (chain text_eq i.classes o) same) fixed

  -- the name itself, by the definers of the kind
  pub alike-if : (o : Option Name) (meta : Bool) →
      (same_kind kind (side_kind meta) ≡ true → is_some (definer text_eq kind (map g (chain text_eq i.classes o)) x) ≡ is_some (definer text_eq kind (chain text_eq i.classes o) x)) →
      (same_kind kind of_class ≡ false → (d : Name) → (d, x) ≡ s (d, x)) →
      (same_kind kind of_class ≡ true → is_some (definer text_eq (side_kind meta) (chain text_eq i.classes o) x) ≡ false → SharedAlike s x (definer text_eq of_class (chain text_eq i.classes o) x) (definer text_eq of_class (map g (chain text_eq i.classes o)) x)) → AlikeHere o meta x
  alike-if o meta sides fixed shared =
      alike-outside s i g concerns.hierarchy o meta x
      (by_cases (same_kind kind (side_kind meta))
      (λ t. subst (λ k. is_some (definer text_eq k (map g (chain text_eq i.classes o)) x) ≡ is_some (definer text_eq k (chain text_eq i.classes o) x)) (kind-same kind (side_kind meta) t) (sides t))
      (λ t. ap is_some (definer-same (side_kind meta) x (chain text_eq i.classes o) (other (side_kind meta) t)) ∙ some-mapped g (definer text_eq (side_kind meta) (chain text_eq i.classes o) x)))
      (λ none. by_cases (same_kind kind of_class) (λ t. shared t none)
      (λ t. subst (SharedAlike s x (definer text_eq of_class (chain text_eq i.classes o) x)) (sym (definer-same of_class x (chain text_eq i.classes o) (other of_class t)))
      (shared-mapped x (definer text_eq of_class (chain text_eq i.classes o) x) (anywhere (λ (e : ClassOf Name). (e.name, x) ≡ s (e.name, x)) (λ e. fixed t e.name) (definer text_eq of_class (chain text_eq i.classes o) x)))))
    where
      other : (k : VariableKind) → same_kind kind k ≡ false → AllByRecursion (λ (e : ClassOf Name). defining k x (g e) ≡ defining k x e) (chain text_eq i.classes o)
      other k t = everywhere _ (λ e. concerns.other_kinds k x e t) (chain text_eq i.classes o)
