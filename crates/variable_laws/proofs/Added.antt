-- A variable that comes into a class: no code below the class has its name, so all names mean what they meant.
use Rattle.std.proofs.Common.{◌≡◌, Option, refl, sym, ap, ◌∙◌}
use Rattle.std.specs.Prelude.{Bool, true, false, ◌&&◌, if◌then◌else◌}
use Rattle.std.specs.List.{AllByRecursion}
use Rattle.std.proofs.lemmas.Bool.{false≢true}
use Rattle.rb_base.specs.Names.{text_eq}
use Rattle.image_model.specs.Image.{ClassOf, EntryOf, ImageOf}
use Rattle.image_model.specs.Chain.{chain}
use Rattle.image_model.specs.Means.{VariableKind}
use Rattle.image_model.proofs.Lists.{all-implies}
use Rattle.run_model.specs.Values.{Name}
use Rattle.run_model.specs.Runs.{doit_class}
use Rattle.resolved_model.proofs.LookupLemmas.{everywhere}
use Rattle.mapped_model.specs.ChangedImages.{IsChangedImage}
use Rattle.rename_model.specs.NamesThere.{is_named_in_method}
use Rattle.rename_model.specs.Conditions.{is_user_class, is_method_below}
use Rattle.command_model.specs.VariableEffects.{with_last, variable_added}
use Rattle.variable_laws.specs.KernelDoIts.{HasKernelDoIts}
use Rattle.rename_laws.proofs.Unnamed.{each-fails}
use Rattle.rename_laws.proofs.ChainFacts.{is_on, chain-found, user-apart}
use Rattle.variable_laws.proofs.NamesPut.{put_last, put-others}
use Rattle.variable_laws.proofs.ClassesChanged.{with_list, ConcernsVariable, concerns-list, concerns-none, concerns-either}
use Rattle.variable_laws.proofs.Alike.{shared_by, Alike}
use Rattle.variable_laws.proofs.Stays.{image-stays}
use Rattle.variable_laws.proofs.Definers.{other-alike, apart-alike}
use Rattle.variable_laws.proofs.AtNodes.{stays-by}

-- where the second of two fails to be joined, the first fails
pub and-off : (a b : Bool) → (a && b) ≡ false → b ≡ true → a ≡ false
and-off true b e t = absurd (false≢true (sym e ∙ t))
and-off false b e t = refl

module _ (kind : VariableKind) (c x : Name) (i : ImageOf Name) where
  -- a class after
  abbrev added_class : ClassOf Name → ClassOf Name
  added_class e = if text_eq c e.name then with_last kind x e else e

  concerns : ConcernsVariable kind x added_class
  concerns = concerns-either kind x (λ e. text_eq c e.name) (with_list kind x (put_last x)) (λ e. e) (concerns-list kind x (put_last x) (put-others x)) (concerns-none kind x)

  abbrev AlikeHere : Option Name → Bool → Name → Type 0
  AlikeHere o meta n = Alike (λ k. k) i added_class concerns.hierarchy o meta n

  -- names are alike where the class does not stand on the chain
  off-alike : (o : Option Name) (meta : Bool) (n : Name) → is_on c (chain text_eq i.classes o) ≡ false → AlikeHere o meta n
  off-alike o meta n off =
      apart-alike kind x added_class concerns (λ k. k) i o meta n
      (all-implies (λ (e : ClassOf Name). text_eq c e.name ≡ false) (λ e. added_class e ≡ e) (λ e h. ap (λ b. if b then with_last kind x e else e) h) (chain text_eq i.classes o) (each-fails (λ (e : ClassOf Name). text_eq c e.name) (chain text_eq i.classes o) off))
      (everywhere _ (λ e. refl) (chain text_eq i.classes o))

  -- the image after
  pub added-changed : HasKernelDoIts i → is_user_class text_eq i c ≡ true → AllByRecursion (λ (m : EntryOf Name). (is_method_below text_eq i.classes c m && is_named_in_method text_eq x m) ≡ false) i.methods → IsChangedImage (shared_by (λ k. k)) i (variable_added text_eq kind c x i)
  added-changed kernel user unnamed =
      image-stays (λ k. k) i added_class concerns.hierarchy
      (all-implies _ _
      (λ m h. stays-by (λ k. k) i added_class concerns.hierarchy x (other-alike kind x added_class concerns (λ k. k) i (λ d n t. refl)) m
      (λ path u q e outside named. off-alike m.class m.meta x (and-off (is_method_below text_eq i.classes c m) (is_named_in_method text_eq x m) h named)))
      i.methods unnamed)
      (λ n. off-alike (doit_class i) false n (user-apart i c user (chain text_eq i.classes (doit_class i)) (chain-found i.classes (doit_class i)) kernel.doits))
