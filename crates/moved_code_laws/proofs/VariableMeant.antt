-- Where a name means an instance variable, it is on the instance side of a class at or below that of the variable.
use Rattle.std.proofs.Common.{◌≡◌, List, length, Option, Some, None, refl, sym, ap, ◌∙◌, subst}
use Rattle.std.specs.Prelude.{Bool, true, false, if◌then◌else◌, find, map, option_map, unwrap_or}
use Rattle.std.specs.List.{AllByRecursion, list_any}
use Rattle.std.specs.Option.{option_or}
use Rattle.std.proofs.lemmas.Bool.{false≢true}
use Rattle.rb_base.specs.Names.{text_eq}
use Rattle.image_model.specs.Image.{ClassOf, ImageOf}
use Rattle.image_model.specs.ImageNames.{OptionNames}
use Rattle.image_model.specs.Words.{text_words}
use Rattle.image_model.specs.Chain.{class_named, class_of_name, superclass_of, chain}
use Rattle.image_model.specs.Means.{of_instance, of_class_side, of_class, MeaningOf, pseudo, argument, temporary, variable, a_class, transcript, undeclared, definer, means_along}
use Rattle.image_model.specs.Uses.{is_variable}
use Rattle.image_model.proofs.Ends.{find-place}
use Rattle.image_model.proofs.Lists.{find-map}
use Rattle.image_model.proofs.UpwardsLemmas.{upwards-all}
use Rattle.run_model.specs.Values.{Name}
use Rattle.run_model.proofs.RenamingLemmas.{text-same}
use Rattle.resolved_model.specs.ResolvedImages.{plain_class}
use Rattle.resolved_model.proofs.LookupLemmas.{everywhere}
use Rattle.mapped_model.proofs.RenamedVariableLemmas.{all-at}
use Rattle.unfolded_calls.specs.Unfolding.{IsBelow, itself, above}
use Rattle.unfolded_calls.proofs.Running.{find-passes}

-- a meaning that is told to be an instance variable
pub is-variable : (c : Name) (g : MeaningOf Name) → is_variable text_eq of_instance c g ≡ true → g ≡ variable of_instance c
is-variable c pseudo e = absurd (false≢true e)
is-variable c (argument k) e = absurd (false≢true e)
is-variable c (temporary k) e = absurd (false≢true e)
is-variable c (variable of_instance d) e = ap (variable of_instance) (sym (text-same c d e))
is-variable c (variable of_class_side d) e = absurd (false≢true e)
is-variable c (variable of_class d) e = absurd (false≢true e)
is-variable c (a_class d) e = absurd (false≢true e)
is-variable c transcript e = absurd (false≢true e)
is-variable c undeclared e = absurd (false≢true e)

-- it is found on the instance side
pub record IsDefinedAlong (c : Name) (along : List (ClassOf Name)) (meta : Bool) (x : Name) : Type 0 where
  pub side : meta ≡ false
  pub definer : ClassOf Name
  pub found : find (λ (e : ClassOf Name). list_any (text_eq x) e.instance) along ≡ Some definer
  pub name : definer.name ≡ c

pub defined-along : (c : Name) (classes along : List (ClassOf Name)) (meta : Bool) (x : Name) → means_along text_words classes along meta x ≡ variable of_instance c → IsDefinedAlong c along meta x
defined-along c classes along true x e = absurd (by (definer text_eq of_class_side along x) (definer text_eq of_class along x) (class_named text_eq classes x) (text_words.is_transcript x) e)
  where
    by : (o p q : Option (ClassOf Name)) (b : Bool) →
        unwrap_or (option_or (option_map (λ (c : ClassOf Name). variable of_class_side c.name) o) (option_or (option_map (λ (c : ClassOf Name). variable of_class c.name) p) (option_or (option_map (λ (c : ClassOf Name). a_class c.name) q) (if b then Some transcript else None)))) undeclared ≡ variable of_instance c → ⊥
    by (Some d) p q b e = cc
    by None (Some d) q b e = cc
    by None None (Some d) b e = cc
    by None None None true e = cc
    by None None None false e = cc
defined-along c classes along false x e = by (definer text_eq of_instance along x) refl (definer text_eq of_class along x) (class_named text_eq classes x) (text_words.is_transcript x) e
  where
    by : (o : Option (ClassOf Name)) → find (λ (e : ClassOf Name). list_any (text_eq x) e.instance) along ≡ o → (p q : Option (ClassOf Name)) (b : Bool) →
        unwrap_or (option_or (option_map (λ (c : ClassOf Name). variable of_instance c.name) o) (option_or (option_map (λ (c : ClassOf Name). variable of_class c.name) p) (option_or (option_map (λ (c : ClassOf Name). a_class c.name) q) (if b then Some transcript else None)))) undeclared ≡ variable of_instance c → IsDefinedAlong c along false x
    by (Some d) f p q b e = let same : d.name ≡ c = cc in record { side = refl; definer = d; found = f; name = same }
    by None f (Some d) q b e = absurd (cc)
    by None f None (Some d) b e = absurd (cc)
    by None f None None true e = absurd (cc)
    by None f None None false e = absurd (cc)

module _ (i : ImageOf Name) (d : Name) where
  -- a class of the chain of d is the one of its name, and d stands at or below it
  abbrev pub IsAbove : ClassOf Name → Type 0
  IsAbove e = (class_named text_eq i.classes e.name ≡ Some e) × IsBelow (map plain_class i.classes) d e.name

  named-above : (n : Name) → IsBelow (map plain_class i.classes) d n → OptionNames IsAbove (class_named text_eq i.classes n)
  named-above n b = by (class_named text_eq i.classes n) refl
    where
      by : (o : Option (ClassOf Name)) → class_named text_eq i.classes n ≡ o → OptionNames IsAbove o
      by None e = tt
      by (Some x) e =
          let same : n ≡ x.name = text-same n x.name (find-passes (λ (c : ClassOf Name). text_eq n c.name) i.classes x e) in
          (subst (λ k. class_named text_eq i.classes k ≡ Some x) same e, subst (IsBelow (map plain_class i.classes) d) same b)

  super-above : (e : ClassOf Name) → IsAbove e → OptionNames IsAbove (superclass_of text_eq i.classes e)
  super-above e h = by e.superclass refl
    where
      plain-so : class_named text_eq (map plain_class i.classes) e.name ≡ Some (plain_class e)
      plain-so = find-map plain_class (λ c. text_eq e.name c.name) (λ c. text_eq e.name c.name) i.classes (everywhere _ (λ c. refl) i.classes) ∙ ap (option_map plain_class) h.0

      by : (o : Option Name) → e.superclass ≡ o → OptionNames IsAbove (class_of_name text_eq i.classes o)
      by None q = tt
      by (Some n) q = named-above n (above (plain_class e) h.1 plain-so q)

  pub chain-above : AllByRecursion IsAbove (chain text_eq i.classes (Some d))
  chain-above = upwards-all IsAbove (superclass_of text_eq i.classes) super-above (length i.classes) (class_named text_eq i.classes d) (named-above d itself)

  -- the class that defines the variable
  pub definer-above : (c : Name) (meta : Bool) (x : Name) → IsDefinedAlong c (chain text_eq i.classes (Some d)) meta x → (e : ClassOf Name) × IsAbove e × (e.name ≡ c)
  definer-above c meta x h =
      let at = find-place (λ (e : ClassOf Name). list_any (text_eq x) e.instance) (chain text_eq i.classes (Some d)) h.definer h.found in
      (h.definer, all-at IsAbove (chain text_eq i.classes (Some d)) at.0 h.definer chain-above at.1, h.name)
