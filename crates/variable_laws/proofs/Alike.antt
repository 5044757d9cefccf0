-- Names that mean the same before and after, but for the classes that define variables.
use Rattle.std.proofs.Common.{◌≡◌, ℕ, Option, Some, None, refl, sym, ap, subst}
use Rattle.std.specs.Prelude.{Bool, true, false, if◌then◌else◌, map, option_map, is_some}
use Rattle.std.proofs.lemmas.Bool.{false≢true}
use Rattle.rb_base.specs.Names.{text_eq}
use Rattle.scope_model.specs.declared.local.Local.{Local}
use Rattle.scope_model.specs.declared.local.Local.TheVariants.{Argument, Temporary, NotLocal}
use Rattle.image_model.specs.Image.{ClassOf, ImageOf}
use Rattle.image_model.specs.Words.{text_words}
use Rattle.image_model.specs.Replaced.{KeepsHierarchy}
use Rattle.image_model.specs.Chain.{class_named, chain}
use Rattle.image_model.specs.Means.{of_class, MeaningOf, pseudo, definer, side_kind, means_outside, means_by}
use Rattle.image_model.proofs.Kept.{class_named-kept, chain-kept}
use Rattle.run_model.specs.Values.{Name}
use Rattle.run_model.specs.Renamings.{OfClass}
use Rattle.resolved_model.specs.ResolvedTrees.{of_class_variable, of_named_class, to_class_variable}
use Rattle.resolved_model.specs.Resolving.{reference_of, target_of}
use Rattle.resolved_model.proofs.LookupLemmas.{everywhere}
use Rattle.mapped_model.specs.NameMaps.{NameMaps}
use Rattle.mapped_model.specs.MappedImages.{class_or_none, mapped_reference, mapped_target}
use Rattle.mapped_model.specs.RenamedVariables.{same_names}
use Rattle.rename_laws.proofs.OutsideAfter.{meaning_by}

module _ (s : OfClass → OfClass) where
  -- class variables alone are called otherwise, by their definers and names
  abbrev pub shared_by : NameMaps
  shared_by = record same_names { shared = s }

  -- the classes that define a class variable before and after
  abbrev pub SharedAlike : Name → Option (ClassOf Name) → Option (ClassOf Name) → Type 0
  SharedAlike n None None = Unit {0}
  SharedAlike n None (Some d) = ⊥
  SharedAlike n (Some e) None = ⊥
  SharedAlike n (Some e) (Some d) = (d.name, n) ≡ s (e.name, n)

  module _ (owner n : Name) where
    -- what is read and what is assigned under a name is what was before, with the maps put on it
    pub record IsMeantAlike (before after : MeaningOf Name) : Type 0 where
      pub read : (k : ℕ) → reference_of after k n ≡ mapped_reference shared_by owner (reference_of before k n)
      pub assigned : (k : ℕ) → target_of after k n ≡ mapped_target shared_by owner (target_of before k n)

    -- by what scopes say of the name, or behind them
    pub alike-local : (p : Bool) (l : Local) (g h : MeaningOf Name) → (p ≡ false → l ≡ NotLocal → IsMeantAlike g h) → IsMeantAlike (if p then pseudo else means_by l g) (if p then pseudo else means_by l h)
    alike-local true l g h r = record { read = λ k. refl; assigned = λ k. refl }
    alike-local false (Argument d) g h r = record { read = λ k. refl; assigned = λ k. refl }
    alike-local false (Temporary d) g h r = record { read = λ k. refl; assigned = λ k. refl }
    alike-local false NotLocal g h r = r refl refl

    -- a variable of a side
    side-alike : (meta : Bool) (e d : ClassOf Name) (shared shared_after named named_after : Option (ClassOf Name)) (b : Bool) → IsMeantAlike (meaning_by meta (Some e) shared named b) (meaning_by meta (Some d) shared_after named_after b)
    side-alike true e d shared shared_after named named_after b = record { read = λ k. refl; assigned = λ k. refl }
    side-alike false e d shared shared_after named named_after b = record { read = λ k. refl; assigned = λ k. refl }

    -- by the classes that are found
    alike-found : (meta : Bool) (g : ClassOf Name → ClassOf Name) → ((e : ClassOf Name) → (g e).name ≡ e.name) → (side side_after shared shared_after named : Option (ClassOf Name)) (b : Bool) → is_some side_after ≡ is_some side → (is_some side ≡ false → SharedAlike n shared shared_after) →
        IsMeantAlike (meaning_by meta side shared named b) (meaning_by meta side_after shared_after (option_map g named) b)
    alike-found meta g keeps (Some e) (Some d) shared shared_after named b q r = side-alike meta e d shared shared_after named (option_map g named) b
    alike-found meta g keeps (Some e) None shared shared_after named b q r = absurd (false≢true q)
    alike-found meta g keeps None (Some d) shared shared_after named b q r = absurd (false≢true (sym q))
    alike-found meta g keeps None None (Some e) (Some d) named b q r = record { read = λ k i. of_class_variable (r refl i).0 (r refl i).1; assigned = λ k i. to_class_variable (r refl i).0 (r refl i).1 }
    alike-found meta g keeps None None (Some e) None named b q r = absurd (r refl)
    alike-found meta g keeps None None None (Some d) named b q r = absurd (r refl)
    alike-found meta g keeps None None None None (Some e) b q r = record { read = λ k. ap of_named_class (keeps e); assigned = λ k. refl }
    alike-found meta g keeps None None None None None true q r = record { read = λ k. refl; assigned = λ k. refl }
    alike-found meta g keeps None None None None None false q r = record { read = λ k. refl; assigned = λ k. refl }

  module _ (i : ImageOf Name) (g : ClassOf Name → ClassOf Name) (keeps : (e : ClassOf Name) → KeepsHierarchy g e) where
    -- the image with changed classes
    abbrev pub image_with : ImageOf Name
    image_with = record i { classes = map g i.classes }

    -- in code of a class that there may be, on a side of it, a name means the same behind all scopes
    abbrev pub Alike : Option Name → Bool → Name → Type 0
    Alike o meta n = IsMeantAlike (class_or_none o) n (means_outside text_words i o meta n) (means_outside text_words image_with o meta n)

    -- by the classes that define it on the chain
    pub alike-outside : (o : Option Name) (meta : Bool) (n : Name) →
        is_some (definer text_eq (side_kind meta) (map g (chain text_eq i.classes o)) n) ≡ is_some (definer text_eq (side_kind meta) (chain text_eq i.classes o) n) →
        (is_some (definer text_eq (side_kind meta) (chain text_eq i.classes o) n) ≡ false → SharedAlike n (definer text_eq of_class (chain text_eq i.classes o) n) (definer text_eq of_class (map g (chain text_eq i.classes o)) n)) → Alike o meta n
    alike-outside o meta n p q =
        subst (IsMeantAlike (class_or_none o) n (means_outside text_words i o meta n)) (sym found)
        (alike-found (class_or_none o) n meta g (λ e. (keeps e).name) (definer text_eq (side_kind meta) (chain text_eq i.classes o) n) (definer text_eq (side_kind meta) (map g (chain text_eq i.classes o)) n)
        (definer text_eq of_class (chain text_eq i.classes o) n) (definer text_eq of_class (map g (chain text_eq i.classes o)) n) (class_named text_eq i.classes n) (text_words.is_transcript n) p q)
      where
        found : means_outside text_words image_with o meta n ≡ meaning_by meta (definer text_eq (side_kind meta) (map g (chain text_eq i.classes o)) n) (definer text_eq of_class (map g (chain text_eq i.classes o)) n) (option_map g (class_named text_eq i.classes n)) (text_words.is_transcript n)
        found =
            let along : chain text_eq (map g i.classes) o ≡ map g (chain text_eq i.classes o) = chain-kept text_eq g i.classes (everywhere (KeepsHierarchy g) keeps i.classes) o in
            λ j. meaning_by meta (definer text_eq (side_kind meta) (along j) n) (definer text_eq of_class (along j) n) (class_named-kept text_eq g i.classes (everywhere (KeepsHierarchy g) keeps i.classes) n j) (text_words.is_transcript n)
