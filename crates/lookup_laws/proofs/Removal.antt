-- The law of a method that goes, by the condition of the command.
use Rattle.std.proofs.Common.{◌≡◌, ℕ, Option, Some, None, refl, sym, ap, ◌∙◌}
use Rattle.std.specs.Prelude.{Bool, true, false, ◌||◌, is_some}
use Rattle.std.specs.Option.{option_map_or}
use Rattle.std.proofs.lemmas.Bool.{false≢true}
use Rattle.rb_base.specs.Names.{text_eq}
use Rattle.image_model.specs.Image.{ClassOf, EntryOf, ImageOf}
use Rattle.image_model.specs.Words.{text_words}
use Rattle.image_model.specs.Chain.{class_named}
use Rattle.image_model.specs.Lookup.{own_method, super_lookup}
use Rattle.run_model.specs.Values.{Name}
use Rattle.run_model.specs.Runs.{run}
use Rattle.run_model.specs.Renamings.{no_renaming}
use Rattle.run_model.specs.Matched.{AreMatched}
use Rattle.run_model.proofs.MatchedLemmas.{matched-runs}
use Rattle.run_model.proofs.Finite.{by_cases}
use Rattle.mapped_model.specs.NamesOfImages.{HasOrderedClasses}
use Rattle.command_model.specs.Hierarchy.{is_class}
use Rattle.command_model.specs.SameMethods.{is_same_method}
use Rattle.command_model.specs.MethodConditions.{is_sent_nowhere, is_removable}
use Rattle.command_model.specs.MethodEffects.{method_removed}
use Rattle.agreement_laws.specs.Reaching.{is_super}
use Rattle.lookup_laws.proofs.Differences.{removed-differ}
use Rattle.lookup_laws.proofs.Unsent.{unsent-runs}
use Rattle.lookup_laws.proofs.RemovedMethod.{inherited-runs}

module _ (i : ImageOf Name) (ordered : HasOrderedClasses i) (c : Name) (meta : Bool) (s : Name) (n : ℕ) where
  -- the runs are the same
  abbrev Same : Type 0
  Same = run (method_removed text_eq c meta s i) n ≡ run i n

  -- what is inherited is the same
  by-inherited : (e : ClassOf Name) → class_named text_eq i.classes c ≡ Some e → (m : EntryOf Name) → own_method text_eq i.methods c meta s ≡ Some m → (o : Option (EntryOf Name)) → super_lookup text_words i (Some c) meta s ≡ o →
      option_map_or (is_same_method text_words is_super i i m) o false ≡ true → Same
  by-inherited e named m own (Some x) q h = inherited-runs i ordered c meta s e named m own x q h n
  by-inherited e named m own None q h = absurd (false≢true h)

  by-method : (e : ClassOf Name) → class_named text_eq i.classes c ≡ Some e → (o : Option (EntryOf Name)) → own_method text_eq i.methods c meta s ≡ o →
      option_map_or (λ m. is_sent_nowhere text_words i s || option_map_or (is_same_method text_words is_super i i m) (super_lookup text_words i (Some c) meta s) false) o false ≡ true → Same
  by-method e named (Some m) own h =
      by_cases (is_sent_nowhere text_words i s) (λ t. unsent-runs i (method_removed text_eq c meta s i) s (removed-differ s c meta i) t n)
      (λ t. by-inherited e named m own (super_lookup text_words i (Some c) meta s) refl (sym (ap (λ b. b || option_map_or (is_same_method text_words is_super i i m) (super_lookup text_words i (Some c) meta s) false) t) ∙ h))
  by-method e named None own h = absurd (false≢true h)

  by-class : (o : Option (ClassOf Name)) → class_named text_eq i.classes c ≡ o → is_some o ≡ true → is_removable text_words is_super i c meta s ≡ true → Same
  by-class (Some e) named h removable = by-method e named (own_method text_eq i.methods c meta s) refl removable
  by-class None named h removable = absurd (false≢true h)

  pub removal-runs : is_class text_eq i c ≡ true → is_removable text_words is_super i c meta s ≡ true → Same
  removal-runs there removable = by-class (class_named text_eq i.classes c) refl there removable

-- so the images are matched
pub removal-matched : (i : ImageOf Name) → HasOrderedClasses i → (c : Name) (meta : Bool) (s : Name) → is_class text_eq i c ≡ true → is_removable text_words is_super i c meta s ≡ true → AreMatched i (method_removed text_eq c meta s i) no_renaming
removal-matched i ordered c meta s there removable = matched-runs i (method_removed text_eq c meta s i) (λ n. sym (removal-runs i ordered c meta s n there removable))
