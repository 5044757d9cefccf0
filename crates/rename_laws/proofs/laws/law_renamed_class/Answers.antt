use Rattle.std.proofs.Common.{◌≡◌, [], ◌∷◌, Some, None, refl, sym, ap, ◌∙◌}
use Rattle.std.specs.Prelude.{false, cond, option_map, unwrap_or}
use Rattle.std.proofs.lemmas.Bool.{false≢true}
use Rattle.rb_base.specs.Names.{text_eq}
use Rattle.rb_base.proofs.NamesLemmas.{text_eq-refl}
use Rattle.image_model.specs.Words.{text_words}
use Rattle.run_model.specs.Values.{Name}
use Rattle.run_model.specs.Renamings.{no_renaming, class_image}
use Rattle.run_model.proofs.Finite.{by_cases}
use Rattle.run_model.proofs.RenamingLemmas.{text-same}
use Rattle.rename_model.specs.ClassRenamed.{class_renamed}
use Rattle.rename_laws.proofs.NewNames.{new, maps, new-class, new-other}
use Rattle.rename_laws.proofs.Readiness.{ready}
use Rattle.rename_laws.proofs.ImagesAfter.{image-changed}
use Rattle.rename_laws.proofs.NamesApart.{one-to-one, words-stay, calls-stay}
use Rattle.rename_laws.proofs.laws.law_renamed_class.Goals as goal

-- the new name of a class is what the renaming has for it
as-renaming : (c d n : Name) → new c d n ≡ class_image (record no_renaming { classes = (c, d) ∷ [] }) n
as-renaming c d n =
    by_cases (text_eq c n)
    (λ e. new-class c d n e ∙ ap (λ b. unwrap_or (option_map (λ (p : Name × Name). p.1) (cond b (Some (c, d)) None)) n) (sym (ap (text_eq n) (text-same c n e) ∙ text_eq-refl n)))
    (λ e. new-other c d n e ∙ ap (λ b. unwrap_or (option_map (λ (p : Name × Name). p.1) (cond b (Some (c, d)) None)) n) (sym (other e)))
  where
    other : text_eq c n ≡ false → text_eq n c ≡ false
    other e = by_cases (text_eq n c) (λ t. absurd (false≢true (sym e ∙ ap (text_eq c) (text-same n c t) ∙ text_eq-refl c))) (λ t. t)

-- a name that is not empty
not-empty : (c : Name) → (c ≡ [] → ⊥) → text_eq c [] ≡ false
not-empty c h = by_cases (text_eq c []) (λ e. absurd (h (text-same c [] e))) (λ e. e)

pub returns : goal.returns
returns k = record {
  matched = λ writing i c d behind user good unused.
      let facts = ready i c d behind good unused user in
      k.law_changed_images.ensures.matched (record no_renaming { classes = (c, d) ∷ [] }) (maps c d) i (class_renamed text_words writing i c d) (as-renaming c d) (λ s. refl)
      behind.ordered (one-to-one i c d facts.new_name) (words-stay i c d facts (not-empty c facts.named)) (calls-stay i c d facts.new_name) (image-changed writing i c d facts behind);
}
