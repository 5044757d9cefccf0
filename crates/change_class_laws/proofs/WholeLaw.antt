-- All edits make the second image of the first.
use Rattle.std.proofs.Common.{◌≡◌, true, List, [], None, Ok, refl, ap, sym, subst, ◌∙◌}
use Rattle.std.specs.List.{AllByRecursion}
use Rattle.rb_base.specs.Names.{text_eq}
use Rattle.rb_base.proofs.NamesLemmas.{text_eq-refl}
use Rattle.image_model.specs.Image.{ClassOf, EntryOf, ImageOf}
use Rattle.file_model.specs.Filing.{Text}
use Rattle.file_model.specs.Hierarchy.{settled}
use Rattle.file_model.specs.Places.{no_places, put_again_behind, placed}
use Rattle.file_model.specs.Written.{user_classes, user_methods}
use Rattle.file_laws.proofs.Moves.{text_equal}
use Rattle.file_laws.proofs.PutAgain.{filter_pass, filter_fail, put_again_behind_stays}
use Rattle.file_laws.proofs.Settled.{settled_stays}
use Rattle.change_model.specs.Edits.{Edit, edits}
use Rattle.change_model.specs.Edited.{Stage, AreMade, Over, Made}
use Rattle.change_laws.specs.Images.{CanBeMade, IsMade, at_rest}
use Rattle.change_laws.proofs.WholeChange.{makes}
use Rattle.change_class_laws.specs.Whole.{HasRoot, IsMadeFrom}
use Rattle.change_class_laws.proofs.ClassesMade.{classes_made}

module _ (kernel i j : ImageOf Text) (c : CanBeMade kernel i j) (root : HasRoot kernel) where
  pub makes_all : IsMade i j
  makes_all = makes kernel i j c (classes_made kernel i j c root)

  pub makes_wherever : (s : Stage) → placed text_eq s.places s.image ≡ i → IsMadeFrom i j s
  makes_wherever s e =
      record { end = makes_all.end; made = Made (ap (λ (x : ImageOf Text). Ok (at_rest x)) e) makes_all.made; is = makes_all.is }

  -- no edits lead nowhere
  nowhere : {es : List Edit} {s t : Stage} → AreMade es s t → es ≡ [] → s ≡ t
  nowhere Over none = refl
  nowhere (Made f m) none = absurd (cc)

  -- an image at rest is settled
  at_its_place : placed text_eq no_places i ≡ i
  at_its_place = λ k. record i { classes = classes k; methods = methods k }
    where
      classes : settled text_eq (put_again_behind (λ (x : ClassOf Text). x.kernel) (λ x. None) i.classes) ≡ i.classes
      classes =
          ap (settled text_eq)
          (put_again_behind_stays (λ (x : ClassOf Text). x.kernel) i.classes kernel.classes (user_classes i) c.old_first.classes
          (subst (λ (xs : List (ClassOf Text)). AllByRecursion (λ (x : ClassOf Text). x.kernel ≡ true) xs) c.old.kernel_classes (filter_pass (λ (x : ClassOf Text). x.kernel) i.classes))
          (filter_fail (λ (x : ClassOf Text). x.kernel) i.classes))
          ∙ settled_stays text_eq text_eq-refl text_equal i.classes c.old.superclasses_before

      methods : put_again_behind (λ (x : EntryOf Text). x.kernel) (λ x. None) i.methods ≡ i.methods
      methods =
          put_again_behind_stays (λ (x : EntryOf Text). x.kernel) i.methods kernel.methods (user_methods i) c.old_first.methods
          (subst (λ (xs : List (EntryOf Text)). AllByRecursion (λ (x : EntryOf Text). x.kernel ≡ true) xs) c.old.kernel_methods (filter_pass (λ (x : EntryOf Text). x.kernel) i.methods))
          (filter_fail (λ (x : EntryOf Text). x.kernel) i.methods)

  pub same_where_none : edits i j ≡ [] → i ≡ j
  same_where_none none = sym at_its_place ∙ ap (λ (s : Stage). placed text_eq s.places s.image) (nowhere makes_all.made none) ∙ makes_all.is
