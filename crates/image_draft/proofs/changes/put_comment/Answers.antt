use Rattle.std.proofs.Common.{◌≡◌, ℕ, Bool, List, Option, refl, IfSome, slice_set, nat_eq, sym, ap, subst, ◌∙◌}
use Rattle.image_model.specs.Image.{ClassOf}
use Rattle.file_model.specs.Hierarchy.{has_class}
use Rattle.image_draft.specs.Once.{AreSound}
use Rattle.image_draft.specs.Owners.{AreOwned}
use Rattle.image_draft.proofs.Differ.{has_class-changed}
use Rattle.image_draft.proofs.Owned.{commented_owned}
use Rattle.image_draft.proofs.Places.{placed, unplaced, changed-at, changed-none}
use Rattle.image_draft.proofs.Sound.{commented_sound}
use Rattle.image_draft.proofs.changes.put_comment.Goals as goal

pub returns-in-Some-clause-changed : goal.returns-in-Some-clause-changed
returns-in-Some-clause-changed c =
    let p : ClassOf ℕ → Bool = λ d. nat_eq c.args.name d.name in
    let classes : List (ClassOf ℕ) = c.args.classes.now in
    let g : ClassOf ℕ → ClassOf ℕ = λ d. record d { comment = c.args.comment } in
    let at = placed p classes c.in-Some.place (sym c.place.ensures ∙ c.in-Some.is) in
    subst (λ (o : Option (ClassOf ℕ)). IfSome o (λ (d : ClassOf ℕ). c.set_comment.new.self ≡ slice_set classes c.in-Some.place (g d))) at.1 c.set_comment.ensures
    ∙ sym (changed-at c.args.name g classes c.in-Some.place at.0 c.requires at.1 at.2)

pub returns-in_default-clause-changed : goal.returns-in_default-clause-changed
returns-in_default-clause-changed c =
    let classes : List (ClassOf ℕ) = c.args.classes.now in
    let g : ClassOf ℕ → ClassOf ℕ = λ d. record d { comment = c.args.comment } in
    sym (changed-none c.args.name g classes (unplaced c.args.name classes (sym c.place.ensures ∙ c.in_default.is)))

pub returns-in-Some-clause-sound : goal.returns-in-Some-clause-sound
returns-in-Some-clause-sound c =
    λ s. subst AreSound (sym (returns-in-Some-clause-changed c)) (commented_sound c.args.name c.args.comment c.args.classes.now s)

pub returns-in-Some-clause-names : goal.returns-in-Some-clause-names
returns-in-Some-clause-names c =
    let g : ClassOf ℕ → ClassOf ℕ = λ d. record d { comment = c.args.comment } in
    λ n. ap (λ (ds : List (ClassOf ℕ)). has_class nat_eq ds n) (returns-in-Some-clause-changed c) ∙ has_class-changed c.args.name g (λ d. refl) c.args.classes.now n

pub returns-in_default-clause-sound : goal.returns-in_default-clause-sound
returns-in_default-clause-sound c =
    λ s. subst AreSound (sym (returns-in_default-clause-changed c)) (commented_sound c.args.name c.args.comment c.args.classes.now s)

pub returns-in_default-clause-names : goal.returns-in_default-clause-names
returns-in_default-clause-names c =
    let g : ClassOf ℕ → ClassOf ℕ = λ d. record d { comment = c.args.comment } in
    λ n. ap (λ (ds : List (ClassOf ℕ)). has_class nat_eq ds n) (returns-in_default-clause-changed c) ∙ has_class-changed c.args.name g (λ d. refl) c.args.classes.now n

pub returns-in-Some-clause-owned : goal.returns-in-Some-clause-owned
returns-in-Some-clause-owned c = λ owners o. subst (AreOwned owners) (sym (returns-in-Some-clause-changed c)) (commented_owned owners c.args.name c.args.comment c.args.classes.now o)

pub returns-in_default-clause-owned : goal.returns-in_default-clause-owned
returns-in_default-clause-owned c = λ owners o. subst (AreOwned owners) (sym (returns-in_default-clause-changed c)) (commented_owned owners c.args.name c.args.comment c.args.classes.now o)
