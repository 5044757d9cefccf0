use Rattle.std.proofs.Common.{ℕ, List, not, nat_eq, sym, ap, subst, ◌∙◌}
use Rattle.image_model.specs.Image.{ClassOf}
use Rattle.file_model.specs.Hierarchy.{has_class, has_subclass}
use Rattle.image_draft.specs.Once.{AreSound}
use Rattle.image_draft.specs.Owners.{AreOwned}
use Rattle.image_draft.proofs.Ordered.{removed_kept}
use Rattle.image_draft.proofs.Owned.{filtered_owned}
use Rattle.image_draft.proofs.Sound.{removed_sound}
use Rattle.image_draft.proofs.classes.Classes.remove.Goals as goal

pub invariant_of-self : goal.invariant_of-self
invariant_of-self c =
    let classes : List (ClassOf ℕ) = c.self.inside.list in (
      subst AreSound (sym c.remove.ensures) (removed_sound c.args.name classes (ap (λ (cs : List (ClassOf ℕ)). has_subclass nat_eq cs c.args.name) c.self.view_is ∙ c.requires) c.self.invariant.0),
      subst (AreOwned c.self.inside.owners) (sym c.remove.ensures) (filtered_owned c.self.inside.owners (λ (d : ClassOf ℕ). not (nat_eq c.args.name d.name)) classes c.self.invariant.1),
    )

pub returns-clause-differ : goal.returns-clause-differ
returns-clause-differ c = (invariant_of-self c).0.order.differ

pub returns-clause-before : goal.returns-clause-before
returns-clause-before c = (invariant_of-self c).0.order.before

pub returns-clause-kept : goal.returns-clause-kept
returns-clause-kept c = λ n other there.
    let classes : List (ClassOf ℕ) = c.self.inside.list in
    ap (λ (cs : List (ClassOf ℕ)). has_class nat_eq cs n) c.remove.ensures ∙ removed_kept c.args.name classes n other (ap (λ (cs : List (ClassOf ℕ)). has_class nat_eq cs n) c.self.view_is ∙ there)
