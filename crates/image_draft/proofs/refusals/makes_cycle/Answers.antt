use Rattle.std.proofs.Common.{◌≡◌, ℕ, List, false, Option, None, Some, IfSome, nat_eq, refl, sym, ◌∙◌}
use Rattle.image_model.specs.Image.{ClassOf}
use Rattle.image_model.specs.Chain.{class_named, chain}
use Rattle.file_model.specs.Changes.{DefinitionOf}
use Rattle.file_model.specs.Hierarchy.{stands_in}
use Rattle.image_draft.specs.Names.{AreOrdered}
use Rattle.image_draft.specs.Once.{StaysUnder}
use Rattle.image_draft.proofs.Childless.{childless_chain}
use Rattle.image_draft.proofs.Sound.{new_above, never_above}
use Rattle.image_draft.proofs.refusals.makes_cycle.Goals as goal

-- a class that is new or keeps its superclass does not stand above itself
stays_clear : (cs : List (ClassOf ℕ)) (d : DefinitionOf ℕ) → AreOrdered cs → StaysUnder cs d → stands_in nat_eq d.name (chain nat_eq cs d.superclass) ≡ false
stays_clear cs d o stays = by (class_named nat_eq cs d.name) refl stays
  where
    by : (q : Option (ClassOf ℕ)) → class_named nat_eq cs d.name ≡ q → IfSome q (λ (c : ClassOf ℕ). c.superclass ≡ d.superclass) → stands_in nat_eq d.name (chain nat_eq cs d.superclass) ≡ false
    by None e h = new_above cs d.name d.superclass e
    by (Some c) e h = never_above cs d.name c d.superclass o e h

pub returns-then-standing : goal.returns-then-standing
returns-then-standing c = sym (stays_clear c.args.classes.now c.args.definition.now c.requires.order (c.requires.stays c.if-standing.true))

pub returns-then-standing-2 : goal.returns-then-standing-2
returns-then-standing-2 c = c.names_itself.ensures ∙ sym (childless_chain c.args.classes.now c.args.definition.now.name (c.requires.childless c.if-standing-2.true) c.args.definition.now.superclass)
