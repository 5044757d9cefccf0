-- What is in the way of a temporary that is to be read as what is assigned to it.
use Rattle.std.proofs.Common.{◌≡◌, ℕ, Bool, List, [], ◌∷◌, ◌++◌, Option, None, Some, map, ap, ◌∙◌}
use Rattle.std.specs.Prelude.{if◌then◌else◌}
use Rattle.std.specs.Option.{option_map_or}
use Rattle.image_model.specs.Image.{EntryOf}
use Rattle.class_table.specs.Slots.{Slots}
use Rattle.class_table.specs.View.{number_image}
use Rattle.command_model.specs.LetConditions.{let_path, is_let_form}
use Rattle.command_model.specs.Temporaries.{LetOf, let_of, reads_of}
use Rattle.commands.specs.Views.{asked_by}
use Rattle.commands.specs.declared.condition.Condition.{Condition}
use Rattle.refusal_witnesses.specs.TemporaryWitnesses.{declarations, is_assignment_of, no_let}
use Rattle.refusal_witnesses.specs.Witnesses.{InMethod, WitnessOf, a_node, nodes_that}
use Rattle.part_witnesses.specs.Standing.{let_standing, assigned_standing}

module _ (s : Slots) (m : EntryOf ℕ) (x : ℕ) where
  -- the assignment and the reads, if the one may not stand in place of the others
  abbrev pub apart : Bool → LetOf ℕ → List (WitnessOf ℕ)
  apart b e = if b then [] else a_node (InMethod m) (let_path e) ∷ map (a_node (InMethod m)) (reads_of (asked_by s.names) m.tree x)

  -- what declares and what assigns the name
  abbrev pub named : List (WitnessOf ℕ)
  named = declarations (asked_by s.names) m x ++ nodes_that (is_assignment_of (asked_by s.names) x) (InMethod m) m.tree.body

  abbrev of_let : Option (LetOf ℕ) → List (WitnessOf ℕ)
  of_let o = option_map_or (λ (e : LetOf ℕ). apart (is_let_form (asked_by s.names) (number_image s) m x e) e) o named

  pub unassigned : None ≡ let_of (asked_by s.names) m.tree x → named ≡ no_let (asked_by s.names) (number_image s) m x
  unassigned e = ap of_let e

  pub assigned : (e : LetOf ℕ) (b : Bool) → Some e ≡ let_of (asked_by s.names) m.tree x → b ≡ is_let_form (asked_by s.names) (number_image s) m x e → apart b e ≡ no_let (asked_by s.names) (number_image s) m x
  assigned e b is q = ap (λ (c : Bool). apart c e) q ∙ ap of_let is

  -- a condition of the assignment
  module _ (c : Condition) where
    abbrev of_assigned : Option (LetOf ℕ) → List (WitnessOf ℕ)
    of_assigned o = option_map_or (let_standing s c x m) o []

    pub no-let : None ≡ let_of (asked_by s.names) m.tree x → [] ≡ assigned_standing s c x m
    no-let e = ap of_assigned e

    pub one-let : (e : LetOf ℕ) → Some e ≡ let_of (asked_by s.names) m.tree x → let_standing s c x m e ≡ assigned_standing s c x m
    one-let e is = ap of_assigned is
