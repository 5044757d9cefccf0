-- The command by which a temporary comes in place of an expression.
use Rattle.std.proofs.Common.{◌≡◌, ℕ, List, [], Option, None, Some, option_map, refl, ap, ◌∙◌}
use Rattle.std.specs.Prelude.{nat_eq}
use Rattle.std.specs.Option.{option_and_then}
use Rattle.tree_model.specs.Tree.{MethodOf}
use Rattle.tree_model.specs.Normal.{normal}
use Rattle.st_tree.specs.View.{method_of}
use Rattle.st_tree.specs.declared.tree.Method.{Method}
use Rattle.image_model.specs.Image.{EntryOf}
use Rattle.class_table.specs.declared.record.Place.{Place}
use Rattle.class_table.specs.Slots.{Slots}
use Rattle.class_table.specs.Valid.{IsOrderly}
use Rattle.class_table.specs.View.{number_image}
use Rattle.change_set.specs.declared.change.Change.{Change}
use Rattle.command_model.specs.CodeEffects.{path_of_expression}
use Rattle.command_model.specs.Commands.{CommandOf, ExtractTemp}
use Rattle.command_model.specs.Parts.{Part, Expression, Run}
use Rattle.command_model.specs.Places.{users_method}
use Rattle.command_model.specs.Temporaries.{temporary_extracted}
use Rattle.commands.specs.Views.{asked_by}
use Rattle.commands.specs.declared.command.MethodPart.{MethodPart}
use Rattle.plans.specs.Plan.{IsPlan}
use Rattle.temporary_plans.specs.Retold.{Retells}
use Rattle.code_plans.proofs.Users.{with-tree, no-tree}
use Rattle.code_plans.proofs.Given.{plan-nothing, retells}

module _ (s : Slots) (o : IsOrderly s) (p : MethodPart) (x : ℕ) where
  abbrev command : CommandOf ℕ
  command = ExtractTemp p.method.class p.method.meta p.method.selector p.from p.to x

  -- the user's method, and the tree that the command gives it
  abbrev own : Option (EntryOf ℕ)
  own = users_method nat_eq (number_image s) p.method.class p.method.meta p.method.selector

  abbrev by_part : MethodOf ℕ → Option Part → Option (MethodOf ℕ)
  by_part t part = option_and_then (λ path. temporary_extracted (asked_by s.names) t path x) (option_and_then path_of_expression part)

  abbrev change : EntryOf ℕ → Option (MethodOf ℕ)
  change m = by_part m.tree ((asked_by s.names).part_of m.source p.from p.to)

  -- the user has none
  pub extracted-nobody : (cs : List Change) (ps : List Place) → cs ≡ [] → ps ≡ [] → None ≡ option_map (λ (m : EntryOf ℕ). m.tree) own → IsPlan s command cs ps
  extracted-nobody cs ps a b e = plan-nothing s o p.method command change refl cs ps a b (ap (option_and_then change) (no-tree own e))

  module _ (part : Part) (located : (m : EntryOf ℕ) → own ≡ Some m → (asked_by s.names).part_of m.source p.from p.to ≡ Some part) where
    -- neighbouring statements are no expression
    pub extracted-run : (path : List ℕ) (first count : ℕ) (cs : List Change) (ps : List Place) → cs ≡ [] → ps ≡ [] → part ≡ Run path first count → IsPlan s command cs ps
    extracted-run path first count cs ps a b is = plan-nothing s o p.method command change refl cs ps a b (by own located)
      where
        by : (q : Option (EntryOf ℕ)) → ((m : EntryOf ℕ) → q ≡ Some m → (asked_by s.names).part_of m.source p.from p.to ≡ Some part) → option_and_then change q ≡ None
        by None h = refl
        by (Some m) h = ap (by_part m.tree) (h m refl ∙ ap Some is)

    module _ (path : List ℕ) (is : part ≡ Expression path) (t : MethodOf ℕ) (there : Some t ≡ option_map (λ (m : EntryOf ℕ). m.tree) own) where
      by-own : option_and_then change own ≡ temporary_extracted (asked_by s.names) t path x
      by-own =
          let m = with-tree own t there in
          ap (option_and_then change) m.1 ∙ ap (by_part m.0.tree) (located m.0 m.1 ∙ ap Some is) ∙ ap (λ (n : MethodOf ℕ). temporary_extracted (asked_by s.names) n path x) m.2

      no-tree_made : (q : Option (MethodOf ℕ)) → None ≡ option_map normal q → q ≡ None
      no-tree_made None e = refl
      no-tree_made (Some n) e = absurd (cc)

      -- the path leads nowhere
      pub extracted-nowhere : (cs : List Change) (ps : List Place) → cs ≡ [] → ps ≡ [] → None ≡ option_map normal (temporary_extracted (asked_by s.names) t path x) → IsPlan s command cs ps
      extracted-nowhere cs ps a b e = plan-nothing s o p.method command change refl cs ps a b (by-own ∙ no-tree_made (temporary_extracted (asked_by s.names) t path x) e)

      -- the tree is made
      pub extracted-told : (made : Method) → Some (method_of made) ≡ option_map normal (temporary_extracted (asked_by s.names) t path x) → Retells s p.method made command
      extracted-told made e = by (temporary_extracted (asked_by s.names) t path x) by-own e
        where
          by : (q : Option (MethodOf ℕ)) → option_and_then change own ≡ q → Some (method_of made) ≡ option_map normal q → Retells s p.method made command
          by None h f = absurd (cc)
          by (Some n) h f = let same : method_of made ≡ normal n = cc in retells s o p.method command change refl made n h same
