-- The changes of the places of a selector are a plan of the command.
use Rattle.std.proofs.Common.{◌≡◌, ℕ, ◌<◌, List, [], Option, Some, length, refl, sym, ap, subst, ◌∙◌}
use Rattle.std.specs.Prelude.{Contains, nat_eq, if◌then◌else◌}
use Rattle.std.specs.List.{AllByRecursion}
use Rattle.std.specs.Option.{option_map_or}
use Rattle.tree_model.specs.Tree.{TreeOf, var, literal, send, cascade, assign, block, brace, return, TreesOf, MessagesOf, no_messages, more_messages, SequenceOf, MethodOf}
use Rattle.st_tree.specs.View.{method_of, sequence_of}
use Rattle.image_model.specs.Image.{ImageOf}
use Rattle.image_model.specs.ImageNames.{ImageNames}
use Rattle.class_table.specs.declared.record.MethodRec.{MethodRec}
use Rattle.class_table.specs.declared.record.DoIt.{DoIt}
use Rattle.class_table.specs.declared.record.Place.{Place}
use Rattle.class_table.specs.declared.record.Place.TheVariants as place
use Rattle.class_table.specs.Slots.{Slots}
use Rattle.class_table.specs.Valid.{IsOrderly}
use Rattle.class_table.specs.View.{entry_of, doit_of, number_image}
use Rattle.change_set.specs.declared.change.Change.{Change}
use Rattle.change_set.specs.Changes.{all_applied, CanApplyAll}
use Rattle.wider_slots.specs.Closed.{FitsIn}
use Rattle.command_model.specs.CodeHolds.{no_writing}
use Rattle.command_model.specs.Commands.{MovesNoCode}
use Rattle.command_model.specs.Effects.{effect}
use Rattle.command_model.specs.Numbers.{number_writing}
use Rattle.command_model.specs.Parameters.{messages_passed, node_passed, sequence_passed, tree_passed}
use Rattle.command_model.specs.Walk.{rebuilt_sequence}
use Rattle.rename_model.specs.ClassRenamed.{WritingOf}
use Rattle.commands.specs.Views.{asked_by}
use Rattle.mentions.specs.Mentions.{code_names, method_names}
use Rattle.reference_index.specs.Mentioned.{Mentioned, IsIndexOf, ListsPlaces, DiffersAtMost, names_at}
use Rattle.renamed_code.specs.Anew.{of_a_selector}
use Rattle.renamed_code_laws.proofs.Spoken.{entry-spoken, doit-spoken}
use Rattle.plans.specs.Plan.{IsPlan}
use Rattle.parameter_plans.specs.declared.given.ParameterChange.{ParameterChange}
use Rattle.parameter_plans.specs.declared.given.ParameterChange.TheVariants as given
use Rattle.parameter_plans.specs.Given.{parameter_command, selector_before, selector_after, passed_after, taken_after, remaking_of}
use Rattle.remade_plans.specs.Remade.{image_after, change_at, changes_at, touched}
use Rattle.remade_plans.proofs.RemadeCode.{given-method, given-doit, live-there}
use Rattle.remade_plans.proofs.Whole.{remade-can, remade-image, remade-names, remade-orderly, remade-fit, remade-touched}

-- what nodes and code become does not depend on how trees are written
module _ (v w : WritingOf ℕ) (t u : ℕ) (passed : TreesOf ℕ → TreesOf ℕ) (taken : List ℕ → List ℕ) where
  messages-same : (ms : MessagesOf ℕ) → messages_passed nat_eq v t u passed taken ms ≡ messages_passed nat_eq w t u passed taken ms
  messages-same no_messages = refl
  messages-same (more_messages n args ms) = ap (λ (rest : MessagesOf ℕ). if nat_eq t n then more_messages u (passed args) rest else more_messages n args rest) (messages-same ms)

  node-same : (n : TreeOf ℕ) → node_passed nat_eq v t u passed taken n ≡ node_passed nat_eq w t u passed taken n
  node-same (var n) = refl
  node-same (literal l) = refl
  node-same (send r n args) = refl
  node-same (cascade r ms) = ap (cascade r) (messages-same ms)
  node-same (assign n r) = refl
  node-same (block ps ts ss e) = refl
  node-same (brace ts) = refl
  node-same (return r) = refl

  sequence-same : (b : SequenceOf ℕ) → sequence_passed nat_eq v t u passed taken b ≡ sequence_passed nat_eq w t u passed taken b
  sequence-same b = λ i. rebuilt_sequence (λ path n. node-same n i) b

  tree-same : (m : MethodOf ℕ) → tree_passed nat_eq v t u passed taken m ≡ tree_passed nat_eq w t u passed taken m
  tree-same m = ap (λ (b : SequenceOf ℕ). let n : MethodOf ℕ = record m { body = b } in if nat_eq t m.selector then record n { selector = u; arguments = taken m.arguments } else n) (sequence-same m.body)

-- the command makes of the image the one after
is-effect : (s : Slots) (c : ParameterChange) → image_after s (remaking_of c) ≡ effect (asked_by s.names) (number_writing s.names) (parameter_command c) (number_image s)
is-effect s c = (λ j. image_after s (record (remaking_of c) {
  method_after = λ m. tree-same no_writing (number_writing s.names) (selector_before c) (selector_after c) (passed_after c) (taken_after c) m.tree j;
  body_after = λ b. sequence-same no_writing (number_writing s.names) (selector_before c) (selector_after c) (passed_after c) (taken_after c) b j;
})) ∙ by c
  where
    by : (d : ParameterChange) → image_after s (record (remaking_of d) {
      method_after = λ m. tree_passed nat_eq (number_writing s.names) (selector_before d) (selector_after d) (passed_after d) (taken_after d) m.tree;
      body_after = sequence_passed nat_eq (number_writing s.names) (selector_before d) (selector_after d) (passed_after d) (taken_after d);
    }) ≡ effect (asked_by s.names) (number_writing s.names) (parameter_command d) (number_image s)
    by (given.Added n) = refl
    by (given.Removed t k u) = refl

pub moves-none : (c : ParameterChange) → MovesNoCode (parameter_command c)
moves-none (given.Added n) = tt
moves-none (given.Removed t k u) = tt

-- each name in the image after has a text, since those in what the command makes of it have
pub known-after : (s : Slots) (c : ParameterChange) → ImageNames (λ n. n < length s.names) (effect (asked_by s.names) (number_writing s.names) (parameter_command c) (number_image s))
    → ImageNames (λ n. n < length s.names) (image_after s (remaking_of c))
known-after s c known = subst (λ (i : ImageOf ℕ). ImageNames (λ n. n < length s.names) i) (sym (is-effect s c)) known

module _ (s : Slots) (c : ParameterChange) where
  -- where a change is given the code mentions the selector
  mentioned : (p : Place) (d : Change) → change_at s (remaking_of c) p ≡ Some d → Contains (names_at s p) (selector_before c)
  mentioned (place.Method k) d e =
      let g = given-method s (remaking_of c) k d e in
      subst (λ (ns : List ℕ). Contains ns (selector_before c)) (sym (ap (λ (m : Option MethodRec). option_map_or (λ (x : MethodRec). method_names (method_of x.tree)) m []) (live-there s (remaking_of c) k g.rec g.live g.there)))
      (entry-spoken s.names (number_writing s.names) (number_image s) 0 (of_a_selector (selector_before c)) (entry_of s.classes g.rec) g.changes)
  mentioned (place.DoIt n) d e =
      let g = given-doit s (remaking_of c) n d e in
      subst (λ (ns : List ℕ). Contains ns (selector_before c)) (sym (ap (λ (x : Option DoIt). option_map_or (λ (y : DoIt). code_names (sequence_of y.body)) x []) g.there))
      (doit-spoken s.names (number_writing s.names) (number_image s) 0 (of_a_selector (selector_before c)) (doit_of g.rec) g.changes)

  -- the plan
  pub is_plan : (x : Mentioned) (places : List Place) (changes : List Change) (now : List Place) → IsOrderly s → ImageNames (λ n. n < length s.names) (image_after s (remaking_of c)) → IsIndexOf s x → ListsPlaces x (selector_before c) places
      → changes ≡ changes_at s (remaking_of c) places → now ≡ touched s (remaking_of c) places → IsPlan s (parameter_command c) changes now
  is_plan x places changes now o known index lists same there =
      let r = remaking_of c in
      let listed : (p : Place) (d : Change) → change_at s (remaking_of c) p ≡ Some d → Contains places p = λ p d e. (lists.members p).1 (((index p).members (selector_before c)).1 (mentioned p d e)) in
      record {
        can = subst (CanApplyAll s) (sym same) (remade-can s r places o known listed);
        fit = subst (AllByRecursion (FitsIn s)) (sym same) (remade-fit s r places o known listed);
        effect = ap (λ (cs : List Change). number_image (all_applied s cs)) same ∙ remade-image s r places o known listed ∙ is-effect s c;
        names = ap (λ (cs : List Change). (all_applied s cs).names) same ∙ remade-names s r places o known listed;
        orderly = subst (λ (cs : List Change). IsOrderly (all_applied s cs)) (sym same) (remade-orderly s r places o known listed);
        touched = subst (λ (cs : List Change). DiffersAtMost s (all_applied s cs) now) (sym same) (subst (DiffersAtMost s (all_applied s (changes_at s r places))) (sym there) (remade-touched s r places o known listed));
      }
