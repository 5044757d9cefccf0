-- The names of a method that mean another thing in another class, from what is known of the method.
use Rattle.std.proofs.Common.{◌≡◌, ℕ, Bool, false, not, List, [], Option, Some, option_map, sym, ap, subst, ◌∙◌}
use Rattle.std.specs.Prelude.{nat_eq}
use Rattle.std.specs.List.{flat_map}
use Rattle.std.specs.Option.{option_map_or}
use Rattle.tree_model.specs.Tree.{MethodOf}
use Rattle.tree_model.specs.Nodes.{Placed, nodes}
use Rattle.image_model.specs.Image.{EntryOf}
use Rattle.image_model.specs.Means.{means}
use Rattle.image_model.specs.Uses.{name_used}
use Rattle.image_model.specs.Words.{number_words}
use Rattle.st_tree.specs.View.{method_of}
use Rattle.class_table.specs.declared.record.MethodInfo.{MethodInfo}
use Rattle.class_table.specs.declared.record.MethodRec.{MethodRec}
use Rattle.class_table.specs.Finding.{named_in}
use Rattle.class_table.specs.Info.{TellsOf, IsInfoOf}
use Rattle.class_table.specs.Slots.{Slots}
use Rattle.class_table.specs.View.{class_name, live_at, number_image}
use Rattle.class_table.specs.Valid.{IsOrderly}
use Rattle.class_questions.proofs.ChainLaws.{named-slot}
use Rattle.command_model.specs.MethodEffects.{of_class_named}
use Rattle.command_model.specs.SameMethods.{same_meaning}
use Rattle.commands.specs.Views.{asked_by}
use Rattle.hierarchy_questions.specs.OwnMethods.{own_slot}
use Rattle.refusal_witnesses.specs.Witnesses.{OwnerOf, WitnessOf, TwoMeanings, where_true}
use Rattle.refusal_witnesses.specs.MethodWitnesses as model
use Rattle.witness_lists.specs.declared.witness.Owner.TheVariants as owner
use Rattle.witness_lists.specs.Views.{owner_of}
use Rattle.method_witnesses.specs.declared.meanings.Moved.{Moved}
use Rattle.method_witnesses.specs.Moved.{difference_at}
use Rattle.method_witnesses.proofs.Own.{own-there, slot-live, slot-owner}

module _ (s : Slots) where
  -- a method as one of a class
  abbrev as_method : Option ℕ → Bool → MethodOf ℕ → EntryOf ℕ
  as_method class meta tree = record { class = class; meta = meta; protocol = []; source = []; tree = tree; kernel = false }

  -- the names of a tree that mean another thing in another class
  abbrev between : (class other : Option ℕ) → Bool → MethodOf ℕ → OwnerOf ℕ → List (WitnessOf ℕ)
  between class other meta tree owner =
      flat_map (λ (e : Placed ℕ). option_map_or (λ (x : ℕ).
      where_true (not (same_meaning nat_eq (means (number_words s.names) (number_image s) (as_method class meta tree) e.0 x) (means (number_words s.names) (number_image s) (as_method other meta tree) e.0 x)))
      (TwoMeanings owner e.0 x (means (number_words s.names) (number_image s) (as_method class meta tree) e.0 x) (means (number_words s.names) (number_image s) (as_method other meta tree) e.0 x)))
      (name_used e.1) []) (nodes tree.body)

  module _ (orderly : IsOrderly s) (c : ℕ) (meta : Bool) (n d : ℕ) where
    pub moved-told : (k t : ℕ) (info : MethodInfo) (m : Moved) → own_slot s c meta n ≡ Some k → named_in s.classes s.class_order d ≡ Some t → IsInfoOf (Some info) (live_at s.methods s.method_order k)
        → Some m.tree.now ≡ option_map (λ (r : MethodRec). r.tree) (live_at s.methods s.method_order k) → m.slot ≡ k → m.class ≡ info.class → m.meta ≡ info.meta → m.to ≡ t
        → flat_map (difference_at s m) (nodes (method_of m.tree.now).body) ≡ model.other_meanings (number_words s.names) (asked_by s.names).is_super (number_image s) c meta n d
    moved-told k t info m e named info-told tree-told is_slot is_class is_meta is_to =
        let held = slot-live s orderly c meta n k e in
        let told : TellsOf info held.0 = subst (IsInfoOf (Some info)) held.1 info-told in
        let opened : Some m.tree.now ≡ Some held.0.tree = tree-told ∙ ap (option_map (λ (r : MethodRec). r.tree)) held.1 in
        let same : m.tree.now ≡ held.0.tree = cc in
        let to : class_name s.classes m.to ≡ Some d = ap (class_name s.classes) is_to ∙ (named-slot s.classes s.class_order d t named).1 in
        let place = ap (λ (j : ℕ). owner_of s (owner.Method j)) is_slot ∙ slot-owner s orderly c meta n k held.0 e held.1 in
        (λ i. between (class_name s.classes ((is_class ∙ told.class) i)) (to i) ((is_meta ∙ told.meta) i) (method_of (same i)) (place i))
        ∙ sym (ap (λ (o : Option (EntryOf ℕ)). option_map_or (λ (x : EntryOf ℕ). model.differences (number_words s.names) (number_image s) x (number_image s) (of_class_named x d)) o []) (own-there s orderly c meta n k held.0 e held.1))
