-- The room for the getter and the setter, and the plan, with the trees of both.
use Rattle.std.proofs.Common.{◌≡◌, ℕ, ◌+◌, ◌<◌, List, [], ◌∷◌, ◌++◌, length, Some, refl, sym, ap, ◌∙◌}
use Rattle.tree_model.specs.AllNames.{MethodNames}
use Rattle.st_tree.specs.View.{method_of}
use Rattle.st_tree.proofs.Back.{method_of-method_from}
use Rattle.image_model.specs.ImageNames.{ImageNames}
use Rattle.class_table.specs.declared.record.MethodRec.{MethodRec}
use Rattle.class_table.specs.declared.record.Place.{Place}
use Rattle.class_table.specs.declared.record.Place.TheVariants as place
use Rattle.class_table.specs.declared.record.Slot.TheVariants as slot
use Rattle.class_table.specs.Slots.{Slots}
use Rattle.class_table.specs.Valid.{IsOrderly}
use Rattle.class_table.specs.Finding.{named_in}
use Rattle.change_set.specs.declared.change.Change.{Change}
use Rattle.change_set.specs.declared.change.Change.TheVariants as change
use Rattle.wider_slots.specs.Closed.{IsClosed}
use Rattle.wider_slots.specs.Wider.{one_method, widened, Wider}
use Rattle.command_model.specs.Accessors.{getter, setter_of}
use Rattle.command_numbers.specs.CommandNames.{CommandNames}
use Rattle.commands.specs.Views.{asked_by}
use Rattle.reference_index.specs.Mentioned.{Mentioned, IsIndexOf}
use Rattle.plans.specs.Plan.{IsPlan}
use Rattle.abstracted_code.specs.declared.abstraction.Abstraction.{Abstraction}
use Rattle.remade_plans.specs.Remade.{image_after}
use Rattle.abstract_plans.specs.Abstracted.{abstraction_command, remaking_of, getter_tree, setter_tree, accessor_rec, AreListed}
use Rattle.abstract_plans.proofs.Fits.{getter-known, setter-known}
use Rattle.abstract_plans.proofs.Planned.{room-first, room-second, plan-is}
use Rattle.abstract_plans.proofs.Spoken.{remade}

module _ (s : Slots) (o : IsOrderly s) (a : Abstraction) (known : CommandNames (λ n. n < length s.names) (abstraction_command a)) (class : ℕ) (found : named_in s.classes s.class_order a.class ≡ Some class)
    (reader writer : MethodRec) (reader_is : reader ≡ accessor_rec s.names class (getter_tree a)) (u : Slots) (first : u ≡ widened (one_method reader) s) where
  get-known : MethodNames (λ n. n < length s.names) (method_of (getter_tree a))
  get-known = getter-known s a known (getter_tree a) (method_of-method_from (getter a.variable))

  set-known : MethodNames (λ n. n < length s.names) (method_of (setter_tree a))
  set-known = setter-known s a known (setter_tree a) (method_of-method_from (setter_of a.variable a.setter a.parameter))

  first-is : u ≡ widened (one_method (accessor_rec s.names class (getter_tree a))) s
  first-is = first ∙ ap (λ (m : MethodRec). widened (one_method m) s) reader_is

  pub wider-first : IsClosed s → Wider s u
  wider-first closed =
      room-first s o a class found (getter_tree a) (setter_tree a) (method_of-method_from (getter a.variable)) (method_of-method_from (setter_of a.variable a.setter a.parameter)) get-known set-known u closed first-is

  module _ (writer_is : writer ≡ accessor_rec s.names class (setter_tree a)) (v : Slots) (second : v ≡ widened (one_method writer) u) where
    second-is : v ≡ widened (one_method (accessor_rec s.names class (setter_tree a))) u
    second-is = second ∙ ap (λ (m : MethodRec). widened (one_method m) u) writer_is

    pub wider-second : IsClosed s → Wider s v
    wider-second closed =
        room-second s o a class found (getter_tree a) (setter_tree a) (method_of-method_from (getter a.variable)) (method_of-method_from (setter_of a.variable a.setter a.parameter)) get-known set-known u v closed first-is second-is

    pub whole-plan : (x : Mentioned) (cs ds fs : List Change) (ps qs rs : List Place) (p q j k : ℕ) → ImageNames (λ n. n < length s.names) (image_after s (remaking_of s a)) → IsIndexOf s x → a.self_name ≡ (asked_by s.names).self_name
        → AreListed s x a cs ps → p ≡ length s.method_order → q ≡ p + 1 → j ≡ length s.methods → k ≡ length u.methods
        → ds ≡ cs ++ change.Live (slot.Method j) (Some p) ∷ [] → fs ≡ ds ++ change.Live (slot.Method k) (Some q) ∷ [] → qs ≡ ps ++ place.Method j ∷ [] → rs ≡ qs ++ place.Method k ∷ []
        → IsPlan v (abstraction_command a) fs rs
    whole-plan x cs ds fs ps qs rs p q j k names index self are p_is q_is j_is k_is ds_is fs_is qs_is rs_is =
        plan-is s o a class found (getter_tree a) (setter_tree a) (method_of-method_from (getter a.variable)) (method_of-method_from (setter_of a.variable a.setter a.parameter)) get-known set-known
        cs ps (remade s a x cs ps o names index are) self u v p q j k ds fs qs rs first-is second-is p_is q_is j_is k_is ds_is fs_is qs_is rs_is
