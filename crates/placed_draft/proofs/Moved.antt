-- Drafts whose classes or methods stand in another order.
use Rattle.std.proofs.Common.{◌≡◌, ℕ, Bool, true, List, [], ◌∷◌, map, Option, nat_eq, sym, subst, ◌∙◌}
use Rattle.std.specs.List.{AllByRecursion}
use Rattle.image_model.specs.Image.{ClassOf, EntryOf}
use Rattle.image_model.specs.Means.{of_instance, of_class_side}
use Rattle.image_model.specs.Valid.{HasClass, HasNoRepeat, class_names, SuperclassesStandBefore}
use Rattle.file_model.specs.Hierarchy.{has_class, settled}
use Rattle.file_model.specs.Places.{put_again_behind}
use Rattle.file_laws.specs.Orders.{AreSameClasses}
use Rattle.file_laws.proofs.OtherOrder.{all_reordered, same_back, same_through}
use Rattle.file_laws.proofs.OtherOrderLooks.{has_same, stands_twice_same}
use Rattle.file_laws.proofs.OtherOrderChanges.{settled_alike}
use Rattle.file_laws.proofs.PutAgain.{put_again_behind_same}
use Rattle.image_draft.specs.declared.method_draft.MethodDraft.{MethodDraft}
use Rattle.image_draft.specs.declared.draft.Draft.{Draft}
use Rattle.image_draft.specs.Entries.{entry_of}
use Rattle.image_draft.specs.Drafted.{IsWhole}
use Rattle.image_draft.specs.Names.{NamesDiffer}
use Rattle.image_draft.specs.Once.{AreSound}
use Rattle.image_draft.proofs.MethodClasses.{all_kept}
use Rattle.image_draft.proofs.Ordered.{once_of}
use Rattle.file_laws.proofs.Redefined.{no_repeat_behind, apart}
use Rattle.file_laws.proofs.Defined.{has_stands}
use Rattle.image_draft.specs.Arranged.{in_order}
use Rattle.placed_draft.specs.Placed.{NamesEach}
use Rattle.placed_draft.proofs.OrderKept.{ordered_same}
use Rattle.placed_draft.proofs.Numbers.{nat_itself, nat_equal}

-- no two classes of a whole draft have one name
pub whole_once : (d : Draft) → IsWhole d → HasNoRepeat (class_names d.classes)
whole_once d whole = once_of d.classes whole.names_differ

-- names that stand once differ
differ_of : (cs : List (ClassOf ℕ)) → HasNoRepeat (class_names cs) → NamesDiffer cs
differ_of [] h = tt
differ_of (c ∷ cs) h = (has_stands nat_eq nat_itself nat_equal cs c.name ∙ apart nat_eq nat_itself nat_equal [] c cs h, differ_of cs (no_repeat_behind c.name (class_names cs) h))

-- the same classes in another order that is one
pub sound_moved : (es ds : List (ClassOf ℕ)) → AreSameClasses es ds → SuperclassesStandBefore es → AreSound ds → AreSound es
sound_moved es ds m before sound = record {
  order = record { differ = differ_of es m.distinct; before = before };
  instance = λ n. stands_twice_same nat_eq nat_itself nat_equal es ds m of_instance n ∙ sound.instance n;
  class_side = λ n. stands_twice_same nat_eq nat_itself nat_equal es ds m of_class_side n ∙ sound.class_side n;
}

pub whole_moved : (d : Draft) (es : List (ClassOf ℕ)) → IsWhole d → AreSameClasses es d.classes → SuperclassesStandBefore es → IsWhole (record d { classes = es })
whole_moved d es whole m before = record {
  names_differ = differ_of es m.distinct;
  superclasses_before = before;
  method_classes_there = all_kept d.classes es kept (map entry_of d.methods) whole.method_classes_there;
  run_class_there = λ r e. kept r.class (whole.run_class_there r e);
  heads_within = whole.heads_within;
}
  where
    kept : (n : ℕ) → has_class nat_eq d.classes n ≡ true → has_class nat_eq es n ≡ true
    kept n h = has_same nat_eq nat_itself nat_equal es d.classes m n ∙ h

-- the methods put in again at places
pub whole_methods : (d : Draft) (ms : List MethodDraft) (is_kernel : EntryOf ℕ → Bool) (place : EntryOf ℕ → Option ℕ) → IsWhole d → map entry_of ms ≡ put_again_behind is_kernel place (map entry_of d.methods) → IsWhole (record d { methods = ms })
whole_methods d ms is_kernel place whole e = record {
  names_differ = whole.names_differ;
  superclasses_before = whole.superclasses_before;
  method_classes_there =
      subst (AllByRecursion (HasClass d.classes)) (sym e)
      (all_reordered (HasClass d.classes) (map entry_of d.methods) (put_again_behind is_kernel place (map entry_of d.methods)) (put_again_behind_same is_kernel place (map entry_of d.methods)) whole.method_classes_there);
  run_class_there = whole.run_class_there;
  heads_within = whole.heads_within;
}

-- classes put in again at places and then in order
pub placed_alike : (place : ClassOf ℕ → Option ℕ) (cs ds : List (ClassOf ℕ)) → AreSameClasses cs ds → SuperclassesStandBefore ds
    → AreSameClasses (settled nat_eq (put_again_behind (λ (c : ClassOf ℕ). c.kernel) place cs)) ds × SuperclassesStandBefore (settled nat_eq (put_again_behind (λ (c : ClassOf ℕ). c.kernel) place cs))
placed_alike place cs ds m before = settled_alike nat_eq nat_itself nat_equal again ds put before
  where
    again : List (ClassOf ℕ)
    again = put_again_behind (λ (c : ClassOf ℕ). c.kernel) place cs

    put : AreSameClasses again ds
    put =
        same_through nat_eq nat_itself nat_equal again cs ds
        (same_back nat_eq nat_itself nat_equal cs again (record { permutation = put_again_behind_same (λ (c : ClassOf ℕ). c.kernel) place cs; distinct = m.distinct })) m

-- the classes in the order of names and then in order
module _ (d : Draft) (whole : IsWhole d) (names : List ℕ) (each : NamesEach names d.classes) where
  settled_same : AreSameClasses (settled nat_eq (in_order names d.classes)) d.classes × SuperclassesStandBefore (settled nat_eq (in_order names d.classes))
  settled_same = settled_alike nat_eq nat_itself nat_equal (in_order names d.classes) d.classes (ordered_same names d.classes (whole_once d whole) each) whole.superclasses_before

  pub settled_sound : AreSound d.classes → AreSound (settled nat_eq (in_order names d.classes))
  settled_sound sound = sound_moved (settled nat_eq (in_order names d.classes)) d.classes settled_same.0 settled_same.1 sound

  pub settled_whole : IsWhole (record d { classes = settled nat_eq (in_order names d.classes) })
  settled_whole = whole_moved d (settled nat_eq (in_order names d.classes)) whole settled_same.0 settled_same.1

  -- or put in again at places between
  placed_same : (place : ClassOf ℕ → Option ℕ) → AreSameClasses (settled nat_eq (put_again_behind (λ (c : ClassOf ℕ). c.kernel) place (in_order names d.classes))) d.classes × SuperclassesStandBefore (settled nat_eq (put_again_behind (λ (c : ClassOf ℕ). c.kernel) place (in_order names d.classes)))
  placed_same place = placed_alike place (in_order names d.classes) d.classes (ordered_same names d.classes (whole_once d whole) each) whole.superclasses_before

  pub placed_sound : (place : ClassOf ℕ → Option ℕ) → AreSound d.classes → AreSound (settled nat_eq (put_again_behind (λ (c : ClassOf ℕ). c.kernel) place (in_order names d.classes)))
  placed_sound place sound = sound_moved (settled nat_eq (put_again_behind (λ (c : ClassOf ℕ). c.kernel) place (in_order names d.classes))) d.classes (placed_same place).0 (placed_same place).1 sound

  pub placed_whole : (place : ClassOf ℕ → Option ℕ) → IsWhole (record d { classes = settled nat_eq (put_again_behind (λ (c : ClassOf ℕ). c.kernel) place (in_order names d.classes)) })
  placed_whole place = whole_moved d (settled nat_eq (put_again_behind (λ (c : ClassOf ℕ). c.kernel) place (in_order names d.classes))) whole (placed_same place).0 (placed_same place).1
