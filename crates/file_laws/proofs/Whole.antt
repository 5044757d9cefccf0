-- The image of each file-out is valid, where that of the kernel is.
use Rattle.std.proofs.Common.{◌≡◌, ◌+◌, true, false, List, [], ◌∷◌, filter, Option, Result, Ok, Err, refl, sym, ap, subst, ◌∙◌}
use Rattle.std.specs.Prelude.{if◌then◌else◌, is_some}
use Rattle.std.specs.List.{AllByRecursion}
use Rattle.std.specs.List.Sorted.{IsPermutation}
use Rattle.std.specs.Option.{option_map_or}
use Rattle.std.proofs.lemmas.List.Sorted.{IsPermutation-refl, IsPermutation-sym, IsPermutation-trans, IsPermutation-map, Contains-permutation}
use Rattle.rb_base.specs.Names.{text_eq}
use Rattle.rb_base.proofs.NamesLemmas.{text_eq-refl}
use Rattle.token_model.specs.declared.kind.Dialect.{Dialect}
use Rattle.tree_model.specs.Tree.{SequenceOf, MethodOf}
use Rattle.image_model.specs.Image.{ClassOf, EntryOf, ImageOf, plus}
use Rattle.image_model.specs.Means.{of_instance, of_class_side}
use Rattle.image_model.specs.Valid.{HasNoRepeat, HasClass, OnlyObjectIsRoot, IsValid, class_names}
use Rattle.image_model.specs.Words.{text_words}
use Rattle.file_model.specs.Causes.{Cause}
use Rattle.file_model.specs.Changes.{ChangeOf, RunOf}
use Rattle.file_model.specs.Fileable.{reading_of}
use Rattle.file_model.specs.Filing.{Text, with_replaced}
use Rattle.file_model.specs.Forms.{Changes, form_of}
use Rattle.file_model.specs.Hierarchy.{has_class}
use Rattle.file_model.specs.Places.{PlacesOf, method_place, placed}
use Rattle.file_model.specs.Refusals.{method_refusals}
use Rattle.file_model.specs.Applied.{changed, with_method, method_added}
use Rattle.file_model.specs.Reading.{IsKernelOf, IsImageOf}
use Rattle.file_model.proofs.OneImage.{one_kernel}
use Rattle.file_laws.specs.Orders.{AreSameClasses}
use Rattle.file_laws.proofs.Chains.{once_moved}
use Rattle.file_laws.proofs.Kept.{IsKernel, IsRight, IsKept, homes_kept, kept_changed, kept_added}
use Rattle.file_laws.proofs.KernelClasses.{kernel_changed, kernel_placed}
use Rattle.file_laws.proofs.KernelOrder.{of_kernel}
use Rattle.file_laws.proofs.KernelPart.{all_pass_whole}
use Rattle.file_laws.proofs.Methods.{differ_of, no_repeat_of, once_placed}
use Rattle.file_laws.proofs.Moves.{text_equal, All-weaker}
use Rattle.file_laws.proofs.Named.{IsNamed, IsGoodForm, all_moved, good_form, named_end}
use Rattle.file_laws.proofs.OtherOrder.{all_reordered, named_same}
use Rattle.file_laws.proofs.OtherOrderChanges.{changed_alike}
use Rattle.file_laws.proofs.PutAgain.{put_again_behind_same, put_again_behind_kernel}
use Rattle.file_laws.proofs.PlacedImages.{placed_in_order}
use Rattle.file_laws.proofs.Refused.{unless_none, unless_ok}
use Rattle.file_laws.proofs.Sound.{user_methods_spelled, doits_spelled}
use Rattle.file_laws.proofs.Taking.{IsKeptByChunks, kept_end}

-- what is known of the image holds whatever its do-its are
with_doits_kept : (k i j : ImageOf Text) → i.classes ≡ j.classes → i.methods ≡ j.methods → IsKept k i → IsKept k j
with_doits_kept k i j classes methods h = subst (λ (z : ImageOf Text). IsKept k z) (λ n. record { classes = classes n; methods = methods n; doits = j.doits; heads = j.heads }) (record {
  named = record { distinct = h.named.distinct; before = h.named.before; given = h.named.given };
  right = h.right;
  instance = h.instance;
  class_side = h.class_side;
  shared = h.shared;
  homes = h.homes;
  once = h.once;
  kernel_classes = h.kernel_classes;
  kernel_methods = h.kernel_methods;
})

-- what is known of an image whose classes may stand in another order until they are settled
record IsKeptAs (k i : ImageOf Text) : Type 0 where
  classes : List (ClassOf Text)
  same : AreSameClasses i.classes classes
  kept : IsKept k (record i { classes = classes })
  kernel : filter of_kernel i.classes ≡ k.classes

-- in order from the start
kept_so : (k i : ImageOf Text) → IsKept k i → IsKeptAs k i
kept_so k i h = record {
  classes = i.classes;
  same = record { permutation = IsPermutation-refl i.classes; distinct = h.named.distinct };
  kept = with_doits_kept k i (record i { classes = i.classes }) refl refl h;
  kernel = h.kernel_classes;
}

module _ (k : ImageOf Text) (kernel : IsKernel k) where
  -- a change keeps it
  as_changed : (d : Dialect) (b : SequenceOf Text) (c : ChangeOf Text) (i j : ImageOf Text) → form_of d false b ≡ Changes c → changed text_eq false c i ≡ Ok j → IsKeptAs k i → IsKeptAs k j
  as_changed d b c i j says e h =
      let other = changed_alike text_eq text_eq-refl text_equal false c i j h.classes h.same h.kept.named.before e in
      record {
        classes = other.classes;
        same = other.alike;
        kept = kept_changed k kernel c (record i { classes = h.classes }) (record j { classes = other.classes }) (subst IsGoodForm says (good_form d b)) other.gives h.kept;
        kernel = kernel_changed k.classes kernel.before kernel.plain c i j e h.same.distinct h.kernel;
      }

  -- a method of a class that is there keeps it
  as_added : (r : RunOf Text) (source : Text) (m : MethodOf Text) (i j : ImageOf Text) → has_class text_eq i.classes r.class ≡ true → method_added text_eq false r source m i ≡ Ok j → IsKeptAs k i → IsKeptAs k j
  as_added r source m i j there e h =
      let new : ImageOf Text = record i { methods = with_method text_eq false r source m i.methods } in
      let cs = method_refusals text_eq i.methods r m.selector in
      let none = unless_none cs new j e in
      let other : ImageOf Text = record i { classes = h.classes; methods = with_method text_eq false r source m i.methods } in
      subst (IsKeptAs k) (unless_ok cs new j e) (record {
        classes = h.classes;
        same = h.same;
        kept = kept_added k r source m (record i { classes = h.classes }) other
            (ap is_some (sym (named_same text_eq text_eq-refl text_equal i.classes h.classes h.same r.class)) ∙ there)
            (ap (λ (o : Option Cause). let z : Result (ImageOf Text) Cause = option_map_or Err o (Ok other) in z) none) h.kept;
        kernel = h.kernel;
      })

  -- methods and classes that go to the places that are stated for them are as they were, and the classes in order
  settled_kept : (i : ImageOf Text) (stated : PlacesOf Text) → IsKeptAs k i → IsKept k (placed text_eq stated i)
  settled_kept i stated h =
      let named : IsNamed (placed text_eq stated i) = named_end i stated (record { classes = h.classes; same = h.same; named = h.kept.named }) in
      let new : List (ClassOf Text) = (placed text_eq stated i).classes in
      let order = placed_in_order text_eq text_eq-refl text_equal stated i h.classes h.same.permutation h.kept.named.before in
      let whole : IsPermutation h.classes new = IsPermutation-trans h.classes i.classes new (IsPermutation-sym i.classes h.classes h.same.permutation) order.1 in
      let names = IsPermutation-map (λ (c : ClassOf Text). c.name) h.classes new whole in
      record {
        named = named;
        right = all_moved IsRight h.classes new whole h.kept.right;
        instance = once_moved h.classes new whole h.kept.named.distinct named.distinct of_instance h.kept.instance;
        class_side = once_moved h.classes new whole h.kept.named.distinct named.distinct of_class_side h.kept.class_side;
        shared = all_moved (λ (c : ClassOf Text). HasNoRepeat c.shared) h.classes new whole h.kept.shared;
        homes = all_reordered (HasClass new) i.methods (placed text_eq stated i).methods (put_again_behind_same (λ (m : EntryOf Text). m.kernel) (method_place text_eq stated.methods) i.methods)
            (homes_kept h.classes new i.methods (λ n has. Contains-permutation (class_names h.classes) (class_names new) n names has) h.kept.homes);
        once = once_placed i stated h.kept.once;
        kernel_classes = kernel_placed k.classes kernel.before kernel.plain i stated h.kernel;
        kernel_methods = put_again_behind_kernel (λ (m : EntryOf Text). m.kernel) (method_place text_eq stated.methods) i.methods ∙ h.kept.kernel_methods;
      }

  -- other do-its keep it
  as_doits : (i j : ImageOf Text) → i.classes ≡ j.classes → i.methods ≡ j.methods → IsKeptAs k i → IsKeptAs k j
  as_doits i j classes methods h = record {
    classes = h.classes;
    same = subst (λ (cs : List (ClassOf Text)). AreSameClasses cs h.classes) classes h.same;
    kept = with_doits_kept k (record i { classes = h.classes }) (record j { classes = h.classes }) refl methods h.kept;
    kernel = ap (filter of_kernel) (sym classes) ∙ h.kernel;
  }

  -- all that chunks make keeps it
  whole_keeps : (d : Dialect) → IsKeptByChunks d false (IsKeptAs k)
  whole_keeps d = record {
    changes = as_changed d;
    adds = λ r source m i j spells stands there e h. as_added r source m i j there e h;
    counts = λ i x at_head chunk h. as_doits i (record (plus i x) { heads = if at_head then i.heads + 1 else i.heads }) refl refl h;
    replaces = λ i numeral x chunk h. as_doits i (with_replaced i numeral x) refl refl h;
    places = λ i stated h. kept_so k (placed text_eq stated i) (settled_kept i stated h);
  }

-- the kernel is kept by itself
module _ (d : Dialect) (k : ImageOf Text) (valid : IsValid text_words (reading_of d k) k) (plain : AllByRecursion (λ (c : ClassOf Text). c.class_side ≡ []) k.classes) where
  known : IsKernel k
  known = record { before = valid.superclasses_before; homes = valid.method_classes_there; plain = plain }

  starts : IsKept k k
  starts = record {
    named = record { distinct = valid.class_names_distinct; before = valid.superclasses_before; given = valid.names_may_be_given };
    right = each k.classes valid.only_object_is_root (all_pass_whole of_kernel k.classes valid.kernel_classes);
    instance = valid.instance_variables_once;
    class_side = valid.class_side_variables_once;
    shared = valid.class_variables_once;
    homes = valid.method_classes_there;
    once = differ_of _ valid.methods_once;
    kernel_classes = valid.kernel_classes;
    kernel_methods = valid.kernel_methods;
  }
    where
      each : (cs : List (ClassOf Text)) → OnlyObjectIsRoot text_words cs → AllByRecursion (λ (c : ClassOf Text). of_kernel c ≡ true) cs → AllByRecursion IsRight cs
      each [] root flag = tt
      each (c ∷ cs) root flag = (record { root = root.0; of_kernel = λ top. flag.0 }, each cs root.1 flag.1)

-- the image of a file-out
pub valid_image : (d : Dialect) (prelude text : Text) (k i : ImageOf Text) → IsKernelOf d prelude k → IsValid text_words (reading_of d k) k → AllByRecursion (λ (c : ClassOf Text). c.class_side ≡ []) k.classes
    → IsImageOf d prelude text i → IsValid text_words (reading_of d k) i
valid_image d prelude text k i is_kernel valid plain r =
    let same : k ≡ r.kernel = one_kernel d prelude k r.kernel is_kernel r.is_kernel in
    let facts : IsKernel k = known d k valid plain in
    let start : IsKeptAs k r.kernel = subst (IsKeptAs k) same (kept_so k k (starts d k valid plain)) in
    let h : IsKept k i = kept_end d (IsKeptAs k) (IsKept k) (whole_keeps k facts d) (settled_kept k facts) prelude text i r start in
    record {
      class_names_distinct = h.named.distinct;
      superclasses_before = h.named.before;
      only_object_is_root = All-weaker _ _ i.classes (λ c right. right.root) h.right;
      names_may_be_given = h.named.given;
      instance_variables_once = h.instance;
      class_side_variables_once = h.class_side;
      class_variables_once = h.shared;
      methods_once = no_repeat_of _ h.once;
      method_classes_there = h.homes;
      user_methods = user_methods_spelled d prelude text k i r;
      doits = doits_spelled d prelude text k i r;
      kernel_classes = h.kernel_classes;
      kernel_methods = h.kernel_methods;
    }
