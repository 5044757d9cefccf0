-- The classes of a user in a valid image, behind those of the kernel.
use Rattle.std.proofs.Common.{◌≡◌, ◌≢◌, List, ◌++◌, true, false, not, None, ap, sym, subst, ◌∙◌, true≢false}
use Rattle.std.specs.Prelude.{codes}
use Rattle.std.proofs.lemmas.Bool.{false_from_ne_true, not-true}
use Rattle.rb_base.specs.Names.{text_eq}
use Rattle.rb_base.proofs.NamesLemmas.{text_eq-refl}
use Rattle.token_model.specs.declared.kind.Dialect.TheVariants.{Second}
use Rattle.image_model.specs.Image.{ClassOf, ImageOf}
use Rattle.image_model.specs.Valid.{IsValid}
use Rattle.image_model.specs.Words.{text_words}
use Rattle.file_model.specs.Fileable.{reading_of}
use Rattle.file_model.specs.Filing.{Text}
use Rattle.file_model.specs.Hierarchy.{has_class}
use Rattle.file_model.specs.Written.{user_classes}
use Rattle.file_laws.proofs.Moves.{text_equal}
use Rattle.file_rereading.specs.Rereading.{KernelFirst}
use Rattle.change_model.specs.Equal.{is_namesake}
use Rattle.change_laws.specs.Merged.{Has, AreApart}
use Rattle.change_laws.proofs.Orders.{filter_has}
use Rattle.change_laws.proofs.Tests.{namesake_back, apart_from}
use Rattle.change_class_laws.proofs.Stands.{has_front, apart_between, named_has}
use Rattle.change_class_laws.proofs.Lessened.{IsWhole, root_named}

module _ (kernel i : ImageOf Text) (valid : IsValid text_words (reading_of Second kernel) i) (first : KernelFirst kernel i) where
  pub whole_of : IsWhole i.classes
  whole_of = record {
    classes = record { distinct = valid.class_names_distinct; before = valid.superclasses_before; root = valid.only_object_is_root };
    instance = valid.instance_variables_once;
    class_side = valid.class_side_variables_once;
  }

  -- no two classes of a name
  pub all_apart : AreApart is_namesake i.classes
  all_apart = apart_from (λ (c : ClassOf Text). c.name) is_namesake i.classes (λ c d h k e. text_equal c.name d.name e) valid.class_names_distinct

  pub parts_apart : AreApart is_namesake (kernel.classes ++ user_classes i)
  parts_apart = subst (λ (cs : List (ClassOf Text)). AreApart is_namesake cs) first.classes all_apart

  pub of_user : (x : ClassOf Text) → Has x (user_classes i) → x.kernel ≡ false
  of_user x h = not-true x.kernel (filter_has (λ (c : ClassOf Text). not c.kernel) i.classes x h).passes

  pub in_image : (x : ClassOf Text) → Has x (user_classes i) → Has x i.classes
  in_image x h = (filter_has (λ (c : ClassOf Text). not c.kernel) i.classes x h).there

  pub kernel_in : (k : ClassOf Text) → Has k kernel.classes → Has k i.classes
  kernel_in k h = subst (λ (cs : List (ClassOf Text)). Has k cs) (sym first.classes) (has_front k kernel.classes (user_classes i) h)

  -- those of the kernel are named otherwise
  pub other_than_kernel : (x k : ClassOf Text) → Has x (user_classes i) → Has k kernel.classes → text_eq x.name k.name ≡ false
  other_than_kernel x k h l = false_from_ne_true (text_eq x.name k.name) (λ e. apart_between is_namesake kernel.classes (user_classes i) parts_apart k x l h (namesake_back x k e))

  module _ (root : has_class text_eq kernel.classes (codes "Object") ≡ true) where
    -- no class of a user is the root
    pub not_object : (x : ClassOf Text) → Has x (user_classes i) → text_eq x.name (codes "Object") ≡ false
    not_object x h = let o = named_has kernel.classes (codes "Object") root in ap (text_eq x.name) (sym o.named) ∙ other_than_kernel x o.class h o.there

    pub has_superclass : (x : ClassOf Text) → Has x (user_classes i) → x.superclass ≢ None
    has_superclass x h e =
        let named : codes "Object" ≡ x.name = root_named i.classes whole_of x (in_image x h) e in
        true≢false (sym (ap (text_eq x.name) named ∙ text_eq-refl x.name) ∙ not_object x h)
