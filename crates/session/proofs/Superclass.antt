-- The superclass of a class, and what a class variable becomes that goes to it.
use Rattle.std.proofs.Common.{◌≡◌, ◌<◌, ℕ, List, length, nat_eq, Option, None, Some, option_map, refl, sym, ap, subst, ◌∙◌}
use Rattle.std.specs.Option.{option_and_then, option_map_or}
use Rattle.rb_base.specs.Names.{text_eq, name_at}
use Rattle.image_model.specs.Image.{ClassOf, map_class}
use Rattle.image_model.specs.ImageNames.{OptionNames, ClassNames}
use Rattle.image_model.specs.Words.{text_words, number_words}
use Rattle.image_model.specs.Chain.{class_named}
use Rattle.image_model.proofs.Changed.{class_named-map}
use Rattle.image_model.proofs.Lists.{find-all}
use Rattle.image_model.proofs.Tables.{KeepsWords-number_words}
use Rattle.class_table.specs.declared.record.ClassRec.{ClassRec}
use Rattle.class_table.specs.Finding.{named_in}
use Rattle.class_table.specs.Slots.{Slots}
use Rattle.class_table.specs.Valid.{IsOrderly}
use Rattle.class_table.specs.View.{live_at, class_name, class_of, number_image, image_of}
use Rattle.class_questions.proofs.AnyLive.{live_at-live, live-live_at}
use Rattle.class_questions.proofs.ChainLaws.{named-record}
use Rattle.run_model.specs.Renamings.{no_renaming}
use Rattle.command_model.specs.Hierarchy.{superclass_name}
use Rattle.command_model.specs.Renamings.{one_moved}

module _ (s : Slots) (n : ℕ) (orderly : IsOrderly s) where
  -- the record of the class
  abbrev pub named_rec : Option ClassRec
  named_rec = option_and_then (live_at s.classes s.class_order) (named_in s.classes s.class_order n)

  -- the name of the class in a live slot
  abbrev pub live_name : ℕ → Option ℕ
  live_name j = option_map (λ (p : ClassRec). p.name) (live_at s.classes s.class_order j)

  -- the superclass of a live class is live
  live-above : (k : ℕ) (c : ClassRec) → live_at s.classes s.class_order k ≡ Some c → (o : Option ℕ) → c.superclass ≡ o → option_and_then (class_name s.classes) o ≡ option_and_then live_name o
  live-above k c e None f = refl
  live-above k c e (Some j) f =
      let there = live-live_at s.classes s.class_order k c e in
      ap (option_map (λ (p : ClassRec). p.name)) (sym (live_at-live s.classes s.class_order j (orderly.superclasses_live j k c there.0 there.1 f)))

  rec-above : (o : Option ℕ) (r : Option ClassRec) → option_and_then (live_at s.classes s.class_order) o ≡ r
      → option_and_then (λ (e : ClassOf ℕ). e.superclass) (option_map (class_of s.classes) r) ≡ option_and_then (λ (c : ClassRec). option_and_then live_name c.superclass) r
  rec-above o None e = refl
  rec-above None (Some c) e = absurd (cc)
  rec-above (Some k) (Some c) e = live-above k c e c.superclass refl

  pub above : superclass_name nat_eq (number_image s) n ≡ option_and_then (λ (c : ClassRec). option_and_then live_name c.superclass) named_rec
  above = ap (option_and_then (λ (e : ClassOf ℕ). e.superclass)) (sym (named-record s n)) ∙ rec-above (named_in s.classes s.class_order n) named_rec refl

  -- each way in which it is looked up
  pub no_class : named_in s.classes s.class_order n ≡ None → None ≡ superclass_name nat_eq (number_image s) n
  no_class e = sym (above ∙ ap (λ (o : Option ℕ). option_and_then (λ (c : ClassRec). option_and_then live_name c.superclass) (option_and_then (live_at s.classes s.class_order) o)) e)

  of_rec : (k : ℕ) (r : Option ClassRec) → named_in s.classes s.class_order n ≡ Some k → live_at s.classes s.class_order k ≡ r
      → superclass_name nat_eq (number_image s) n ≡ option_and_then (λ (c : ClassRec). option_and_then live_name c.superclass) r
  of_rec k r e f =
      above ∙ ap (λ (o : Option ℕ). option_and_then (λ (c : ClassRec). option_and_then live_name c.superclass) (option_and_then (live_at s.classes s.class_order) o)) e
      ∙ ap (option_and_then (λ (c : ClassRec). option_and_then live_name c.superclass)) f

  pub no_record : (k : ℕ) → named_in s.classes s.class_order n ≡ Some k → live_at s.classes s.class_order k ≡ None → None ≡ superclass_name nat_eq (number_image s) n
  no_record k e f = sym (of_rec k None e f)

  pub of_superclass : (k : ℕ) (c : ClassRec) (o : Option ℕ) → named_in s.classes s.class_order n ≡ Some k → live_at s.classes s.class_order k ≡ Some c → c.superclass ≡ o
      → option_and_then live_name o ≡ superclass_name nat_eq (number_image s) n
  of_superclass k c o e f g = sym (of_rec k (Some c) e f ∙ ap (option_and_then live_name) g)

  -- its name has a text
  pub superclass-known : (d : ℕ) → superclass_name nat_eq (number_image s) n ≡ Some d → d < length s.names
  superclass-known d e = subst (OptionNames known) e (by (class_named nat_eq (number_image s).classes n) (find-all (ClassNames known) (λ (c : ClassOf ℕ). nat_eq n c.name) (number_image s).classes orderly.names_known.classes))
    where
      known : ℕ → Type 0
      known k = k < length s.names

      by : (o : Option (ClassOf ℕ)) → OptionNames (ClassNames known) o → OptionNames known (option_and_then (λ (c : ClassOf ℕ). c.superclass) o)
      by None h = tt
      by (Some c) h = h.superclass

  -- the same over texts
  pub superclass-text : n < length s.names → superclass_name text_eq (image_of s) (name_at s.names n) ≡ option_map (name_at s.names) (superclass_name nat_eq (number_image s) n)
  superclass-text h =
      ap (option_and_then (λ (e : ClassOf (List ℕ)). e.superclass))
      (class_named-map (λ k. k < length s.names) (name_at s.names) (number_words s.names) text_words (KeepsWords-number_words s.names orderly.names_distinct) (number_image s).classes n orderly.names_known.classes h)
      ∙ by (class_named nat_eq (number_image s).classes n)
    where
      by : (o : Option (ClassOf ℕ)) → option_and_then (λ (e : ClassOf (List ℕ)). e.superclass) (option_map (map_class (name_at s.names)) o) ≡ option_map (name_at s.names) (option_and_then (λ (e : ClassOf ℕ). e.superclass) o)
      by None = refl
      by (Some c) = refl

  -- what the variable becomes
  pub moved-up : (x : ℕ) (o : Option ℕ) → n < length s.names → superclass_name nat_eq (number_image s) n ≡ o
      → option_map_or (λ d. one_moved (name_at s.names n) (name_at s.names x) (name_at s.names d)) o no_renaming ≡ option_map_or (one_moved (name_at s.names n) (name_at s.names x)) (superclass_name text_eq (image_of s) (name_at s.names n)) no_renaming
  moved-up x o h e = by o ∙ sym (ap (λ (t : Option (List ℕ)). option_map_or (one_moved (name_at s.names n) (name_at s.names x)) t no_renaming) (superclass-text h ∙ ap (option_map (name_at s.names)) e))
    where
      by : (o : Option ℕ) → option_map_or (λ d. one_moved (name_at s.names n) (name_at s.names x) (name_at s.names d)) o no_renaming ≡ option_map_or (one_moved (name_at s.names n) (name_at s.names x)) (option_map (name_at s.names) o) no_renaming
      by None = refl
      by (Some d) = refl
