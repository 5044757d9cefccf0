-- The names of the live classes that pass a test.
use Rattle.std.proofs.Common.{◌≡◌, ℕ, Bool, true, false, cond, filter, map, List, [], ◌∷◌, Option, None, Some, slice_get, refl, sym, ap, ◌∙◌}
use Rattle.std.specs.List.{filter_map, cons_option}
use Rattle.image_model.specs.Image.{ClassOf}
use Rattle.class_table.specs.declared.record.ClassRec.{ClassRec}
use Rattle.class_table.specs.Slots.{Slots}
use Rattle.class_table.specs.View.{class_of, live, live_at, number_image}
use Rattle.class_table.proofs.Live.{filter_map-same}
use Rattle.class_questions.proofs.AnyLive.{live_at-live}
use Rattle.hierarchy_questions.specs.Children.{name_that}
use Rattle.std.specs.Option.{option_and_then, option_map_or}
use Rattle.class_questions.specs.LiveClasses.{is_live_that}

module _ (test : ClassOf ℕ → Bool) (s : Slots) where
  -- they are read in the live slots
  pub names-live : filter_map (name_that test s) s.class_order ≡ map (λ (e : ClassOf ℕ). e.name) (filter test (number_image s).classes)
  names-live =
      filter_map-same (name_that test s) (λ k. option_and_then (λ (c : ClassRec). cond (test (class_of s.classes c)) (Some c.name) None) (slice_get s.classes k)) s.class_order
      (λ k l. ap (λ o. option_and_then (λ (c : ClassRec). cond (test (class_of s.classes c)) (Some c.name) None) o) (live_at-live s.classes s.class_order k l))
      ∙ slots s.class_order
    where
      slots : (order : List ℕ) → filter_map (λ k. option_and_then (λ (c : ClassRec). cond (test (class_of s.classes c)) (Some c.name) None) (slice_get s.classes k)) order
          ≡ map (λ (e : ClassOf ℕ). e.name) (filter test (map (class_of s.classes) (live s.classes order)))
      slots [] = refl
      slots (k ∷ ks) =
          ap (cons_option (option_and_then (λ (c : ClassRec). cond (test (class_of s.classes c)) (Some c.name) None) (slice_get s.classes k))) (slots ks) ∙ by (slice_get s.classes k)
        where
          by : (o : Option ClassRec) → cons_option (option_and_then (λ (c : ClassRec). cond (test (class_of s.classes c)) (Some c.name) None) o) (map (λ (e : ClassOf ℕ). e.name) (filter test (map (class_of s.classes) (live s.classes ks))))
              ≡ map (λ (e : ClassOf ℕ). e.name) (filter test (map (class_of s.classes) (cons_option o (live s.classes ks))))
          by None = refl
          by (Some c) = one (test (class_of s.classes c))
            where
              one : (b : Bool) → cons_option (cond b (Some c.name) None) (map (λ (e : ClassOf ℕ). e.name) (filter test (map (class_of s.classes) (live s.classes ks))))
                  ≡ map (λ (e : ClassOf ℕ). e.name) (cond b (class_of s.classes c ∷ filter test (map (class_of s.classes) (live s.classes ks))) (filter test (map (class_of s.classes) (live s.classes ks))))
              one true = refl
              one false = refl

  -- the name in a slot of which the class is told
  pub name-told : (k : ℕ) (c : ClassRec) (b : Bool) → live_at s.classes s.class_order k ≡ Some c → test (class_of s.classes c) ≡ b → cond b (Some c.name) None ≡ name_that test s k
  name-told k c b e t =
      sym (ap (λ b. cond b (Some c.name) None) t) ∙ sym (ap (λ (o : Option ClassRec). option_and_then (λ (c : ClassRec). cond (test (class_of s.classes c)) (Some c.name) None) o) e)

  -- a test of the slot
  pub test-told : (k : ℕ) (c : ClassRec) → live_at s.classes s.class_order k ≡ Some c → is_live_that test s k ≡ test (class_of s.classes c)
  test-told k c e = ap (λ (o : Option ClassRec). option_map_or (λ (d : ClassRec). test (class_of s.classes d)) o false) e
