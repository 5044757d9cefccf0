-- What is reached does not depend on the source of a do-it.
use Rattle.std.proofs.Common.{◌≡◌, ℕ, zero, suc, List, [], ◌∷◌, ◌++◌, map, filter, Bool, true, refl, sym, ap, ◌∙◌}
use Rattle.std.specs.Prelude.{flat_map, ◌&&◌, ◌||◌, false}
use Rattle.std.specs.Option.{option_map_or}
use Rattle.std.proofs.lemmas.Grind.{flat_map-append}
use Rattle.tree_model.specs.Tree.{SequenceOf}
use Rattle.image_model.specs.Image.{ClassOf, EntryOf, DoItOf, ImageOf, plus}
use Rattle.image_model.specs.Words.{WordsOf}
use Rattle.strip_model.specs.Reach.{ReachOf, if_named, signatures, code_means, code_sends, doit_code, method_code, has_class, has_selector, has_method, demanded, demanded_by, everything, size, reached_after, reach}

-- one item more, for which a function gives the same as for another
last-same : {X Y : Type 0} (f : X → List Y) (xs : List X) (x y : X) → f x ≡ f y → flat_map f (xs ++ x ∷ []) ≡ flat_map f (xs ++ y ∷ [])
last-same f xs x y e = flat_map-append f xs (x ∷ []) ∙ ap (λ ys. flat_map f xs ++ (ys ++ [])) e ∙ sym (flat_map-append f xs (y ∷ []))

module _ {N : Type 0} (w : WordsOf N) (i : ImageOf N) (body : SequenceOf N) where
  -- the image with the body as its last do-it, of some source
  abbrev with : List ℕ → ImageOf N
  with source = plus i (record { source = source; body = body })

  module _ (a b : List ℕ) where
    demanded-same : (c s : N → Bool) (m : EntryOf N → Bool) → demanded_by w (with a) c s m ≡ demanded_by w (with b) c s m
    demanded-same c s m = λ j. record {
      classes =
          map (λ (x : ClassOf N). x.name) (filter (λ (x : ClassOf N). x.kernel) i.classes)
          ++ (flat_map (λ (x : ClassOf N). if_named x.superclass) (filter (λ (x : ClassOf N). c x.name) i.classes)
          ++ (flat_map (λ (x : EntryOf N). if_named x.class) (filter m i.methods)
          ++ (last-same (λ (d : DoItOf N). code_means (doit_code w i d)) i.doits (record { source = a; body = body }) (record { source = b; body = body }) refl j
          ++ flat_map (λ (x : EntryOf N). code_means (method_code w i x)) (filter m i.methods))));
      selectors =
          last-same (λ (d : DoItOf N). code_sends (doit_code w i d)) i.doits (record { source = a; body = body }) (record { source = b; body = body }) refl j
          ++ flat_map (λ (x : EntryOf N). code_sends (method_code w i x)) (filter m i.methods);
      methods = flat_map signatures (filter (λ (x : EntryOf N). x.kernel || (option_map_or c x.class false && s x.tree.selector)) i.methods);
    }

    after-same : (k : ℕ) → reached_after w (with a) k ≡ reached_after w (with b) k
    after-same zero = refl
    after-same (suc k) =
        ap (demanded w (with a)) (after-same k)
        ∙ demanded-same (has_class w.tests.same (reached_after w (with b) k)) (has_selector w.tests.same (reached_after w (with b) k)) (has_method w.tests.same (reached_after w (with b) k))

    pub reach-same : reach w (with a) ≡ reach w (with b)
    reach-same =
        ap (λ (r : ReachOf N). reached_after w (with a) (size w (with a) r)) (demanded-same (λ x. true) (λ x. true) (λ x. true))
        ∙ after-same (size w (with b) (everything w (with b)))
