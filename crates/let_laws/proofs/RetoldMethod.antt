-- An image in which a method of the user has another tree.
use Rattle.std.proofs.Common.{◌≡◌, List, ◌∷◌, ◌++◌, Option, Some, None, map, refl, sym, ap, ◌∙◌, subst}
use Rattle.std.specs.Prelude.{Bool, true, false, not, if◌then◌else◌, option_and_then, option_map}
use Rattle.std.proofs.lemmas.Option.{slice_get-map}
use Rattle.rb_base.specs.Names.{text_eq}
use Rattle.tree_model.specs.Tree.{MethodOf}
use Rattle.tree_model.specs.Normal.{normal}
use Rattle.same_trees.specs.SameTrees.{same_code}
use Rattle.image_model.specs.Image.{EntryOf, ImageOf}
use Rattle.image_model.specs.Lookup.{is_method, own_method}
use Rattle.image_model.specs.Valid.{HasNoRepeat, signature}
use Rattle.run_model.specs.Values.{Name}
use Rattle.run_model.proofs.Finite.{by_cases}
use Rattle.rename_model.specs.ClassRenamed.{WritingOf}
use Rattle.rename_laws.proofs.OwnMethods.{found-one}
use Rattle.command_model.specs.Places.{users_method}
use Rattle.command_model.specs.Sequences.{retold, with_tree}
use Rattle.command_model.proofs.UsersMethods.{users-own}
use Rattle.code_command_laws.proofs.OneMethod.{PassesOnce, Parted, parted}

module _ (i : ImageOf Name) (c : Name) (meta : Bool) (s : Name) (once : HasNoRepeat (map signature i.methods)) (m : EntryOf Name) (found : users_method text_eq i c meta s ≡ Some m) where
  -- no other method has the class, side and selector
  pub passes-once : PassesOnce (is_method text_eq c meta s) i.methods
  passes-once j k x y at p there q =
      let own = users-own text_eq i c meta s m found in
      let same : x ≡ y = sym (found-one c meta s i.methods once j x at p m own) ∙ found-one c meta s i.methods once k y there q m own in
      once j k (signature x) (slice_get-map signature i.methods j ∙ ap (option_map signature) at) (slice_get-map signature i.methods k ∙ ap (option_map signature) there ∙ ap (λ z. Some (signature z)) (sym same))

  -- the method is one of the user's
  pub users-own_code : not m.kernel ≡ true
  users-own_code = by (own_method text_eq i.methods c meta s) found
    where
      either : (n : EntryOf Name) (b : Bool) → n.kernel ≡ b → (if b then None else Some n) ≡ Some m → not m.kernel ≡ true
      either n true k e = absurd (cc)
      either n false k e = let same : n ≡ m = cc in ap not (ap (λ (z : EntryOf Name). z.kernel) (sym same) ∙ k)

      by : (o : Option (EntryOf Name)) → option_and_then (λ (n : EntryOf Name). if n.kernel then None else Some n) o ≡ Some m → not m.kernel ≡ true
      by None e = absurd (cc)
      by (Some n) e = either n n.kernel refl e

  -- the method with another tree
  module _ (writing : WritingOf Name) (tree : MethodOf Name) where
    abbrev pub retold_image : ImageOf Name
    retold_image = with_tree text_eq writing c meta s tree i

    p : Parted (is_method text_eq c meta s) (λ m. not m.kernel) (λ m. retold text_eq writing m tree) i.methods m
    p = parted (is_method text_eq c meta s) (λ m. not m.kernel) (λ m. retold text_eq writing m tree) i.methods m passes-once (users-own text_eq i c meta s m found) users-own_code

    abbrev pub anew : EntryOf Name
    anew = record m { tree = normal tree; source = writing.method_text (normal tree) }

    -- the methods round it, before and after
    pub record Retold : Type 0 where
      pub earlier : List (EntryOf Name)
      pub later : List (EntryOf Name)
      pub before : i.methods ≡ earlier ++ m ∷ later
      pub after : retold_image.methods ≡ earlier ++ anew ∷ later

    -- where it stays
    stays : retold text_eq writing m tree ≡ m → retold_image ≡ i
    stays e = λ k. record i { methods = (p.after ∙ ap (λ z. p.earlier ++ z ∷ p.later) e ∙ sym p.before) k }

    -- what holds of the image before, and of the one where it has another tree, holds after
    pub by-retold : (P : ImageOf Name → Type 0) → P i → (Retold → P retold_image) → P retold_image
    by-retold P before anew-so = by_cases (same_code text_eq m.tree (normal tree))
        (λ t. subst P (sym (stays (ap (λ b. if b then m else anew) t))) before)
        (λ f. anew-so (record { earlier = p.earlier; later = p.later; before = p.before; after = p.after ∙ ap (λ z. p.earlier ++ z ∷ p.later) (ap (λ b. if b then m else anew) f) }))
