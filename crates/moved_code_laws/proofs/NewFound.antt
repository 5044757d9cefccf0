-- A new method of a fresh selector behind the last one of its class and side, where one method has other statements: each class at and below that class finds it.
use Rattle.std.proofs.Common.{◌≡◌, ℕ, zero, suc, List, [], ◌∷◌, Some, None, refl, ap, ◌∙◌}
use Rattle.std.specs.Prelude.{Bool, true, false, not, ◌&&◌, ◌||◌, if◌then◌else◌, map, option_map, slice_get}
use Rattle.std.specs.Bool.{beq}
use Rattle.std.specs.List.{AllByRecursion, list_any}
use Rattle.std.specs.Option.{option_map_or}
use Rattle.std.proofs.lemmas.Option.{slice_get-map}
use Rattle.rb_base.specs.Names.{text_eq}
use Rattle.rb_base.proofs.NamesLemmas.{text_eq-refl}
use Rattle.tree_model.specs.Tree.{StatementsOf, MethodOf}
use Rattle.tree_model.specs.Normal.{normal}
use Rattle.tree_model.proofs.NormalLemmas.{bare_method-normal}
use Rattle.same_trees.specs.SameTrees.{same_code}
use Rattle.image_model.specs.Image.{EntryOf, ImageOf}
use Rattle.image_model.proofs.Lists.{all-map}
use Rattle.image_model.specs.Lookup.{is_method, own_method}
use Rattle.run_model.specs.Values.{Name}
use Rattle.resolved_model.specs.ResolvedImages.{resolved_entry, resolved_image}
use Rattle.mapped_model.proofs.RenamedVariableLemmas.{at-all}
use Rattle.rename_model.specs.ClassRenamed.{WritingOf}
use Rattle.rename_model.specs.Conditions.{is_user_class, is_selector_fresh}
use Rattle.unfolded_calls.specs.Unfolding.{IsTarget}
use Rattle.unfolded_calls.proofs.Running.{none-some, some-same}
use Rattle.unfolded_places.specs.ExtractedOnce.{one_gone}
use Rattle.command_model.specs.Hierarchy.{is_method_of}
use Rattle.command_model.specs.MethodEffects.{new_method}
use Rattle.command_model.specs.Sequences.{retold}
use Rattle.command_model.specs.Extracted.{put_behind_last}
use Rattle.moved_code_laws.specs.WellWritten.{IsWellWritten}
use Rattle.moved_code_laws.proofs.NewMethod.{find-put, find-none, last-fails}
use Rattle.moved_code_laws.proofs.Targets.{new-target}
use Rattle.moved_code_laws.proofs.FreshSelector.{other-selector}
use Rattle.moved_code_laws.proofs.UsersThere.{UsersMethod}

-- one item passes
any-at : {X : Type 0} (p : X → Bool) (xs : List X) (k : ℕ) (x : X) → slice_get xs k ≡ Some x → p x ≡ true → list_any p xs ≡ true
any-at p [] k x e h = none-some e
any-at p (y ∷ ys) zero x e h = ap (λ b. b || list_any p ys) (ap p (some-same e) ∙ h)
any-at p (y ∷ ys) (suc k) x e h = always (p y) (any-at p ys k x e h)
  where
    always : (b : Bool) → list_any p ys ≡ true → (b || list_any p ys) ≡ true
    always true q = refl
    always false q = q

-- a side is itself
same-beq : (b : Bool) → beq b b ≡ true
same-beq true = refl
same-beq false = refl

module _ (writing : WritingOf Name) (i : ImageOf Name) (sound : IsWellWritten i) (c : Name) (meta : Bool) (s t : Name) (m : EntryOf Name) (user : is_user_class text_eq i c ≡ true) (mine : UsersMethod i c meta m) (fresh : is_selector_fresh text_eq i t ≡ true)
    (new_tree : MethodOf Name) (called : new_tree.selector ≡ t) (lines : StatementsOf Name) where
  -- the new method
  abbrev pub new : EntryOf Name
  new = new_method c meta m.protocol (writing.method_text new_tree) new_tree

  -- the other methods
  abbrev pub tree_after : MethodOf Name
  tree_after = record m.tree { body = record m.tree.body { statements = lines } }

  abbrev pub after : EntryOf Name → EntryOf Name
  after n = if is_method text_eq c meta s n && not n.kernel then retold text_eq writing n tree_after else n

  abbrev pub behind : EntryOf Name → Bool
  behind e = is_method_of text_eq c e && beq meta e.meta

  -- the image
  abbrev pub image_after : ImageOf Name
  image_after = record i { methods = put_behind_last behind new (map after i.methods) }

  -- the other methods have other selectors
  other-after : (k : ℕ) (n : EntryOf Name) → slice_get i.methods k ≡ Some n → text_eq t (after n).tree.selector ≡ false
  other-after k n at = by (is_method text_eq c meta s n && not n.kernel) (same_code text_eq n.tree (normal tree_after))
    where
      by : (a b : Bool) → text_eq t (if a then (if b then n else record n { tree = normal tree_after; source = writing.method_text (normal tree_after) }) else n).tree.selector ≡ false
      by true true = other-selector i t fresh k n at
      by true false = ap (text_eq t) (ap (λ (x : MethodOf Name). x.selector) (bare_method-normal tree_after)) ∙ other-selector i t fresh mine.place m mine.at
      by false b = other-selector i t fresh k n at

  others-fail : (k : Name) → AllByRecursion (λ n. is_method text_eq k meta t n ≡ false) (map after i.methods)
  others-fail k =
      all-map (λ n. is_method text_eq k meta t n ≡ false) after i.methods
      (at-all _ i.methods (λ j n at. last-fails (option_map_or (text_eq k) (after n).class false && beq meta (after n).meta) (text_eq t (after n).tree.selector) (other-after j n at)))

  -- the method itself stands before the new one
  behind-it : behind (after m) ≡ true
  behind-it = by (is_method text_eq c meta s m && not m.kernel) (same_code text_eq m.tree (normal tree_after))
    where
      own : (option_map_or (text_eq c) m.class false && beq meta m.meta) ≡ true
      own = (λ k. option_map_or (text_eq c) (mine.class k) false && beq meta (mine.side k)) ∙ (λ k. text_eq-refl c k && same-beq meta k)

      by : (a b : Bool) → behind (if a then (if b then m else record m { tree = normal tree_after; source = writing.method_text (normal tree_after) }) else m) ≡ true
      by true true = own
      by true false = own
      by false b = own

  some-behind : list_any behind (map after i.methods) ≡ true
  some-behind = any-at behind (map after i.methods) mine.place (after m) (slice_get-map after i.methods mine.place ∙ ap (option_map after) mine.at) behind-it

  -- each class at and below the method's finds the new one
  own-there : own_method text_eq image_after.methods c meta t ≡ Some new
  own-there = find-put behind new (is_method text_eq c meta t) (map after i.methods) (others-fail c) ((λ k. text_eq c c && beq meta meta && text_eq t (called k)) ∙ (λ k. text_eq-refl c k && same-beq meta k && text_eq-refl t k)) some-behind

  none-there : (k : Name) → text_eq k c ≡ false → own_method text_eq image_after.methods k meta t ≡ None
  none-there k apart = find-none behind new (is_method text_eq k meta t) (map after i.methods) (others-fail k) (ap (λ b. b && beq meta meta && text_eq t new_tree.selector) apart)

  pub target : IsTarget (resolved_image image_after) (one_gone t) c meta t (resolved_entry image_after new)
  target = new-target i sound.behind.ordered image_after.methods c meta t new user own-there none-there (one_gone t)
