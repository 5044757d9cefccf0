-- A temporary that has a new name keeps images valid, where the conditions hold.
use Rattle.std.proofs.Common.{◌≡◌, Bool, true, false, not, Option, Some, None, refl, sym, ap, subst, ◌∙◌}
use Rattle.std.specs.Prelude.{if◌then◌else◌, option_and_then, option_map, unwrap_or}
use Rattle.std.proofs.lemmas.Bool.{and_parts, not-true}
use Rattle.rb_base.specs.Names.{text_eq}
use Rattle.image_model.specs.Image.{EntryOf, ImageOf}
use Rattle.image_model.specs.Lookup.{is_method, own_method}
use Rattle.reread_law.specs.WholeTrees.{WellFormedMethod}
use Rattle.file_model.specs.Filing.{Text}
use Rattle.rename_model.specs.CommandWords.{may_be_declared, begins_upper}
use Rattle.rename_model.specs.NamesThere.{is_named_in_method}
use Rattle.rename_model.specs.ClassRenamed.{canonical}
use Rattle.command_model.specs.Asked.{text_asked}
use Rattle.command_model.specs.Commands.{RenameTemp}
use Rattle.command_model.specs.Places.{users_method}
use Rattle.command_model.specs.Sequences.{with_tree}
use Rattle.command_model.specs.Temporaries.{temporary_renamed}
use Rattle.command_model.specs.Effects.{effect}
use Rattle.command_model.specs.AllHold.{AllHold}
use Rattle.command_model.proofs.UsersMethods.{users-own}
use Rattle.effect_laws.proofs.Items.{finds}
use Rattle.effect_laws.proofs.Sound.{IsSound}
use Rattle.effect_laws.proofs.Tests.{there_passes}
use Rattle.effect_laws.proofs.NewNames.{new_name, method_parts}
use Rattle.effect_laws.proofs.MethodCommands.{found_in, signature_of}
use Rattle.effect_laws.proofs.WholeTrees.{well_of}
use Rattle.effect_laws.proofs.Filed.{IsFiled}
use Rattle.effect_laws.proofs.TreeReplaced.{replaced_sound, replaced_filed}
use Rattle.effect_laws.proofs.TemporaryRenamed.{renamed_well}

-- a method of the user is none of the kernel
pub users_mark : (i : ImageOf Text) (c : Text) (meta : Bool) (t : Text) (n : EntryOf Text) → users_method text_eq i c meta t ≡ Some n → n.kernel ≡ false
users_mark i c meta t n = by (own_method text_eq i.methods c meta t)
  where
    either : (m : EntryOf Text) (b : Bool) → m.kernel ≡ b → (if b then None else Some m) ≡ Some n → n.kernel ≡ false
    either m true q e = absurd (cc)
    either m false q e = let same : m ≡ n = cc in ap (λ (x : EntryOf Text). x.kernel) (sym same) ∙ q

    by : (o : Option (EntryOf Text)) → option_and_then (λ (m : EntryOf Text). if m.kernel then None else Some m) o ≡ Some n → n.kernel ≡ false
    by None e = absurd (cc)
    by (Some m) e = either m m.kernel refl e

module _ (kernel i : ImageOf Text) (s : IsSound kernel i) (c : Text) (meta : Bool) (t x y : Text) (h : AllHold text_asked i (RenameTemp c meta t x y)) where
  -- the method, which does not have the new name
  there : (n : EntryOf Text) × (users_method text_eq i c meta t ≡ Some n) × (not (is_named_in_method text_eq y n) ≡ true)
  there = there_passes (λ (m : EntryOf Text). not (is_named_in_method text_eq y m)) (users_method text_eq i c meta t) h.new_name

  abbrev its : EntryOf Text
  its = there.0

  own : own_method text_eq i.methods c meta t ≡ Some its
  own = users-own text_eq i c meta t its there.1

  selected : its.tree.selector ≡ t
  selected = ap (λ (u : _). u.2) (signature_of c meta t its (finds (is_method text_eq c meta t) i.methods its own))

  well : WellFormedMethod false (temporary_renamed text_asked its.tree x y)
  well =
      let p = method_parts y its (not-true (is_named_in_method text_eq y its) there.2) in
      renamed_well x y its.tree (new_name y (and_parts (may_be_declared y) (not (begins_upper y)) h.good_name).0)
      (well_of kernel its (s.methods.spelled its (found_in (is_method text_eq c meta t) i.methods its own) (users_mark i c meta t its there.1))) p.0 p.1

  -- the effect gives it the new tree
  effect_is : effect text_asked canonical (RenameTemp c meta t x y) i ≡ with_tree text_eq canonical c meta t (temporary_renamed text_asked its.tree x y) i
  effect_is = ap (λ o. unwrap_or (option_map (λ tree. with_tree text_eq canonical c meta t tree i) (option_and_then (λ (m : EntryOf Text). Some (temporary_renamed text_asked m.tree x y)) o)) i) there.1

  pub temporary_sound : IsSound kernel (effect text_asked canonical (RenameTemp c meta t x y) i)
  temporary_sound = subst (λ (j : ImageOf Text). IsSound kernel j) (sym effect_is) (replaced_sound c meta t (temporary_renamed text_asked its.tree x y) kernel i s well selected)

  pub temporary_filed : IsFiled i → IsFiled (effect text_asked canonical (RenameTemp c meta t x y) i)
  temporary_filed f = subst IsFiled (sym effect_is) (replaced_filed c meta t (temporary_renamed text_asked its.tree x y) kernel i s well selected f)
