-- A method of the user that is given a proper tree keeps an image valid, if that tree is not too high.
use Rattle.std.proofs.Common.{◌≡◌, ◌≤◌, Bool, not, List, [], ◌∷◌, map, refl, ap, subst, ◌∙◌}
use Rattle.std.specs.Prelude.{◌&&◌, if◌then◌else◌}
use Rattle.rb_base.specs.Names.{text_eq}
use Rattle.tree_model.specs.Tree.{MethodOf}
use Rattle.tree_model.specs.Measure.{sequence_height}
use Rattle.tree_model.specs.Normal.{normal_by, normal}
use Rattle.tree_model.proofs.NormalLemmas.{normal-normal}
use Rattle.same_trees.specs.SameTrees.{same_code}
use Rattle.image_model.specs.Image.{EntryOf, ImageOf}
use Rattle.image_model.specs.Lookup.{is_method}
use Rattle.file_model.specs.Filing.{Text}
use Rattle.rename_model.specs.ClassRenamed.{canonical}
use Rattle.command_model.specs.Sequences.{with_tree}
use Rattle.effect_laws.proofs.Sound.{IsSound}
use Rattle.effect_laws.proofs.Filed.{IsFiled}
use Rattle.effect_laws.proofs.TreeReplaced.{replaced_sound, replaced_filed}
use Rattle.code_effect_laws.proofs.Methods.{IsProperMethod, normal_well}

-- the normal form has the selector
normal_by_selector : (ns : List Text) (m : MethodOf Text) → (normal_by ns m).selector ≡ m.selector
normal_by_selector [] m = refl
normal_by_selector (n ∷ ns) m = refl

pub normal_selector : (m : MethodOf Text) → (normal m).selector ≡ m.selector
normal_selector m = normal_by_selector m.body.temporaries m

module _ (kernel i : ImageOf Text) (s : IsSound kernel i) (c : Text) (meta : Bool) (t : Text) (tree : MethodOf Text) (proper : IsProperMethod tree) (selected : tree.selector ≡ t) (low : sequence_height (normal tree).body ≤ 200) where
  -- the effect looks at the normal form of the tree alone
  abbrev with_normal : MethodOf Text → ImageOf Text
  with_normal n = record i { methods = map (λ (m : EntryOf Text). if is_method text_eq c meta t m && not m.kernel then if same_code text_eq m.tree n then m else record m { tree = n; source = canonical.method_text n } else m) i.methods }

  is_normal : with_tree text_eq canonical c meta t (normal tree) i ≡ with_tree text_eq canonical c meta t tree i
  is_normal = ap with_normal (normal-normal tree)

  pub given_sound : IsSound kernel (with_tree text_eq canonical c meta t tree i)
  given_sound = subst (IsSound kernel) is_normal (replaced_sound c meta t (normal tree) kernel i s (normal_well tree proper low) (normal_selector tree ∙ selected))

  pub given_filed : IsFiled i → IsFiled (with_tree text_eq canonical c meta t tree i)
  given_filed f = subst IsFiled is_normal (replaced_filed c meta t (normal tree) kernel i s (normal_well tree proper low) (normal_selector tree ∙ selected) f)
