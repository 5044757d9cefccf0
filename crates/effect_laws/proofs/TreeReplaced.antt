-- A method of the user that is given another tree keeps an image valid.
use Rattle.std.proofs.Common.{◌≡◌, ◌⊎◌, inl, inr, Bool, true, false, not, map, refl, sym, ap, subst, ◌∙◌, true≢false}
use Rattle.std.specs.Prelude.{◌&&◌, if◌then◌else◌}
use Rattle.std.proofs.lemmas.Bool.{and_parts, not-true}
use Rattle.std.proofs.lemmas.Simd.{map-map}
use Rattle.token_model.specs.declared.kind.Dialect.TheVariants.{Second}
use Rattle.rb_base.specs.Names.{text_eq}
use Rattle.tree_model.specs.Tree.{MethodOf}
use Rattle.tree_model.specs.Normal.{normal}
use Rattle.tree_model.proofs.NormalLemmas.{normal-IsNormal}
use Rattle.text_model.specs.Whole.{canonical_method}
use Rattle.same_trees.specs.SameTrees.{same_code}
use Rattle.image_model.specs.Image.{EntryOf, ImageOf}
use Rattle.image_model.specs.Lookup.{is_method}
use Rattle.image_model.specs.Valid.{class_names, signature, IsUserMethod}
use Rattle.reread_law.specs.WholeTrees.{WellFormedMethod}
use Rattle.file_model.specs.Filing.{Text}
use Rattle.file_model.specs.Fileable.{reading_of, MayStand}
use Rattle.file_laws.specs.Fronts.{method_of_kernel}
use Rattle.rename_model.specs.ClassRenamed.{canonical}
use Rattle.command_model.specs.Sequences.{retold, with_tree}
use Rattle.effect_laws.proofs.Items.{In, Once, map_in, once_map}
use Rattle.effect_laws.proofs.Fronts.{behind_map}
use Rattle.effect_laws.proofs.Sound.{HasHome, AreSoundMethods, IsSound}
use Rattle.effect_laws.proofs.WholeTrees.{IsWritten, written_method}
use Rattle.effect_laws.proofs.MethodCommands.{with_sound_methods, once_items, one_signed, signature_of}
use Rattle.effect_laws.proofs.Filed.{IsFiled, method_stands}

module _ (c : Text) (meta : Bool) (t : Text) (tree : MethodOf Text) where
  -- what becomes of a method
  abbrev pub replaced : EntryOf Text → EntryOf Text
  replaced m = if is_method text_eq c meta t m && not m.kernel then retold text_eq canonical m tree else m

  -- it has the tree
  abbrev given : EntryOf Text → EntryOf Text
  given m = record m { tree = normal tree; source = canonical_method (normal tree) }

  -- it stays, or it is the user's and has the tree
  abbrev Outcome : EntryOf Text → Type 0
  Outcome m = (replaced m ≡ m) ⊎ ((is_method text_eq c meta t m ≡ true) × (m.kernel ≡ false) × (replaced m ≡ given m))

  outcome : (m : EntryOf Text) → Outcome m
  outcome m = by (is_method text_eq c meta t m && not m.kernel) refl (same_code text_eq m.tree (normal tree))
    where
      by : (b : Bool) → (is_method text_eq c meta t m && not m.kernel) ≡ b → (same : Bool)
          → ((if b then if same then m else given m else m) ≡ m) ⊎ ((is_method text_eq c meta t m ≡ true) × (m.kernel ≡ false) × ((if b then if same then m else given m else m) ≡ given m))
      by true q true = inl refl
      by true q false = let p = and_parts (is_method text_eq c meta t m) (not m.kernel) q in inr (p.0, not-true m.kernel p.1, refl)
      by false q same = inl refl

  -- the mark of the kernel stays
  pub mark_kept : (m : EntryOf Text) → (replaced m).kernel ≡ m.kernel
  mark_kept m = by (outcome m)
    where
      by : Outcome m → (replaced m).kernel ≡ m.kernel
      by (inl e) = ap (λ (x : EntryOf Text). x.kernel) e
      by (inr e) = ap (λ (x : EntryOf Text). x.kernel) e.2

  module _ (kernel i : ImageOf Text) (s : IsSound kernel i) (well : WellFormedMethod false tree) (same_selector : tree.selector ≡ t) where
    -- the tree is in normal form
    is_normal : normal tree ≡ tree
    is_normal = normal-IsNormal tree well.normal

    given_well : WellFormedMethod false (normal tree)
    given_well = subst (WellFormedMethod false) (sym is_normal) well

    signed : (m : EntryOf Text) → signature (replaced m) ≡ signature m
    signed m = by (outcome m)
      where
        by : Outcome m → signature (replaced m) ≡ signature m
        by (inl e) = ap signature e
        by (inr e) =
            let its : m.tree.selector ≡ t = ap (λ (u : _). u.2) (signature_of c meta t m e.0) in
            ap signature e.2 ∙ (λ j. (m.class, m.meta, (ap (λ (n : MethodOf Text). n.selector) is_normal ∙ same_selector ∙ sym its) j))

    pub replaced_written : (m : EntryOf Text) → IsWritten canonical_method m.source (replaced m).source m.tree (replaced m).tree
    replaced_written m = by (outcome m)
      where
        by : Outcome m → IsWritten canonical_method m.source (replaced m).source m.tree (replaced m).tree
        by (inl e) = inr (ap (λ (x : EntryOf Text). x.source) e, ap (λ (x : EntryOf Text). x.tree) e)
        by (inr e) = inl (ap (λ (x : EntryOf Text). x.source) e.2 ∙ ap (λ (x : EntryOf Text). canonical_method x.tree) (sym e.2))

    replaced_spelled : (m : EntryOf Text) → In i.methods m → m.kernel ≡ false → IsUserMethod (reading_of Second kernel) (replaced m)
    replaced_spelled m k q = by (outcome m)
      where
        by : Outcome m → IsUserMethod (reading_of Second kernel) (replaced m)
        by (inl e) = subst (IsUserMethod (reading_of Second kernel)) (sym e) (s.methods.spelled m k q)
        by (inr e) = subst (IsUserMethod (reading_of Second kernel)) (sym e.2) (written_method kernel m (given m) (s.methods.spelled m k q) given_well (inl refl))

    methods_sound : AreSoundMethods kernel (class_names i.classes) (map replaced i.methods)
    methods_sound = record {
      once =
          subst Once (sym (map-map signature replaced i.methods))
          (once_map (λ m. signature (replaced m)) i.methods (once_items signature i.methods s.methods.once) (λ m n a b e. one_signed kernel i s m n a b (sym (signed m) ∙ e ∙ signed n)));
      homes = λ m k. (let r = map_in replaced i.methods m k in subst (HasHome (class_names i.classes)) r.2 (home r.0 (s.methods.homes r.0 r.1)));
      spelled = λ m k u. (let r = map_in replaced i.methods m k in subst (IsUserMethod (reading_of Second kernel)) r.2 (replaced_spelled r.0 r.1 (sym (mark_kept r.0) ∙ ap (λ (x : EntryOf Text). x.kernel) r.2 ∙ u)));
      behind = behind_map method_of_kernel kernel.methods i.methods s.methods.behind replaced fixed (λ m k q. mark_kept m ∙ q);
    }
      where
        home : (m : EntryOf Text) → HasHome (class_names i.classes) m → HasHome (class_names i.classes) (replaced m)
        home m r = (r.0, ap (λ (u : _). u.0) (signed m) ∙ r.1, r.2)

        fixed : (m : EntryOf Text) → In kernel.methods m → replaced m ≡ m
        fixed m k = by (outcome m)
          where
            by : Outcome m → replaced m ≡ m
            by (inl e) = e
            by (inr e) = absurd (true≢false (sym (s.methods.behind.of_kernel m k) ∙ e.1))

    pub replaced_sound : IsSound kernel (with_tree text_eq canonical c meta t tree i)
    replaced_sound = with_sound_methods kernel i s (map replaced i.methods) methods_sound

    pub replaced_filed : IsFiled i → IsFiled (with_tree text_eq canonical c meta t tree i)
    replaced_filed f = record {
      methods = λ m h u. (let r = map_in replaced i.methods m h in
          let user : r.0.kernel ≡ false = sym (mark_kept r.0) ∙ ap (λ (x : EntryOf Text). x.kernel) r.2 ∙ u in
          subst (λ (x : EntryOf Text). MayStand x.source) r.2 (method_stands kernel r.0 (replaced r.0) (replaced_spelled r.0 r.1 user) (replaced_written r.0) (f.methods r.0 r.1 user)));
      doits = f.doits;
      forms = f.forms;
      heads = f.heads;
    }
