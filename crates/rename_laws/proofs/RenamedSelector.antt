-- An image in which one selector is renamed: its resolved names are those before, with the new selector in place of the old one.
use Rattle.std.proofs.Common.{◌≡◌, ℕ, List, [], ◌∷◌, ◌++◌, Some, None, refl, sym, ap, ◌∙◌, subst}
use Rattle.std.specs.Prelude.{Bool, true, false, ◌&&◌, ◌||◌, if◌then◌else◌, cond, flat_map, option_map, unwrap_or, codes}
use Rattle.std.specs.List.{AllByRecursion, list_any}
use Rattle.std.proofs.lemmas.Bool.{false≢true}
use Rattle.std.proofs.lemmas.List.Folds.{list_any-append}
use Rattle.rb_base.specs.Names.{text_eq}
use Rattle.scope_model.specs.SpecialNames.{is_pseudo_variable, one_block_selectors, two_block_selectors, loop_selectors}
use Rattle.scope_model.specs.declared.local.Local.TheVariants.{NotLocal}
use Rattle.scope_model.specs.Scope.{ScopeOf, method_scope, doit_scope, scopes_round, local_by}
use Rattle.image_model.specs.Image.{ClassOf, EntryOf, DoItOf, ImageOf}
use Rattle.image_model.specs.Words.{text_words}
use Rattle.image_model.specs.Means.{pseudo, means_by, means_outside}
use Rattle.st_kernel.specs.Selectors.{is_control, is_reserved_selector, is_reflective_selector}
use Rattle.run_model.specs.Values.{Name}
use Rattle.run_model.specs.Runs.{doit_class}
use Rattle.run_model.specs.ObjectPrimitives.{value_classes}
use Rattle.run_model.specs.Renamings.{selector_image}
use Rattle.run_model.proofs.RenamingLemmas.{text-same}
use Rattle.resolved_model.specs.ResolvedTrees.{Reference, of_word, of_local, of_instance_variable, of_class_side_variable, of_class_variable, of_named_class, of_transcript, of_nothing, Target, to_temporary, to_instance_variable, to_class_side_variable, to_class_variable, to_fixed, to_nothing}
use Rattle.resolved_model.specs.Resolving.{Meant, MeantAt, reference_of, target_of, place_at, meant_in, meant_in_doit}
use Rattle.resolved_model.specs.ResolvedImages.{resolved_image}
use Rattle.resolved_model.proofs.LookupLemmas.{everywhere}
use Rattle.mapped_model.specs.NameMaps.{NameMaps, KeepsWords}
use Rattle.mapped_model.specs.MappedImages.{class_or_none, mapped_reference, mapped_target}
use Rattle.mapped_model.specs.NamesInUse.{IsAmong, IsOneToOneOn}
use Rattle.mapped_model.specs.NamesOfImages.{names_in, used_in, as_selector}
use Rattle.mapped_model.specs.ChangedTrees.{MeaningsAreMapped}
use Rattle.mapped_model.specs.ChangedImages.{IsChangedClass, IsChangedMethod, IsChangedDoIt, IsChangedImage}
use Rattle.mapped_model.specs.RenamedVariables.{same_names}
use Rattle.rename_model.specs.CommandWords.{has_own_meaning, text_command_words}
use Rattle.rename_model.specs.Conditions.{speaks_of, is_no_kernel_selector, is_selector_fresh}
use Rattle.rename_model.specs.ClassRenamed.{WritingOf}
use Rattle.rename_model.specs.SelectorRenamed.{selector_renamed_to, method_after, doit_after, selector_renamed}
use Rattle.rename_model.specs.OneRenamed.{one_selector}
use Rattle.rename_laws.proofs.TextsTold.{text-turned}
use Rattle.rename_laws.proofs.Zips.{any-kept, zip-after, zip-same}
use Rattle.rename_laws.proofs.Unnamed.{neither_left, neither_right, denied}
use Rattle.rename_laws.proofs.Declarations.{same-local, same-place}
use Rattle.rename_laws.proofs.SentAnew.{kept_names, scope_anew, changed-scope_anew, round-anew}
use Rattle.rename_laws.proofs.FreshSelector.{not-in-use}

-- where selectors alone are renamed, what is read stays
module _ (g : Name → Name) (c : Name) where
  reference-kept : (r : Reference) → r ≡ mapped_reference (record same_names { selector = g }) c r
  reference-kept (of_word n) = refl
  reference-kept (of_local k) = refl
  reference-kept (of_instance_variable n) = refl
  reference-kept (of_class_side_variable n) = refl
  reference-kept (of_class_variable d n) = refl
  reference-kept (of_named_class d) = refl
  reference-kept of_transcript = refl
  reference-kept (of_nothing n) = refl

  -- and what is assigned
  target-kept : (r : Target) → r ≡ mapped_target (record same_names { selector = g }) c r
  target-kept (to_temporary k) = refl
  target-kept (to_instance_variable n) = refl
  target-kept (to_class_side_variable n) = refl
  target-kept (to_class_variable d n) = refl
  target-kept (to_fixed n) = refl
  target-kept (to_nothing n) = refl

  -- so meanings are mapped where they stay
  meanings-kept : (scope : ScopeOf Name) (before after : MeantAt) → ((path : List ℕ) (n : Name) → after path n ≡ before path n) → MeaningsAreMapped (record same_names { selector = g }) c kept_names scope before after
  meanings-kept scope before after h path t e = record {
    read = λ n q. ap (λ (m : Meant). reference_of m.meaning m.place n) (h path n) ∙ reference-kept (reference_of (before path n).meaning (before path n).place n);
    assigned = λ n u q. ap (λ (m : Meant). target_of m.meaning m.place n) (h path n) ∙ target-kept (target_of (before path n).meaning (before path n).place n);
  }

module _ (writing : WritingOf Name) (i : ImageOf Name) (s t : Name) where
  -- what each selector is called after
  abbrev to : Name → Name
  to = selector_renamed_to text_eq writing i s t

  abbrev pub maps : NameMaps
  maps = record same_names { selector = to }

  -- the image after
  abbrev pub j : ImageOf Name
  j = selector_renamed text_eq writing i s t

  -- what the scopes round a place say of a name
  local-kept : (scope : ScopeOf Name) (path : List ℕ) (n : Name) → local_by text_eq (scopes_round (scope_anew to scope) path) n ≡ local_by text_eq (scopes_round scope path) n
  local-kept scope path n = same-local (scopes_round (scope_anew to scope) path) (scopes_round scope path) n (round-anew to scope path)

  -- and its place among those that they declare
  place-kept : (scope : ScopeOf Name) (path : List ℕ) (n : Name) → place_at (scope_anew to scope) path n ≡ place_at scope path n
  place-kept scope path n = same-place (scope_anew to scope) scope path n (round-anew to scope path)

  -- what a name means in a method
  method-meaning : (m : EntryOf Name) (path : List ℕ) (n : Name) → meant_in j (method_after text_eq writing i s t m) path n ≡ meant_in i m path n
  method-meaning m path n = λ k. record {
    meaning = if is_pseudo_variable n then pseudo else means_by (if is_pseudo_variable n then NotLocal else local-kept (method_scope m.tree) path n k) (means_outside text_words i m.class m.meta n);
    place = place-kept (method_scope m.tree) path n k;
  }

  -- and in a do-it
  doit-meaning : (d : DoItOf Name) (path : List ℕ) (n : Name) → meant_in_doit j (doit_after text_eq writing i s t d) path n ≡ meant_in_doit i d path n
  doit-meaning d path n = λ k. record {
    meaning = if is_pseudo_variable n then pseudo else means_by (if is_pseudo_variable n then NotLocal else local-kept (doit_scope d.body) path n k) (means_outside text_words i (doit_class i) false n);
    place = place-kept (doit_scope d.body) path n k;
  }

  class-changed : (c : ClassOf Name) → IsChangedClass maps c c
  class-changed c = record { name = refl; superclass = any-kept c.superclass }

  method-changed : (m : EntryOf Name) → IsChangedMethod maps i j m (method_after text_eq writing i s t m)
  method-changed m = record {
    class = any-kept m.class;
    meta = refl;
    selector = refl;
    primitive = refl;
    names = kept_names;
    scope = λ e. changed-scope_anew to (method_scope m.tree);
    meanings = λ e. meanings-kept to (class_or_none m.class) (method_scope m.tree) (meant_in i m) (meant_in j (method_after text_eq writing i s t m)) (method-meaning m);
  }

  doit-changed : (d : DoItOf Name) → IsChangedDoIt maps i j d (doit_after text_eq writing i s t d)
  doit-changed d = record {
    names = kept_names;
    scope = changed-scope_anew to (doit_scope d.body);
    meanings = meanings-kept to (class_or_none (doit_class i)) (doit_scope d.body) (meant_in_doit i d) (meant_in_doit j (doit_after text_eq writing i s t d)) (doit-meaning d);
  }

  pub changed : IsChangedImage maps i j
  changed = record {
    classes = zip-same (IsChangedClass maps) class-changed i.classes;
    methods = zip-after (IsChangedMethod maps i j) (method_after text_eq writing i s t) method-changed i.methods;
    doits = zip-after (IsChangedDoIt maps i j) (doit_after text_eq writing i s t) doit-changed i.doits;
  }

  -- no two selectors of a list without the new one are called the same
  single-by : (us : List Name) → list_any (text_eq t) us ≡ false → (x y : Name) → IsAmong us x → IsAmong us y → (a b : Bool) → text_eq s x ≡ a → text_eq s y ≡ b → (if a then t else x) ≡ (if b then t else y) → x ≡ y
  single-by us lacks x y p q true true e f same = sym (text-same s x e) ∙ text-same s y f
  single-by us lacks x y p q true false e f same = absurd (false≢true (sym lacks ∙ subst (IsAmong us) (sym same) q))
  single-by us lacks x y p q false true e f same = absurd (false≢true (sym lacks ∙ subst (IsAmong us) same p))
  single-by us lacks x y p q false false e f same = same

  -- a word that is not the selector is kept
  words-kept : (ws : List Name) → list_any (text_eq s) ws ≡ false → AllByRecursion (λ w. to w ≡ w) ws
  words-kept [] e = tt
  words-kept (w ∷ ws) e = (ap (λ b. if b then t else w) (neither_left (text_eq s w) (list_any (text_eq s) ws) e), words-kept ws (neither_right (text_eq s w) (list_any (text_eq s) ws) e))

-- of eight tests of which none holds, those of the words of each list of control selectors
eight : (a b c d e f g h : Bool) → (a || (b || (c || (d || (e || (f || (g || (h || false)))))))) ≡ false → ((a || (b || (e || (f || false)))) ≡ false) × ((c || (d || false)) ≡ false) × ((g || (h || false)) ≡ false)
eight a b c d e f g h p =
    let p1 = neither_right a (b || (c || (d || (e || (f || (g || (h || false))))))) p in
    let p2 = neither_right b (c || (d || (e || (f || (g || (h || false)))))) p1 in
    let p3 = neither_right c (d || (e || (f || (g || (h || false))))) p2 in
    let p4 = neither_right d (e || (f || (g || (h || false)))) p3 in
    let p5 = neither_right e (f || (g || (h || false))) p4 in
    let p6 = neither_right f (g || (h || false)) p5 in (
      λ k. neither_left a (b || (c || (d || (e || (f || (g || (h || false))))))) p k
          || (neither_left b (c || (d || (e || (f || (g || (h || false)))))) p1 k || (neither_left e (f || (g || (h || false))) p4 k || (neither_left f (g || (h || false)) p5 k || false))),
      λ k. neither_left c (d || (e || (f || (g || (h || false))))) p2 k || (neither_left d (e || (f || (g || (h || false)))) p3 k || false),
      p6,
    )

-- a selector that is none of control sends is in none of their lists
no-control : (s : Name) → is_control s ≡ false → (list_any (text_eq s) one_block_selectors ≡ false) × (list_any (text_eq s) two_block_selectors ≡ false) × (list_any (text_eq s) loop_selectors ≡ false)
unfolding is_control
no-control s h =
    eight (text_eq s (codes "ifTrue:")) (text_eq s (codes "ifFalse:")) (text_eq s (codes "ifTrue:ifFalse:")) (text_eq s (codes "ifFalse:ifTrue:")) (text_eq s (codes "and:")) (text_eq s (codes "or:"))
    (text_eq s (codes "whileTrue:")) (text_eq s (codes "whileFalse:")) h

-- nothing in two lists
none-both : {X : Type 0} (p : X → Bool) (xs ys : List X) → list_any p xs ≡ false → list_any p ys ≡ false → list_any p (xs ++ ys) ≡ false
none-both p xs ys e f = list_any-append p xs ys ∙ (λ k. e k || f k)

-- the selectors in use do not have a new one
pub lacks-new : (i : ImageOf Name) (t : Name) → is_control t ≡ false → is_selector_fresh text_eq i t ≡ true → list_any (text_eq t) (names_in i).selectors ≡ false
lacks-new i t control fresh =
    let found : List Name = flat_map as_selector (used_in (resolved_image i)) in
    let none = no-control t control in
    none-both (text_eq t) one_block_selectors (two_block_selectors ++ (loop_selectors ++ found)) none.0
    (none-both (text_eq t) two_block_selectors (loop_selectors ++ found) none.1 (none-both (text_eq t) loop_selectors found none.2 (not-in-use t i fresh)))

module _ (writing : WritingOf Name) (i : ImageOf Name) (s t : Name) where
  -- no two names in use become one
  pub single : is_control t ≡ false → is_selector_fresh text_eq i t ≡ true → IsOneToOneOn (names_in i) (maps writing i s t)
  single new fresh = record {
    class = λ x y p q e. e;
    selector = λ x y p q e. single-by writing i s t (names_in i).selectors (lacks-new i t new fresh) x y p q (text_eq s x) (text_eq s y) refl refl e;
    shared = λ x y p q e. e;
    instance = λ c x y p q e. e;
    class_side = λ c x y p q e. e;
  }

  -- the words of the language stay
  pub words-stay : is_control s ≡ false → KeepsWords (maps writing i s t)
  words-stay old =
      let kept = no-control s old in
      record {
        nothing = refl;
        classes = everywhere (λ w. w ≡ w) (λ w. refl) value_classes;
        one_block = words-kept writing i s t one_block_selectors kept.0;
        two_blocks = words-kept writing i s t two_block_selectors kept.1;
        loops = words-kept writing i s t loop_selectors kept.2;
      }

  -- a selector is called after what the renaming has for it
  image-by : (u : Name) (b : Bool) → (if b then t else u) ≡ unwrap_or (option_map (λ (e : Name × Name). e.1) (cond b (Some (s, t)) None)) u
  image-by u true = refl
  image-by u false = refl

  pub as-renaming : (u : Name) → (maps writing i s t).selector u ≡ selector_image (one_selector s t) u
  as-renaming u = ap (λ b. if b then t else u) (text-turned s u) ∙ image-by u (text_eq u s)

-- a selector of which a command may make use is none of control sends
pub control-apart : (i : ImageOf Name) (s : Name) → is_no_kernel_selector text_eq text_command_words i s ≡ true → is_control s ≡ false
control-apart i s h =
    let own : has_own_meaning s ≡ false = neither_right (list_any (λ (m : EntryOf Name). m.kernel && speaks_of text_eq s m) i.methods) (has_own_meaning s) (denied _ h) in
    neither_left (is_control s) (is_reserved_selector s || (is_reflective_selector s || text_eq (codes "doesNotUnderstand:") s)) own
