-- A parameter that is added or removed keeps an image that can be written.
use Rattle.std.proofs.Common.{◌≡◌, ◌⊎◌, inl, inr, Bool, true, false, List, [], ◌∷◌, ◌++◌, refl, sym, ap, ◌∙◌}
use Rattle.std.specs.Prelude.{ℕ, ◌-◌, ◌||◌, if◌then◌else◌, remove, codes}
use Rattle.std.specs.List.{list_any}
use Rattle.std.proofs.lemmas.Bool.{or_parts}
use Rattle.token_model.specs.declared.kind.Dialect.TheVariants.{Second}
use Rattle.rb_base.specs.Names.{text_eq}
use Rattle.tree_model.specs.Tree.{Notes, LiteralOf, TreeOf, TreesOf, no_trees, more_trees, StatementsOf, no_statements, more_statements}
use Rattle.tree_model.specs.Path.{append}
use Rattle.tree_model.specs.Nodes.{nodes, statements_nodes}
use Rattle.st_kernel.specs.Selectors.{is_reserved_selector, is_reflective_selector, is_control}
use Rattle.grammar_model.specs.Spelling.{SpellsDoIt}
use Rattle.image_model.specs.Image.{EntryOf, DoItOf, ImageOf}
use Rattle.image_model.specs.Uses.{is_sender}
use Rattle.file_model.specs.Filing.{Text}
use Rattle.file_model.specs.Forms.{Evaluates, form_of}
use Rattle.file_laws.specs.Fronts.{method_of_kernel}
use Rattle.file_laws.proofs.Moves.{text_equal}
use Rattle.rename_model.specs.CommandWords.{text_command_words, has_own_meaning}
use Rattle.rename_model.specs.Conditions.{reflects}
use Rattle.rename_model.specs.ClassRenamed.{canonical}
use Rattle.command_model.specs.Walk.{rebuilt_statements}
use Rattle.command_model.specs.Plain.{literal_node}
use Rattle.command_model.specs.Asked.{text_asked}
use Rattle.command_model.specs.Commands.{AddParameter, RemoveParameter}
use Rattle.command_model.specs.Parameters.{without_nth, passing_changed}
use Rattle.command_model.specs.Effects.{effect}
use Rattle.command_model.specs.AllHold.{AllHold}
use Rattle.command_model.specs.Spelled.{literal_alone}
use Rattle.effect_laws.proofs.Items.{In, in_map}
use Rattle.effect_laws.proofs.Fronts.{kernel_in}
use Rattle.effect_laws.proofs.Sound.{IsSound}
use Rattle.effect_laws.proofs.Kernel.{IsWhole}
use Rattle.effect_laws.proofs.Filed.{IsFiled, method_stands, doit_stands, not_reflective}
use Rattle.effect_laws.proofs.FiledRenames.{filed_after}
use Rattle.effect_laws.proofs.RenamesKept.{without_meaning, fresh_selector}
use Rattle.effect_laws.proofs.ArgumentsPassed.{making}
use Rattle.effect_laws.proofs.ParametersKept.{passed_method, passed_doit, passed_kernel, passed_written, passed_doit_written, doit_anew}
use Rattle.effect_laws.proofs.ParameterCommands.{add_parameter, remove_parameter}
use Rattle.effect_laws.proofs.DoItsPassed.{selector_after, passed_form}

-- a selector without a meaning of its own is not reserved
not_reserved : (t : Text) → has_own_meaning t ≡ false → is_reserved_selector t ≡ false
not_reserved t h = (or_parts (is_reserved_selector t) (is_reflective_selector t || text_eq (codes "doesNotUnderstand:") t) (or_parts (is_control t) (is_reserved_selector t || (is_reflective_selector t || text_eq (codes "doesNotUnderstand:") t)) h).1).0

module _ (kernel i : ImageOf Text) (sound : IsSound kernel i) (whole : IsWhole kernel) (s t : Text) (passed : TreesOf Text → TreesOf Text) (taken : List Text → List Text)
    (after : IsSound kernel (passing_changed text_eq canonical s t passed taken i))
    (fresh : (m : EntryOf Text) → In i.methods m → t ≡ m.tree.selector → ⊥)
    (no_meaning : has_own_meaning t ≡ false)
    (plain : (e : DoItOf Text) → In i.doits e → reflects text_command_words e.body ≡ false) (filed : IsFiled i) where
  abbrev g : EntryOf Text → EntryOf Text
  g m = passed_method s t passed taken m

  abbrev d : DoItOf Text → DoItOf Text
  d e = passed_doit s t passed taken e

  new : (u : Text) → (selector_after s t u ≡ u) ⊎ (is_reserved_selector (selector_after s t u) ≡ false)
  new u = by (text_eq s u)
    where
      by : (b : Bool) → ((if b then t else u) ≡ u) ⊎ (is_reserved_selector (if b then t else u) ≡ false)
      by true = inr (not_reserved t no_meaning)
      by false = inl refl

  -- nor is it `class`, which the kernel has
  side : (u : Text) → text_eq (selector_after s t u) (codes "class") ≡ true → text_eq u (codes "class") ≡ true
  side u h = by (text_eq s u) h
    where
      by : (b : Bool) → text_eq (if b then t else u) (codes "class") ≡ true → text_eq u (codes "class") ≡ true
      by true q =
          let m = whole.class_method in
          absurd (fresh m.0 (kernel_in method_of_kernel kernel.methods i.methods sound.methods.behind m.0 m.1) (text_equal t (codes "class") q ∙ sym m.2))
      by false q = q

  -- where there are no statements the source stays
  same_source : (e : DoItOf Text) → (d e).body.statements ≡ no_statements → (d e).source ≡ e.source
  same_source e q = by e.body.statements refl
    where
      sends : StatementsOf Text → Bool
      sends ss = list_any (λ x. is_sender text_eq s x.1) (statements_nodes 0 ss)

      some : (c : Notes) (r : TreeOf Text) (ss : StatementsOf Text) → e.body.statements ≡ more_statements c r ss → (b : Bool) → (if b then doit_anew s t passed taken e else e).body.statements ≡ no_statements → ⊥
      some c r ss p true z = none (sym (ap (rebuilt_statements (making s t passed taken) 0) p) ∙ z)
        where
          none : rebuilt_statements (making s t passed taken) 0 (more_statements c r ss) ≡ no_statements → ⊥
          none y = cc
      some c r ss p false z = none (sym p ∙ z)
        where
          none : more_statements c r ss ≡ no_statements → ⊥
          none y = cc

      by : (ss : StatementsOf Text) → e.body.statements ≡ ss → (d e).source ≡ e.source
      by no_statements p = ap (λ b. (if b then doit_anew s t passed taken e else e).source) (ap sends p)
      by (more_statements c r ss) p = absurd (some c r ss p (sends e.body.statements) q)

  pub passing_filed : IsFiled (passing_changed text_eq canonical s t passed taken i)
  passing_filed =
      filed_after i (passing_changed text_eq canonical s t passed taken i) g d filed refl refl refl (λ m h. passed_kernel s t passed taken m)
      (λ m h u stands. method_stands kernel m (g m) (after.methods.spelled (g m) (in_map g i.methods m h) (passed_kernel s t passed taken m ∙ u)) (passed_written s t passed taken m) stands)
      (λ e h stands. doit_stands kernel e (d e) (after.doits (d e) (in_map d i.doits e h)) (passed_doit_written s t passed taken e) (same_source e) stands)
      form
    where
      form : (e : DoItOf Text) → In i.doits e → form_of Second false e.body ≡ Evaluates → form_of Second false (d e).body ≡ Evaluates
      form e h q = by (list_any (λ x. is_sender text_eq s x.1) (nodes e.body))
        where
          by : (b : Bool) → form_of Second false (if b then doit_anew s t passed taken e else e).body ≡ Evaluates
          by true = passed_form s t passed taken new side e.body (plain e h) q
          by false = q

module _ (kernel i : ImageOf Text) (sound : IsSound kernel i) (whole : IsWhole kernel) (filed : IsFiled i) where
  pub add_parameter_filed : (s t x : Text) (l : LiteralOf Text) (text : Text) → SpellsDoIt Second text (literal_alone l) → AllHold text_asked i (AddParameter s t x l) → IsFiled (effect text_asked canonical (AddParameter s t x l) i)
  add_parameter_filed s t x l text spells h =
      passing_filed kernel i sound whole s t (λ xs. append xs (more_trees (literal_node l) no_trees)) (λ ns. ns ++ x ∷ []) (add_parameter kernel i sound s t x l text spells h)
      (fresh_selector i t h.fresh_selector) (without_meaning i t h.new_not_kernel) (not_reflective i (AddParameter s t x l) h.no_reflection) filed

  pub remove_parameter_filed : (s : Text) (k : ℕ) (t : Text) → AllHold text_asked i (RemoveParameter s k t) → IsFiled (effect text_asked canonical (RemoveParameter s k t) i)
  remove_parameter_filed s k t h =
      passing_filed kernel i sound whole s t (without_nth (k - 1)) (λ ns. remove ns (k - 1)) (remove_parameter kernel i sound s k t h)
      (fresh_selector i t h.fresh_selector) (without_meaning i t h.new_not_kernel) (not_reflective i (RemoveParameter s k t) h.no_reflection) filed
