-- A chunk that is in another form replaces no do-it.
use Rattle.std.proofs.Common.{◌≡◌, Bool, true, false, Option, Some, None, refl, sym, ap, ◌∙◌, true≢false}
use Rattle.std.specs.Prelude.{◌&&◌, nat_eq, if◌then◌else◌, codes}
use Rattle.std.specs.List.{starts_with}
use Rattle.std.specs.Option.{option_map_or, option_and_then}
use Rattle.rb_base.specs.Names.{text_eq}
use Rattle.token_model.specs.declared.kind.Dialect.{Dialect}
use Rattle.tree_model.specs.Tree.{SequenceOf}
use Rattle.file_model.specs.Changes.{ChangeOf, RunOf}
use Rattle.file_model.specs.Filing.{Text}
use Rattle.file_model.specs.Forms.{Form, Evaluates, Changes, Opens, Settles, no_form, Sent, sent_of, is_to_system, other_form, the_argument, sent_form, form_of, stated_replacement, replacement_sent, replacement_in}
use Rattle.file_laws.proofs.Moves.{text_equal}

-- the selector by which a do-it is replaced
abbrev replacing : Text
replacing = codes "replaceDoIt:with:"

module _ (d : Dialect) (kernel : Bool) where
  -- a message to `Smalltalk` by which a do-it is replaced is in no form
  in_no_form : (m : Sent) → is_to_system m ≡ true → text_eq m.selector replacing ≡ true → sent_form d kernel m ≡ no_form
  in_no_form m to_system e = ap (λ (s : Text). sent_form d kernel (record m { selector = s })) (text_equal m.selector replacing e) ∙ by (is_to_system m) (other_form m.class m.meta replacing (the_argument m.arguments)) to_system
    where
      by : (a : Bool) (other : Form) → a ≡ true → (if a && text_eq replacing (codes "settlePlaces") then Settles else (if a && starts_with nat_eq replacing (codes "replaceDoIt:") then no_form else other)) ≡ no_form
      by true other h = refl
      by false other h = absurd (true≢false (sym h))

  -- so a chunk in another form states no replacement
  none_stated : (b : SequenceOf Text) → (form_of d kernel b ≡ no_form → ⊥) → replacement_in b ≡ None
  none_stated b other = by (sent_of b b.temporaries) other
    where
      at : (m : Sent) (a c : Bool) → is_to_system m ≡ a → text_eq m.selector replacing ≡ c → (sent_form d kernel m ≡ no_form → ⊥) → (if a && c then stated_replacement m.arguments else None) ≡ None
      at m true true s e differs = absurd (differs (in_no_form m s e))
      at m true false s e differs = refl
      at m false c s e differs = refl

      by : (o : Option Sent) → (option_map_or (sent_form d kernel) o Evaluates ≡ no_form → ⊥) → option_and_then replacement_sent o ≡ None
      by None differs = refl
      by (Some m) differs = at m (is_to_system m) (text_eq m.selector replacing) refl refl differs

  -- nor does a do-it
  pub doit_none : (b : SequenceOf Text) → form_of d kernel b ≡ Evaluates → replacement_in b ≡ None
  doit_none b says = none_stated b (λ e. differ (sym says ∙ e))
    where
      differ : Evaluates ≡ no_form → ⊥
      differ e = cc

  -- a change
  pub changes_none : (b : SequenceOf Text) (c : ChangeOf Text) → form_of d kernel b ≡ Changes c → replacement_in b ≡ None
  changes_none b c says = none_stated b (λ e. differ (sym says ∙ e))
    where
      differ : Changes c ≡ no_form → ⊥
      differ e = cc

  -- or the beginning of a run of methods
  pub opens_none : (b : SequenceOf Text) (r : RunOf Text) → form_of d kernel b ≡ Opens r → replacement_in b ≡ None
  opens_none b r says = none_stated b (λ e. differ (sym says ∙ e))
    where
      differ : Opens r ≡ no_form → ⊥
      differ e = cc
