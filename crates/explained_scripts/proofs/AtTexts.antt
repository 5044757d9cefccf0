-- What a command names is the same over the numbers of names and over their texts.
use Rattle.std.proofs.Common.{◌≡◌, ℕ, ◌<◌, Bool, true, false, cond, List, [], ◌∷◌, length, map, Option, Some, None, refl, sym, ap, subst, ◌∙◌}
use Rattle.std.specs.Prelude.{is_some, option_map, option_and_then}
use Rattle.std.specs.Option.{option_map_or}
use Rattle.rb_base.specs.Names.{HasNoTwice, name_at}
use Rattle.image_model.specs.Image.{EntryOf, ImageOf, map_entry, map_image}
use Rattle.image_model.specs.ImageNames.{ImageNames}
use Rattle.image_model.specs.Lookup.{own_method}
use Rattle.query_model.specs.Lines.{Text, method_title}
use Rattle.class_table.specs.Slots.{Slots}
use Rattle.class_table.specs.Valid.{IsOrderly}
use Rattle.class_table.specs.View.{class_name, image_of, number_image}
use Rattle.command_model.specs.Asked.{asked_of_texts, text_asked}
use Rattle.command_model.specs.CodeEffects.{method_at, part_at}
use Rattle.command_model.specs.Commands.{CommandOf, RemoveMethod}
use Rattle.command_model.specs.Conditions.{ConditionOf, NotImplements}
use Rattle.command_model.specs.Located.{Locating}
use Rattle.command_model.specs.Numbers.{number_asked}
use Rattle.command_model.specs.Parts.{Part}
use Rattle.command_model.specs.PartsOfText.{parts_of_text}
use Rattle.command_numbers.specs.CommandNames.{CommandNames, ConditionNames}
use Rattle.command_numbers.specs.MappedCommands.{map_command, map_condition}
use Rattle.code_command_numbers.specs.SelfNumber.{IsNumberOfSelf}
use Rattle.commands.specs.Views.{asked_by, self_in, HasSelf}
use Rattle.commands.specs.declared.command.MethodPart.{MethodPart}
use Rattle.users_methods.specs.Users.{entry_in}
use Rattle.users_methods.specs.declared.methods.UsersMethod.{UsersMethod}
use Rattle.refusal_witnesses.specs.Refused.{witnesses}
use Rattle.refusal_witnesses.specs.Witnesses.{a_method}
use Rattle.witness_numbers.specs.MappedWitnesses.{map_witness}
use Rattle.why_model.specs.Explained.{AreRound, AreRoundIn}
use Rattle.explained_scripts.specs.Lines.{title_named, IsTitled}

-- the law of witnesses, for the names and the image of these slots
abbrev pub LawAt : Slots → Type 0
LawAt s = (command : CommandOf ℕ) (condition : ConditionOf ℕ) → CommandNames (λ n. n < length s.names) command → ConditionNames (λ n. n < length s.names) condition →
    witnesses text_asked (image_of s) (map_command (name_at s.names) command) (map_condition (name_at s.names) condition)
    ≡ map (map_witness (name_at s.names)) (witnesses (asked_by s.names) (number_image s) command condition)

pub law-at : ((names : List (List ℕ)) (self_number : ℕ) (part_of : Locating) (i : ImageOf ℕ) (command : CommandOf ℕ) (condition : ConditionOf ℕ) → HasNoTwice names → IsNumberOfSelf names self_number →
    ImageNames (λ n. n < length names) i → CommandNames (λ n. n < length names) command → ConditionNames (λ n. n < length names) condition →
    witnesses (asked_of_texts part_of) (map_image (name_at names) i) (map_command (name_at names) command) (map_condition (name_at names) condition)
    ≡ map (map_witness (name_at names)) (witnesses (number_asked names self_number part_of) i command condition)) →
    (s : Slots) → IsOrderly s → HasSelf s.names → LawAt s
law-at law s orderly has command condition p q =
    law s.names (self_in s.names) parts_of_text (number_image s) command condition orderly.names_distinct (record { known = has.0; spelled = has.1 }) orderly.names_known p q

module _ (s : Slots) (law : LawAt s) (c : ℕ) (meta : Bool) (t : ℕ) (c_known : c < length s.names) (t_known : t < length s.names) where
  -- a name as text
  abbrev text : ℕ → Text
  text n = name_at s.names n

  -- the method that a class itself has
  pub own-text : own_method text_asked.words.tests.same (image_of s).methods (text c) meta (text t) ≡ option_map (map_entry (name_at s.names)) (own_method (asked_by s.names).words.tests.same (number_image s).methods c meta t)
  own-text =
      by (own_method text_asked.words.tests.same (image_of s).methods (text c) meta (text t)) (own_method (asked_by s.names).words.tests.same (number_image s).methods c meta t)
      (law (RemoveMethod c meta t) (NotImplements c meta t) (c_known, t_known) (c_known, t_known))
    where
      by : (o : Option (EntryOf Text)) (p : Option (EntryOf ℕ)) → option_map_or (λ (m : EntryOf Text). a_method m ∷ []) o [] ≡ map (map_witness (name_at s.names)) (option_map_or (λ (m : EntryOf ℕ). a_method m ∷ []) p []) → o ≡ option_map (map_entry (name_at s.names)) p
      by None None e = refl
      by None (Some m) e = absurd (cc)
      by (Some m) None e = absurd (cc)
      by (Some m) (Some n) e =
          let same : m ≡ map_entry (name_at s.names) n = cc in
          ap Some same

  -- the user's method, and whether a part of it stands at two offsets
  pub method-text : method_at text_asked (image_of s) (text c) meta (text t) ≡ option_map (map_entry (name_at s.names)) (method_at (asked_by s.names) (number_image s) c meta t)
  method-text = ap (option_and_then (λ (m : EntryOf Text). cond m.kernel None (Some m))) own-text ∙ by (own_method (asked_by s.names).words.tests.same (number_image s).methods c meta t)
    where
      by-kernel : (b : Bool) (m : EntryOf ℕ) → cond b None (Some (map_entry (name_at s.names) m)) ≡ option_map (map_entry (name_at s.names)) (cond b None (Some m))
      by-kernel true m = refl
      by-kernel false m = refl

      by : (o : Option (EntryOf ℕ)) → option_and_then (λ (m : EntryOf Text). cond m.kernel None (Some m)) (option_map (map_entry (name_at s.names)) o) ≡ option_map (map_entry (name_at s.names)) (option_and_then (λ (m : EntryOf ℕ). cond m.kernel None (Some m)) o)
      by None = refl
      by (Some m) = by-kernel m.kernel m

  pub part-text : (from to : ℕ) → is_some (part_at text_asked (image_of s) (text c) meta (text t) from to) ≡ is_some (part_at (asked_by s.names) (number_image s) c meta t from to)
  part-text from to =
      ap (λ o. is_some {T = EntryOf Text × Part} (option_and_then (λ (m : EntryOf Text). option_map (λ (p : Part). (m, p)) (parts_of_text m.source from to)) o)) method-text
      ∙ by (method_at (asked_by s.names) (number_image s) c meta t)
    where
      by-part : (m : EntryOf ℕ) (o : Option Part) → is_some {T = EntryOf Text × Part} (option_map (λ (p : Part). (map_entry (name_at s.names) m, p)) o) ≡ is_some {T = EntryOf ℕ × Part} (option_map (λ (p : Part). (m, p)) o)
      by-part m None = refl
      by-part m (Some p) = refl

      by : (o : Option (EntryOf ℕ)) → is_some {T = EntryOf Text × Part} (option_and_then (λ (m : EntryOf Text). option_map (λ (p : Part). (m, p)) (parts_of_text m.source from to)) (option_map (map_entry (name_at s.names)) o)) ≡ is_some {T = EntryOf ℕ × Part} (option_and_then (λ (m : EntryOf ℕ). option_map (λ (p : Part). (m, p)) (parts_of_text m.source from to)) o)
      by None = refl
      by (Some m) = by-part m (parts_of_text m.source from to)

-- the lines of the nodes round two offsets, by the method that a command names
module _ (s : Slots) (law : LawAt s) (p : MethodPart) (c_known : p.method.class < length s.names) (t_known : p.method.selector < length s.names) where
  -- the method over texts
  abbrev named : Option (EntryOf Text)
  named = method_at text_asked (image_of s) (name_at s.names p.method.class) p.method.meta (name_at s.names p.method.selector)

  abbrev numbered : Option (EntryOf ℕ)
  numbered = method_at (asked_by s.names) (number_image s) p.method.class p.method.meta p.method.selector

  same-method : (o : Option (EntryOf ℕ)) → o ≡ numbered → named ≡ option_map (map_entry (name_at s.names)) o
  same-method o e = method-text s law p.method.class p.method.meta p.method.selector c_known t_known ∙ ap (option_map (map_entry (name_at s.names))) (sym e)

  pub round-none : None ≡ numbered → (texts : List Text) → texts ≡ [] → AreRoundIn (image_of s) named p.from p.to texts
  round-none e texts none = subst (λ (o : Option (EntryOf Text)). AreRoundIn (image_of s) o p.from p.to texts) (sym (same-method None e)) none

  pub round-some : (m : UsersMethod) → Some (entry_in s.classes m) ≡ numbered → (texts : List Text) → AreRound (image_of s) (map_entry (name_at s.names) (entry_in s.classes m)) p.from p.to texts → AreRoundIn (image_of s) named p.from p.to texts
  round-some m e texts are = subst (λ (o : Option (EntryOf Text)). AreRoundIn (image_of s) o p.from p.to texts) (sym (same-method (Some (entry_in s.classes m)) e)) are

  -- its title
  pub users-titled : (m : UsersMethod) → class_name s.classes m.class ≡ Some p.method.class → (title : Text) → title ≡ title_named s.names (record { class = p.method.class; meta = m.meta; selector = m.tree.now.selector })
      → IsTitled (map_entry (name_at s.names) (entry_in s.classes m)) title m.source.now
  users-titled m class title is = record {
    users = refl;
    title_is = ap (λ (o : Option ℕ). method_title (map_entry (name_at s.names) (record (entry_in s.classes m) { class = o }))) class ∙ sym is;
    source_is = refl;
  }
