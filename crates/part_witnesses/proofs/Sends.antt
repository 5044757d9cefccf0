-- Messages that parts of the user's methods are, and the methods that they find.
use Rattle.std.proofs.Common.{◌≡◌, ℕ, ◌&&◌, Bool, true, false, List, [], Option, None, Some, option_map, refl, sym, ap, ◌∙◌, true≢false}
use Rattle.std.specs.Prelude.{nat_eq}
use Rattle.std.specs.Bool.{beq}
use Rattle.std.specs.Option.{option_and_then, option_map_or}
use Rattle.std.proofs.lemmas.Bool.{and_parts}
use Rattle.image_model.specs.Image.{EntryOf}
use Rattle.image_model.specs.Lookup.{is_method}
use Rattle.class_table.specs.Slots.{Slots}
use Rattle.class_table.specs.View.{number_image}
use Rattle.class_table.proofs.Live.{eqb-equal}
use Rattle.command_model.specs.CodeEffects.{method_at, send_at, target_of}
use Rattle.command_model.specs.Parts.{Part}
use Rattle.command_model.specs.PartsOfText.{parts_of_text}
use Rattle.command_model.specs.Places.{SendOf, sent_by}
use Rattle.command_model.proofs.UsersMethods.{users-own}
use Rattle.commands.specs.declared.command.MethodPart.{MethodPart}
use Rattle.code_conditions.specs.Trees.{asked, users_part}
use Rattle.code_conditions.proofs.Sends.{find-passes}
use Rattle.code_conditions.proofs.Through.{part-method}
use Rattle.refusal_witnesses.specs.Witnesses.{WitnessOf}
use Rattle.refusal_witnesses.specs.Refused.{of_part}

module _ (s : Slots) (p : MethodPart) where
  -- the method of the part is one of the class that is asked for
  pub class-found : (m : EntryOf ℕ) (part : Part) → ◌≡◌ {A = Option (EntryOf ℕ × Part)} (Some (m, part)) (users_part s p) → m.class ≡ Some p.method.class
  class-found m part e =
      let own = users-own nat_eq (number_image s) p.method.class p.method.meta p.method.selector m
      (part-method (λ (k : EntryOf ℕ). parts_of_text k.source p.from p.to) (method_at (asked s) (number_image s) p.method.class p.method.meta p.method.selector) m part e) in
      let named : Bool = option_map_or (nat_eq p.method.class) m.class false in
      let sides = and_parts (named && beq p.method.meta m.meta) (nat_eq p.method.selector m.tree.selector) (find-passes (is_method nat_eq p.method.class p.method.meta p.method.selector) (number_image s).methods m own) in
      read m.class (and_parts named (beq p.method.meta m.meta) sides.0).0
    where
      read : (o : Option ℕ) → option_map_or (nat_eq p.method.class) o false ≡ true → o ≡ Some p.method.class
      read None q = absurd (true≢false (sym q))
      read (Some n) q = ap Some (sym (eqb-equal p.method.class n q))

  -- what is in the way of a part
  module _ (f : EntryOf ℕ → Part → List (WitnessOf ℕ)) where
    abbrev of_found : Option (EntryOf ℕ × Part) → List (WitnessOf ℕ)
    of_found o = option_map_or (λ (e : EntryOf ℕ × Part). f e.0 e.1) o []

    pub no-part-found : ◌≡◌ {A = Option (EntryOf ℕ × Part)} None (users_part s p) → [] ≡ of_part (asked s) (number_image s) p.method.class p.method.meta p.method.selector p.from p.to f
    no-part-found e = ap of_found e

    pub part-found : (m : EntryOf ℕ) (part : Part) → ◌≡◌ {A = Option (EntryOf ℕ × Part)} (Some (m, part)) (users_part s p) → f m part ≡ of_part (asked s) (number_image s) p.method.class p.method.meta p.method.selector p.from p.to f
    part-found m part e = ap of_found e

  -- what is in the way of the message that the part is
  module _ (f : EntryOf ℕ × SendOf ℕ → List (WitnessOf ℕ)) where
    abbrev message : EntryOf ℕ × Part → Option (EntryOf ℕ × SendOf ℕ)
    message x = option_map {U = EntryOf ℕ × SendOf ℕ} (λ (e : SendOf ℕ). (x.0, e)) (sent_by x.0.tree x.1)

    abbrev of_parts : Option (EntryOf ℕ × Part) → List (WitnessOf ℕ)
    of_parts o = option_map_or f (option_and_then {U = EntryOf ℕ × SendOf ℕ} message o) []

    abbrev of_message : List (WitnessOf ℕ)
    of_message = option_map_or f (send_at (asked s) (number_image s) p.method.class p.method.meta p.method.selector p.from p.to) []

    pub no-part : ◌≡◌ {A = Option (EntryOf ℕ × Part)} None (users_part s p) → [] ≡ of_message
    no-part e = ap of_parts e

    module _ (m : EntryOf ℕ) (part : Part) (there : ◌≡◌ {A = Option (EntryOf ℕ × Part)} (Some (m, part)) (users_part s p)) where
      abbrev of_sends : Option (SendOf ℕ) → List (WitnessOf ℕ)
      of_sends o = option_map_or f (option_map {U = EntryOf ℕ × SendOf ℕ} (λ (e : SendOf ℕ). (m, e)) o) []

      pub no-message : None ≡ sent_by m.tree part → [] ≡ of_message
      no-message e = ap of_sends e ∙ ap of_parts there

      pub one-message : (e : SendOf ℕ) → Some e ≡ sent_by m.tree part → f (m, e) ≡ of_message
      one-message e is = ap of_sends is ∙ ap of_parts there

      -- if there is one
      pub any-message : option_map_or (λ (e : SendOf ℕ). f (m, e)) (sent_by m.tree part) [] ≡ of_message
      any-message = by (sent_by m.tree part) ∙ ap of_parts there
        where
          by : (o : Option (SendOf ℕ)) → option_map_or (λ (e : SendOf ℕ). f (m, e)) o [] ≡ of_sends o
          by None = refl
          by (Some e) = refl

  -- of the message and of the method that it finds
  module _ (f : EntryOf ℕ → SendOf ℕ → EntryOf ℕ → List (WitnessOf ℕ)) where
    abbrev pub of_sent : EntryOf ℕ × SendOf ℕ → List (WitnessOf ℕ)
    of_sent e = option_map_or (f e.0 e.1) (target_of (asked s) (number_image s) p.method.class p.method.meta e.1) []
