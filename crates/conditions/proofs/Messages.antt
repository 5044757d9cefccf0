-- What is asked of parts and of messages that are found.
use Rattle.std.proofs.Common.{◌≡◌, ℕ, List, [], ◌∷◌, ◌++◌, length, Option, None, Some, option_map, Result, refl, sym, ap, ◌∙◌, append_assoc, append-nil}
use Rattle.std.specs.Prelude.{OnOk}
use Rattle.std.specs.Option.{option_map_or, option_and_then}
use Rattle.std.proofs.lemmas.Result.{on_ok_weaker}
use Rattle.image_model.specs.Image.{EntryOf}
use Rattle.class_table.specs.Slots.{Slots}
use Rattle.class_table.specs.View.{number_image}
use Rattle.command_model.specs.CodeEffects.{part_at, send_at, target_of}
use Rattle.command_model.specs.CodeNeeds.{target_needs}
use Rattle.command_model.specs.Conditions.{ConditionOf, OneTarget, Arity, SelectorFresh, Shallow}
use Rattle.command_model.specs.Extracted.{free_temporaries}
use Rattle.command_model.specs.Parts.{Part}
use Rattle.command_model.specs.Places.{SendOf, sent_by}
use Rattle.commands.specs.Views.{asked_by}
use Rattle.commands.specs.declared.command.MethodPart.{MethodPart}
use Rattle.inline_questions.specs.Codes.{code_alone}
use Rattle.conditions.specs.Messages.{found_needs}

-- conditions that are others
pub put-same : {T E : Type 0} (r : Result T E) (new a b : List (ConditionOf ℕ)) → a ≡ b → OnOk r (new ≡ a) → OnOk r (new ≡ b)
put-same r new a b e h = on_ok_weaker {P = new ≡ a} {Q = new ≡ b} r (λ (q : new ≡ a). q ∙ e) h

module _ (s : Slots) (p : MethodPart) where
  -- the user's method and the part of it
  abbrev pub users_part : Option (EntryOf ℕ × Part)
  users_part = part_at (asked_by s.names) (number_image s) p.method.class p.method.meta p.method.selector p.from p.to

  -- how many arguments the method takes that a part becomes
  abbrev pub count_of : EntryOf ℕ × Part → ℕ
  count_of e = length (free_temporaries (asked_by s.names) e.0.tree e.1)

  -- what is asked once that is known
  abbrev arity_needs : ℕ → ℕ → List (ConditionOf ℕ)
  arity_needs t n = Arity t n ∷ SelectorFresh t ∷ Shallow ∷ []

  pub counted-needs : (t : ℕ) (count : Option ℕ) → count ≡ option_map count_of users_part
      → option_map_or (arity_needs t) count [] ≡ option_map_or (λ (e : EntryOf ℕ × Part). arity_needs t (count_of e)) users_part []
  counted-needs t count e = ap (λ (o : Option ℕ). option_map_or (arity_needs t) o []) e ∙ by users_part
    where
      by : (o : Option (EntryOf ℕ × Part)) → option_map_or (arity_needs t) (option_map count_of o) [] ≡ option_map_or (λ (e : EntryOf ℕ × Part). arity_needs t (count_of e)) o []
      by None = refl
      by (Some x) = refl

  -- what is asked of a message
  abbrev pub sent_needs : SendOf ℕ → List (ConditionOf ℕ)
  sent_needs = target_needs (asked_by s.names) (number_image s) p.method.class p.method.meta p.method.selector p.from p.to

  abbrev pub one_target : SendOf ℕ → ConditionOf ℕ
  one_target e = OneTarget p.method.class p.method.meta e.selector

  abbrev pub target : SendOf ℕ → Option (EntryOf ℕ)
  target e = target_of (asked_by s.names) (number_image s) p.method.class p.method.meta e

  abbrev of_target : SendOf ℕ → Option (EntryOf ℕ) → List (ConditionOf ℕ)
  of_target e o = option_map_or (found_needs p e.selector) o []

  -- nothing is put at the end where the part is no message
  pub put-none : (cs : List (ConditionOf ℕ)) (o : Option (SendOf ℕ)) → None ≡ o → cs ≡ cs ++ option_map_or sent_needs o []
  put-none cs o e = sym (append-nil cs) ∙ ap (λ (q : Option (SendOf ℕ)). cs ++ option_map_or sent_needs q []) e

  -- a message that finds no method
  pub put-lost : (old new : List (ConditionOf ℕ)) (e : SendOf ℕ) (o : Option (SendOf ℕ)) → Some e ≡ o → None ≡ option_map code_alone (target e)
      → new ≡ old ++ one_target e ∷ [] → new ≡ old ++ option_map_or sent_needs o []
  put-lost old new e o is none put =
      put ∙ ap (λ (cs : List (ConditionOf ℕ)). old ++ one_target e ∷ cs) (by (target e) none) ∙ ap (λ (q : Option (SendOf ℕ)). old ++ option_map_or sent_needs q []) is
    where
      by : (t : Option (EntryOf ℕ)) → None ≡ option_map code_alone t → [] ≡ of_target e t
      by None h = refl
      by (Some t) h = absurd (cc)

  -- a message that finds a method
  pub put-found : (old new : List (ConditionOf ℕ)) (e : SendOf ℕ) (o : Option (SendOf ℕ)) (t : EntryOf ℕ) → Some e ≡ o → Some t ≡ option_map code_alone (target e)
      → new ≡ old ++ one_target e ∷ [] → new ++ found_needs p e.selector t ≡ old ++ option_map_or sent_needs o []
  put-found old new e o t is some put =
      ap (λ (cs : List (ConditionOf ℕ)). cs ++ found_needs p e.selector t) put
      ∙ append_assoc old (one_target e ∷ []) (found_needs p e.selector t)
      ∙ ap (λ (cs : List (ConditionOf ℕ)). old ++ one_target e ∷ cs) (by (target e) some)
      ∙ ap (λ (q : Option (SendOf ℕ)). old ++ option_map_or sent_needs q []) is
    where
      by : (q : Option (EntryOf ℕ)) → Some t ≡ option_map code_alone q → found_needs p e.selector t ≡ of_target e q
      by None h = absurd (cc)
      by (Some x) h = let same : t ≡ code_alone x = cc in ap (λ (m : EntryOf ℕ). found_needs p e.selector m) same

  -- what is asked of the message that the part is
  abbrev of_sent : Option (EntryOf ℕ × SendOf ℕ) → List (ConditionOf ℕ)
  of_sent o = option_map_or (λ (e : EntryOf ℕ × SendOf ℕ). sent_needs e.1) o []

  abbrev pub message_needs : List (ConditionOf ℕ)
  message_needs = of_sent (send_at (asked_by s.names) (number_image s) p.method.class p.method.meta p.method.selector p.from p.to)

  abbrev of_part : Option (EntryOf ℕ × Part) → List (ConditionOf ℕ)
  of_part o = of_sent (option_and_then (λ (x : EntryOf ℕ × Part). option_map {U = EntryOf ℕ × SendOf ℕ} (λ (e : SendOf ℕ). (x.0, e)) (sent_by x.0.tree x.1)) o)

  pub no_part : ◌≡◌ {A = Option (EntryOf ℕ × Part)} None users_part → [] ≡ message_needs
  no_part e = ap of_part e

  pub one_part : (m : EntryOf ℕ) (part : Part) → ◌≡◌ {A = Option (EntryOf ℕ × Part)} (Some (m, part)) users_part → option_map_or sent_needs (sent_by m.tree part) [] ≡ message_needs
  one_part m part e = by (sent_by m.tree part) ∙ ap of_part e
    where
      by : (o : Option (SendOf ℕ)) → option_map_or sent_needs o [] ≡ of_sent (option_map {U = EntryOf ℕ × SendOf ℕ} (λ (x : SendOf ℕ). (m, x)) o)
      by None = refl
      by (Some x) = refl
