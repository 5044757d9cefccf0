-- What is in the way of a rule, by the first of its conditions that is false.
use Rattle.std.proofs.Common.{◌≡◌, ℕ, Bool, true, false, not, ◌||◌, List, [], ◌∷◌, ◌++◌, map, Option, Some, None, refl, sym, ap, subst, ◌∙◌}
use Rattle.std.specs.Prelude.{filter, find}
use Rattle.std.specs.List.{enumerate_from}
use Rattle.std.specs.Option.{option_map_or}
use Rattle.std.proofs.lemmas.List.{append-nil, map-append}
use Rattle.rb_base.specs.Names.{name_at, HasNoTwice}
use Rattle.event_trees.specs.Naming.{Grows}
use Rattle.scope_model.specs.Control.{is_empty}
use Rattle.image_model.specs.Image.{EntryOf, DoItOf, ImageOf, map_entry, map_doit}
use Rattle.image_model.specs.Nodes.{in_doit}
use Rattle.query_model.specs.Lines.{Text}
use Rattle.rename_model.specs.CommandWords.{text_command_words}
use Rattle.class_table.specs.Slots.{Slots}
use Rattle.class_table.specs.Valid.{IsOrderly}
use Rattle.class_table.specs.View.{image_of, number_image}
use Rattle.wider_slots.specs.Closed.{IsClosed}
use Rattle.wider_slots.specs.Wider.{Wider}
use Rattle.wider_slots.proofs.Images.{image-still}
use Rattle.wider_slots.proofs.Orderly.{orderly-wider}
use Rattle.command_model.specs.Commands.{RemoveClass}
use Rattle.command_model.specs.Conditions.{NoReflection, Shallow}
use Rattle.command_model.specs.Numbers.{number_command_words}
use Rattle.command_model.specs.ParameterConditions.{is_low}
use Rattle.command_numbers.proofs.Lists.{enumerate-map, filter-total, map-total}
use Rattle.code_command_numbers.proofs.MovedHeights.{is_low-map}
use Rattle.commands.specs.Views.{self_in, HasSelf}
use Rattle.certified_model.specs.Certificates.{stuck_at}
use Rattle.rule_model.specs.RuleCommands.{RuleCommand, Reason, Unmet, Derived, rule_effect, rule_judged, first_false_of_rule}
use Rattle.ruled_model.specs.RuledScripts.{ByRule}
use Rattle.refusal_witnesses.specs.NameWitnesses.{reflections_there}
use Rattle.refusal_witnesses.specs.ParameterWitnesses.{too_high}
use Rattle.refusal_witnesses.specs.Witnesses.{AtPlace, WitnessOf, AWhole, AStep, a_method}
use Rattle.refusal_witnesses.specs.Lines.{AreLines, no_lines, more_lines, whole_line}
use Rattle.witness_numbers.specs.MappedWitnesses.{map_witness}
use Rattle.why_model.specs.Reasons.{rule_witnesses, AreShown}
use Rattle.why_model.specs.Refusals.{alone}
use Rattle.why_model.specs.Explained.{AreLinesOf}
use Rattle.session.proofs.RuledSteps.{wider-names}
use Rattle.explained_scripts.proofs.AtTexts.{LawAt}

-- further names change no image
module _ (s p : Slots) (closed : IsClosed s) (rest : p ≡ record s { names = p.names }) (grows : Grows s.names p.names) (once : HasNoTwice p.names) where
  wider : Wider s p
  wider = wider-names s p closed rest grows once

  pub named-image : image_of p ≡ image_of s
  named-image = ap image_of wider.state ∙ image-still s wider.closed wider.more

  pub named-orderly : IsOrderly s → IsOrderly p
  named-orderly orderly = orderly-wider s p wider orderly

-- what looks at the program itself is the same over texts
pub reflections-text : (s : Slots) → LawAt s → HasSelf s.names → reflections_there text_command_words (image_of s) ≡ map (map_witness (name_at s.names)) (reflections_there (number_command_words s.names) (number_image s))
reflections-text s law has =
    sym (append-nil (reflections_there text_command_words (image_of s))) ∙ law (RemoveClass (self_in s.names)) NoReflection has.0 tt
    ∙ ap (map (map_witness (name_at s.names))) (append-nil (reflections_there (number_command_words s.names) (number_image s)))

-- so is what is too high
module _ (s : Slots) where
  high-methods : (ms : List (EntryOf ℕ)) → map a_method (filter (λ (m : EntryOf Text). not (m.kernel || is_low m.tree.body)) (map (map_entry (name_at s.names)) ms)) ≡ map (map_witness (name_at s.names)) (map a_method (filter (λ (m : EntryOf ℕ). not (m.kernel || is_low m.tree.body)) ms))
  high-methods ms =
      ap (map a_method) (filter-total (map_entry (name_at s.names)) (λ (m : EntryOf ℕ). not (m.kernel || is_low m.tree.body)) (λ (m : EntryOf Text). not (m.kernel || is_low m.tree.body)) (λ m. ap (λ (b : Bool). not (m.kernel || b)) (is_low-map (name_at s.names) m.tree.body)) ms)
      ∙ map-total (map_entry (name_at s.names)) (map_witness (name_at s.names)) a_method a_method (λ m. refl) (filter (λ (m : EntryOf ℕ). not (m.kernel || is_low m.tree.body)) ms)

  high-doits : (ds : List (DoItOf ℕ)) → map (λ (e : ℕ × DoItOf Text). AWhole (AtPlace (in_doit e.0))) (filter (λ (e : ℕ × DoItOf Text). not (is_low e.1.body)) (enumerate_from 0 (map (map_doit (name_at s.names)) ds)))
      ≡ map (map_witness (name_at s.names)) (map (λ (e : ℕ × DoItOf ℕ). AWhole (AtPlace (in_doit e.0))) (filter (λ (e : ℕ × DoItOf ℕ). not (is_low e.1.body)) (enumerate_from 0 ds)))
  high-doits ds =
      ap (λ (xs : List (ℕ × DoItOf Text)). map (λ (e : ℕ × DoItOf Text). AWhole (AtPlace (in_doit e.0))) (filter (λ (e : ℕ × DoItOf Text). not (is_low e.1.body)) xs)) (enumerate-map (map_doit (name_at s.names)) 0 ds)
      ∙ ap (map (λ (e : ℕ × DoItOf Text). AWhole (AtPlace (in_doit e.0)))) (filter-total {X = ℕ × DoItOf ℕ} {Y = ℕ × DoItOf Text} (λ e. (e.0, map_doit (name_at s.names) e.1)) (λ (e : ℕ × DoItOf ℕ). not (is_low e.1.body)) (λ (e : ℕ × DoItOf Text). not (is_low e.1.body)) (λ e. ap not (is_low-map (name_at s.names) e.1.body)) (enumerate_from 0 ds))
      ∙ map-total {X = ℕ × DoItOf ℕ} {Y = ℕ × DoItOf Text} (λ e. (e.0, map_doit (name_at s.names) e.1)) (map_witness (name_at s.names)) (λ (e : ℕ × DoItOf ℕ). AWhole (AtPlace (in_doit e.0))) (λ (e : ℕ × DoItOf Text). AWhole (AtPlace (in_doit e.0))) (λ e. refl) (filter (λ (e : ℕ × DoItOf ℕ). not (is_low e.1.body)) (enumerate_from 0 ds))

  pub high-text : too_high (image_of s) ≡ map (map_witness (name_at s.names)) (too_high (number_image s))
  high-text =
      (λ j. high-methods (number_image s).methods j ++ high-doits (number_image s).doits j)
      ∙ sym (map-append (map_witness (name_at s.names)) (map a_method (filter (λ (m : EntryOf ℕ). not (m.kernel || is_low m.tree.body)) (number_image s).methods)) (map (λ (e : ℕ × DoItOf ℕ). AWhole (AtPlace (in_doit e.0))) (filter (λ (e : ℕ × DoItOf ℕ). not (is_low e.1.body)) (enumerate_from 0 (number_image s).doits))))

-- whole methods and do-its have the same lines in any image
module _ (i j : ImageOf Text) where
  whole-methods : (ms : List (EntryOf Text)) (ws : List (WitnessOf Text)) (ts : List Text) → ((us : List Text) → AreLines i ws us → AreLines j ws us) → AreLines i (map a_method ms ++ ws) ts → AreLines j (map a_method ms ++ ws) ts
  whole-methods [] ws ts rest ls = rest ts ls
  whole-methods (m ∷ ms) ws [] rest ls = elim ls [ ]
  whole-methods (m ∷ ms) ws (t ∷ ts) rest (more_lines whole_line ls) = more_lines whole_line (whole-methods ms ws ts rest ls)

  whole-doits : (es : List (ℕ × DoItOf Text)) (ts : List Text) → AreLines i (map (λ (e : ℕ × DoItOf Text). AWhole (AtPlace (in_doit e.0))) es) ts → AreLines j (map (λ (e : ℕ × DoItOf Text). AWhole (AtPlace (in_doit e.0))) es) ts
  whole-doits [] [] no_lines = no_lines
  whole-doits [] (t ∷ ts) ls = elim ls [ ]
  whole-doits (e ∷ es) [] ls = elim ls [ ]
  whole-doits (e ∷ es) (t ∷ ts) (more_lines whole_line ls) = more_lines whole_line (whole-doits es ts ls)

  pub high-lines : (k : ImageOf Text) (ts : List Text) → AreLines i (too_high k) ts → AreLines j (too_high k) ts
  high-lines k ts ls =
      whole-methods (filter (λ (m : EntryOf Text). not (m.kernel || is_low m.tree.body)) k.methods) _ ts
      (whole-doits (filter (λ (e : ℕ × DoItOf Text). not (is_low e.1.body)) (enumerate_from 0 k.doits))) ls

-- the first of three conditions that is false
module _ (q r t : Reason) (reason : Reason) where
  abbrev first : Bool → Bool → Bool → Option Reason
  first a b d = option_map_or (λ (j : Reason × Bool). Some j.0) (find (λ (j : Reason × Bool). not j.1) ((q, a) ∷ (r, b) ∷ (t, d) ∷ [])) None

  pub first-one : (a b d : Bool) → a ≡ false → first a b d ≡ Some reason → reason ≡ q
  first-one true b d e f = absurd (cc)
  first-one false b d e f =
      let same : q ≡ reason = cc in
      sym same

  pub first-two : (a b d : Bool) → a ≡ true → b ≡ false → first a b d ≡ Some reason → reason ≡ r
  first-two false b d e g f = absurd (cc)
  first-two true true d e g f = absurd (cc)
  first-two true false d e g f =
      let same : r ≡ reason = cc in
      sym same

  pub first-three : (a b d : Bool) → a ≡ true → b ≡ true → first a b d ≡ Some reason → reason ≡ t
  first-three false b d e g f = absurd (cc)
  first-three true false d e g f = absurd (cc)
  first-three true true true e g f = absurd (cc)
  first-three true true false e g f =
      let same : t ≡ reason = cc in
      sym same

module _ (i : ImageOf Text) (c : RuleCommand) (shown : AreShown i c (rule_judged c i)) (lines : List Text) (reason : Reason) (e : first_false_of_rule c i ≡ Some reason) where
  pub by-reflections : is_empty (reflections_there text_command_words i) ≡ false → AreLines i (reflections_there text_command_words i) lines → AreLinesOf (alone i (ByRule c)) reason lines
  by-reflections some are = subst (λ (q : Reason). AreLinesOf (alone i (ByRule c)) q lines) (sym (first-one (Unmet NoReflection) (Derived c.certificate) (Unmet Shallow) reason _ _ _ (shown.0 ∙ some) e)) are

  pub by-certificate : (k : ℕ) → is_empty (reflections_there text_command_words i) ≡ true → stuck_at c.certificate c.rule.pattern c.rule.replacement ≡ Some k → AreLines i (AStep k ∷ []) lines → AreLinesOf (alone i (ByRule c)) reason lines
  by-certificate k none stuck are =
      let ws : ◌≡◌ {A = List (WitnessOf Text)} (rule_witnesses i c (Derived c.certificate)) (AStep k ∷ []) = ap (λ (o : Option ℕ). option_map_or {U = List (WitnessOf Text)} (λ (n : ℕ). AStep n ∷ []) o []) stuck in
      subst (λ (q : Reason). AreLinesOf (alone i (ByRule c)) q lines) (sym (first-two (Unmet NoReflection) (Derived c.certificate) (Unmet Shallow) reason _ _ _ (shown.0 ∙ none) (shown.1.0 ∙ ap is_empty ws) e))
      (subst (λ (xs : List (WitnessOf Text)). AreLines i xs lines) (sym ws) are)

  pub by-heights : is_empty (reflections_there text_command_words i) ≡ true → stuck_at c.certificate c.rule.pattern c.rule.replacement ≡ None → AreLines i (too_high (rule_effect c i)) lines → AreLinesOf (alone i (ByRule c)) reason lines
  by-heights none stuck are =
      subst (λ (q : Reason). AreLinesOf (alone i (ByRule c)) q lines)
      (sym (first-three (Unmet NoReflection) (Derived c.certificate) (Unmet Shallow) reason _ _ _ (shown.0 ∙ none) (shown.1.0 ∙ ap (λ (o : Option ℕ). is_empty (option_map_or {U = List (WitnessOf Text)} (λ (n : ℕ). AStep n ∷ []) o [])) stuck) e)) are
