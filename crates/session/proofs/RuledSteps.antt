-- Code is rewritten by a rule with a certificate after others.
use Rattle.std.proofs.Common.{◌≡◌, ◌⊎◌, inl, inr, ◌<◌, ℕ, Bool, true, false, true≢false, not, ◌&&◌, List, [], ◌∷◌, length, map, find, Option, Some, None, Result, Ok, Err, refl, sym, ap, subst, ◌∙◌}
use Rattle.std.specs.Prelude.{IfErr, is_none}
use Rattle.std.specs.List.{AllByRecursion, list_any}
use Rattle.std.specs.Option.{option_map_or}
use Rattle.std.proofs.lemmas.List.{append-nil}
use Rattle.rb_base.specs.Names.{HasNoTwice, name_at}
use Rattle.image_model.specs.Image.{ImageOf, map_image}
use Rattle.image_model.specs.ImageNames.{ImageNames}
use Rattle.run_model.specs.Values.{Name}
use Rattle.run_model.specs.Renamings.{Renaming, no_renaming, composed}
use Rattle.class_table.specs.declared.record.Place.{Place}
use Rattle.class_table.specs.Slots.{Slots}
use Rattle.class_table.specs.Valid.{IsOrderly}
use Rattle.class_table.specs.View.{number_image, image_of}
use Rattle.class_table.proofs.Live.{or_true}
use Rattle.change_set.specs.declared.change.Change.{Change}
use Rattle.change_set.specs.declared.change.Change.TheVariants as change
use Rattle.change_set.specs.Changes.{all_applied, inverses}
use Rattle.history_model.specs.History.{by_result, after_action, version_after}
use Rattle.rename_model.specs.CommandWords.{text_command_words}
use Rattle.rename_model.specs.Conditions.{has_no_reflection}
use Rattle.command_model.specs.Asked.{text_asked}
use Rattle.command_model.specs.PartsOfText.{parts_of_text}
use Rattle.command_model.specs.Commands.{CommandOf, RemoveClass}
use Rattle.command_model.specs.Conditions.{ConditionOf, NoReflection, Shallow}
use Rattle.command_model.specs.Holds.{holds}
use Rattle.command_model.specs.Located.{Locating}
use Rattle.command_model.specs.Numbers.{number_asked, number_command_words}
use Rattle.command_model.specs.ParameterConditions.{is_shallow}
use Rattle.command_numbers.specs.MappedCommands.{map_command, map_condition}
use Rattle.command_numbers.specs.CommandNames.{CommandNames, ConditionNames}
use Rattle.command_numbers.specs.WithoutMove.{IsWithoutMove}
use Rattle.commands.specs.Views.{condition_of, self_in, HasSelf}
use Rattle.commands.specs.declared.condition.Condition.{Condition}
use Rattle.commands.specs.declared.condition.Condition.TheVariants as condition
use Rattle.event_trees.specs.Naming.{Grows}
use Rattle.pattern_model.specs.Named.{map_pattern}
use Rattle.certified_model.specs.Certificates.{stuck_at}
use Rattle.rule_model.specs.RuleCommands.{RuleCommand, Reason, Unmet, Derived, is_derived, rule_effect}
use Rattle.ruled_model.specs.RuledScripts.{Version, History, ByRule, Applies, ruled}
use Rattle.certificates.specs.Asked.{command_in, IsKnownRule}
use Rattle.certificates.specs.Shown.{step_shown}
use Rattle.derivations.specs.Stuck.{stuck_step}
use Rattle.derivations.specs.declared.steps.Derivation.{Derivation}
use Rattle.certificates.specs.declared.lines.RuleRequest.{RuleRequest}
use Rattle.reference_index.specs.Mentioned.{Mentioned}
use Rattle.wider_slots.specs.Closed.{IsClosed}
use Rattle.wider_slots.specs.Logs.{CanDoAgain}
use Rattle.wider_slots.specs.Wider.{More, widened, Wider, MoreWithin}
use Rattle.wider_slots.proofs.Opened.{more-closed}
use Rattle.image_rewriting.specs.Changed.{rule_of}
use Rattle.image_heights.specs.High.{is_high_change}
use Rattle.image_heights.proofs.LowCode.{live-high, item-high}
use Rattle.image_rewriting.specs.Planned.{StandsIn, IsRulePlan}
use Rattle.image_rewriting.proofs.SameRule.{same-rule, still-known}
use Rattle.session.specs.Log.{DoneCommand, Done, with_command}
use Rattle.session.specs.History.{version_behind, renamed_back}
use Rattle.session.specs.Stepping.{IsUnderWay}
use Rattle.session.specs.Refused.{rule_told}
use Rattle.session.specs.Making.{IsMadeOf}
use Rattle.session.specs.declared.renames.Renames.TheVariants as renames
use Rattle.session.specs.declared.refusal.RuleRefusal.{RuleRefusal}
use Rattle.session.specs.declared.refusal.RuleRefusal.TheVariants as refusal
use Rattle.session.proofs.Kept.{applied-names}
use Rattle.session.proofs.Room.{room-image}
use Rattle.session.proofs.UnderWay.{Follows, under_way-next, renamed-next}
use Rattle.session.proofs.Made.{made-refused, made-since}

-- a rule in a version, by whether each of its conditions holds
module _ (v : Version) (c : RuleCommand) where
  abbrev judged_by : (quiet derived low : Bool) → Result (ImageOf Name) Reason
  judged_by quiet derived low =
      option_map_or (λ (r : Reason). Err r)
      (option_map_or (λ (j : Reason × Bool). Some j.0) (find (λ (j : Reason × Bool). not j.1) ((Unmet NoReflection, quiet) ∷ (Derived c.certificate, derived) ∷ (Unmet Shallow, low) ∷ [])) None)
      (Ok (rule_effect c v.image))

  abbrev made_by : (quiet derived low : Bool) → Result Version Reason
  made_by quiet derived low = by_result (λ j. Ok (version_after ruled v (ByRule c) j)) (λ q. Err q) (judged_by quiet derived low)

  is_made : after_action ruled v (Applies c) ≡ made_by (has_no_reflection text_command_words v.image) (is_derived c) (is_shallow (rule_effect c v.image))
  is_made = refl

  -- the first that is false refuses it
  pub rule-reflective : has_no_reflection text_command_words v.image ≡ false → after_action ruled v (Applies c) ≡ Err (Unmet NoReflection)
  rule-reflective q = is_made ∙ (λ i. made_by (q i) (is_derived c) (is_shallow (rule_effect c v.image)))

  pub rule-underived : has_no_reflection text_command_words v.image ≡ true → is_derived c ≡ false → after_action ruled v (Applies c) ≡ Err (Derived c.certificate)
  rule-underived q d = is_made ∙ (λ i. made_by (q i) (d i) (is_shallow (rule_effect c v.image)))

  rule-high : has_no_reflection text_command_words v.image ≡ true → is_derived c ≡ true → is_shallow (rule_effect c v.image) ≡ false → after_action ruled v (Applies c) ≡ Err (Unmet Shallow)
  rule-high q d l = is_made ∙ (λ i. made_by (q i) (d i) (l i))

  -- else it is done
  rule-done : has_no_reflection text_command_words v.image ≡ true → is_derived c ≡ true → is_shallow (rule_effect c v.image) ≡ true
      → after_action ruled v (Applies c) ≡ Ok (record { image = rule_effect c v.image; renaming = composed v.renaming no_renaming })
  rule-done q d l = is_made ∙ (λ i. made_by (q i) (d i) (l i))

-- what is known of single conditions over the numbers of names
abbrev pub HoldsByNumbers : Type 0
HoldsByNumbers =
    (names : List (List ℕ)) (self_number : ℕ) (part_of : Locating) (i : ImageOf ℕ) (command : CommandOf ℕ) (q : ConditionOf ℕ) → HasNoTwice names → ImageNames (λ n. n < length names) i
    → CommandNames (λ n. n < length names) command → ConditionNames (λ n. n < length names) q → IsWithoutMove command q
    → holds text_asked (map_image (name_at names) i) (map_command (name_at names) command) (map_condition (name_at names) q) ≡ holds (number_asked names self_number part_of) i command q

and_true : (a b : Bool) → (a && true) ≡ (b && true) → a ≡ b
and_true true true e = refl
and_true false false e = refl
and_true true false e = absurd (cc)
and_true false true e = absurd (cc)

-- whether code is reflective, over the texts of names
pub quiet-texts : HoldsByNumbers → (s : Slots) → IsOrderly s → HasSelf s.names → has_no_reflection text_command_words (image_of s) ≡ has_no_reflection (number_command_words s.names) (number_image s)
quiet-texts law s orderly has =
    and_true (has_no_reflection text_command_words (image_of s)) (has_no_reflection (number_command_words s.names) (number_image s))
    (law s.names (self_in s.names) parts_of_text (number_image s) (RemoveClass (self_in s.names)) NoReflection orderly.names_distinct orderly.names_known has.0 tt tt)

-- whether the certificate derives the rule, by where it is stuck
pub derived-told : (names now : List (List ℕ)) (r : RuleRequest) (d : Derivation) → now ≡ names
    → stuck_step d ≡ stuck_at (map step_shown r.certificate.steps.items) (map_pattern (name_at now) r.rule.pattern) (map_pattern (name_at now) r.rule.replacement) → is_none (stuck_step d) ≡ is_derived (command_in names r)
derived-told names now r d same e = ap is_none e ∙ ap (λ (ns : List (List ℕ)). is_derived (command_in ns r)) same

-- slots whose names are more
pub wider-names : (s p : Slots) → IsClosed s → p ≡ record s { names = p.names } → Grows s.names p.names → HasNoTwice p.names → Wider s p
wider-names s p closed rest grows once =
    let more : More = record { names = grows.more; classes = []; methods = [] } in
    let state : p ≡ widened more s =
    rest ∙ (λ i. record s { names = grows.grown i; classes = sym (append-nil s.classes) i; methods = sym (append-nil s.methods) i }) in
    let within : MoreWithin s more = record { names = subst HasNoTwice grows.grown once; classes = tt; methods = tt } in
    record { more = more; state = state; closed = closed; still = subst IsClosed (sym state) (more-closed more s closed within) }

-- a rule among more names is the same
pub same-command : (names later : List (List ℕ)) (r : RuleRequest) → Grows names later → IsKnownRule names r → command_in later r ≡ command_in names r
same-command names later r grows known = λ i. record (command_in names r) { rule = same-rule names later r.rule grows (record { pattern = known.0; replacement = known.1 }) i }

pub known-later : (names later : List (List ℕ)) (r : RuleRequest) → Grows names later → IsKnownRule names r → IsKnownRule later r
known-later names later r grows known = let there = still-known names later r.rule grows (record { pattern = known.0; replacement = known.1 }) in (there.pattern, there.replacement)

-- what a rule makes of a version
abbrev pub ruling : List (List ℕ) → RuleRequest → Version → Result Version Reason
ruling names r v = after_action ruled v (Applies (command_in names r))

-- the reason that is told of it
abbrev pub telling : RuleRequest → List (List ℕ) → RuleRefusal → Option Reason
telling r = rule_told (map step_shown r.certificate.steps.items)

-- a condition of it is false
pub rule-refused : (s : Slots) (x : Mentioned) (d : Done) (r : RuleRequest) (t : Slots) (f : RuleRefusal) (q : Reason) → Wider s t → telling r t.names f ≡ Some q → ((r' : Renaming) → ruling s.names r (version_behind s r' d.commands) ≡ Err q)
    → IsMadeOf s x d (ruling s.names r) t x d (telling r) (Err f)
rule-refused s x d r t f q room told why =
    made-refused s x d (ruling s.names r) (telling r) t f room (λ w is r'.
    let both : Some q ≡ Some w = sym told ∙ is in
    let one : q ≡ w = cc in
    why r' ∙ ap {B = Result Version Reason} (λ z. Err z) one)

-- where the tree of a change that stands in slots is too high, they are not shallow
change-high : (s : Slots) (c : Change) → StandsIn s c → is_high_change c ≡ true → is_shallow (image_of s) ≡ false
change-high s (change.Class id rec) stands high = absurd stands
change-high s (change.Method k m) stands high = live-high s k m stands.1 stands.0 high
change-high s (change.DoIt n d) stands high = item-high s n d stands high
change-high s (change.Part at path part source) stands high = absurd stands
change-high s (change.Live what at) stands high = absurd stands

changes-high : (s : Slots) (cs : List Change) → AllByRecursion (StandsIn s) cs → list_any is_high_change cs ≡ true → is_shallow (image_of s) ≡ false
changes-high s [] stand high = absurd (true≢false (sym high))
changes-high s (c ∷ cs) stand high = by (or_true (is_high_change c) (list_any is_high_change cs) high) (λ h. changes-high s cs stand.1 h)
  where
    by : (is_high_change c ≡ true) ⊎ (list_any is_high_change cs ≡ true) → (list_any is_high_change cs ≡ true → is_shallow (image_of s) ≡ false) → is_shallow (image_of s) ≡ false
    by (inl h) rest = change-high s c stand.0 h
    by (inr h) rest = rest h

-- a tree of one of its changes is too high, and none of them is made
pub rule-high-first : (s p : Slots) (x : Mentioned) (d : Done) (r : RuleRequest) (cs : List Change) (places : List Place) → IsClosed s → p ≡ record s { names = p.names } → Grows s.names p.names → HasNoTwice p.names → IsRulePlan p (rule_of s.names r.rule) cs places
    → has_no_reflection text_command_words (image_of s) ≡ true → is_derived (command_in s.names r) ≡ true → list_any is_high_change cs ≡ true → IsMadeOf s x d (ruling s.names r) p x d (telling r) (Err (refusal.Condition condition.Shallow))
rule-high-first s p x d r cs places closed rest grows once plan quiet derived high =
    let room : Wider s p = wider-names s p closed rest grows once in
    let made : image_of (all_applied p cs) ≡ rule_effect (command_in s.names r) (image_of s) = plan.effect ∙ ap (rule_effect (command_in s.names r)) (room-image s p room) in
    let low : is_shallow (rule_effect (command_in s.names r) (image_of s)) ≡ false = ap is_shallow (sym made) ∙ changes-high (all_applied p cs) cs plan.standing high in
    rule-refused s x d r p (refusal.Condition condition.Shallow) (Unmet Shallow) room refl (λ q. rule-high (version_behind s q d.commands) (command_in s.names r) quiet derived low)

-- the changes of a rule are made in slots whose names may be more
module _ (s p t : Slots) (x y : Mentioned) (d e : Done) (r : RuleRequest) (cs : List Change) (places : List Place) (first : Slots) (way : IsUnderWay first s x d)
    (rest : p ≡ record s { names = p.names }) (grows : Grows s.names p.names) (once : HasNoTwice p.names) (plan : IsRulePlan p (rule_of s.names r.rule) cs places) (made : t ≡ all_applied p cs)
    (left : e ≡ with_command d (record { changes = inverses p cs; renames = renames.Nothing }) places) (follows : Follows t x y places) where
  room : Wider s p
  room = wider-names s p way.closed rest grows once

  abbrev command : DoneCommand
  command = record { changes = cs; renames = renames.Nothing }

  can : CanDoAgain p cs
  can = record { can = plan.can; fit = plan.fit; orderly = plan.orderly }

  rule-way : (begin : Slots) → IsUnderWay begin s x d → IsUnderWay begin t y e
  rule-way begin is =
      let there = subst (λ (z : Slots). Follows z x y places) made follows in
      subst (λ (z : Done). IsUnderWay begin t y z) (sym left) (
      subst (λ (z : Slots). IsUnderWay begin z y (with_command d (record { changes = inverses p cs; renames = renames.Nothing }) places)) (sym made)
      (under_way-next s p d command places room can tt x y plan.touched there begin is))

  made-image : image_of t ≡ rule_effect (command_in s.names r) (image_of s)
  made-image = ap image_of made ∙ plan.effect ∙ ap (rule_effect (command_in s.names r)) (room-image s p room)

  made-names : Grows s.names t.names
  made-names = subst (Grows s.names) (sym (ap (λ (z : Slots). z.names) made ∙ applied-names p cs)) grows

  made-renaming : (q : Renaming) → renamed_back t q e.commands ≡ composed (renamed_back s q d.commands) no_renaming
  made-renaming q = (λ i. renamed_back (made i) q ((left i).commands)) ∙ renamed-next s p d command places room can tt way.back way.known q

  module _ (quiet : has_no_reflection text_command_words (image_of s) ≡ true) (derived : is_derived (command_in s.names r) ≡ true) where
    -- no tree is too high
    pub rule-made : is_shallow (image_of t) ≡ true → IsMadeOf s x d (ruling s.names r) t y e (telling r) (Ok tt)
    rule-made low = record {
      under_way = rule-way;
      names = made-names;
      done = λ q.
          rule-done (version_behind s q d.commands) (command_in s.names r) quiet derived (ap is_shallow (sym made-image) ∙ low)
          ∙ (λ i. Ok (record { image = sym made-image i; renaming = sym (made-renaming q) i }));
      refused = tt;
    }

    -- one is
    pub rule-too-high : is_shallow (image_of t) ≡ false → IsMadeOf s x d (ruling s.names r) t y e (telling r) (Err (refusal.Condition condition.Shallow))
    rule-too-high high = record {
      under_way = rule-way;
      names = made-names;
      done = tt;
      refused = λ w told q.
          let one : Unmet Shallow ≡ w = cc in
          rule-high (version_behind s q d.commands) (command_in s.names r) quiet derived (ap is_shallow (sym made-image) ∙ high) ∙ ap {B = Result Version Reason} (λ z. Err z) one;
    }

-- what a rule makes after names were added is what it makes before
pub rule-since : (s p : Slots) (x : Mentioned) (d : Done) (r : RuleRequest) (first : Slots) → IsUnderWay first s x d → IsKnownRule s.names r → Wider s p → Grows s.names p.names → (t : Slots) (y : Mentioned) (e : Done) (result : Result (Unit {0}) RuleRefusal)
    → IsMadeOf p x d (ruling p.names r) t y e (telling r) result → IsMadeOf s x d (ruling s.names r) t y e (telling r) result
rule-since s p x d r first way known room grows t y e result made =
    let there : IsMadeOf p x d (ruling s.names r) t y e (telling r) result =
    subst (λ (c : RuleCommand). IsMadeOf p x d (λ v. after_action ruled v (Applies c)) t y e (telling r) result) (same-command s.names p.names r grows known) made in
    made-since s x d (ruling s.names r) (telling r) p room way.back way.known t y e result there

-- the condition that refuses it is told, and that it is not derived
module _ (r : RuleRequest) (names : List (List ℕ)) (wanted : Result History Reason) where
  abbrev pub IsTold : Result (Unit {0}) RuleRefusal → Type 0
  IsTold result = IfErr result (λ f. (q : Reason) → telling r names f ≡ Some q → wanted ≡ Err q)

  pub told-unmet : (result : Result (Unit {0}) RuleRefusal) → IsTold result → IfErr result (λ f. (c : Condition) → f ≡ refusal.Condition c → wanted ≡ Err (Unmet (map_condition (name_at names) (condition_of c))))
  told-unmet (Ok u) told = tt
  told-unmet (Err f) told = λ c is. told (Unmet (map_condition (name_at names) (condition_of c))) (ap (telling r names) is)

  pub told-underived : (result : Result (Unit {0}) RuleRefusal) → IsTold result → IfErr result (λ f. f ≡ refusal.NotDerived → wanted ≡ Err (Derived (map step_shown r.certificate.steps.items)))
  told-underived (Ok u) told = tt
  told-underived (Err f) told = λ is. told (Derived (map step_shown r.certificate.steps.items)) (ap (telling r names) is)
