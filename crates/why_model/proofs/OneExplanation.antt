-- A script has one explanation.
use Rattle.std.proofs.Common.{◌≡◌, ℕ, ◌-◌, List, [], ◌∷◌, ◌++◌, length, Option, Some, None, Result, Ok, Err, inl, inr, refl, sym, ap, subst, ◌∙◌, arith}
use Rattle.std.specs.Prelude.{Bool, true, false, is_some, map, slice_get}
use Rattle.std.specs.Option.{option_map_or}
use Rattle.std.proofs.lemmas.Bool.{false≢true}
use Rattle.token_model.specs.declared.kind.Dialect.TheVariants.{Second}
use Rattle.grammar_model.specs.Spanned.{SpannedMethod}
use Rattle.grammar_model.proofs.Texts.{one_SpellsMethodAt}
use Rattle.image_model.specs.Image.{EntryOf, ImageOf}
use Rattle.query_model.specs.Lines.{Text}
use Rattle.history_model.specs.Verdicts.{IsRefusedAt, verdict}
use Rattle.history_model.proofs.Parts.{refused-from}
use Rattle.command_model.specs.Asked.{text_asked}
use Rattle.command_model.specs.Conditions.{PartIs}
use Rattle.command_model.specs.CodeEffects.{method_at, part_at}
use Rattle.script_model.specs.Scripts.{Says}
use Rattle.rule_model.specs.RuleCommands.{Reason, Unmet}
use Rattle.ruled_model.specs.RuledScripts.{Line, History, Refusal, ruled}
use Rattle.refusal_witnesses.specs.Witnesses.{InMethod, a_node}
use Rattle.refusal_witnesses.specs.Lines.{AreLines}
use Rattle.refusal_witnesses.proofs.OneLine.{one-lines}
use Rattle.why_model.specs.Reasons.{change_witnesses}
use Rattle.why_model.specs.Refusals.{Judging, line_refused}
use Rattle.why_model.specs.Explained.{explained, numbered_lines, round_paths, AreRoundIn, AreLinesOf, AreWitnessLines, step_of, IsExplained}

-- the lines of the nodes round two offsets
one-round : (i : ImageOf Text) (o : Option (EntryOf Text)) (from to : ℕ) (xs ys : List Text) → AreRoundIn i o from to xs → AreRoundIn i o from to ys → xs ≡ ys
one-round i None from to xs ys a b = a ∙ sym b
one-round i (Some m) from to xs ys a b =
    let trees : a.tree ≡ b.tree = one_SpellsMethodAt Second false m.source a.tree b.tree a.spells b.spells in
    one-lines i (map (a_node (InMethod m)) (round_paths b.tree.body from to)) xs ys (subst (λ (t : SpannedMethod). AreLines i (map (a_node (InMethod m)) (round_paths t.body from to)) xs) trees a.lines) b.lines

-- code that is there and is not
never : {P : Type 0} (b : Bool) → b ≡ true → b ≡ false → P
never b there absent = absurd (false≢true (sym absent ∙ there))

-- the lines of a reason where a change was judged
one-of : (j : Judging) (reason : Reason) (xs ys : List Text) → AreLinesOf j reason xs → AreLinesOf j reason ys → xs ≡ ys
one-of j (Unmet (PartIs c meta s from to)) xs ys (inl (p, a)) (inl (q, b)) = one-lines j.image (change_witnesses j.image j.change (Unmet (PartIs c meta s from to))) xs ys a b
one-of j (Unmet (PartIs c meta s from to)) xs ys (inl (p, a)) (inr (q, b)) = never (is_some (part_at text_asked j.image c meta s from to)) p q
one-of j (Unmet (PartIs c meta s from to)) xs ys (inr (p, a)) (inl (q, b)) = never (is_some (part_at text_asked j.image c meta s from to)) q p
one-of j (Unmet (PartIs c meta s from to)) xs ys (inr (p, a)) (inr (q, b)) = one-round j.image (method_at text_asked j.image c meta s) from to xs ys a b
one-of j reason xs ys a b = one-lines j.image (change_witnesses j.image j.change reason) xs ys a b

one-told : (o : Option Judging) (reason : Reason) (xs ys : List Text) → AreWitnessLines o reason xs → AreWitnessLines o reason ys → xs ≡ ys
one-told None reason xs ys a b = a ∙ sym b
one-told (Some j) reason xs ys a b = one-of j reason xs ys a b

-- two lists in parts, of which the first parts are of one length
record SameParts {X : Type 0} (xs ys : List X) (x y : X) : Type 0 where
  first : xs ≡ ys
  item : x ≡ y

same-parts : {X : Type 0} (xs ys more others : List X) (x y : X) → length xs ≡ length ys → xs ++ x ∷ more ≡ ys ++ y ∷ others → SameParts xs ys x y
same-parts [] [] more others x y n e =
    let same : x ≡ y = cc in
    record { first = refl; item = same }
same-parts [] (v ∷ vs) more others x y n e = absurd (cc)
same-parts (u ∷ us) [] more others x y n e = absurd (cc)
same-parts (u ∷ us) (v ∷ vs) more others x y n e =
    let head : u ≡ v = cc in
    let tail : us ++ x ∷ more ≡ vs ++ y ∷ others = cc in
    let shorter : length us ≡ length vs = omega (arith, n) in
    let rest = same-parts us vs more others x y shorter tail in
    record { first = λ k. head k ∷ rest.first k; item = rest.item }

-- one refusal, and one line that is refused in one history
record IsOneRefusal (i : ImageOf Text) (rs qs : List Line) (p q : Refusal) (a : IsRefusedAt ruled i rs p) (b : IsRefusedAt ruled i qs q) : Type 0 where
  refusal : p ≡ q
  history : a.history ≡ b.history
  line : a.line ≡ b.line

one-refusal : (i : ImageOf Text) (rs qs : List Line) (p q : Refusal) → rs ≡ qs → (a : IsRefusedAt ruled i rs p) (b : IsRefusedAt ruled i qs q) → IsOneRefusal i rs qs p q a b
one-refusal i rs qs p q same a b =
    let both : ◌≡◌ {A = Result History Refusal} (Err p) (Err q) = sym (refused-from ruled i rs p a) ∙ ap (verdict ruled i) same ∙ refused-from ruled i qs q b in
    let refusals : p ≡ q = cc in
    let numbers : p.number ≡ q.number = ap (λ (r : Refusal). r.number) refusals in
    let lengths : length a.before ≡ length b.before = omega (arith, a.numbered, b.numbered, numbers) in
    let parts = same-parts a.before b.before a.after b.after a.line b.line lengths (sym a.parts ∙ same ∙ b.parts) in
    let accepted : ◌≡◌ {A = Result History Refusal} (Ok a.history) (Ok b.history) = sym a.accepted ∙ ap (verdict ruled i) parts.first ∙ b.accepted in
    let histories : a.history ≡ b.history = cc in
    record { refusal = refusals; history = histories; line = parts.item }

module _ (says_once : (text : Text) (rs qs : List Line) → Says text rs → Says text qs → rs ≡ qs) where
  pub one-explanation : (i : ImageOf Text) (script text other : Text) → IsExplained i script text → IsExplained i script other → text ≡ other
  one-explanation i script text other a b =
      let one = one-refusal i a.requests b.requests a.refusal b.refusal (says_once script a.requests b.requests a.says b.says) a.refused b.refused in
      let where_is : line_refused a.refused.history.now.image a.refused.line ≡ line_refused b.refused.history.now.image b.refused.line = λ k. line_refused (one.history k).now.image (one.line k) in
      let reasons : a.refusal.condition ≡ b.refusal.condition = ap (λ (r : Refusal). r.condition) one.refusal in
      let at : Some (a.number, a.line) ≡ Some (b.number, b.line) = sym a.at ∙ ap (λ (r : Refusal). slice_get (numbered_lines script) (r.number - 1)) one.refusal ∙ b.at in
      let numbers : a.number ≡ b.number = ap (λ (o : Option (ℕ × Text)). option_map_or (λ (e : ℕ × Text). e.0) o 0) at in
      let lines : a.line ≡ b.line = ap (λ (o : Option (ℕ × Text)). option_map_or (λ (e : ℕ × Text). e.1) o []) at in
      let told : AreWitnessLines (line_refused b.refused.history.now.image b.refused.line) b.refusal.condition a.witness_lines =
      subst (λ (o : Option Judging). AreWitnessLines o b.refusal.condition a.witness_lines) where_is (subst (λ (r : Reason). AreWitnessLines (line_refused a.refused.history.now.image a.refused.line) r a.witness_lines) reasons a.are) in
      let witness_lines : a.witness_lines ≡ b.witness_lines = one-told (line_refused b.refused.history.now.image b.refused.line) b.refusal.condition a.witness_lines b.witness_lines told b.are in
      a.is ∙ (λ k. explained (one.refusal k) (numbers k) (lines k) (step_of (where_is k)) (witness_lines k)) ∙ sym b.is
