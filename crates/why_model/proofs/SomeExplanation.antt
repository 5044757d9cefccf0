-- A script that is refused in spelled code has an explanation.
use Rattle.std.proofs.Common.{◌≡◌, ℕ, zero, suc, ◌+◌, ◌-◌, ◌<◌, List, [], ◌∷◌, ◌++◌, length, Option, Some, None, inl, inr, map, refl, sym, ap, subst, ◌∙◌, arith}
use Rattle.std.specs.Prelude.{Bool, true, false, not, cond, is_some, filter, slice_get}
use Rattle.std.specs.List.{AllByRecursion, enumerate_from}
use Rattle.std.specs.Option.{option_map_or}
use Rattle.token_model.specs.declared.kind.Dialect.TheVariants.{Second}
use Rattle.tree_model.specs.Path.{part_in}
use Rattle.tree_model.specs.Nodes.{Placed, nodes}
use Rattle.grammar_model.specs.Spanned.{SpannedSequence, plain_sequence}
use Rattle.grammar_model.specs.Spans.{span_at}
use Rattle.grammar_model.specs.Spelling.{SpellsMethod}
use Rattle.grammar_model.proofs.Places.{plain_in}
use Rattle.image_model.specs.Image.{EntryOf, ImageOf}
use Rattle.rename_model.specs.CommandWords.{text_command_words}
use Rattle.query_model.specs.Lines.{Text}
use Rattle.history_model.specs.Verdicts.{IsRefusedAt}
use Rattle.command_model.specs.Asked.{text_asked}
use Rattle.command_model.specs.Parts.{Expression}
use Rattle.command_model.specs.Conditions.{NoReflection, PartIs, Shallow}
use Rattle.command_model.specs.CodeEffects.{method_at, part_at}
use Rattle.certified_model.specs.Certificates.{stuck_at}
use Rattle.rule_model.specs.RuleCommands.{RuleCommand, Reason, Unmet, Derived, rule_effect}
use Rattle.script_model.specs.Lines.{lines_of, is_skipped, spoken}
use Rattle.script_model.specs.Scripts.{Says, EachSays}
use Rattle.ruled_model.specs.RuledScripts.{Change, Plainly, ByRule, Line, Refusal, ruled}
use Rattle.refusal_witnesses.specs.Witnesses.{InMethod, AStep, a_node}
use Rattle.refusal_witnesses.specs.Spelled.{IsSpelledImage}
use Rattle.refusal_witnesses.proofs.Alls.{all-weaker, all-mapped, all-filtered, all-given}
use Rattle.refusal_witnesses.proofs.Leading.{nodes-lead}
use Rattle.refusal_witnesses.proofs.LinesThere.{HasLine, HaveLines, lines-of, part-lined, step-lined, spanned}
use Rattle.refusal_witnesses.proofs.NamesLined.{reflections-there-lined}
use Rattle.refusal_witnesses.proofs.PartsLined.{method-spelled, method-users}
use Rattle.refusal_witnesses.proofs.MessagesLined.{failing-lined}
use Rattle.refusal_witnesses.proofs.AllLined.{lined}
use Rattle.why_model.specs.Reasons.{rule_witnesses, change_witnesses}
use Rattle.why_model.specs.Refusals.{Judging, line_refused}
use Rattle.why_model.specs.Explained.{explained, numbered_lines, reaches_round, round_paths, AreRound, AreRoundIn, AreLinesOf, AreWitnessLines, step_of, IsExplained}
use Rattle.why_model.specs.Spelled.{IsSpelledChange, IsSpelledJudging}

-- what is in the way of a change has lines
rule-lined : (i : ImageOf Text) → IsSpelledImage i → (c : RuleCommand) (reason : Reason) → HaveLines i (rule_witnesses i c reason)
rule-lined i spelled c (Unmet NoReflection) = reflections-there-lined i spelled text_command_words
rule-lined i spelled c (Unmet Shallow) = failing-lined i spelled (rule_effect c i) _ _
rule-lined i spelled c (Derived steps) = all-given (HasLine i) (λ (k : ℕ). AStep k ∷ []) (stuck_at steps c.rule.pattern c.rule.replacement) [] (λ k e. (step-lined i k, tt)) tt
rule-lined i spelled c (Unmet condition) = tt

change-lined : (i : ImageOf Text) → IsSpelledImage i → (c : Change) → IsSpelledChange c → (reason : Reason) → HaveLines i (change_witnesses i c reason)
change-lined i spelled (Plainly command) told (Unmet condition) = lined i spelled command condition told
change-lined i spelled (Plainly command) told (Derived steps) = tt
change-lined i spelled (ByRule c) told reason = rule-lined i spelled c reason

-- the nodes round two offsets have lines
round-lined : (i : ImageOf Text) (m : EntryOf Text) (from to : ℕ) → SpellsMethod Second false m.source m.tree → (texts : List Text) × AreRound i m from to texts
round-lined i m from to spells =
    let s : SpannedSequence = spells.spanned.body in
    let test : List ℕ → Bool = λ (path : List ℕ). option_map_or (reaches_round from to) (span_at s path) false in
    let paths : AllByRecursion (λ (p : List ℕ). HasLine i (a_node (InMethod m) p)) (map (λ (e : Placed Text). e.0) (nodes (plain_sequence s))) =
    all-mapped (λ (p : List ℕ). HasLine i (a_node (InMethod m) p)) (λ (e : Placed Text). e.0) (nodes (plain_sequence s))
    (all-weaker (λ (e : Placed Text). part_in (plain_sequence s) e.0 ≡ Some e.1) (λ (e : Placed Text). HasLine i (a_node (InMethod m) e.0))
    (λ e at. let there = spanned s e.0 e.1 (plain_in s e.0 ∙ at) in part-lined i m (Expression e.0) (λ users. (there.0, record { tree = spells.spanned; spells = spells.spells; at = there.1 })))
    (nodes (plain_sequence s)) (nodes-lead (plain_sequence s))) in
    let lines = lines-of i (map (a_node (InMethod m)) (round_paths s from to))
    (all-mapped (HasLine i) (a_node (InMethod m)) (round_paths s from to)
    (all-filtered (λ (p : List ℕ). HasLine i (a_node (InMethod m) p)) test (map (λ (e : Placed Text). e.0) (nodes (plain_sequence s))) paths)) in
    (lines.0, record { tree = spells.spanned; spells = spells.spells; lines = lines.1 })

round-in : (i : ImageOf Text) → IsSpelledImage i → (c : Text) (meta : Bool) (s : Text) (from to : ℕ) → (texts : List Text) × AreRoundIn i (method_at text_asked i c meta s) from to texts
round-in i spelled c meta s from to = by (method_at text_asked i c meta s) refl
  where
    by : (o : Option (EntryOf Text)) → method_at text_asked i c meta s ≡ o → (texts : List Text) × AreRoundIn i o from to texts
    by None e = ([], refl)
    by (Some m) e = round-lined i m from to (method-spelled i spelled c meta s m e (method-users i spelled c meta s m e))

-- the lines of a reason where a change was judged
some-of : (j : Judging) → IsSpelledImage j.image → IsSpelledChange j.change → (reason : Reason) → (texts : List Text) × AreLinesOf j reason texts
some-of j spelled told (Unmet (PartIs c meta s from to)) = by (is_some (part_at text_asked j.image c meta s from to)) refl
  where
    by : (b : Bool) → is_some (part_at text_asked j.image c meta s from to) ≡ b → (texts : List Text) × AreLinesOf j (Unmet (PartIs c meta s from to)) texts
    by true e = let lines = lines-of j.image (change_witnesses j.image j.change (Unmet (PartIs c meta s from to))) (change-lined j.image spelled j.change told (Unmet (PartIs c meta s from to))) in (lines.0, inl (e, lines.1))
    by false e = let lines = round-in j.image spelled c meta s from to in (lines.0, inr (e, lines.1))
some-of j spelled told reason = lines-of j.image (change_witnesses j.image j.change reason) (change-lined j.image spelled j.change told reason)

some-told : (o : Option Judging) → IsSpelledJudging o → (reason : Reason) → (texts : List Text) × AreWitnessLines o reason texts
some-told None told reason = ([], refl)
some-told (Some j) told reason = some-of j told.0 told.1 reason

-- there is a line of the script for each request
said-lengths : (ls : List Text) (rs : List Line) → EachSays ls rs → length ls ≡ length rs
said-lengths [] [] h = refl
said-lengths [] (r ∷ rs) h = absurd h
said-lengths (l ∷ ls) [] h = absurd h
said-lengths (l ∷ ls) (r ∷ rs) h = ap suc (said-lengths ls rs h.1)

numbered-lengths : (k : ℕ) (ls : List Text) → length (filter (λ (e : ℕ × Text). not (is_skipped e.1)) (enumerate_from k ls)) ≡ length (spoken ls)
numbered-lengths k [] = refl
numbered-lengths k (l ∷ ls) = by (not (is_skipped l)) (numbered-lengths (k + 1) ls)
  where
    by : (b : Bool) → length (filter (λ (e : ℕ × Text). not (is_skipped e.1)) (enumerate_from (k + 1) ls)) ≡ length (spoken ls)
        → length (cond b ((k, l) ∷ filter (λ (e : ℕ × Text). not (is_skipped e.1)) (enumerate_from (k + 1) ls)) (filter (λ (e : ℕ × Text). not (is_skipped e.1)) (enumerate_from (k + 1) ls))) ≡ length (cond b (l ∷ spoken ls) (spoken ls))
    by true h = ap suc h
    by false h = h

item-at : {X : Type 0} (xs : List X) (k : ℕ) → k < length xs → (x : X) × (slice_get xs k ≡ Some x)
item-at [] k h = absurd (omega (arith, h))
item-at (x ∷ xs) zero h = (x, refl)
item-at (x ∷ xs) (suc k) h = item-at xs k (omega (arith, h))

refused-length : (before : List Line) (line : Line) (after : List Line) → length before < length (before ++ line ∷ after)
refused-length [] line after = omega arith
refused-length (x ∷ xs) line after = omega (arith, refused-length xs line after)

line-there : (i : ImageOf Text) (script : Text) (rs : List Line) (refusal : Refusal) → Says script rs → IsRefusedAt ruled i rs refusal → (e : ℕ × Text) × (slice_get (numbered_lines script) (refusal.number - 1) ≡ Some e)
line-there i script rs refusal says r =
    let shorter : length r.before < length rs = subst (λ (l : List Line). length r.before < length l) (sym r.parts) (refused-length r.before r.line r.after) in
    let many : length (numbered_lines script) ≡ length rs = numbered-lengths 1 (lines_of script) ∙ said-lengths (spoken (lines_of script)) rs says.each in
    item-at (numbered_lines script) (refusal.number - 1) (omega (arith, shorter, many, r.numbered))

pub some-explanation : (i : ImageOf Text) (script : Text) (rs : List Line) (refusal : Refusal) (r : IsRefusedAt ruled i rs refusal) → Says script rs → IsSpelledJudging (line_refused r.history.now.image r.line) → (text : Text) × IsExplained i script text
some-explanation i script rs refusal r says told =
    let at = line-there i script rs refusal says r in
    let lines = some-told (line_refused r.history.now.image r.line) told refusal.condition in (
      explained refusal at.0.0 at.0.1 (step_of (line_refused r.history.now.image r.line)) lines.0,
      record {
        requests = rs;
        says = says;
        refusal = refusal;
        refused = r;
        number = at.0.0;
        line = at.0.1;
        at = at.1;
        witness_lines = lines.0;
        are = lines.1;
        is = refl;
      },
    )
