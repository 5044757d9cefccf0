-- Where the outside tells of the files and no read fails, words have at most one answer.
use Rattle.std.proofs.Common.{◌≡◌, ℕ, Bool, List, Result, Ok, Err, ◌<◌, length, inl, inr, refl, ap, sym, subst, ◌∙◌, arith}
use Rattle.std.specs.Prelude.{codes}
use Rattle.rb_base.specs.Outside.{Told, Untold, NoFile, File, IsNoFile, OnFile, MayGive, Rose}
use Rattle.token_model.specs.declared.kind.Dialect.TheVariants.{Second}
use Rattle.image_model.specs.Image.{ImageOf}
use Rattle.st_kernel.specs.KernelText.{prelude_text}
use Rattle.file_model.specs.Written.{file_of}
use Rattle.file_model.proofs.OneImage.{one_image, one_refusal, no_image_where_refused}
use Rattle.canonical_image.specs.Formatted.{formatted}
use Rattle.image_forms.specs.declared.status.Status.{Status}
use Rattle.command_words.specs.Forms.{Form, Apply, Changes, Why, Team, Import, Format, Run, Find, Strip, Search, Rewrite, Demo, Help, Version, NoForm, files_of, form_of}
use Rattle.image_forms.specs.Loads.{World, Loads, Given, Refused, Refuses, MayFail, IsTold, IsHonest}
use Rattle.grammar_model.specs.Whole.{DoIt}
use Rattle.grammar_model.proofs.Texts.{no_fault_DoIt, one_SpellsDoIt, one_HasFirstFault}
use Rattle.tree_model.specs.Tree.{SequenceOf}
use Rattle.image_model.specs.Image.{plus}
use Rattle.image_model.specs.Words.{text_words}
use Rattle.strip_model.specs.Reach.{reach}
use Rattle.image_doits.specs.Added.{IsWithDoIt}
use Rattle.run_model.specs.Runs.{run, printed_run}
use Rattle.query_model.specs.Queries.{QueryOf}
use Rattle.query_model.specs.Lines.{AreLines, IsAnswer}
use Rattle.image_model.specs.Nodes.{Use}
use Rattle.pattern_model.specs.Patterns.{PatternOf}
use Rattle.pattern_model.specs.Rewritten.{RuleOf}
use Rattle.rewrite_model.specs.Saying.{Cause, SaysPattern, SaysReplacement, SaysRule, IsRefusedPattern, IsRefusedReplacement}
use Rattle.rewrite_model.specs.Searched.{matches}
use Rattle.rewrite_model.specs.Rewritten.{rewritten_image}
use Rattle.ruled_model.specs.RuledScripts.{Line, History, Refusal as Stop, ruled_verdict}
use Rattle.script_model.specs.Scripts.{Says}
use Rattle.image_maker.specs.Generated.{image_text, expression_text, script_text}
use Rattle.query_model.proofs.OneAnswer.{one_answer}
use Rattle.file_model.specs.Causes.{Refusal}
use Rattle.import_model.specs.Imported.{IsImported}
use Rattle.apply_model.specs.declared.status.Status as applied
use Rattle.apply_model.specs.declared.status.Status.TheVariants as verdict
use Rattle.apply_model.specs.Applied as model
use Rattle.play_model.specs.Played as play
use Rattle.changes_model.specs.Changes as change
use Rattle.why_model.specs.Why as explanation
use Rattle.image_forms.specs.ImageLines.{image_refusal, import_refusal, expression_refusal, text_refusal}
use Rattle.image_forms.specs.Answers.{status_applied, Applies, Explains, PlaysLog, WritesChanges, Imports, NotImported, Imported, Formats, Formatted, Refused as Stopped, status_of, RunsIn, NoDoIt, Ran, Runs, NoImage, InImage, Finds, NoImageThere, Found, stripped_text, StripsIn, NoStart, Stripped, Strips, NoImageToStrip, StripsImage, OfImage, Unread, Read, SearchesIn, NoPattern, Matched, RewritesIn, NoRule, NoReplacement, Rewritten, summary, ChangesIn, Unchanged, Changed, DemosIn, NoExpression, Shown, AnswersForm, Answers, image_limit, script_limit}

-- both answers are one
abbrev pub SameAnswer : Status → Status → List ℕ → List ℕ → Type 0
SameAnswer s t x y = (s ≡ t) × (x ≡ y)

given_one : (t : Told) (limit : ℕ) (a b : List ℕ) → IsTold t → MayGive t limit a → MayGive t limit b → a ≡ b
given_one Untold limit a b told p q = absurd told
given_one NoFile limit a b told p q = absurd p.0
given_one (File file) limit a b told p q = p.0 ∙ sym q.0

given-absent : (t : Told) (limit : ℕ) (a : List ℕ) → MayGive t limit a → IsNoFile t → ⊥
given-absent Untold limit a p absent = absent
given-absent NoFile limit a p absent = p.0
given-absent (File file) limit a p absent = absent

given-over : (t : Told) (limit : ℕ) (a : List ℕ) → IsTold t → MayGive t limit a → OnFile t (λ file. limit < length file) → ⊥
given-over Untold limit a told p over = told
given-over NoFile limit a told p over = p.0
given-over (File file) limit a told p over = let e : length a ≡ length file = ap length p.0 in omega (arith, p.1, over)

absent-over : (t : Told) (P : List ℕ → Type 0) → IsNoFile t → OnFile t P → ⊥
absent-over Untold P absent over = absent
absent-over NoFile P absent over = over
absent-over (File file) P absent over = absent

-- A load that may fail was told of no file, where no read failed.
absent_of : (w : World) (name : List ℕ) → ¬ Rose w.faults_before w.faults_after → MayFail w name → IsNoFile (w.told name)
absent_of w name fine (inl absent) = absent
absent_of w name fine (inr rose) = absurd (fine rose)

refused_one : (w : World) (name : List ℕ) (limit : ℕ) (s t : Status) (x y : List ℕ) → ¬ Rose w.faults_before w.faults_after → Refuses w name limit s x → Refuses w name limit t y → SameAnswer s t x y
refused_one w name limit s t x y fine (inl (may, is, line)) (inl (may', is', line')) = (is ∙ sym is', line ∙ sym line')
refused_one w name limit s t x y fine (inr (large, is, line)) (inr (large', is', line')) = (is ∙ sym is', line ∙ sym line')
refused_one w name limit s t x y fine (inl (may, is, line)) (inr (large, is', line')) = absurd (absent-over _ _ (absent_of w name fine may) large.0)
refused_one w name limit s t x y fine (inr (large, is, line)) (inl (may, is', line')) = absurd (absent-over _ _ (absent_of w name fine may) large.0)

given-refused : (w : World) (name : List ℕ) (limit : ℕ) (s : Status) (a x : List ℕ) → IsTold (w.told name) → ¬ Rose w.faults_before w.faults_after → MayGive (w.told name) limit a → Refuses w name limit s x → ⊥
given-refused w name limit s a x told fine may (inl (absent, is, line)) = given-absent _ limit a may (absent_of w name fine absent)
given-refused w name limit s a x told fine may (inr (large, is, line)) = given-over _ limit a told may large.0

loads_one : (w : World) (name : List ℕ) (limit : ℕ) (s t : Status) (x y : List ℕ) (P Q : List ℕ → Type 0) → IsTold (w.told name) → ¬ Rose w.faults_before w.faults_after →
    ((bytes : List ℕ) → P bytes → Q bytes → SameAnswer s t x y) → Loads w name limit s x P → Loads w name limit t y Q → SameAnswer s t x y
loads_one w name limit s t x y P Q told fine step (Given a may p) (Given b may' q) =
    step a p (subst Q (given_one (w.told name) limit b a told may' may) q)
loads_one w name limit s t x y P Q told fine step (Given a may p) (Refused r) = absurd (given-refused w name limit t a y told fine may r)
loads_one w name limit s t x y P Q told fine step (Refused r) (Given b may q) = absurd (given-refused w name limit s b x told fine may r)
loads_one w name limit s t x y P Q told fine step (Refused r) (Refused r') = refused_one w name limit s t x y fine r r'

-- a text that is formatted has one answer
formats_one : (text : List ℕ) (s t : Status) (x y : List ℕ) → Formats text s x → Formats text t y → SameAnswer s t x y
formats_one text s t x y (Stopped r wrong is line) (Stopped q wrong' is' line') =
    (is ∙ sym is', line ∙ ap image_refusal (one_refusal Second prelude_text text r q wrong wrong') ∙ sym line')
formats_one text s t x y (Stopped r wrong is line) (Formatted i read is' line') = absurd (no_image_where_refused Second prelude_text text i r read wrong)
formats_one text s t x y (Formatted i read is line) (Stopped r wrong is' line') = absurd (no_image_where_refused Second prelude_text text i r read wrong)
formats_one text s t x y (Formatted i read is line) (Formatted j read' is' line') =
    (is ∙ sym is', line ∙ ap (λ (k : ImageOf (List ℕ)). file_of (formatted k)) (one_image Second prelude_text text i j read read') ∙ sym line')

-- an image has one more do-it of a text in one way
with_one : (expression : List ℕ) (i j k : ImageOf (List ℕ)) → IsWithDoIt expression i j → IsWithDoIt expression i k → j ≡ k
with_one expression i j k p q =
    let same : p.body ≡ q.body = one_SpellsDoIt Second expression p.body q.body p.spelled q.spelled in
    p.added ∙ ap (λ (b : SequenceOf (List ℕ)). plus i (record { source = expression; body = b })) same ∙ sym q.added

-- an expression that is run in an image has one answer
runs_in_one : (i : ImageOf (List ℕ)) (expression : List ℕ) (budget : ℕ) (s t : Status) (x y : List ℕ) → RunsIn i expression budget s x → RunsIn i expression budget t y → SameAnswer s t x y
runs_in_one i expression budget s t x y (NoDoIt f wrong is line) (NoDoIt g wrong' is' line') =
    (is ∙ sym is', line ∙ ap expression_refusal (one_HasFirstFault Second DoIt expression f g wrong wrong') ∙ sym line')
runs_in_one i expression budget s t x y (NoDoIt f wrong is line) (Ran j added is' line') = absurd (no_fault_DoIt Second expression added.body f added.spelled wrong)
runs_in_one i expression budget s t x y (Ran j added is line) (NoDoIt f wrong is' line') = absurd (no_fault_DoIt Second expression added.body f added.spelled wrong)
runs_in_one i expression budget s t x y (Ran j added is line) (Ran k added' is' line') =
    let same : j ≡ k = with_one expression i j k added added' in
    (is ∙ ap (λ (m : ImageOf (List ℕ)). status_of (run m budget).outcome) same ∙ sym is', line ∙ ap (λ (m : ImageOf (List ℕ)). printed_run m budget) same ∙ sym line')

-- a text and an expression that are run have one answer
runs_one : (text expression : List ℕ) (budget : ℕ) (s t : Status) (x y : List ℕ) → Runs text expression budget s x → Runs text expression budget t y → SameAnswer s t x y
runs_one text expression budget s t x y (NoImage r wrong is line) (NoImage q wrong' is' line') =
    (is ∙ sym is', line ∙ ap image_refusal (one_refusal Second prelude_text text r q wrong wrong') ∙ sym line')
runs_one text expression budget s t x y (NoImage r wrong is line) (InImage i read p) = absurd (no_image_where_refused Second prelude_text text i r read wrong)
runs_one text expression budget s t x y (InImage i read p) (NoImage r wrong is line) = absurd (no_image_where_refused Second prelude_text text i r read wrong)
runs_one text expression budget s t x y (InImage i read p) (InImage j read' q) =
    runs_in_one j expression budget s t x y (subst (λ (k : ImageOf (List ℕ)). RunsIn k expression budget s x) (one_image Second prelude_text text i j read read') p) q

-- a text and a question that are answered have one answer
finds_one : (text : List ℕ) (q : QueryOf (List ℕ)) (s t : Status) (x y : List ℕ) → Finds text q s x → Finds text q t y → SameAnswer s t x y
finds_one text q s t x y (NoImageThere r wrong is line) (NoImageThere r' wrong' is' line') =
    (is ∙ sym is', line ∙ ap image_refusal (one_refusal Second prelude_text text r r' wrong wrong') ∙ sym line')
finds_one text q s t x y (NoImageThere r wrong is line) (Found i read lines is') = absurd (no_image_where_refused Second prelude_text text i r read wrong)
finds_one text q s t x y (Found i read lines is) (NoImageThere r wrong is' line) = absurd (no_image_where_refused Second prelude_text text i r read wrong)
finds_one text q s t x y (Found i read lines is) (Found j read' lines' is') =
    (is ∙ sym is', one_answer j q x y (subst (λ (k : ImageOf (List ℕ)). IsAnswer k q x) (one_image Second prelude_text text i j read read') lines) lines')

-- an expression for which an image is stripped has one answer
strips_in_one : (i : ImageOf (List ℕ)) (expression : List ℕ) (sets : Bool) (s t : Status) (x y : List ℕ) → StripsIn i expression sets s x → StripsIn i expression sets t y → SameAnswer s t x y
strips_in_one i expression sets s t x y (NoStart f wrong is line) (NoStart g wrong' is' line') =
    (is ∙ sym is', line ∙ ap expression_refusal (one_HasFirstFault Second DoIt expression f g wrong wrong') ∙ sym line')
strips_in_one i expression sets s t x y (NoStart f wrong is line) (Stripped j added is' text) = absurd (no_fault_DoIt Second expression added.body f added.spelled wrong)
strips_in_one i expression sets s t x y (Stripped j added is text) (NoStart f wrong is' line) = absurd (no_fault_DoIt Second expression added.body f added.spelled wrong)
strips_in_one i expression sets s t x y (Stripped j added is text) (Stripped k added' is' text') =
    (is ∙ sym is', text ∙ ap (λ (m : ImageOf (List ℕ)). stripped_text sets (reach text_words m) i) (with_one expression i j k added added') ∙ sym text')

-- a text and an expression for which it is stripped have one answer
strips_one : (text expression : List ℕ) (sets : Bool) (s t : Status) (x y : List ℕ) → Strips text expression sets s x → Strips text expression sets t y → SameAnswer s t x y
strips_one text expression sets s t x y (NoImageToStrip r wrong is line) (NoImageToStrip q wrong' is' line') =
    (is ∙ sym is', line ∙ ap image_refusal (one_refusal Second prelude_text text r q wrong wrong') ∙ sym line')
strips_one text expression sets s t x y (NoImageToStrip r wrong is line) (StripsImage i read p) = absurd (no_image_where_refused Second prelude_text text i r read wrong)
strips_one text expression sets s t x y (StripsImage i read p) (NoImageToStrip r wrong is line) = absurd (no_image_where_refused Second prelude_text text i r read wrong)
strips_one text expression sets s t x y (StripsImage i read p) (StripsImage j read' q) =
    strips_in_one j expression sets s t x y (subst (λ (k : ImageOf (List ℕ)). StripsIn k expression sets s x) (one_image Second prelude_text text i j read read') p) q

-- a text that is read as an image has one answer where the image has one
of_image_one : (text : List ℕ) (s t : Status) (x y : List ℕ) (P Q : ImageOf (List ℕ) → Type 0) → ((i : ImageOf (List ℕ)) → P i → Q i → SameAnswer s t x y) → OfImage text s x P → OfImage text t y Q → SameAnswer s t x y
of_image_one text s t x y P Q step (Unread r wrong is line) (Unread q wrong' is' line') =
    (is ∙ sym is', line ∙ ap image_refusal (one_refusal Second prelude_text text r q wrong wrong') ∙ sym line')
of_image_one text s t x y P Q step (Unread r wrong is line) (Read i read p) = absurd (no_image_where_refused Second prelude_text text i r read wrong)
of_image_one text s t x y P Q step (Read i read p) (Unread r wrong is line) = absurd (no_image_where_refused Second prelude_text text i r read wrong)
of_image_one text s t x y P Q step (Read i read p) (Read j read' q) = step j (subst P (one_image Second prelude_text text i j read read') p) q

-- what is known of scripts, of logs, of file-outs that are imported, of patterns and rules, and of lines
pub record OnceLaws : Type 0 where
  pub applies : (image_line : Refusal → List ℕ) (text script : List ℕ) (v u : applied.Status) (x y : List ℕ) → model.Applies image_line text script v x → model.Applies image_line text script u y → (v ≡ u) × (x ≡ y)
  pub applies_in : (i : ImageOf (List ℕ)) (script : List ℕ) (v u : applied.Status) (x y : List ℕ) → model.AppliesIn i script v x → model.AppliesIn i script u y → (v ≡ u) × (x ≡ y)
  pub changes_in : (i : ImageOf (List ℕ)) (script : List ℕ) (v u : applied.Status) (x y : List ℕ) → change.ChangesIn i script v x → change.ChangesIn i script u y → (v ≡ u) × (x ≡ y)
  pub explains : (image_line : Refusal → List ℕ) (text script : List ℕ) (v u : applied.Status) (x y : List ℕ) → explanation.Why image_line text script v x → explanation.Why image_line text script u y → (v ≡ u) × (x ≡ y)
  pub plays : (image_line : Refusal → List ℕ) (text log : List ℕ) (v u : applied.Status) (x y : List ℕ) → play.Plays image_line text log v x → play.Plays image_line text log u y → (v ≡ u) × (x ≡ y)
  pub imported : (text : List ℕ) (a b : Result (List ℕ) Refusal) → IsImported text a → IsImported text b → a ≡ b
  pub requests : (text : List ℕ) (rs qs : List Line) → Says text rs → Says text qs → rs ≡ qs
  pub pattern : (text : List ℕ) (p q : PatternOf (List ℕ)) → SaysPattern text p → SaysPattern text q → p ≡ q
  pub no_pattern : (text : List ℕ) (p : PatternOf (List ℕ)) (c : Cause) → SaysPattern text p → ¬ IsRefusedPattern text c
  pub pattern_cause : (text : List ℕ) (c d : Cause) → IsRefusedPattern text c → IsRefusedPattern text d → c ≡ d
  pub replacement : (p : PatternOf (List ℕ)) (text : List ℕ) (q r : PatternOf (List ℕ)) → SaysReplacement p text q → SaysReplacement p text r → q ≡ r
  pub no_replacement : (p : PatternOf (List ℕ)) (text : List ℕ) (q : PatternOf (List ℕ)) (c : Cause) → SaysReplacement p text q → ¬ IsRefusedReplacement p text c
  pub replacement_cause : (p : PatternOf (List ℕ)) (text : List ℕ) (c d : Cause) → IsRefusedReplacement p text c → IsRefusedReplacement p text d → c ≡ d
  pub lines : (i : ImageOf (List ℕ)) (uses : List Use) (x y : List ℕ) → AreLines i uses x → AreLines i uses y → x ≡ y

module _ (once : OnceLaws) where
  applies_one : (text script : List ℕ) (s t : Status) (x y : List ℕ) → Applies text script s x → Applies text script t y → SameAnswer s t x y
  applies_one text script s t x y a b =
      let same = once.applies image_refusal text script a.verdict b.verdict x y a.applies b.applies in
      (a.status ∙ ap status_applied same.0 ∙ sym b.status, same.1)

  -- a text and a script have one answer of `changes`
  change_one : (text script : List ℕ) (v u : applied.Status) (x y : List ℕ) → change.Changes image_refusal text script v x → change.Changes image_refusal text script u y → (v ≡ u) × (x ≡ y)
  change_one text script v u x y (change.NoImage r wrong is line) (change.NoImage q wrong' is' line') =
      (is ∙ sym is', line ∙ ap image_refusal (one_refusal Second prelude_text text r q wrong wrong') ∙ sym line')
  change_one text script v u x y (change.NoImage r wrong is line) (change.InImage i read p) = absurd (no_image_where_refused Second prelude_text text i r read wrong)
  change_one text script v u x y (change.InImage i read p) (change.NoImage r wrong is line) = absurd (no_image_where_refused Second prelude_text text i r read wrong)
  change_one text script v u x y (change.InImage i read p) (change.InImage j read' q) =
      once.changes_in j script v u x y (subst (λ (k : ImageOf (List ℕ)). change.ChangesIn k script v x) (one_image Second prelude_text text i j read read') p) q

  writes_one : (text script : List ℕ) (s t : Status) (x y : List ℕ) → WritesChanges text script s x → WritesChanges text script t y → SameAnswer s t x y
  writes_one text script s t x y a b =
      let same = change_one text script a.verdict b.verdict x y a.changes b.changes in
      (a.status ∙ ap status_applied same.0 ∙ sym b.status, same.1)

  explains_one : (text script : List ℕ) (s t : Status) (x y : List ℕ) → Explains text script s x → Explains text script t y → SameAnswer s t x y
  explains_one text script s t x y a b =
      let same = once.explains image_refusal text script a.verdict b.verdict x y a.why b.why in
      (a.status ∙ ap status_applied same.0 ∙ sym b.status, same.1)

  plays_one : (text log : List ℕ) (s t : Status) (x y : List ℕ) → PlaysLog text log s x → PlaysLog text log t y → SameAnswer s t x y
  plays_one text log s t x y a b =
      let same = once.plays image_refusal text log a.verdict b.verdict x y a.plays b.plays in
      (a.status ∙ ap status_applied same.0 ∙ sym b.status, same.1)

  searches_one : (i : ImageOf (List ℕ)) (pattern : List ℕ) (s t : Status) (x y : List ℕ) → SearchesIn i pattern s x → SearchesIn i pattern t y → SameAnswer s t x y
  searches_one i pattern s t x y (NoPattern c wrong is line) (NoPattern d wrong' is' line') =
      (is ∙ sym is', line ∙ ap (text_refusal (codes "pattern")) (once.pattern_cause pattern c d wrong wrong') ∙ sym line')
  searches_one i pattern s t x y (NoPattern c wrong is line) (Matched p says lines is') = absurd (once.no_pattern pattern p c says wrong)
  searches_one i pattern s t x y (Matched p says lines is) (NoPattern c wrong is' line) = absurd (once.no_pattern pattern p c says wrong)
  searches_one i pattern s t x y (Matched p says lines is) (Matched q says' lines' is') =
      (is ∙ sym is', once.lines i (matches q i) x y (subst (λ (r : PatternOf (List ℕ)). AreLines i (matches r i) x) (once.pattern pattern p q says says') lines) lines')

  rule_one : (pattern replacement : List ℕ) (r q : RuleOf (List ℕ)) → SaysRule pattern replacement r → SaysRule pattern replacement q → r ≡ q
  rule_one pattern replacement r q said said' =
      let same : r.pattern ≡ q.pattern = once.pattern pattern r.pattern q.pattern said.pattern said'.pattern in
      let other : r.replacement ≡ q.replacement =
      once.replacement q.pattern replacement r.replacement q.replacement
      (subst (λ (p : PatternOf (List ℕ)). SaysReplacement p replacement r.replacement) same said.replacement) said'.replacement in
      (λ k. record { pattern = same k; replacement = other k })

  rewrites_one : (i : ImageOf (List ℕ)) (pattern replacement : List ℕ) (s t : Status) (x y : List ℕ) → RewritesIn i pattern replacement s x → RewritesIn i pattern replacement t y → SameAnswer s t x y
  rewrites_one i pattern replacement s t x y (NoRule c wrong is line) (NoRule d wrong' is' line') =
      (is ∙ sym is', line ∙ ap (text_refusal (codes "pattern")) (once.pattern_cause pattern c d wrong wrong') ∙ sym line')
  rewrites_one i pattern replacement s t x y (NoRule c wrong is line) (NoReplacement p d says wrong' is' line') = absurd (once.no_pattern pattern p c says wrong)
  rewrites_one i pattern replacement s t x y (NoRule c wrong is line) (Rewritten r said is' line') = absurd (once.no_pattern pattern r.pattern c said.pattern wrong)
  rewrites_one i pattern replacement s t x y (NoReplacement p d says wrong is line) (NoRule c wrong' is' line') = absurd (once.no_pattern pattern p c says wrong')
  rewrites_one i pattern replacement s t x y (NoReplacement p c says wrong is line) (NoReplacement q d says' wrong' is' line') =
      let moved : IsRefusedReplacement q replacement c = subst (λ (r : PatternOf (List ℕ)). IsRefusedReplacement r replacement c) (once.pattern pattern p q says says') wrong in
      (is ∙ sym is', line ∙ ap (text_refusal (codes "replacement")) (once.replacement_cause q replacement c d moved wrong') ∙ sym line')
  rewrites_one i pattern replacement s t x y (NoReplacement p c says wrong is line) (Rewritten r said is' line') =
      absurd (once.no_replacement r.pattern replacement r.replacement c said.replacement
      (subst (λ (q : PatternOf (List ℕ)). IsRefusedReplacement q replacement c) (once.pattern pattern p r.pattern says said.pattern) wrong))
  rewrites_one i pattern replacement s t x y (Rewritten r said is line) (NoRule c wrong is' line') = absurd (once.no_pattern pattern r.pattern c said.pattern wrong)
  rewrites_one i pattern replacement s t x y (Rewritten r said is line) (NoReplacement p c says wrong is' line') =
      absurd (once.no_replacement r.pattern replacement r.replacement c said.replacement
      (subst (λ (q : PatternOf (List ℕ)). IsRefusedReplacement q replacement c) (once.pattern pattern p r.pattern says said.pattern) wrong))
  rewrites_one i pattern replacement s t x y (Rewritten r said is line) (Rewritten q said' is' line') =
      (is ∙ sym is', line ∙ ap (λ (u : RuleOf (List ℕ)). file_of (rewritten_image u i)) (rule_one pattern replacement r q said said') ∙ sym line')

  -- a text that is imported has one answer
  imports_one : (text : List ℕ) (s t : Status) (x y : List ℕ) → Imports text s x → Imports text t y → SameAnswer s t x y
  imports_one text s t x y (NotImported r wrong is line) (NotImported q wrong' is' line') =
      let both : ◌≡◌ {A = Result (List ℕ) Refusal} (Err r) (Err q) = once.imported text (Err r) (Err q) wrong wrong' in
      let same : r ≡ q = cc in
      (is ∙ sym is', line ∙ ap (λ (u : Refusal). import_refusal u.chunk u.cause) same ∙ sym line')
  imports_one text s t x y (NotImported r wrong is line) (Imported made is') =
      let both : ◌≡◌ {A = Result (List ℕ) Refusal} (Err r) (Ok y) = once.imported text (Err r) (Ok y) wrong made in
      absurd (cc)
  imports_one text s t x y (Imported made is) (NotImported r wrong is' line) =
      let both : ◌≡◌ {A = Result (List ℕ) Refusal} (Ok x) (Err r) = once.imported text (Ok x) (Err r) made wrong in
      absurd (cc)
  imports_one text s t x y (Imported made is) (Imported made' is') =
      let both : ◌≡◌ {A = Result (List ℕ) Refusal} (Ok x) (Ok y) = once.imported text (Ok x) (Ok y) made made' in
      let same : x ≡ y = cc in
      (is ∙ sym is', same)

  changes_one : (classes : ℕ) (i : ImageOf (List ℕ)) (s t : Status) (x y : List ℕ) → ChangesIn classes i s x → ChangesIn classes i t y → SameAnswer s t x y
  changes_one classes i s t x y (Unchanged v other a is) (Unchanged u other' b is') =
      let same = once.applies_in i (script_text classes) v u x y a b in
      (is ∙ ap status_applied same.0 ∙ sym is', same.1)
  changes_one classes i s t x y (Unchanged v other a is) (Changed rs h says ok is' line) =
      absurd (other (once.applies_in i (script_text classes) v verdict.Done x (file_of h.now.image) a (model.Accepted rs h says ok refl refl)).0)
  changes_one classes i s t x y (Changed rs h says ok is line) (Unchanged v other a is') =
      absurd (other (once.applies_in i (script_text classes) v verdict.Done y (file_of h.now.image) a (model.Accepted rs h says ok refl refl)).0)
  changes_one classes i s t x y (Changed rs h says ok is line) (Changed qs g says' ok' is' line') =
      let asked : rs ≡ qs = once.requests (script_text classes) rs qs says says' in
      let both : ◌≡◌ {A = Result History Stop} (Ok h) (Ok g) = sym ok ∙ ap (ruled_verdict i) asked ∙ ok' in
      let same : h ≡ g = cc in
      (is ∙ sym is', line ∙ (λ k. summary classes (length (asked k)) i (same k).now.image) ∙ sym line')

  demos_one : (classes : ℕ) (i : ImageOf (List ℕ)) (s t : Status) (x y : List ℕ) → DemosIn classes i s x → DemosIn classes i t y → SameAnswer s t x y
  demos_one classes i s t x y (NoExpression f wrong is line) (NoExpression g wrong' is' line') =
      (is ∙ sym is', line ∙ ap expression_refusal (one_HasFirstFault Second DoIt (expression_text classes) f g wrong wrong') ∙ sym line')
  demos_one classes i s t x y (NoExpression f wrong is line) (Shown j added c) = absurd (no_fault_DoIt Second (expression_text classes) added.body f added.spelled wrong)
  demos_one classes i s t x y (Shown j added c) (NoExpression f wrong is line) = absurd (no_fault_DoIt Second (expression_text classes) added.body f added.spelled wrong)
  demos_one classes i s t x y (Shown j added c) (Shown k added' d) =
      changes_one classes k s t x y (subst (λ (m : ImageOf (List ℕ)). ChangesIn classes m s x) (with_one (expression_text classes) i j k added added') c) d

  form_one : (w : World) (form : Form) (s t : Status) (x y : List ℕ) → IsHonest w (files_of form) → AnswersForm w form s x → AnswersForm w form t y → SameAnswer s t x y
  form_one w (Apply image script) s t x y honest p q =
      loads_one w image image_limit s t x y _ _ honest.told.0 honest.fine
      (λ i p' q'. loads_one w script script_limit s t x y _ _ honest.told.1.0 honest.fine (λ c. applies_one i c s t x y) p' q') p q
  form_one w (Changes image script) s t x y honest p q =
      loads_one w image image_limit s t x y _ _ honest.told.0 honest.fine
      (λ i p' q'. loads_one w script script_limit s t x y _ _ honest.told.1.0 honest.fine (λ c. writes_one i c s t x y) p' q') p q
  form_one w (Why image script) s t x y honest p q =
      loads_one w image image_limit s t x y _ _ honest.told.0 honest.fine
      (λ i p' q'. loads_one w script script_limit s t x y _ _ honest.told.1.0 honest.fine (λ c. explains_one i c s t x y) p' q') p q
  form_one w (Team image log) s t x y honest p q =
      loads_one w image image_limit s t x y _ _ honest.told.0 honest.fine
      (λ i p' q'. loads_one w log script_limit s t x y _ _ honest.told.1.0 honest.fine (λ l. plays_one i l s t x y) p' q') p q
  form_one w (Import file) s t x y honest p q =
      loads_one w file image_limit s t x y _ _ honest.told.0 honest.fine (λ i. imports_one i s t x y) p q
  form_one w (Format image) s t x y honest p q =
      loads_one w image image_limit s t x y _ _ honest.told.0 honest.fine (λ i. formats_one i s t x y) p q
  form_one w (Run image expression budget) s t x y honest p q =
      loads_one w image image_limit s t x y _ _ honest.told.0 honest.fine (λ i. runs_one i expression budget s t x y) p q
  form_one w (Find image question) s t x y honest p q =
      loads_one w image image_limit s t x y _ _ honest.told.0 honest.fine (λ i. finds_one i question s t x y) p q
  form_one w (Strip image expression sets) s t x y honest p q =
      loads_one w image image_limit s t x y _ _ honest.told.0 honest.fine (λ i. strips_one i expression sets s t x y) p q
  form_one w (Search image pattern) s t x y honest p q =
      loads_one w image image_limit s t x y _ _ honest.told.0 honest.fine (λ i. of_image_one i s t x y _ _ (λ j. searches_one j pattern s t x y)) p q
  form_one w (Rewrite image pattern replacement) s t x y honest p q =
      loads_one w image image_limit s t x y _ _ honest.told.0 honest.fine (λ i. of_image_one i s t x y _ _ (λ j. rewrites_one j pattern replacement s t x y)) p q
  form_one w (Demo number) s t x y honest p q = of_image_one (image_text number) s t x y _ _ (λ j. demos_one number j s t x y) p q
  form_one w Help s t x y honest p q = (p.0 ∙ sym q.0, p.1 ∙ sym q.1)
  form_one w Version s t x y honest p q = (p.0 ∙ sym q.0, p.1 ∙ sym q.1)
  form_one w NoForm s t x y honest p q = (p.0 ∙ sym q.0, p.1 ∙ sym q.1)

  pub answers_one : (w : World) (words : List (List ℕ)) (s t : Status) (x y : List ℕ) → IsHonest w (files_of (form_of words)) → Answers w words s x → Answers w words t y → (s ≡ t) × (x ≡ y)
  answers_one w words = form_one w (form_of words)
