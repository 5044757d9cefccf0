-- What the words are answered with: a status, and the bytes that are sent.
use Rattle.std.specs.Prelude.{◌≡◌, ◌≢◌, ℕ, List, [], ◌++◌, length, Ok, Err, codes, Bool, if◌then◌else◌}
use Rattle.std.specs.Fmt.{decimal}
use Rattle.apply_model.specs.declared.status.Status as applied
use Rattle.apply_model.specs.declared.status.Status.TheVariants as verdict
use Rattle.apply_model.specs.Applied as model
use Rattle.changes_model.specs.Changes as change
use Rattle.why_model.specs.Why as explanation
use Rattle.play_model.specs.Played as play
use Rattle.image_forms.specs.declared.status.Status.{Status}
use Rattle.image_forms.specs.declared.status.Status.TheVariants as status
use Rattle.token_model.specs.declared.kind.Dialect.TheVariants.{Second}
use Rattle.rb_base.specs.Names.{text_eq}
use Rattle.image_model.specs.Image.{ImageOf}
use Rattle.image_model.specs.Words.{text_words}
use Rattle.file_model.specs.Causes.{Refusal}
use Rattle.file_model.specs.Reading.{IsImageOf, HasRefusal}
use Rattle.file_model.specs.Written as written
use Rattle.st_kernel.specs.KernelText.{prelude_text}
use Rattle.import_model.specs.Imported.{IsImported}
use Rattle.canonical_image.specs.Formatted.{formatted}
use Rattle.grammar_model.specs.Whole.{DoIt}
use Rattle.grammar_model.specs.Checks.{Fault}
use Rattle.grammar_model.specs.Spelling.{HasFirstFault}
use Rattle.run_model.specs.Values.{Outcome, done, failed, spent}
use Rattle.run_model.specs.Runs.{run, printed_run}
use Rattle.image_doits.specs.Added.{IsWithDoIt}
use Rattle.query_model.specs.Queries.{QueryOf}
use Rattle.query_model.specs.Lines.{AreLines, IsAnswer}
use Rattle.pattern_model.specs.Patterns.{PatternOf}
use Rattle.pattern_model.specs.Rewritten.{RuleOf}
use Rattle.rewrite_model.specs.Saying.{Cause, SaysPattern, SaysRule, IsRefusedPattern, IsRefusedReplacement}
use Rattle.rewrite_model.specs.Searched.{matches}
use Rattle.rewrite_model.specs.Rewritten.{rewritten_image}
use Rattle.ruled_model.specs.RuledScripts.{Line, History, ruled_verdict}
use Rattle.script_model.specs.Scripts.{Says}
use Rattle.image_maker.specs.Generated.{image_text, expression_text, script_text}
use Rattle.run_model.specs.Views.{run_text}
use Rattle.strip_model.specs.Reach.{ReachOf, reach}
use Rattle.strip_model.specs.Stripped.{certificate, strip}
use Rattle.command_words.specs.Forms.{Form, Apply, Changes, Why, Team, Import, Format, Run, Find, Strip, Search, Rewrite, Demo, Help, Version, NoForm, form_of}
use Rattle.image_forms.specs.Loads.{World, Loads, line}
use Rattle.image_forms.specs.ImageLines.{image_refusal, import_refusal, expression_refusal, text_refusal}

-- the most bytes of a file with an image
abbrev pub image_limit : ℕ
image_limit = 4194304

-- the most bytes of a script
abbrev pub script_limit : ℕ
script_limit = 1048576

abbrev pub usage : List ℕ
usage = line (codes "usage: browse COMMAND ARGUMENTS")

-- the forms as they are typed, each with what it does
abbrev pub help_forms : List ℕ
help_forms = codes "usage: browse COMMAND ARGUMENTS\napply IMAGE SCRIPT: prints the file-out IMAGE as the commands of SCRIPT change it\nchanges IMAGE SCRIPT: prints what to file in after IMAGE to have it as the commands of SCRIPT change it\nwhy IMAGE SCRIPT: prints what stands in the way of the first command of SCRIPT that is refused\nteam IMAGE LOG: prints what the sessions of LOG are answered, and IMAGE as they change it\nrun IMAGE EXPRESSION [BUDGET]: runs the do-its of IMAGE and then EXPRESSION, for at most BUDGET ticks\nfind IMAGE KIND NAME: lists what sends or implements a selector, or means a class or a variable\nformat IMAGE: prints IMAGE with each source in canonical text\nimport FILE: prints FILE, a file-out of Squeak, Pharo or VisualWorks, in the form that the others read\nstrip IMAGE EXPRESSION [sets]: prints IMAGE without what its do-its and EXPRESSION cannot reach, or what they reach\nsearch IMAGE PATTERN: lists the nodes that PATTERN matches\nrewrite IMAGE PATTERN REPLACEMENT: prints IMAGE with each node that PATTERN matches replaced\ndemo NUMBER: makes an image of NUMBER classes, runs it, renames in it, and runs it again\n--help: prints these lines\n--version: prints the version of the program and of the logic that proves it"

-- the kinds of `find`, each with what it lists
abbrev pub help_kinds : List ℕ
help_kinds = codes "kinds of find, each with its NAME:\n  senders SELECTOR: the messages of the selector\n  implementors SELECTOR: the methods of the selector\n  class CLASS: where code means the class\n  inst CLASS.VARIABLE: where code reads or assigns the instance variable\n  shared CLASS.VARIABLE: where code reads or assigns the class variable\n  classInst CLASS.VARIABLE: where code reads or assigns the class-instance variable"

-- the commands of a script, each with its arguments and what it does
abbrev pub help_commands : List ℕ
help_commands = codes "commands of a SCRIPT, one a line; a SIDE is instance or class, and FROM and TO are offsets as find and search print them:\n  renameClass CLASS NEW: renames a class\n  renameInstVar CLASS VARIABLE NEW: renames an instance variable\n  renameClassVar CLASS VARIABLE NEW: renames a class variable\n  renameClassSideVar CLASS VARIABLE NEW: renames a class-instance variable\n  renameSelector SELECTOR NEW: renames a message and its methods, in all classes\n  renameTemp CLASS SIDE SELECTOR VARIABLE NEW: renames an argument, a block parameter or a temporary\n  addClass NEW SUPERCLASS [CLASS ..]: adds a class, also between a class and its subclasses\n  addInstVar CLASS NEW: adds an instance variable\n  addClassVar CLASS NEW: adds a class variable\n  addClassSideVar CLASS NEW: adds a class-instance variable\n  addMethod CLASS SIDE PROTOCOL METHOD: adds a method, which stands on the same line\n  addParameter SELECTOR NEW VARIABLE LITERAL: gives a message one more argument\n  removeClass CLASS: removes a class that nothing names\n  removeInstVar CLASS VARIABLE: removes an instance variable that nothing uses\n  removeClassVar CLASS VARIABLE: removes a class variable that nothing uses\n  removeClassSideVar CLASS VARIABLE: removes a class-instance variable that nothing uses\n  removeMethod CLASS SIDE SELECTOR: removes a method that nothing sends, or that repeats the inherited one\n  removeParameter SELECTOR NUMBER NEW: takes an argument from a message\n  pushUpInstVar CLASS VARIABLE: moves an instance variable to the superclass\n  pushUpClassVar CLASS VARIABLE: moves a class variable to the superclass\n  pushUpMethod CLASS SIDE SELECTOR: moves a method to the superclass\n  pushUpWithMethods CLASS VARIABLE: moves an instance variable and its methods to the superclass\n  pushDownInstVar CLASS VARIABLE: moves an instance variable to the subclasses\n  pushDownClassVar CLASS VARIABLE SUBCLASS: moves a class variable to one subclass\n  pushDownMethod CLASS SIDE SELECTOR: moves a method to the subclasses\n  extractMethod CLASS SIDE SELECTOR FROM TO NEW: makes a method of a part of a method\n  extractTemp CLASS SIDE SELECTOR FROM TO NEW: makes a temporary of an expression\n  extractSuperclass NEW SUPERCLASS CLASS ..: makes a superclass of several classes\n  inlineMethod CLASS SIDE SELECTOR FROM TO: puts the body of a method in place of a message\n  inlineTemp CLASS SIDE SELECTOR VARIABLE: puts what is assigned to a temporary in its place\n  abstractInstVar CLASS VARIABLE: reads and assigns an instance variable by messages alone\n  createAccessors CLASS VARIABLE: adds a getter and a setter\n  applyRule STEPS PATTERN ==> REPLACEMENT: rewrites all code by a rule that the laws in STEPS derive\n  undo: takes the last command back\n  redo: does it again"

-- where the guides are
abbrev pub help_guides : List ℕ
help_guides = codes "guides: README.md and the folder docs of the repository; docs/commands.md has the commands, docs/conditions.md what refuses them"

-- the answer to `--help`
abbrev pub help : List ℕ
help = ((line help_forms ++ line help_kinds) ++ line help_commands) ++ line help_guides

-- the version of the program, of the kit that builds it and of the logic that proves it
abbrev pub version : List ℕ
version = line (codes "browse 1.0 rattle-kit-13f logic dac8208d650f15bf")

-- how a call ends whose files `apply` answers so
abbrev pub status_applied : applied.Status → Status
status_applied verdict.Done = status.Done
status_applied verdict.Condition = status.Condition
status_applied verdict.ImageText = status.ImageText
status_applied verdict.ScriptText = status.ScriptText

-- `apply` answers these two texts with the status and the bytes
pub record Applies (text script : List ℕ) (s : Status) (sent : List ℕ) : Type 0 where
  pub verdict : applied.Status
  pub applies : model.Applies image_refusal text script verdict sent
  pub status : s ≡ status_applied verdict

-- `changes` answers these two texts with the status and the bytes
pub record WritesChanges (text script : List ℕ) (s : Status) (sent : List ℕ) : Type 0 where
  pub verdict : applied.Status
  pub changes : change.Changes image_refusal text script verdict sent
  pub status : s ≡ status_applied verdict

-- `why` answers these two texts with the status and the bytes
pub record Explains (text script : List ℕ) (s : Status) (sent : List ℕ) : Type 0 where
  pub verdict : applied.Status
  pub why : explanation.Why image_refusal text script verdict sent
  pub status : s ≡ status_applied verdict

-- `team` answers these two texts with the status and the bytes
pub record PlaysLog (text log : List ℕ) (s : Status) (sent : List ℕ) : Type 0 where
  pub verdict : applied.Status
  pub plays : play.Plays image_refusal text log verdict sent
  pub status : s ≡ status_applied verdict

-- `import` answers this text with the status and the bytes: what it becomes, or the first chunk that has no form here
pub data Imports (text : List ℕ) (s : Status) (sent : List ℕ) : Type 0 where
  NotImported : (r : Refusal) → IsImported text (Err r) → s ≡ status.ImageText → sent ≡ import_refusal r.chunk r.cause → Imports text s sent
  Imported : IsImported text (Ok sent) → s ≡ status.Done → Imports text s sent

-- `format` answers this text with the status and the bytes
pub data Formats (text : List ℕ) (s : Status) (sent : List ℕ) : Type 0 where
  Refused : (r : Refusal) → HasRefusal Second prelude_text text r → s ≡ status.ImageText → sent ≡ image_refusal r → Formats text s sent
  Formatted : (i : ImageOf (List ℕ)) → IsImageOf Second prelude_text text i → s ≡ status.Done → sent ≡ written.file_of (formatted i) → Formats text s sent

-- how a call ends whose run came out so
abbrev pub status_of : Outcome → Status
status_of (done v) = status.Done
status_of (failed e) = status.RunError
status_of spent = status.Spent

-- `run` answers this image and this expression with the status and the bytes, where the run has so many ticks: the image is run with the expression as its last do-it
pub data RunsIn (i : ImageOf (List ℕ)) (expression : List ℕ) (budget : ℕ) (s : Status) (sent : List ℕ) : Type 0 where
  NoDoIt : (f : Fault) → HasFirstFault Second DoIt expression f → s ≡ status.ScriptText → sent ≡ expression_refusal f → RunsIn i expression budget s sent
  Ran : (j : ImageOf (List ℕ)) → IsWithDoIt expression i j → s ≡ status_of (run j budget).outcome → sent ≡ printed_run j budget → RunsIn i expression budget s sent

-- `run` answers this text and this expression
pub data Runs (text expression : List ℕ) (budget : ℕ) (s : Status) (sent : List ℕ) : Type 0 where
  NoImage : (r : Refusal) → HasRefusal Second prelude_text text r → s ≡ status.ImageText → sent ≡ image_refusal r → Runs text expression budget s sent
  InImage : (i : ImageOf (List ℕ)) → IsImageOf Second prelude_text text i → RunsIn i expression budget s sent → Runs text expression budget s sent

-- `find` answers this text and this question with the status and the bytes
pub data Finds (text : List ℕ) (q : QueryOf (List ℕ)) (s : Status) (sent : List ℕ) : Type 0 where
  NoImageThere : (r : Refusal) → HasRefusal Second prelude_text text r → s ≡ status.ImageText → sent ≡ image_refusal r → Finds text q s sent
  Found : (i : ImageOf (List ℕ)) → IsImageOf Second prelude_text text i → IsAnswer i q sent → s ≡ status.Done → Finds text q s sent

-- what `strip` prints of an image of which this is reached: what is reached, or the file of the image without the rest
abbrev pub stripped_text : Bool → ReachOf (List ℕ) → ImageOf (List ℕ) → List ℕ
stripped_text sets r i = if sets then certificate r i else written.file_of (strip text_eq r i)

-- `strip` answers this image and this expression with the status and the bytes: what the image reaches with the expression as its last do-it
pub data StripsIn (i : ImageOf (List ℕ)) (expression : List ℕ) (sets : Bool) (s : Status) (sent : List ℕ) : Type 0 where
  NoStart : (f : Fault) → HasFirstFault Second DoIt expression f → s ≡ status.ScriptText → sent ≡ expression_refusal f → StripsIn i expression sets s sent
  Stripped : (j : ImageOf (List ℕ)) → IsWithDoIt expression i j → s ≡ status.Done → sent ≡ stripped_text sets (reach text_words j) i → StripsIn i expression sets s sent

-- `strip` answers this text and this expression
pub data Strips (text expression : List ℕ) (sets : Bool) (s : Status) (sent : List ℕ) : Type 0 where
  NoImageToStrip : (r : Refusal) → HasRefusal Second prelude_text text r → s ≡ status.ImageText → sent ≡ image_refusal r → Strips text expression sets s sent
  StripsImage : (i : ImageOf (List ℕ)) → IsImageOf Second prelude_text text i → StripsIn i expression sets s sent → Strips text expression sets s sent

-- the text is read as an image, of which the rest is said; or its first chunk that is refused is told
pub data OfImage (text : List ℕ) (s : Status) (sent : List ℕ) (P : ImageOf (List ℕ) → Type 0) : Type 0 where
  Unread : (r : Refusal) → HasRefusal Second prelude_text text r → s ≡ status.ImageText → sent ≡ image_refusal r → OfImage text s sent P
  Read : (i : ImageOf (List ℕ)) → IsImageOf Second prelude_text text i → P i → OfImage text s sent P

-- `search` answers this image and this pattern with the status and the bytes: a line for each node that the pattern matches
pub data SearchesIn (i : ImageOf (List ℕ)) (pattern : List ℕ) (s : Status) (sent : List ℕ) : Type 0 where
  NoPattern : (c : Cause) → IsRefusedPattern pattern c → s ≡ status.ScriptText → sent ≡ text_refusal (codes "pattern") c → SearchesIn i pattern s sent
  Matched : (p : PatternOf (List ℕ)) → SaysPattern pattern p → AreLines i (matches p i) sent → s ≡ status.Done → SearchesIn i pattern s sent

-- `rewrite` answers this image and this rule with the status and the bytes: the file of the image in which the rule is applied
pub data RewritesIn (i : ImageOf (List ℕ)) (pattern replacement : List ℕ) (s : Status) (sent : List ℕ) : Type 0 where
  NoRule : (c : Cause) → IsRefusedPattern pattern c → s ≡ status.ScriptText → sent ≡ text_refusal (codes "pattern") c → RewritesIn i pattern replacement s sent
  NoReplacement : (p : PatternOf (List ℕ)) (c : Cause) → SaysPattern pattern p → IsRefusedReplacement p replacement c → s ≡ status.ScriptText → sent ≡ text_refusal (codes "replacement") c → RewritesIn i pattern replacement s sent
  Rewritten : (r : RuleOf (List ℕ)) → SaysRule pattern replacement r → s ≡ status.Done → sent ≡ written.file_of (rewritten_image r i) → RewritesIn i pattern replacement s sent

-- the last line that is printed of a run of `demo`, which has 1,000,000 ticks
abbrev pub demo_ticks : ℕ
demo_ticks = 1000000

abbrev pub last_line : ImageOf (List ℕ) → List ℕ
last_line i = run_text demo_ticks [] (run i demo_ticks).outcome

-- the lines of `demo`: how many classes, methods and commands there are, and the last lines of the runs before and after
abbrev pub summary : (classes commands : ℕ) → ImageOf (List ℕ) → ImageOf (List ℕ) → List ℕ
summary classes commands before after =
    line (codes "classes " ++ decimal classes) ++ line (codes "methods " ++ decimal classes) ++ line (codes "commands " ++ decimal commands)
    ++ (codes "before " ++ last_line before) ++ (codes "after " ++ last_line after)

-- the script of `demo` changes this image, and what is printed tells how it was run before and is run after; or it is answered as `apply` answers it
pub data ChangesIn (classes : ℕ) (i : ImageOf (List ℕ)) (s : Status) (sent : List ℕ) : Type 0 where
  Unchanged : (v : applied.Status) → v ≢ verdict.Done → model.AppliesIn i (script_text classes) v sent → s ≡ status_applied v → ChangesIn classes i s sent
  Changed : (requests : List Line) (h : History) → Says (script_text classes) requests → ruled_verdict i requests ≡ Ok h → s ≡ status.Done → sent ≡ summary classes (length requests) i h.now.image → ChangesIn classes i s sent

-- `demo` answers its image of so many classes with the status and the bytes: the image has the expression as its last do-it
pub data DemosIn (classes : ℕ) (i : ImageOf (List ℕ)) (s : Status) (sent : List ℕ) : Type 0 where
  NoExpression : (f : Fault) → HasFirstFault Second DoIt (expression_text classes) f → s ≡ status.ScriptText → sent ≡ expression_refusal f → DemosIn classes i s sent
  Shown : (j : ImageOf (List ℕ)) → IsWithDoIt (expression_text classes) i j → ChangesIn classes j s sent → DemosIn classes i s sent

-- the form is answered with the status and the bytes
abbrev pub AnswersForm : World → Form → Status → List ℕ → Type 0
AnswersForm w (Apply image script) s sent = Loads w image image_limit s sent (λ i. Loads w script script_limit s sent (λ c. Applies i c s sent))
AnswersForm w (Changes image script) s sent = Loads w image image_limit s sent (λ i. Loads w script script_limit s sent (λ c. WritesChanges i c s sent))
AnswersForm w (Why image script) s sent = Loads w image image_limit s sent (λ i. Loads w script script_limit s sent (λ c. Explains i c s sent))
AnswersForm w (Team image log) s sent = Loads w image image_limit s sent (λ i. Loads w log script_limit s sent (λ l. PlaysLog i l s sent))
AnswersForm w (Import file) s sent = Loads w file image_limit s sent (λ t. Imports t s sent)
AnswersForm w (Format image) s sent = Loads w image image_limit s sent (λ i. Formats i s sent)
AnswersForm w (Run image expression budget) s sent = Loads w image image_limit s sent (λ i. Runs i expression budget s sent)
AnswersForm w (Find image question) s sent = Loads w image image_limit s sent (λ i. Finds i question s sent)
AnswersForm w (Strip image expression sets) s sent = Loads w image image_limit s sent (λ i. Strips i expression sets s sent)
AnswersForm w (Search image pattern) s sent = Loads w image image_limit s sent (λ t. OfImage t s sent (λ i. SearchesIn i pattern s sent))
AnswersForm w (Rewrite image pattern replacement) s sent = Loads w image image_limit s sent (λ t. OfImage t s sent (λ i. RewritesIn i pattern replacement s sent))
AnswersForm w (Demo number) s sent = OfImage (image_text number) s sent (λ i. DemosIn number i s sent)
AnswersForm w Help s sent = (s ≡ status.Done) × (sent ≡ help)
AnswersForm w Version s sent = (s ≡ status.Done) × (sent ≡ version)
AnswersForm w NoForm s sent = (s ≡ status.Usage) × (sent ≡ usage)

-- the words are answered with the status and the bytes
abbrev pub Answers : World → List (List ℕ) → Status → List ℕ → Type 0
Answers w words s sent = AnswersForm w (form_of words) s sent
