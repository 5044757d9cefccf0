-- The forms of a command line's words.
use Rattle.std.specs.Prelude.{ℕ, Bool, true, false, List, [], ◌∷◌, codes, if◌then◌else◌}
use Rattle.std.specs.Option.{option_map_or}
use Rattle.std.specs.Str.{bytes_eq}
use Rattle.query_model.specs.Queries.{QueryOf}
use Rattle.command_words.specs.Spelling.{number_of}
use Rattle.command_words.specs.Questions.{question_of, asks}
use Rattle.command_words.specs.declared.words.Words.{Words}
use Rattle.command_words.specs.declared.words.Words.TheVariants as words

-- What the words say.
pub data Form : Type 0 where
  -- `apply IMAGE SCRIPT`
  Apply : List ℕ → List ℕ → Form
  -- `changes IMAGE SCRIPT`
  Changes : List ℕ → List ℕ → Form
  -- `why IMAGE SCRIPT`
  Why : List ℕ → List ℕ → Form
  -- `team IMAGE LOG`
  Team : List ℕ → List ℕ → Form
  -- `import FILE`
  Import : List ℕ → Form
  -- `format IMAGE`
  Format : List ℕ → Form
  -- `run IMAGE EXPRESSION` and `run IMAGE EXPRESSION BUDGET`, with the number of ticks
  Run : List ℕ → List ℕ → ℕ → Form
  -- `find IMAGE KIND NAME`, with what is asked
  Find : List ℕ → QueryOf (List ℕ) → Form
  -- `strip IMAGE EXPRESSION`, and `strip IMAGE EXPRESSION sets` with true
  Strip : List ℕ → List ℕ → Bool → Form
  -- `search IMAGE PATTERN`
  Search : List ℕ → List ℕ → Form
  -- `rewrite IMAGE PATTERN REPLACEMENT`
  Rewrite : List ℕ → List ℕ → List ℕ → Form
  -- `demo NUMBER`, with the number of classes
  Demo : ℕ → Form
  -- `--help`
  Help : Form
  -- `--version`
  Version : Form
  -- words in no form
  NoForm : Form

-- `--help` and `--version`
abbrev pub form_of_one : List ℕ → Form
form_of_one word =
    if bytes_eq word (codes "--help") then Help else
    (if bytes_eq word (codes "--version") then Version else NoForm)

-- `format IMAGE`, `import FILE`, and `demo NUMBER` with a number from 1 to 2,000
abbrev pub form_of_two : List ℕ → List ℕ → Form
form_of_two command word =
    if bytes_eq command (codes "format") then Format word else
    (if bytes_eq command (codes "import") then Import word else
    (if bytes_eq command (codes "demo") then option_map_or Demo (number_of 2000 word) NoForm else NoForm))

-- `apply IMAGE SCRIPT`, `changes IMAGE SCRIPT`, `why IMAGE SCRIPT`, `team IMAGE LOG`, `run IMAGE EXPRESSION` with 1,000,000 ticks, `strip IMAGE EXPRESSION`, `search IMAGE PATTERN`, and the forms above
abbrev pub form_of_three : List ℕ → List ℕ → List ℕ → Form
form_of_three command image word =
    if bytes_eq command (codes "apply") then Apply image word else
    (if bytes_eq command (codes "changes") then Changes image word else
    (if bytes_eq command (codes "why") then Why image word else
    (if bytes_eq command (codes "team") then Team image word else
    (if bytes_eq command (codes "run") then Run image word 1000000 else
    (if bytes_eq command (codes "strip") then Strip image word false else
    (if bytes_eq command (codes "search") then Search image word else NoForm))))))

-- `run IMAGE EXPRESSION BUDGET` with a budget from 1 to 10,000,000
abbrev pub run_of : List ℕ → List ℕ → List ℕ → Form
run_of image expression budget = option_map_or (Run image expression) (number_of 10000000 budget) NoForm

-- `find IMAGE KIND NAME` with a name that is spelled as the kind wants it
abbrev pub find_of : List ℕ → List ℕ → List ℕ → Form
find_of image kind name = option_map_or (Find image) (question_of kind name) NoForm

-- `strip IMAGE EXPRESSION sets`
abbrev pub strip_of : List ℕ → List ℕ → List ℕ → Form
strip_of image expression last = if bytes_eq last (codes "sets") then Strip image expression true else NoForm

-- `rewrite IMAGE PATTERN REPLACEMENT`, and the forms of four words above
abbrev pub form_of_four : List ℕ → List ℕ → List ℕ → List ℕ → Form
form_of_four command image word last =
    if bytes_eq command (codes "run") then run_of image word last else
    (if bytes_eq command (codes "find") then find_of image word last else
    (if bytes_eq command (codes "strip") then strip_of image word last else
    (if bytes_eq command (codes "rewrite") then Rewrite image word last else NoForm)))

abbrev pub form_of : List (List ℕ) → Form
form_of (word ∷ []) = form_of_one word
form_of (command ∷ word ∷ []) = form_of_two command word
form_of (command ∷ image ∷ word ∷ []) = form_of_three command image word
form_of (command ∷ image ∷ word ∷ last ∷ []) = form_of_four command image word last
form_of words = NoForm

-- the files that a form names, in the order in which they are asked for
abbrev pub files_of : Form → List (List ℕ)
files_of (Apply image script) = image ∷ script ∷ []
files_of (Changes image script) = image ∷ script ∷ []
files_of (Why image script) = image ∷ script ∷ []
files_of (Team image log) = image ∷ log ∷ []
files_of (Import file) = file ∷ []
files_of (Format image) = image ∷ []
files_of (Run image expression budget) = image ∷ []
files_of (Find image question) = image ∷ []
files_of (Strip image expression sets) = image ∷ []
files_of (Search image pattern) = image ∷ []
files_of (Rewrite image pattern replacement) = image ∷ []
files_of (Demo number) = []
files_of Help = []
files_of Version = []
files_of NoForm = []

-- the form that the program sees
abbrev pub shows : Words → Form
shows (words.Apply image script) = Apply image.now script.now
shows (words.Changes image script) = Changes image.now script.now
shows (words.Why image script) = Why image.now script.now
shows (words.Team image log) = Team image.now log.now
shows (words.Import file) = Import file.now
shows (words.Format image) = Format image.now
shows (words.Run image expression budget) = Run image.now expression.now budget
shows (words.Find image question) = Find image.now (asks question)
shows (words.Strip image expression sets) = Strip image.now expression.now sets
shows (words.Search image pattern) = Search image.now pattern.now
shows (words.Rewrite image pattern replacement) = Rewrite image.now pattern.now replacement.now
shows (words.Demo number) = Demo number
shows words.Help = Help
shows words.Version = Version
shows words.NoForm = NoForm
