-- What a script asks for is well spelled, and lawful where it moves no code.
use Rattle.std.proofs.Common.{◌≡◌, ◌≢◌, ℕ, zero, suc, ◌+◌, ◌&&◌, Bool, true, false, not, if◌then◌else◌, List, [], ◌∷◌, length, take, drop, find, Option, Some, None, Result, Ok, Err, refl, sym, ap, subst, ◌∙◌}
use Rattle.std.specs.Prelude.{◌==◌, cond}
use Rattle.std.specs.List.{AllByRecursion}
use Rattle.std.specs.Option.{option_map, option_map_or, option_and_then}
use Rattle.rb_base.specs.Names.{text_eq}
use Rattle.chunk_format.specs.Blank.{is_blank, blank_len, drop_blanks, HasNoLeadingBlank}
use Rattle.chunk_format.proofs.Blanks.{drop_blanks-cons}
use Rattle.token_model.specs.declared.kind.Dialect.TheVariants.{Second}
use Rattle.tree_model.specs.Tree.{LiteralOf}
use Rattle.grammar_model.specs.Spanned.{SpannedSequence}
use Rattle.grammar_model.specs.Spelling.{SpellsDoItAt}
use Rattle.text_model.specs.Literals.{is_identifier}
use Rattle.image_model.specs.ImageNames.{OptionNames}
use Rattle.image_model.proofs.Lists.{find-all}
use Rattle.history_model.specs.Rules.{Perform, Undo, Redo, Asks}
use Rattle.file_model.specs.Fileable.{MayStand}
use Rattle.kept_runs.specs.WellSpelled.{IsWellSpelledAction}
use Rattle.command_model.specs.Commands.{AddMethod, AddParameter}
use Rattle.session_model.specs.Scripts.{Request}
use Rattle.rewrite_model.specs.Saying.{SaysRule}
use Rattle.rule_model.specs.RuleCommands.{RuleCommand}
use Rattle.rule_model.specs.RuleLines.{RuleLineSays, Asks as AsksRule, AsksNot}
use Rattle.rule_laws.specs.KeptRules.{IsSpelledRule}
use Rattle.ruled_model.specs.RuledScripts.{Line, Applies, as_line}
use Rattle.ruled_laws.specs.SpelledRequests.{IsSpelledAsked}
use Rattle.script_model.specs.Lines.{words_of, lines_of, spoken}
use Rattle.script_model.specs.Arguments.{Argument, name, side, number, side_of, arguments_of}
use Rattle.script_model.specs.Makers.{Text, Maker, single, of_none, of_one, of_two, of_three, names_in, of_classes, of_parameter, of_method, of_local, of_local_to, of_part, of_part_to}
use Rattle.script_model.specs.Commands.{Row, Cause, BadArgument, UnknownCommand, table, said_by_row, said_by}
use Rattle.script_model.specs.Additions.{first_word, behind_word, Addition, addition, addition_of, Spelled, Incomplete, Faulty}
use Rattle.script_model.specs.Parameters.{Parameter, literal_in, passing, Read, Wordless, Unreadable}
use Rattle.script_model.specs.Scripts.{CommandSays, InWords, InText, InLiteral, command_answer, rule_answer, LineSays, OfCommand, OfRule, EachSays, Says}
use Rattle.apply_laws.proofs.SpelledLiterals.{literal-spelled}

-- a request whose commands are well spelled
abbrev IsFit : Request → Type 0
IsFit r = Asks IsWellSpelledAction r

abbrev MakesFit : Maker → Type 0
MakesFit m = (arguments : List Argument) (r : Request) → m arguments ≡ Some r → IsFit r

two : (f : Text → Text → Request) → ((c x : Text) → IsFit (f c x)) → MakesFit (of_two f)
two f h (name c ∷ name x ∷ []) r e = let same : f c x ≡ r = cc in subst IsFit same (h c x)
two f h arguments r e = absurd (cc)

three : (f : Text → Text → Text → Request) → ((c x y : Text) → IsFit (f c x y)) → MakesFit (of_three f)
three f h (name c ∷ name x ∷ name y ∷ []) r e = let same : f c x y ≡ r = cc in subst IsFit same (h c x y)
three f h arguments r e = absurd (cc)

one : (f : Text → Request) → ((c : Text) → IsFit (f c)) → MakesFit (of_one f)
one f h (name c ∷ []) r e = let same : f c ≡ r = cc in subst IsFit same (h c)
one f h arguments r e = absurd (cc)

none : (q : Request) → IsFit q → MakesFit (of_none q)
none q h [] r e = let same : q ≡ r = cc in subst IsFit same h
none q h (x ∷ xs) r e = absurd (cc)

classes : (f : Text → Text → List Text → Request) → ((d p : Text) (under : List Text) → IsFit (f d p under)) → MakesFit (of_classes f)
classes f h (name d ∷ name p ∷ rest) r e = by (names_in rest) e
  where
    by : (o : Option (List Text)) → option_map (f d p) o ≡ Some r → IsFit r
    by None made = absurd (cc)
    by (Some under) made = let same : f d p under ≡ r = cc in subst IsFit same (h d p under)
classes f h arguments r e = absurd (cc)

parameter : (f : Text → ℕ → Text → Request) → ((s : Text) (k : ℕ) (t : Text) → IsFit (f s k t)) → MakesFit (of_parameter f)
parameter f h (name s ∷ number k ∷ name t ∷ []) r e = let same : f s k t ≡ r = cc in subst IsFit same (h s k t)
parameter f h arguments r e = absurd (cc)

local : (f : Text → Bool → Text → Text → Request) → ((c : Text) (meta : Bool) (s x : Text) → IsFit (f c meta s x)) → MakesFit (of_local f)
local f h (name c ∷ side meta ∷ name s ∷ name x ∷ []) r e = let same : f c meta s x ≡ r = cc in subst IsFit same (h c meta s x)
local f h arguments r e = absurd (cc)

local_to : (f : Text → Bool → Text → Text → Text → Request) → ((c : Text) (meta : Bool) (s x y : Text) → IsFit (f c meta s x y)) → MakesFit (of_local_to f)
local_to f h (name c ∷ side meta ∷ name s ∷ name x ∷ name y ∷ []) r e = let same : f c meta s x y ≡ r = cc in subst IsFit same (h c meta s x y)
local_to f h arguments r e = absurd (cc)

part : (f : Text → Bool → Text → ℕ → ℕ → Request) → ((c : Text) (meta : Bool) (s : Text) (from to : ℕ) → IsFit (f c meta s from to)) → MakesFit (of_part f)
part f h (name c ∷ side meta ∷ name s ∷ number from ∷ number to ∷ []) r e = let same : f c meta s from to ≡ r = cc in subst IsFit same (h c meta s from to)
part f h arguments r e = absurd (cc)

part_to : (f : Text → Bool → Text → ℕ → ℕ → Text → Request) → ((c : Text) (meta : Bool) (s : Text) (from to : ℕ) (t : Text) → IsFit (f c meta s from to t)) → MakesFit (of_part_to f)
part_to f h (name c ∷ side meta ∷ name s ∷ number from ∷ number to ∷ name t ∷ []) r e = let same : f c meta s from to t ≡ r = cc in subst IsFit same (h c meta s from to t)
part_to f h arguments r e = absurd (cc)

method : (f : Text → Bool → Text → Request) → ((c : Text) (meta : Bool) (s : Text) → IsFit (f c meta s)) → MakesFit (of_method f)
method f h (name c ∷ side meta ∷ name s ∷ []) r e = let same : f c meta s ≡ r = cc in subst IsFit same (h c meta s)
method f h arguments r e = absurd (cc)

-- rows whose commands are all such requests, in two parts of a list
abbrev Fits : List Row → Type 0
Fits rows = AllByRecursion (λ (x : Row). MakesFit x.makes) rows

joined : (n : ℕ) (rows : List Row) → Fits (take n rows) → Fits (drop n rows) → Fits rows
joined zero rows first rest = rest
joined (suc n) [] first rest = tt
joined (suc n) (r ∷ rs) first rest = (first.0, joined n rs first.1 rest)

-- the commands of classes, of the variables of each kind, of selectors and methods, those that move code, and the other ones
classes-fit : Fits (take 3 table)
classes-fit = (classes _ (λ d p under. (tt, tt, tt)), (two _ (λ c x. (tt, tt, tt)), (one _ (λ c. (tt, tt, tt)), tt)))

instance-fit : Fits (take 5 (drop 3 table))
instance-fit = (two _ (λ c x. (tt, tt, tt)), (three _ (λ c x y. (tt, tt, tt)), (two _ (λ c x. (tt, tt, tt)), (two _ (λ c x. (tt, tt, tt)), (two _ (λ c x. (tt, tt, tt)), tt)))))

shared-fit : Fits (take 5 (drop 8 table))
shared-fit = (two _ (λ c x. (tt, tt, tt)), (three _ (λ c x y. (tt, tt, tt)), (two _ (λ c x. (tt, tt, tt)), (two _ (λ c x. (tt, tt, tt)), (three _ (λ c x y. (tt, tt, tt)), tt)))))

class_side-fit : Fits (take 3 (drop 13 table))
class_side-fit = (two _ (λ c x. (tt, tt, tt)), (three _ (λ c x y. (tt, tt, tt)), (two _ (λ c x. (tt, tt, tt)), tt)))

methods-fit : Fits (take 6 (drop 16 table))
methods-fit = (
  two _ (λ c x. (tt, tt, tt)),
  (
    method _ (λ c meta s. (tt, tt, tt)),
    (method _ (λ c meta s. (tt, tt, tt)), (method _ (λ c meta s. (tt, tt, tt)), (parameter _ (λ s k t. (tt, tt, tt)), (local_to _ (λ c meta s x y. (tt, tt, tt)), tt)))),
  ),
)

code-fit : Fits (take 5 (drop 22 table))
code-fit = (
  two _ (λ c x. (tt, tt, record { selector = refl; parameter_is = refl })),
  (
    part_to _ (λ c meta s from to t. (tt, tt, tt)),
    (part _ (λ c meta s from to. (tt, tt, tt)), (part_to _ (λ c meta s from to x. (tt, tt, tt)), (local _ (λ c meta s x. (tt, tt, tt)), tt))),
  ),
)

others-fit : Fits (drop 27 table)
others-fit = (two _ (λ c x. record { selector = refl; parameter_is = refl }), (classes _ (λ d p under. tt), (two _ (λ c x. tt), (none _ tt, (none _ tt, tt)))))

-- all commands that are performed
all-fit : Fits table
all-fit =
    joined 3 table classes-fit
    (joined 5 (drop 3 table) instance-fit (joined 5 (drop 8 table) shared-fit (joined 3 (drop 13 table) class_side-fit (joined 6 (drop 16 table) methods-fit (joined 5 (drop 22 table) code-fit others-fit)))))

-- what the arguments of a row make
abbrev as-said : Option Request → Result Request Cause
as-said o = option_map_or (λ q. Ok q) o (Err BadArgument)

made-fit : (m : Maker) → MakesFit m → (o : Option (List Argument)) (r : Request) → as-said (option_and_then m o) ≡ Ok r → IsFit r
made-fit m h None r e = absurd (cc)
made-fit m h (Some arguments) r e = by (m arguments) refl e
  where
    by : (o : Option Request) → m arguments ≡ o → as-said o ≡ Ok r → IsFit r
    by None made said = absurd (cc)
    by (Some q) made said = let same : q ≡ r = cc in h arguments r (made ∙ ap Some same)

-- what a row asks for
found-fit : (ws : List Text) (o : Option Row) (r : Request) → OptionNames (λ (x : Row). MakesFit x.makes) o →
    option_map_or (said_by_row ws) o (Err UnknownCommand) ≡ Ok r → IsFit r
found-fit ws None r h e = absurd (cc)
found-fit ws (Some x) r h e = made-fit x.makes h (arguments_of x.form ws) r e

-- what words ask for
words-fit : (words : List Text) (r : Request) → said_by words ≡ Ok r → IsFit r
words-fit [] r e = absurd (cc)
words-fit (w ∷ ws) r e =
    found-fit ws (find (λ (x : Row). text_eq w x.word) table) r
    (find-all (λ (x : Row). MakesFit x.makes) (λ (x : Row). text_eq w x.word) table all-fit) e

-- the text of an addition is there, and begins with no blank
no-blank : (s : Text) → HasNoLeadingBlank (drop_blanks s)
no-blank [] = refl
no-blank (b ∷ s) = by (is_blank b) refl (no-blank s)
  where
    by : (t : Bool) → is_blank b ≡ t → HasNoLeadingBlank (drop_blanks s) → HasNoLeadingBlank (drop_blanks (b ∷ s))
    by true e rest = ap blank_len (drop_blanks-cons b s ∙ ap (λ (t : Bool). if t then drop_blanks s else b ∷ s) e) ∙ rest
    by false e rest = ap blank_len (drop_blanks-cons b s ∙ ap (λ (t : Bool). if t then drop_blanks s else b ∷ s) e) ∙ ap (λ (t : Bool). cond t (1 + blank_len s) 0) e

addition-text : (c : Text) (o : Option Bool) (p s : Text) (a : Addition) → addition c o p s ≡ Some a → (a.text ≡ s) × (s ≢ [])
addition-text c None p s a e = absurd (cc)
addition-text c (Some meta) p [] a e = absurd (nothing (is_identifier c) (not (length p == 0)) e)
  where
    nothing : (x y : Bool) → (if (x && (y && false)) then Some (record { class = c; meta = meta; protocol = p; text = [] }) else None) ≡ Some a → ⊥
    nothing true true some = absurd (cc)
    nothing true false some = absurd (cc)
    nothing false y some = absurd (cc)
addition-text c (Some meta) p (b ∷ s) a e = by (is_identifier c) (not (length p == 0)) (not (length (b ∷ s) == 0)) e
  where
    by : (x y z : Bool) → (if (x && (y && z)) then Some (record { class = c; meta = meta; protocol = p; text = b ∷ s }) else None) ≡ Some a → (a.text ≡ b ∷ s) × (b ∷ s ≢ [])
    by true true true some = let same : record { class = c; meta = meta; protocol = p; text = b ∷ s } ≡ a = cc in (ap (λ (x : Addition). x.text) (sym same), λ none. absurd (cc))
    by true true false some = absurd (cc)
    by true false z some = absurd (cc)
    by false y z some = absurd (cc)

may-stand : (t : Text) (a : Addition) → addition_of t ≡ Some a → MayStand a.text
may-stand t a e =
    let side = behind_word t in
    let protocol = behind_word side in
    let text = drop_blanks (behind_word protocol) in
    let is = addition-text (first_word t) (side_of (first_word side)) (first_word protocol) text a e in
    record { some = λ none. is.1 (sym is.0 ∙ none); no_blank = ap blank_len is.0 ∙ no-blank (behind_word protocol) }

-- what a parameter with a literal asks for
parameter-fit : (p : Parameter) (tree : SpannedSequence) (r : Request) → SpellsDoItAt Second p.passed tree → (o : Option (LiteralOf Text)) → literal_in p.passed tree ≡ o → passing p o ≡ Ok r → IsFit r
parameter-fit p tree r spells None is e = absurd (cc)
parameter-fit p tree r spells (Some l) is e =
    let same : single (AddParameter p.selector p.to p.name l) ≡ r = cc in
    subst IsFit same (literal-spelled p.passed tree l spells is, tt, tt)

-- what a line of a command asks for
command-fit : (line : Text) (r : Request) → CommandSays line (Ok r) → IsFit r
command-fit line r (InWords plain too answer) = words-fit (words_of line) r (sym answer)
command-fit line r (InText adds (Spelled a tree is spells answer)) =
    let same : single (AddMethod a.class a.meta a.protocol a.text tree) ≡ r = cc in
    subst IsFit same (spells, may-stand (behind_word line) a is, tt)
command-fit line r (InText adds (Incomplete none answer)) = absurd (cc)
command-fit line r (InText adds (Faulty a fault is wrong answer)) = absurd (cc)
command-fit line r (InLiteral adds (Read p tree is spells answer)) = parameter-fit p tree r spells (literal_in p.passed tree) refl (sym answer)
command-fit line r (InLiteral adds (Wordless none answer)) = absurd (cc)
command-fit line r (InLiteral adds (Unreadable p fault is wrong answer)) = absurd (cc)

-- what a line asks for, rules among it
abbrev IsSpelled : Line → Type 0
IsSpelled asked = Asks IsSpelledAsked asked

as-line : (r : Request) → IsFit r → IsSpelled (as_line r)
as-line (Perform x) fit = fit
as-line Undo fit = tt
as-line Redo fit = tt

command-spelled : (line : Text) (said : Result Request Cause) (asked : Line) → CommandSays line said → command_answer said ≡ Ok asked → IsSpelled asked
command-spelled line (Ok r) asked says e = let same : as_line r ≡ asked = cc in subst IsSpelled same (as-line r (command-fit line r says))
command-spelled line (Err cause) asked says e = absurd (cc)

module _ (said-rule : (first second : Text) (c : RuleCommand) → SaysRule first second c.rule → IsSpelledRule c) where
  rule-spelled : (t : Text) (said : Result RuleCommand (Unit {0})) (asked : Line) → RuleLineSays t said → rule_answer said ≡ Ok asked → IsSpelled asked
  rule-spelled t said asked (AsksRule c asks) e = let same : Perform (Applies c) ≡ asked = cc in subst IsSpelled same (said-rule asks.first asks.second c asks.rule)
  rule-spelled t said asked (AsksNot none) e = absurd (cc)

  line-spelled : (line : Text) (asked : Line) → LineSays line (Ok asked) → IsSpelled asked
  line-spelled line asked (OfCommand said plain says answer) = command-spelled line said asked says (sym answer)
  line-spelled line asked (OfRule said applies says answer) = rule-spelled (behind_word line) said asked says (sym answer)

  -- what lines ask for
  lines-spelled : (lines : List Text) (requests : List Line) → EachSays lines requests → AllByRecursion IsSpelled requests
  lines-spelled [] [] each = tt
  lines-spelled [] (r ∷ rs) each = absurd each
  lines-spelled (l ∷ ls) [] each = absurd each
  lines-spelled (l ∷ ls) (r ∷ rs) each = (line-spelled l r each.0, lines-spelled ls rs each.1)

  -- what a script asks for, whatever its commands are
  pub requests-spelled : (script : Text) (requests : List Line) → Says script requests → AllByRecursion (Asks IsSpelledAsked) requests
  requests-spelled script requests says = lines-spelled (spoken (lines_of script)) requests says.each
