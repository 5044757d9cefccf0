-- What stands behind the word of the command: the steps of a certificate, and then a pattern and a replacement, to the end of the line.
use Rattle.std.specs.Prelude.{◌≡◌, ℕ, ◌<◌, ◌++◌, take, drop, length, codes, Result, Ok, Err}
use Rattle.std.specs.List.{prefix_len}
use Rattle.std.specs.Prelude.{not}
use Rattle.chunk_format.specs.Blank.{is_blank, drop_blanks}
use Rattle.pattern_model.specs.Patterns.{PatternOf}
use Rattle.certified_model.specs.Marks.{Text}
use Rattle.rewrite_model.specs.Saying.{SaysPattern, Cause, IsRefusedPattern, SaysRule, IsRefusedReplacement}
use Rattle.certificate_model.specs.CertificateTexts.{SaysCertificate, HasBadStep}
use Rattle.rule_model.specs.RuleCommands.{RuleCommand}

-- what stands between the two texts of a rule
abbrev pub arrow : Text
arrow = codes " ==> "

-- the first word of a text, and what stands behind it
abbrev pub word_length : Text → ℕ
word_length t = prefix_len (λ byte. not (is_blank byte)) t

abbrev pub steps_of : Text → Text
steps_of t = take (word_length (drop_blanks t)) (drop_blanks t)

abbrev pub texts_of : Text → Text
texts_of t = drop (word_length (drop_blanks t)) (drop_blanks t)

-- an arrow stands in a text at a place
abbrev pub HasArrowAt : Text → ℕ → Type 0
HasArrowAt t k = (rest : Text) × (drop k t ≡ arrow ++ rest)

-- a text is cut at its first arrow
pub record IsCut (t first second : Text) : Type 0 where
  pub parts : t ≡ first ++ (arrow ++ second)
  pub earliest : (k : ℕ) → k < length first → ¬ HasArrowAt t k

-- what the text behind the command's word asks for: a rule and its certificate
pub record AsksForRule (t : Text) (c : RuleCommand) : Type 0 where
  pub first : Text
  pub second : Text
  pub certificate : SaysCertificate (steps_of t) c.certificate
  pub cut : IsCut (texts_of t) first second
  pub rule : SaysRule first second c.rule

-- why it asks for none: the steps are no certificate, no arrow stands behind them, or one of the texts of the rule has a fault
pub data AsksForNone (t : Text) : Type 0 where
  BadSteps : (at : ℕ) → HasBadStep (steps_of t) at → AsksForNone t
  NoArrow : ((k : ℕ) → ¬ HasArrowAt (texts_of t) k) → AsksForNone t
  BadPattern : (first second : Text) (cause : Cause) → IsCut (texts_of t) first second → IsRefusedPattern first cause → AsksForNone t
  BadReplacement : (first second : Text) (p : PatternOf Text) (cause : Cause) → IsCut (texts_of t) first second → SaysPattern first p → IsRefusedReplacement p second cause → AsksForNone t

-- what it asks for, or nothing: a wrong argument
pub data RuleLineSays (t : Text) : Result RuleCommand (Unit {0}) → Type 0 where
  Asks : (c : RuleCommand) → AsksForRule t c → RuleLineSays t (Ok c)
  AsksNot : AsksForNone t → RuleLineSays t (Err tt)
