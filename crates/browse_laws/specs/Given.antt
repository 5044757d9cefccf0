-- The words of calls, and the bytes of their files.
use Rattle.std.specs.Prelude.{ℕ, List, [], ◌∷◌, codes}
use Rattle.rb_base.specs.Outside.{MayGive}
use Rattle.image_forms.specs.Loads.{World}
use Rattle.image_forms.specs.Answers.{image_limit, script_limit}

-- `apply IMAGE SCRIPT`
abbrev pub apply_words : List ℕ → List ℕ → List (List ℕ)
apply_words image script = codes "apply" ∷ image ∷ script ∷ []

-- `changes IMAGE SCRIPT`
abbrev pub changes_words : List ℕ → List ℕ → List (List ℕ)
changes_words image script = codes "changes" ∷ image ∷ script ∷ []

-- `why IMAGE SCRIPT`
abbrev pub why_words : List ℕ → List ℕ → List (List ℕ)
why_words image script = codes "why" ∷ image ∷ script ∷ []

-- `team IMAGE LOG`
abbrev pub team_words : List ℕ → List ℕ → List (List ℕ)
team_words image log = codes "team" ∷ image ∷ log ∷ []

-- `strip IMAGE EXPRESSION`
abbrev pub strip_words : List ℕ → List ℕ → List (List ℕ)
strip_words image expression = codes "strip" ∷ image ∷ expression ∷ []

-- `format IMAGE`
abbrev pub format_words : List ℕ → List (List ℕ)
format_words image = codes "format" ∷ image ∷ []

-- `import FILE`
abbrev pub import_words : List ℕ → List (List ℕ)
import_words file = codes "import" ∷ file ∷ []

-- the outside gives these bytes of the two files, each within its limit, and the fact holds of them
pub record AreGiven (w : World) (image script : List ℕ) (Fact : List ℕ → List ℕ → Type 0) : Type 0 where
  pub text : List ℕ
  pub given : MayGive (w.told image) image_limit text
  pub commands : List ℕ
  pub commands_given : MayGive (w.told script) script_limit commands
  pub fact : Fact text commands

-- the outside gives these bytes of a file-out, within its limit, and the fact holds of them
pub record IsGiven (w : World) (image : List ℕ) (Fact : List ℕ → Type 0) : Type 0 where
  pub text : List ℕ
  pub given : MayGive (w.told image) image_limit text
  pub fact : Fact text
