-- Texts that stand for marks, in a table.
use Rattle.std.specs.Prelude.{◌≡◌, if◌then◌else◌, false, List, [], ◌∷◌, None}
use Rattle.std.specs.List.{AllByRecursion}
use Rattle.rb_base.specs.Names.{text_eq}
use Rattle.scope_model.specs.declared.local.ControlForm.TheVariants.{NoControl}
use Rattle.scope_model.specs.SpecialNames.{is_pseudo_variable, control_form}
use Rattle.text_model.specs.Literals.{is_identifier}
use Rattle.pattern_model.specs.Words.{text_keywords}
use Rattle.certified_model.specs.Marks.{Text, Mark, plain, is_unary_mark}

-- the mark of a text; a text that is not in the table stands for itself
abbrev pub mark_in : List (Text × Mark) → Text → Mark
mark_in [] t = plain t
mark_in (m ∷ ms) t = if text_eq m.0 t then m.1 else mark_in ms t

-- a text that may stand for a mark other than a name: what patterns ask of it is answered as of the mark
pub record MayStandFor (m : Text × Mark) : Type 0 where
  pub no_name : (n : Text) → m.1 ≡ plain n → ⊥
  pub is_pseudo : is_pseudo_variable m.0 ≡ false
  pub form : control_form m.0 ≡ NoControl
  pub is_unary : is_identifier m.0 ≡ is_unary_mark m.1
  pub keywords : text_keywords m.0 ≡ None

-- two have neither the same text nor the same mark
pub record AreApart (m n : Text × Mark) : Type 0 where
  pub texts : m.0 ≡ n.0 → ⊥
  pub marks : m.1 ≡ n.1 → ⊥

-- a table of such texts, in which no text and no mark stands twice
abbrev pub AreMarks : List (Text × Mark) → Type 0
AreMarks [] = Unit {0}
AreMarks (m ∷ ms) = MayStandFor m × AllByRecursion (AreApart m) ms × AreMarks ms
