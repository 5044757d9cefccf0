-- Steps on trees over numbers, by the marks that the numbers stand for.
use Rattle.std.specs.Prelude.{◌≡◌, ℕ, ◌<◌, ◌-◌, nat_lt, if◌then◌else◌, Bool, true, false, List, [], ◌∷◌, length, Option, Some, None, slice_get}
use Rattle.std.specs.List.{AllByRecursion}
use Rattle.std.specs.Option.{option_map_or}
use Rattle.rb_base.specs.Names.{name_at}
use Rattle.tree_model.specs.Tree.{TreeOf, no_statements, more_statements, SequenceOf, map_names}
use Rattle.tree_model.specs.AllNames.{AllNames}
use Rattle.event_trees.specs.Naming.{Grows}
use Rattle.pattern_model.specs.Patterns.{this_selector, any_unary, of_keywords, any_message}
use Rattle.patterns.specs.Names.{KeywordNames}
use Rattle.certified_model.specs.Marks.{Text, Mark, plain}
use Rattle.certified_model.specs.Certificates.{CertStep, take_step, stuck_from}
use Rattle.derivations.specs.Signs.{Sign, of_node, of_selector, same_sign, mark_by}
use Rattle.derivations.specs.Numbered.{Table}
use Rattle.derivations.specs.Named.{AreNamed}

-- a sequence of one statement
abbrev pub only : {N : Type 0} → TreeOf N → SequenceOf N
only t = record { temporaries = []; statements = more_statements [] t no_statements; tail = [] }

-- a fact of each name in a mark; a selector that is spelled out is none
abbrev pub SignNames : (ℕ → Type 0) → Sign → Type 0
SignNames P (of_node m) = P m.name
SignNames P (of_selector (this_selector n)) = ⊥
SignNames P (of_selector (any_unary m)) = P m.name
SignNames P (of_selector (of_keywords ks)) = AllByRecursion (KeywordNames P) ks
SignNames P (of_selector (any_message m)) = P m.name

-- none is twice among the marks
abbrev pub AreOnce : List Sign → Type 0
AreOnce [] = Unit {0}
AreOnce (s ∷ ss) = AllByRecursion (λ t. same_sign s t ≡ false) ss × AreOnce ss

-- The marks of a table each have a text that is nobody else's, after the texts of the names in them.
pub record IsTable (names : List Text) (table : Table) : Type 0 where
  pub before : List Text
  pub made : List Text
  pub first : table.first ≡ length before
  pub once : AreOnce table.signs
  pub known : AllByRecursion (SignNames (λ n. n < table.first)) table.signs
  pub named : AreNamed before table.signs made
  pub grows : Grows made names

-- the mark of a number
abbrev pub mark_at : List Text → Table → ℕ → Mark
mark_at names table n =
    if nat_lt n table.first then plain (name_at names n) else option_map_or (mark_by (name_at names)) (slice_get table.signs (n - table.first)) (plain (name_at names n))

-- a tree, by the marks
abbrev pub marks_of : List Text → Table → TreeOf ℕ → TreeOf Mark
marks_of names table t = map_names (mark_at names table) t

abbrev pub AreKnown : List Text → TreeOf ℕ → Type 0
AreKnown names t = AllNames (λ n. n < length names) t

-- a sequence of one tree, whose names have texts
pub record IsOne (names : List Text) (b : SequenceOf ℕ) : Type 0 where
  pub tree : TreeOf ℕ
  pub is : b ≡ only tree
  pub known : AreKnown names tree

-- the step makes the tree of this sequence of a tree
pub record IsMade (names later : List Text) (table : Table) (x : CertStep) (t : TreeOf ℕ) (after : SequenceOf ℕ) : Type 0 where
  pub tree : TreeOf ℕ
  pub is : after ≡ only tree
  pub known : AreKnown later tree
  pub made : take_step x (marks_of names table t) ≡ Some (marks_of later table tree)

-- the step applies, or it does not
abbrev pub IsTakenFrom : List Text → List Text → Table → CertStep → TreeOf ℕ → SequenceOf ℕ → Bool → Type 0
IsTakenFrom names later table x t after true = IsMade names later table x t after
IsTakenFrom names later table x t after false = take_step x (marks_of names table t) ≡ None

abbrev pub IsTaken : List Text → List Text → Table → CertStep → SequenceOf ℕ → SequenceOf ℕ → Bool → Type 0
IsTaken names later table x before after applies = (t : TreeOf ℕ) → before ≡ only t → AreKnown names t → IsTakenFrom names later table x t after applies

-- where the steps are stuck on the way to the last tree
abbrev pub IsStuck : List Text → Table → List CertStep → SequenceOf ℕ → TreeOf ℕ → Option ℕ → Type 0
IsStuck names table xs before last stuck =
    (t : TreeOf ℕ) → before ≡ only t → AreKnown names t → AreKnown names last → stuck ≡ stuck_from 1 xs (marks_of names table last) (marks_of names table t)
