-- What commands ask of names, beside what the language asks of them.
use Rattle.std.specs.Prelude.{ℕ, List, [], ◌∷◌, Bool, ◌&&◌, ◌||◌, if◌then◌else◌, false, not, length, nat_le, codes}
use Rattle.rb_base.specs.Names.{text_eq}
use Rattle.token_model.specs.Bytes.{is_between}
use Rattle.scope_model.specs.SpecialNames.{is_pseudo_variable}
use Rattle.text_model.specs.Literals.{is_identifier, is_selector}
use Rattle.text_model.specs.Pieces.{keywords_of, has_colon}
use Rattle.st_kernel.specs.Selectors.{is_reflective_selector, is_reserved_selector, is_control}

-- whether a name stands for the program itself or for what runs it
abbrev pub is_reflective_name : List ℕ → Bool
is_reflective_name n = text_eq (codes "thisContext") n || text_eq (codes "Smalltalk") n

-- whether the first byte is an upper-case letter
abbrev pub begins_upper : List ℕ → Bool
begins_upper [] = false
begins_upper (b ∷ n) = is_between 65 90 b

-- whether the name is short enough, and one that a program may declare: an identifier of at most 200 bytes that is no pseudo-variable, not `Smalltalk` and not `Transcript`
abbrev pub may_be_declared : List ℕ → Bool
may_be_declared n =
    nat_le (length n) 200
    && (is_identifier n
    && not (is_pseudo_variable n || (text_eq (codes "Smalltalk") n || text_eq (codes "Transcript") n)))

-- whether a class or class variable may be given the name, which begins upper case
abbrev pub is_good_class_name : List ℕ → Bool
is_good_class_name n = may_be_declared n && begins_upper n

-- whether another variable may be given the name, which begins lower case
abbrev pub is_good_variable_name : List ℕ → Bool
is_good_variable_name n = may_be_declared n && not (begins_upper n)

-- whether methods may be given the selector: one that is spelled as a selector is, of at most 200 bytes
abbrev pub is_good_selector : List ℕ → Bool
is_good_selector s = nat_le (length s) 200 && is_selector s

-- how many arguments a selector takes: one for each keyword, one for an operator, and none for a name
abbrev pub arity : List ℕ → ℕ
arity s = if is_identifier s then 0 else if has_colon s then length (keywords_of s) else 1

-- whether the language, or what runs a program, has a meaning of its own for a selector
abbrev pub has_own_meaning : List ℕ → Bool
has_own_meaning s = is_control s || (is_reserved_selector s || (is_reflective_selector s || text_eq (codes "doesNotUnderstand:") s))

-- what commands ask of names
pub record CommandWordsOf (N : Type 0) : Type 0 where
  pub is_reflective_selector : N → Bool
  pub is_not_understood : N → Bool
  pub is_reflective_name : N → Bool
  pub is_good_class_name : N → Bool
  pub is_good_variable_name : N → Bool
  pub is_good_selector : N → Bool
  pub has_own_meaning : N → Bool
  pub arity : N → ℕ

-- the same, asked of texts
abbrev pub text_command_words : CommandWordsOf (List ℕ)
text_command_words = record {
  is_reflective_selector = is_reflective_selector;
  is_not_understood = text_eq (codes "doesNotUnderstand:");
  is_reflective_name = is_reflective_name;
  is_good_class_name = is_good_class_name;
  is_good_variable_name = is_good_variable_name;
  is_good_selector = is_good_selector;
  has_own_meaning = has_own_meaning;
  arity = arity;
}
