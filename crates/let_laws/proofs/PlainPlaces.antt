-- What the commands call plain at a place is plain among what is declared there.
use Rattle.std.proofs.Common.{◌≡◌, ℕ, List, Option, Some, None, is_some, refl, sym, ap, ◌∙◌, subst, ℤ}
use Rattle.std.specs.Prelude.{Bool, true, false, ◌||◌, if◌then◌else◌, codes}
use Rattle.std.proofs.lemmas.Bool.{false≢true}
use Rattle.rb_base.specs.Names.{text_eq}
use Rattle.tree_model.specs.Tree.{LiteralOf, number, str, symbol, char, array, bytes, word, TreeOf, var, literal, send, cascade, assign, block, brace, return}
use Rattle.scope_model.specs.declared.local.Local.{Local}
use Rattle.scope_model.specs.declared.local.Local.TheVariants.{Argument, Temporary, NotLocal}
use Rattle.scope_model.specs.SpecialNames.{is_pseudo_variable}
use Rattle.scope_model.specs.Scope.{method_scope, scopes_round, local_by}
use Rattle.image_model.specs.Image.{EntryOf, ImageOf}
use Rattle.image_model.specs.Means.{MeaningOf, pseudo, argument, temporary, variable, a_class, transcript, undeclared, means_by, means}
use Rattle.image_model.specs.Words.{text_words}
use Rattle.run_model.specs.Values.{Name}
use Rattle.run_model.specs.Numbers.{numeral_integer}
use Rattle.run_model.proofs.RenamingLemmas.{text-same}
use Rattle.resolved_model.specs.Environments.{Declared, kind_in, place_in, declared_in}
use Rattle.resolved_model.proofs.Environments.{kind_of, kind-scopes}
use Rattle.unfolded_calls.specs.Unfolding.{StandIn, an_argument, a_self, a_nil, a_true, a_false, a_number, a_string, a_symbol, a_char}
use Rattle.unfolded_calls.specs.SameContexts.{IsOutside}
use Rattle.unfolded_places.specs.Standing.{outer_of}
use Rattle.unfolded_places.specs.Inlining.{PlainActual, plain_self, plain_nil, plain_true, plain_false, plain_number, plain_string, plain_symbol, plain_char, plain_argument, plain_class}
use Rattle.command_model.specs.Asked.{text_asked, is_constant_text}
use Rattle.command_model.specs.Plain.{is_atom_literal, is_plain_name, is_plain}
use Rattle.let_laws.specs.ReadsFirst.{IsWithout, IsSimple, simple_plain, simple_literal}

-- one of two
either : (b c : Bool) → (b || c) ≡ true → (b ≡ true → ⊥) → c ≡ true
either true c e h = absurd (h refl)
either false c e h = e

module _ (f : Name → MeaningOf Name) (A : List Declared) (x : Name) where
  -- a pseudo-variable that is plain
  word-simple : (n : Name) → IsWithout x (var n) → (is_constant_text n || text_eq (codes "self") n) ≡ true → IsSimple f A x (var n)
  word-simple n w e =
      by (text_eq (codes "nil") n) (text_eq (codes "true") n) (text_eq (codes "false") n) (text_eq (codes "self") n) refl refl refl refl e
    where
      by : (a b c d : Bool) → text_eq (codes "nil") n ≡ a → text_eq (codes "true") n ≡ b → text_eq (codes "false") n ≡ c → text_eq (codes "self") n ≡ d → ((a || (b || c)) || d) ≡ true → IsSimple f A x (var n)
      by true b c d p q r s e = simple_plain (var n) a_nil (subst (λ z. PlainActual f A (var z) a_nil) (text-same (codes "nil") n p) plain_nil) w
      by false true c d p q r s e = simple_plain (var n) a_true (subst (λ z. PlainActual f A (var z) a_true) (text-same (codes "true") n q) plain_true) w
      by false false true d p q r s e = simple_plain (var n) a_false (subst (λ z. PlainActual f A (var z) a_false) (text-same (codes "false") n r) plain_false) w
      by false false false true p q r s e = simple_plain (var n) a_self (subst (λ z. PlainActual f A (var z) a_self) (text-same (codes "self") n s) plain_self) w
      by false false false false p q r s e = absurd (false≢true e)

  -- a name that is no pseudo-variable is none of the constants
  no-constant : (n : Name) → is_pseudo_variable n ≡ false → (is_constant_text n || text_eq (codes "self") n) ≡ true → ⊥
  unfolding is_pseudo_variable
  no-constant n p e = by (text_eq (codes "nil") n) (text_eq (codes "true") n) (text_eq (codes "false") n) (text_eq (codes "self") n) refl refl refl refl e
    where
      is : (m : Name) → text_eq m n ≡ true → is_pseudo_variable m ≡ true → ⊥
      is m q t = false≢true (sym p ∙ ap is_pseudo_variable (sym (text-same m n q)) ∙ t)

      by : (a b c d : Bool) → text_eq (codes "nil") n ≡ a → text_eq (codes "true") n ≡ b → text_eq (codes "false") n ≡ c → text_eq (codes "self") n ≡ d → ((a || (b || c)) || d) ≡ true → ⊥
      by true b c d q r s t e = is (codes "nil") q refl
      by false true c d q r s t e = is (codes "true") r refl
      by false false true d q r s t e = is (codes "false") s refl
      by false false false true q r s t e = is (codes "self") t refl
      by false false false false q r s t e = false≢true e

  -- what stands outside all scopes
  outer-simple : (n : Name) (m : MeaningOf Name) → f n ≡ m → IsOutside m → is_pseudo_variable n ≡ false → kind_in A n ≡ None → IsWithout x (var n) → is_plain_name text_asked m n ≡ true → IsSimple f A x (var n)
  outer-simple n pseudo q o p k w e = absurd (no-constant n p e)
  outer-simple n (argument s) q o p k w e = absurd o
  outer-simple n (temporary s) q o p k w e = absurd o
  outer-simple n (variable kind c) q o p k w e = absurd (false≢true e)
  outer-simple n (a_class c) q o p k w e = simple_plain (var n) (StandIn.a_class c) (plain_class n c p k q) w
  outer-simple n transcript q o p k w e = absurd (false≢true e)
  outer-simple n undeclared q o p k w e = absurd (false≢true e)

  -- what scopes declare
  local-simple : (n : Name) (l : Local) → kind_in A n ≡ kind_of l → IsOutside (f n) → is_pseudo_variable n ≡ false → IsWithout x (var n) → is_plain_name text_asked (means_by l (f n)) n ≡ true → IsSimple f A x (var n)
  local-simple n (Argument s) k o p w e = simple_plain (var n) (an_argument (place_in A n)) (plain_argument n p k) w
  local-simple n (Temporary s) k o p w e = absurd (false≢true e)
  local-simple n NotLocal k o p w e = outer-simple n (f n) refl o p k w e

  -- literals
  literal-simple : (l : LiteralOf Name) → is_atom_literal l ≡ true → IsSimple f A x (literal l)
  literal-simple (number t) e = by (numeral_integer t) refl e
    where
      by : (o : Option ℤ) → numeral_integer t ≡ o → is_some o ≡ true → IsSimple f A x (literal (number t))
      by (Some z) q e = simple_plain (literal (number t)) (a_number t) (plain_number t z q) tt
      by None q e = absurd (false≢true e)
  literal-simple (str t) e = simple_plain (literal (str t)) (a_string t) (plain_string t) tt
  literal-simple (symbol t) e = simple_plain (literal (symbol t)) (a_symbol t) (plain_symbol t) tt
  literal-simple (char b) e = simple_plain (literal (char b)) (a_char b) (plain_char b) tt
  literal-simple (array ls) e = absurd (false≢true e)
  literal-simple (bytes ls) e = absurd (false≢true e)
  literal-simple (word n) e = simple_literal n

module _ (i : ImageOf Name) (m : EntryOf Name) (outside : (n : Name) → IsOutside (outer_of i m n)) (x : Name) (path : List ℕ) (A : List Declared) (round : declared_in (scopes_round (method_scope m.tree) path) ≡ A) where
  name-simple : (n : Name) → IsWithout x (var n) → is_plain_name text_asked (means text_words i m path n) n ≡ true → IsSimple (outer_of i m) A x (var n)
  name-simple n w e = by (is_pseudo_variable n) refl e
    where
      by : (b : Bool) → is_pseudo_variable n ≡ b → is_plain_name text_asked (if b then pseudo else means_by (if b then NotLocal else local_by text_eq (scopes_round (method_scope m.tree) path) n) (outer_of i m n)) n ≡ true → IsSimple (outer_of i m) A x (var n)
      by true p e = word-simple (outer_of i m) A x n w e
      by false p e = local-simple (outer_of i m) A x n (local_by text_eq (scopes_round (method_scope m.tree) path) n) (ap (λ E. kind_in E n) (sym round) ∙ kind-scopes (scopes_round (method_scope m.tree) path) n) (outside n) p w e

  -- a node
  pub plain-there : (t : TreeOf Name) → IsWithout x t → is_plain text_asked i m path t ≡ true → IsSimple (outer_of i m) A x t
  plain-there (var n) w e = name-simple n w e
  plain-there (literal l) w e = literal-simple (outer_of i m) A x l e
  plain-there (send r s args) w e = absurd (false≢true e)
  plain-there (cascade r ms) w e = absurd (false≢true e)
  plain-there (assign n t) w e = absurd (false≢true e)
  plain-there (block ps ts ss k) w e = absurd (false≢true e)
  plain-there (brace ts) w e = absurd (false≢true e)
  plain-there (return t) w e = absurd (false≢true e)
