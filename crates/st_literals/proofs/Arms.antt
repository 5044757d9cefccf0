-- What literals of each kind come to.
use Rattle.std.proofs.Common.{◌≡◌, ℕ, ℤ, List, length, Option, Some, None, sym, ap, ◌∙◌}
use Rattle.rb_base.specs.Names.{name_at}
use Rattle.tree_model.specs.Tree.{LiteralOf, number, str, symbol, char, array, bytes, word, LiteralsOf, literals_of}
use Rattle.run_model.specs.Values.{Name, Value, int_value, char_value, string_value, symbol_value, array_value, unsupported}
use Rattle.run_model.specs.Store.{Store, fine, leaves, ends_by, with_array}
use Rattle.run_model.specs.Acts.{acts, then_do, gives, fails, and_then, with_memory}
use Rattle.run_model.specs.Numbers.{numeral_integer}
use Rattle.run_model.specs.Eval.{word_value, gives_integer, literal_value, literal_values, makes_new_array}
use Rattle.st_meaning.specs.StoreView.{changed_by}
use Rattle.st_literals.specs.Given.{given, literal_at, literals_at}

-- an integer
pub integer_some : (n : Option ℤ) (z : ℤ) (v : Value) (s : Store) → v ≡ int_value z → Some z ≡ n → fine v s ≡ gives_integer acts n s
unfolding gives
integer_some n z v s e q = ap (λ u. fine u s) e ∙ ap (λ m. gives_integer acts m s) q

-- a numeral that is only kept
pub integer_none : (n : Option ℤ) (s : Store) → None ≡ n → leaves (ends_by unsupported) s ≡ gives_integer acts n s
unfolding fails
integer_none n s q = ap (λ m. gives_integer acts m s) q

module _ (names : List Name) (l : LiteralOf ℕ) (s : Store) where
  pub is_number : (t u : List ℕ) (r : Option Value) → l ≡ number t → u ≡ t → ((s : Store) → given r s ≡ gives_integer acts (numeral_integer u) s) → given r s ≡ literal_value acts (literal_at names l) s
  is_number t u r e q h = h s ∙ ap (λ x. gives_integer acts (numeral_integer x) s) q ∙ ap (λ x. literal_value acts (literal_at names x) s) (sym e)

  pub is_string : (t u : List ℕ) (v : Value) → l ≡ str t → v ≡ string_value u → u ≡ t → fine v s ≡ literal_value acts (literal_at names l) s
  unfolding gives
  is_string t u v e h q = ap (λ x. fine x s) (h ∙ ap string_value q) ∙ ap (λ x. literal_value acts (literal_at names x) s) (sym e)

  pub is_symbol : (t u : List ℕ) (v : Value) → l ≡ symbol t → v ≡ symbol_value u → u ≡ t → fine v s ≡ literal_value acts (literal_at names l) s
  unfolding gives
  is_symbol t u v e h q = ap (λ x. fine x s) (h ∙ ap symbol_value q) ∙ ap (λ x. literal_value acts (literal_at names x) s) (sym e)

  pub is_char : (b : ℕ) (v : Value) → l ≡ char b → v ≡ char_value b → fine v s ≡ literal_value acts (literal_at names l) s
  unfolding gives
  is_char b v e h = ap (λ x. fine x s) h ∙ ap (λ x. literal_value acts (literal_at names x) s) (sym e)

  pub is_word : (n : ℕ) (t : Name) (v : Value) → l ≡ word n → v ≡ word_value t → t ≡ name_at names n → fine v s ≡ literal_value acts (literal_at names l) s
  unfolding gives
  is_word n t v e h q = ap (λ x. fine x s) (h ∙ ap word_value q) ∙ ap (λ x. literal_value acts (literal_at names x) s) (sym e)

  pub is_bytes : (ls : LiteralsOf ℕ) → l ≡ bytes ls → leaves (ends_by unsupported) s ≡ literal_value acts (literal_at names l) s
  unfolding fails
  is_bytes ls e = ap (λ x. literal_value acts (literal_at names x) s) (sym e)

  module _ (ls ks : List (LiteralOf ℕ)) (s1 : Store) where
    opened : (r : Option (List Value)) → l ≡ array (literals_of ls) → ks ≡ ls → given r s1 ≡ literal_values acts (literals_at names ks) s
        → then_do (given r s1) (λ vs. makes_new_array acts vs) ≡ literal_value acts (literal_at names l) s
    unfolding and_then
    opened r e q h =
        ap (λ x. then_do x (λ vs. makes_new_array acts vs)) (h ∙ ap (λ x. literal_values acts (literals_at names x) s) q)
        ∙ ap (λ x. literal_value acts (literal_at names x) s) (sym e)

    -- an array of literals that have values
    pub is_array : (r : Option (List Value)) (vs : List Value) (v : Value) (s2 : Store) → l ≡ array (literals_of ls) → ks ≡ ls → given r s1 ≡ literal_values acts (literals_at names ks) s → r ≡ Some vs
        → v ≡ array_value (length s1.memory.heap.arrays) → s2 ≡ changed_by (λ m. record m { heap = with_array m.heap vs }) s1 → fine v s2 ≡ literal_value acts (literal_at names l) s
    unfolding with_memory
    is_array r vs v s2 e q h w a b = (λ i. fine (a i) (b i)) ∙ ap (λ x. then_do (given x s1) (λ us. makes_new_array acts us)) (sym w) ∙ opened r e q h

    -- an array with a literal that is only kept
    pub is_kept : (r : Option (List Value)) → l ≡ array (literals_of ls) → ks ≡ ls → given r s1 ≡ literal_values acts (literals_at names ks) s → r ≡ None
        → leaves (ends_by unsupported) s1 ≡ literal_value acts (literal_at names l) s
    is_kept r e q h w = ap (λ x. then_do (given x s1) (λ us. makes_new_array acts us)) (sym w) ∙ opened r e q h
