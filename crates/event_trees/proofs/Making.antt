-- What the program makes of the parts is what an event says.
use Rattle.std.proofs.Common.{◌≡◌, ℕ, List, map, Some, slice_get, OnOk, sym, ap, ◌∙◌}
use Rattle.std.specs.Prelude.{Result}
use Rattle.std.proofs.lemmas.Result.{on_ok_weaker}
use Rattle.tree_model.specs.Tree.{Notes, number, str, symbol, char, array, bytes, word, var, map_statements}
use Rattle.grammar_model.specs.Terminal.{Text}
use Rattle.parse_events.specs.declared.event.Declaration.{Declaration}
use Rattle.parse_events.specs.declared.event.Event.{Event}
use Rattle.parse_events.specs.declared.event.Event.TheVariants as event
use Rattle.event_trees.specs.Stacks.{StacksOf, with_node, with_literal, with_array, with_operand, with_send, with_message, with_cascade, with_target, with_value, with_scope, with_block, with_brace, with_return, with_statement, statements_in, declared_by, step}
use Rattle.event_trees.specs.Held.{noted_in, held, map_stacks, Builds}
use Rattle.event_trees.specs.declared.stacks.Stacks.{Stacks}
use Rattle.st_tree.specs.View.{statements_of}
use Rattle.event_trees.proofs.Lists.{statements_in-noted_in}
use Rattle.event_trees.proofs.Known.{text_stays, texts_stay}
use Rattle.event_trees.proofs.Mapped.{map-literal, map-node, map-array, map-bytes, map-operand, map-send, map-message, map-cascade, map-target, map-value, map-scope, map-block, map-brace, map-return, map-statement, statements_in-map}

module _ {names : List Text} {before after : StacksOf ℕ} where
  -- an event without a name
  module _ (e : Event) where
    by_parts : (t : StacksOf ℕ) → after ≡ t → ((final : List Text) → map_stacks (slice_get final) t ≡ step (λ x. Some x) (map_stacks (slice_get final) before) e) → Builds names before after e
    by_parts t same along = record { named = λ final g. ap (map_stacks (slice_get final)) same ∙ along final }

  pub builds_number : (t : Text) → after ≡ with_literal before (number t) → Builds names before after (event.Number t)
  builds_number t p = by_parts (event.Number t) (with_literal before (number t)) p (λ final. map-literal (slice_get final) before (number t))

  pub builds_str : (t : Text) → after ≡ with_literal before (str t) → Builds names before after (event.Str t)
  builds_str t p = by_parts (event.Str t) (with_literal before (str t)) p (λ final. map-literal (slice_get final) before (str t))

  pub builds_symbol : (t : Text) → after ≡ with_literal before (symbol t) → Builds names before after (event.Symbol t)
  builds_symbol t p = by_parts (event.Symbol t) (with_literal before (symbol t)) p (λ final. map-literal (slice_get final) before (symbol t))

  pub builds_char : (b : ℕ) → after ≡ with_literal before (char b) → Builds names before after (event.Char b)
  builds_char b p = by_parts (event.Char b) (with_literal before (char b)) p (λ final. map-literal (slice_get final) before (char b))

  pub builds_word : (t : Text) (n : ℕ) → slice_get names n ≡ Some t → after ≡ with_literal before (word n) → Builds names before after (event.Word t)
  builds_word t n e p = record {
    named = λ final g. ap (map_stacks (slice_get final)) p ∙ map-literal (slice_get final) before (word n) ∙ ap (λ o. with_literal (map_stacks (slice_get final) before) (word o)) (text_stays n t g e);
  }

  pub builds_array : (k : ℕ) → after ≡ with_array array before k → Builds names before after (event.Array k)
  builds_array k p = by_parts (event.Array k) (with_array array before k) p (λ final. map-array (slice_get final) before k)

  pub builds_bytes : (k : ℕ) → after ≡ with_array bytes before k → Builds names before after (event.Bytes k)
  builds_bytes k p = by_parts (event.Bytes k) (with_array bytes before k) p (λ final. map-bytes (slice_get final) before k)

  pub builds_operand : (from to : ℕ) → after ≡ with_operand before → Builds names before after (event.Literal from to)
  builds_operand from to p = by_parts (event.Literal from to) (with_operand before) p (λ final. map-operand (slice_get final) before)

  pub builds_var : (from to : ℕ) (t : Text) (n : ℕ) → slice_get names n ≡ Some t → after ≡ with_node before (var n) → Builds names before after (event.Var from to t)
  builds_var from to t n e p = record {
    named = λ final g. ap (map_stacks (slice_get final)) p ∙ map-node (slice_get final) before (var n) ∙ ap (λ o. with_node (map_stacks (slice_get final) before) (var o)) (text_stays n t g e);
  }

  pub builds_send : (from to : ℕ) (t : Text) (k n : ℕ) → slice_get names n ≡ Some t → after ≡ with_send before n k → Builds names before after (event.Send from to k t)
  builds_send from to t k n e p = record {
    named = λ final g. ap (map_stacks (slice_get final)) p ∙ map-send (slice_get final) before n k ∙ ap (λ o. with_send (map_stacks (slice_get final) before) o k) (text_stays n t g e);
  }

  pub builds_message : (t : Text) (k n : ℕ) → slice_get names n ≡ Some t → after ≡ with_message before n k → Builds names before after (event.Message t k)
  builds_message t k n e p = record {
    named = λ final g. ap (map_stacks (slice_get final)) p ∙ map-message (slice_get final) before n k ∙ ap (λ o. with_message (map_stacks (slice_get final) before) o k) (text_stays n t g e);
  }

  pub builds_cascade : (from to k : ℕ) → after ≡ with_cascade before k → Builds names before after (event.Cascade from to k)
  builds_cascade from to k p = by_parts (event.Cascade from to k) (with_cascade before k) p (λ final. map-cascade (slice_get final) before k)

  pub builds_target : (from : ℕ) (t : Text) (n : ℕ) → slice_get names n ≡ Some t → after ≡ with_target before n → Builds names before after (event.Target from t)
  builds_target from t n e p = record {
    named = λ final g. ap (map_stacks (slice_get final)) p ∙ map-target (slice_get final) before n ∙ ap (λ o. with_target (map_stacks (slice_get final) before) o) (text_stays n t g e);
  }

  pub builds_value : (from to : ℕ) → after ≡ with_value before → Builds names before after (event.Assign from to)
  builds_value from to p = by_parts (event.Assign from to) (with_value before) p (λ final. map-value (slice_get final) before)

  pub builds_scope : (ps ds : List Declaration) (ms ns : List ℕ) → map (slice_get names) ms ≡ declared_by (λ t. Some t) ps → map (slice_get names) ns ≡ declared_by (λ t. Some t) ds → after ≡ with_scope before ms ns → Builds names before after (event.Enter ps ds)
  builds_scope ps ds ms ns d e p = record {
    named = λ final g. ap (map_stacks (slice_get final)) p ∙ map-scope (slice_get final) before ms ns ∙ (λ i. with_scope (map_stacks (slice_get final) before) (texts_stay ms ps g d i) (texts_stay ns ds g e i));
  }

  pub builds_block : (from to k : ℕ) (tail : Notes) → after ≡ with_block before k tail → Builds names before after (event.Block from to k tail)
  builds_block from to k tail p = by_parts (event.Block from to k tail) (with_block before k tail) p (λ final. map-block (slice_get final) before k tail)

  pub builds_brace : (from to k : ℕ) → after ≡ with_brace before k → Builds names before after (event.Brace from to k)
  builds_brace from to k p = by_parts (event.Brace from to k) (with_brace before k) p (λ final. map-brace (slice_get final) before k)

  pub builds_return : (from to : ℕ) → after ≡ with_return before → Builds names before after (event.Return from to)
  builds_return from to p = by_parts (event.Return from to) (with_return before) p (λ final. map-return (slice_get final) before)

  pub builds_statement : (from : ℕ) (comments : Notes) → after ≡ with_statement before comments → Builds names before after (event.Statement from comments)
  builds_statement from comments p = by_parts (event.Statement from comments) (with_statement before comments) p (λ final. map-statement (slice_get final) before comments)

-- an event that is known, behind a call
pub at_event : {T E : Type 0} (r : Result T E) {names : List Text} {before after : StacksOf ℕ} {P : Type 0} (e known : Event) → e ≡ known → (P → Builds names before after known) → OnOk r P → OnOk r (Builds names before after e)
at_event r {before = before} e known same make h = on_ok_weaker r (λ p. record { named = λ final g. (make p).named final g ∙ ap (step (λ x. Some x) (map_stacks (slice_get final) before)) (sym same) }) h

-- the statements of the parts that the program holds
pub statements_held : {N : Type 0} (f : ℕ → N) (s : Stacks) → map_statements f (statements_of s.statements.items) ≡ statements_in (map_stacks f (held s)).statements
statements_held f s = ap (map_statements f) (sym (statements_in-noted_in s.statements.items)) ∙ statements_in-map f (map noted_in s.statements.items)
